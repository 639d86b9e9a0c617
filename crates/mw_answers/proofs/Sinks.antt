-- What a sink takes in one call after another.
use Rattle.std.proofs.Common.{◌≡◌, ℕ, ◌+◌, ◌-◌, ◌≤◌, List, ◌++◌, length, take, drop, Option, Some, None, sym, ap, ◌∙◌, arith, append_assoc}
use Rattle.std.proofs.lemmas.List.{drop-take, take-append-drop, take-append-le, length-take, take_rest}
use Rattle.mw_port.specs.Ports.{Takes}

pub Takes-more : (a b c : Option (List ℕ)) (t u : List ℕ) → Takes a b t → Takes b c u → Takes a c (t ++ u)
Takes-more (Some a) (Some b) (Some c) t u h k = k ∙ ap (λ l. l ++ u) h ∙ append_assoc a t u
Takes-more (Some a) (Some b) None t u h k = absurd k
Takes-more (Some a) None c t u h k = absurd h
Takes-more None (Some b) c t u h k = absurd h
Takes-more None None (Some c) t u h k = absurd k
Takes-more None None None t u h k = tt

take-both : (n m : ℕ) (text : List ℕ) → n ≤ length text → take n text ++ take m (drop n text) ≡ take (n + m) text
take-both n m text h =
    let more = take (n + m) text in
    let front : take n text ≡ take n more =
    ap (take n) (sym (take-append-drop (n + m) text)) ∙ take-append-le n more (drop (n + m) text) (omega (arith, length-take (n + m) text)) in
    ap (λ l. l ++ take m (drop n text)) front ∙ ap (λ l. take n more ++ l) (sym (drop-take n m text)) ∙ take-append-drop n more

-- the bytes up to n, and m of those after them
pub take-more : (n m : ℕ) (text : List ℕ) → n ≤ length text → take n text ++ take m (take (length text - n) (drop n text)) ≡ take (n + m) text
take-more n m text h = ap (λ l. take n text ++ take m l) (take_rest text n) ∙ take-both n m text h
