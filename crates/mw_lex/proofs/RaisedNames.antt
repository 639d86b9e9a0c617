-- A token's bytes, raised, are a name's.
use Rattle.std.proofs.Common.{◌≡◌, ℕ, ◌≤◌, Bool, true, false, ◌&&◌, ◌||◌, not, eqb, leb, List, [], ◌∷◌, map, refl, sym, ap, ◌∙◌, arith, true≢false, eqb-true, leb-true}
use Rattle.std.proofs.lemmas.Bool.{and_parts, and_from}
use Rattle.mw_lex.proofs.Bytewise.{agree_below, agree_at}
use Rattle.mw_model.specs.Terms.Object.{is_name, is_name_byte, Symbol, Name}
use Rattle.mw_model.specs.Texts.Lexemes.{is_digit, is_capital, is_small, is_mark, is_constituent, raised, token_form, Whole}
use Rattle.std.specs.List.{list_all, list_any}

either : {P : Type 0} (a b : Bool) → (a ≡ true → P) → (b ≡ true → P) → (a || b) ≡ true → P
either true b f g h = f refl
either false b f g h = g h

are_below : List ℕ → Bool
are_below [] = true
are_below (c ∷ cs) = leb c 126 && are_below cs

one_below : (cs : List ℕ) (b : ℕ) → are_below cs ≡ true → list_any (eqb b) cs ≡ true → b ≤ 126
unfolding are_below
one_below [] b h o = absurd (true≢false (sym o))
one_below (c ∷ cs) b h o =
    let k = and_parts (leb c 126) (are_below cs) h in
    either (eqb b c) (list_any (eqb b) cs) (λ e. let l = leb-true c 126 k.0 in let q = eqb-true b c e in omega (arith, l, q)) (one_below cs b k.1) o

range_below : (a z b : ℕ) → z ≤ 126 → (leb a b && leb b z) ≡ true → b ≤ 126
range_below a z b h e = let l = leb-true b z (and_parts (leb a b) (leb b z) e).1 in omega (arith, l)

-- those of is_mark
abbrev marks : List ℕ
marks = 33 ∷ 36 ∷ 37 ∷ 38 ∷ 42 ∷ 43 ∷ 45 ∷ 46 ∷ 47 ∷ 60 ∷ 61 ∷ 62 ∷ 63 ∷ 64 ∷ 91 ∷ 93 ∷ 94 ∷ 95 ∷ 123 ∷ 125 ∷ 126 ∷ []

below : (b : ℕ) → is_constituent b ≡ true → b ≤ 126
unfolding are_below
below b =
    either (is_digit b) (is_capital b || (is_small b || is_mark b)) (range_below 48 57 b (omega arith))
    (either (is_capital b) (is_small b || is_mark b) (range_below 65 90 b (omega arith))
    (either (is_small b) (is_mark b) (range_below 97 122 b (omega arith)) (one_below marks b refl)))

-- what begins a name, or goes on with it, where it is a constituent
named : ℕ → Bool
named b = not (is_constituent b) || is_name_byte (raised b)

all_named : agree_below named (λ b. true) 127 ≡ true
unfolding agree_below named
all_named = refl

raised_name : (b : ℕ) → is_constituent b ≡ true → is_name_byte (raised b) ≡ true
unfolding named
raised_name b h =
    let l = below b h in
    either (not (is_constituent b)) (is_name_byte (raised b)) (λ e. absurd (true≢false (sym e ∙ ap not h))) (λ e. e) (agree_at named (λ b. true) 127 b all_named (omega (arith, l)))

are_names : (t : List ℕ) → list_all is_constituent t ≡ true → list_all is_name_byte (map raised t) ≡ true
are_names [] h = refl
are_names (b ∷ t) h = let k = and_parts (is_constituent b) (list_all is_constituent t) h in and_from (is_name_byte (raised b)) (list_all is_name_byte (map raised t)) (raised_name b k.0) (are_names t k.1)

pub is_name_raised : (t : List ℕ) (s : Name) → list_all is_constituent t ≡ true → token_form t ≡ Whole (Symbol s) → is_name (map raised t) ≡ true
is_name_raised [] s h e = absurd cc
is_name_raised (b ∷ t) s h e = are_names (b ∷ t) h
