-- The trial book is its lines, one after another, and is given part by part.
use Rattle.std.proofs.Common.{◌≡◌, ℕ, zero, suc, ◌+◌, ◌-◌, ◌*◌, ◌%◌, ◌<◌, ◌≤◌, cond, List, [], ◌∷◌, ◌++◌, length, take, drop, sym, ap, ◌∙◌, append_assoc, add-zero, add-one, arith}
use Rattle.std.proofs.Math.Seq.{take-append-add}
use Rattle.std.proofs.lemmas.Bool.{eq-eqb, ne_eqb}
use Rattle.std.proofs.lemmas.List.{append-nil, drop-drop, length-take-le, take-append-drop, take-append-le}
use borrow.Rule.Slice.PartMut.{put_mid}
use Rattle.mw_model.specs.Reports.Trial.{sum_formula, x_formula, odd_line, even_line, trial_line, trial_book}
use Rattle.mw_port.specs.Trials.{lines_after}

-- one text put after another
abbrev pub appended : List ℕ → List (List ℕ) → List ℕ
appended old [] = old
appended old (t ∷ ts) = appended (old ++ t) ts

abbrev pub in_a_row : List (List ℕ) → List ℕ
in_a_row [] = []
in_a_row (t ∷ ts) = t ++ in_a_row ts

pub appended-is : (old : List ℕ) (ts : List (List ℕ)) → appended old ts ≡ old ++ in_a_row ts
appended-is old [] = sym (append-nil old)
appended-is old (t ∷ ts) = appended-is (old ++ t) ts ∙ append_assoc old t (in_a_row ts)

pub trial_line-odd : (i : ℕ) → i % 2 ≡ 1 → trial_line i ≡ odd_line (sum_formula i ((i * i) % 1000)) ++ 10 ∷ []
trial_line-odd i h =
    let p = sum_formula i ((i * i) % 1000) in
    ap (λ b. cond b (odd_line p) (even_line p (x_formula i)) ++ 10 ∷ []) (eq-eqb (i % 2) 1 h)

pub trial_line-even : (i : ℕ) → (i % 2 ≡ 1 → ⊥) → trial_line i ≡ even_line (sum_formula i ((i * i) % 1000)) (x_formula i) ++ 10 ∷ []
trial_line-even i h =
    let p = sum_formula i ((i * i) % 1000) in
    ap (λ b. cond b (odd_line p) (even_line p (x_formula i)) ++ 10 ∷ []) (ne_eqb (i % 2) 1 h)

pub trial_book-from : (event count : ℕ) → trial_book (event + count) ≡ trial_book event ++ lines_after event count
trial_book-from event zero = ap trial_book (add-zero event) ∙ sym (append-nil (trial_book event))
trial_book-from event (suc count) =
    let e : event + suc count ≡ suc event + count = omega arith in
    ap trial_book e ∙ trial_book-from (suc event) count ∙ append_assoc (trial_book event) (trial_line (suc event)) (lines_after (suc event) count)

pub trial_book-lines : (events : ℕ) → lines_after 0 (events - 0) ≡ trial_book events
trial_book-lines events =
    let e : events - 0 ≡ events = omega arith in
    let f : 0 + events ≡ events = omega arith in
    ap (lines_after 0) e ∙ sym (trial_book-from 0 events) ∙ ap trial_book f

-- while events are left, the lines begin with the next one
pub lines_after-next : (event events : ℕ) → event < events →
    lines_after event (events - event) ≡ trial_line (event + 1) ++ lines_after (event + 1) (events - (event + 1))
lines_after-next event events h =
    let e : events - event ≡ suc (events - (event + 1)) = omega arith in
    ap (lines_after event) e ∙ ap (λ k. trial_line k ++ lines_after k (events - (event + 1))) (sym (add-one event))

-- n bytes of a line are given
pub given_part : (line rest piece : List ℕ) (at n : ℕ) → piece ≡ take n (drop at line) → drop at line ++ rest ≡ piece ++ (drop (at + n) line ++ rest)
given_part line rest piece at n e =
    let split : drop at line ≡ piece ++ drop (at + n) line =
    sym (take-append-drop n (drop at line)) ∙ ap (λ p. p ++ drop n (drop at line)) (sym e) ∙ ap (λ r. piece ++ r) (drop-drop n at line) in
    ap (λ l. l ++ rest) split ∙ append_assoc piece (drop (at + n) line) rest

-- n bytes more stand in a buffer that was filled up to a place
filled_more : (buffer piece : List ℕ) (at n k : ℕ) → at ≤ length buffer → n ≤ length piece →
    take (at + n) (put_mid at k buffer piece) ≡ take at buffer ++ take n piece
filled_more buffer piece at n k h w =
    let rest = drop k (drop at buffer) in
    let size = length-take-le at buffer h in
    ap (λ m. take (m + n) (take at buffer ++ (piece ++ rest))) (sym size)
    ∙ take-append-add (take at buffer) (piece ++ rest) n
    ∙ ap (λ l. take at buffer ++ l) (take-append-le n piece rest w)

-- what was to be given are the bytes in the buffer and what is left
pub given_more : (old left new buffer piece : List ℕ) (at n k : ℕ) → at ≤ length buffer → n ≤ length piece →
    old ≡ take at buffer ++ left → left ≡ take n piece ++ new → old ≡ take (at + n) (put_mid at k buffer piece) ++ new
given_more old left new buffer piece at n k h w e f =
    e ∙ ap (λ l. take at buffer ++ l) f ∙ sym (append_assoc (take at buffer) (take n piece) new) ∙ ap (λ l. l ++ new) (sym (filled_more buffer piece at n k h w))
