-- The trial book of m events.
use Rattle.std.specs.Prelude.{ℕ, zero, suc, ◌+◌, ◌*◌, ◌%◌, cond, eqb, List, [], ◌++◌, ◌∷◌, codes}
use Rattle.mw_model.specs.Texts.Printing.{numeral}

-- (pequal* (+ 'a 'b) 'c) and (pequal* x 'a)
abbrev pub sum_formula : ℕ → ℕ → List ℕ
sum_formula a b = codes "(pequal* (+ '" ++ (numeral a ++ (codes " '" ++ (numeral b ++ (codes ") '" ++ (numeral (a + b) ++ codes ")")))))

abbrev pub x_formula : ℕ → List ℕ
x_formula a = codes "(pequal* x '" ++ (numeral a ++ codes ")")

abbrev pub odd_line : List ℕ → List ℕ
odd_line p = codes "(verify trial " ++ (p ++ (codes " (base-eval " ++ (p ++ codes "))")))

abbrev pub even_line : List ℕ → List ℕ → List ℕ
even_line p n =
    codes "(verify trial (por* " ++ (p ++ (codes " " ++ (n ++ (codes ") (cut (por* " ++ (p ++ (codes " " ++ (n ++
    (codes ") ((expansion (por* " ++ (n ++ (codes " " ++ (p ++ (codes ") ((base-eval " ++ (p ++
    (codes "))) (propositional-schema (por* (pnot* " ++ (n ++ (codes ") " ++ (n ++ codes ")))))")))))))))))))))))

-- line i, with a = i and b = i squared modulo 1000
abbrev pub trial_line : ℕ → List ℕ
trial_line i =
    let p = sum_formula i ((i * i) % 1000) in
    cond (eqb (i % 2) 1) (odd_line p) (even_line p (x_formula i)) ++ 10 ∷ []

abbrev pub trial_book : ℕ → List ℕ
trial_book zero = []
trial_book (suc m) = trial_book m ++ trial_line (suc m)
