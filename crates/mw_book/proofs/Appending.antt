-- What one event more adds: its line, its count, and its theory.
use Rattle.std.proofs.Common.{◌≡◌, ℕ, suc, ◌+◌, List, [], ◌∷◌, ◌++◌, length, refl, sym, ap, ◌∙◌, arith, append_assoc, add-zero}
use Rattle.std.proofs.lemmas.List.{append-nil}
use Rattle.mw_model.specs.Terms.Object.{Object}
use Rattle.mw_model.specs.Events.Theory.{Theory}
use Rattle.mw_model.specs.Events.Fate.{fate, next, after}
use Rattle.mw_model.specs.Reports.Report.{line, lines}

pub after-append : (t : Theory) (es : List Object) (e : Object) (N : ℕ) → after t (es ++ e ∷ []) N ≡ next (after t es N) e N
after-append t [] e N = refl
after-append t (x ∷ es) e N = after-append (next t x N) es e N

pub lines-append : (k : ℕ) (t : Theory) (es : List Object) (e : Object) (N : ℕ) →
    lines k t (es ++ e ∷ []) N ≡ lines k t es N ++ line (k + length es) e (fate (after t es N) e N)
lines-append k t [] e N = append-nil (line k e (fate t e N)) ∙ ap (λ n. line n e (fate t e N)) (sym (add-zero k))
lines-append k t (x ∷ es) e N =
    let u = next t x N in
    let here = line k x (fate t x N) in
    let number : suc k + length es ≡ k + suc (length es) = omega arith in
    ap (λ l. here ++ l) (lines-append (suc k) u es e N ∙ ap (λ n. lines (suc k) u es N ++ line n e (fate (after u es N) e N)) number)
    ∙ sym (append_assoc here (lines (suc k) u es N) (line (k + suc (length es)) e (fate (after u es N) e N)))
