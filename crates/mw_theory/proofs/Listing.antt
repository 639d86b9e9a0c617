-- Axioms that are put in front of a list, one after another.
use Rattle.std.proofs.Common.{◌≡◌, ℕ, ◌+◌, ◌<◌, List, [], ◌∷◌, ◌++◌, length, take, map, get_or, refl, sym, ap, ◌∙◌}
use Rattle.std.proofs.lemmas.List.{take_more}
use Rattle.mw_model.specs.Terms.Object.{Object, Pair}
use Rattle.mw_model.specs.Terms.Term.{Formula, formula_object}
use Rattle.mw_model.specs.Events.Theory.{add_formulas}
use Rattle.mw_theory.specs.Knowledge.{put_all}

pub take_next : (xs : List ℕ) (i x : ℕ) → i < length xs → x ≡ get_or xs i x → take (i + 1) xs ≡ take i xs ++ x ∷ []
take_next xs i x l is = take_more xs i x l ∙ ap (λ z. take i xs ++ z ∷ []) (sym is)

pub put_one : (xs : List Object) (x list : Object) → put_all (xs ++ x ∷ []) list ≡ Pair x (put_all xs list)
put_one [] x list = refl
put_one (y ∷ xs) x list = put_one xs x (Pair y list)

pub put_formulas : (Fs : List Formula) (list : Object) → put_all (map formula_object Fs) list ≡ add_formulas Fs list
put_formulas [] list = refl
put_formulas (F ∷ Fs) list = put_formulas Fs (Pair (formula_object F) list)
