-- The parts of a formula are reduced in order, and so is the whole.
use Rattle.std.proofs.Common.{◌≡◌, ℕ, zero, suc, Bool, true, not, List, [], ◌∷◌, ◌++◌, map, length, get_or, slice_get, Some, refl, sym, ap, ◌∙◌, subst, append_assoc}
use Rattle.std.proofs.lemmas.List.{append-nil}
use Rattle.mw_model.specs.Terms.Object.{Object, NIL}
use Rattle.mw_model.specs.Terms.Term.{Formula, Equal, Not as Denial, Or as Either, formula_object, ArityTable, is_formula}
use Rattle.mw_model.specs.Values.Truth.{Each}
use Rattle.mw_commands.specs.Commands.Tautology.{all_equations, equations}
use Rattle.mw_taut.specs.declared.table.Node.{Node}
use Rattle.mw_taut.specs.declared.table.Node.TheVariants.{Equation, Not, Or}
use Rattle.mw_taut.specs.Reducing.{Form, nothing, reduce_equation, deny, either, reduce, reduce_all}
use Rattle.mw_taut.specs.Meaning.{IsNodeOf, AreNodesOf, literal, IsEquation, Over, IsForm, AreForms}
use Rattle.mw_taut.proofs.Elements.{each_at}
use Rattle.mw_taut.proofs.FirstOccurrences.{each_first, are_equations, equations_formed}
use Rattle.mw_taut.proofs.Reduces.{literal_formed, equation_reduced, denied_form, either_form}

-- the object of a formula of a list
listed : (before rest : List Formula) (a : ℕ) (H : Formula) → slice_get before a ≡ Some H → get_or (map formula_object (before ++ rest)) a NIL ≡ formula_object H
listed [] rest a H e = cc
listed (G ∷ before) rest zero H e = ap formula_object (some e)
  where
    some : Some G ≡ Some H → G ≡ H
    some k = cc
listed (G ∷ before) rest (suc a) H e = listed before rest a H e

-- that of the first one after it
next_listed : (before rest : List Formula) (G : Formula) → get_or (map formula_object (before ++ G ∷ rest)) (length before) NIL ≡ formula_object G
next_listed [] rest G = refl
next_listed (F ∷ before) rest G = next_listed before rest G

each_over : (es Fs Gs : List Formula) → Each (Over es) Fs → Each (Over es) Gs → Each (Over es) (Fs ++ Gs)
each_over es [] Gs h k = k
each_over es (F ∷ Fs) Gs h k = (h.0, each_over es Fs Gs h.1 k)

equations_over : (es : List Formula) (F : Formula) → Over es F → Each (Over es) (all_equations F)
equations_over es (Equal a b) h = (h, tt)
equations_over es (Denial F) h = equations_over es F h
equations_over es (Either F G) h = each_over es (all_equations F) (all_equations G) (equations_over es F h.0) (equations_over es G h.1)

module _ (A : ArityTable) (E : Formula) (b : Bool) (rest : List Formula) where
  forms_count : (rs : List Form) (Gs : List Formula) → AreForms A E b rest rs Gs → length rs ≡ length Gs
  forms_count [] [] h = refl
  forms_count [] (G ∷ Gs) h = absurd h
  forms_count (r ∷ rs) [] h = absurd h
  forms_count (r ∷ rs) (G ∷ Gs) h = ap suc (forms_count rs Gs h.1)

  looked_up : (rs : List Form) (Gs : List Formula) (k : ℕ) (H : Formula) → AreForms A E b rest rs Gs → slice_get Gs k ≡ Some H → IsForm A E b rest (get_or rs k nothing) H
  looked_up [] [] k H h e = cc
  looked_up [] (G ∷ Gs) k H h e = absurd h
  looked_up (r ∷ rs) [] k H h e = absurd h
  looked_up (r ∷ rs) (G ∷ Gs) zero H h e = subst (IsForm A E b rest r) (some e) h.0
    where
      some : Some G ≡ Some H → G ≡ H
      some k = cc
  looked_up (r ∷ rs) (G ∷ Gs) (suc k) H h e = looked_up rs Gs k H h.1 e

  one_more : (rs : List Form) (Gs : List Formula) (r : Form) (G : Formula) → AreForms A E b rest rs Gs → IsForm A E b rest r G → AreForms A E b rest (rs ++ r ∷ []) (Gs ++ G ∷ [])
  one_more [] [] r G h k = (k, tt)
  one_more [] (H ∷ Gs) r G h k = absurd h
  one_more (t ∷ rs) [] r G h k = absurd h
  one_more (t ∷ rs) (H ∷ Gs) r G h k = (h.0, one_more rs Gs r G h.1 k)

  module _ (equation : IsEquation E) (formed : is_formula A E ≡ true) (es : List Formula) (all : Each IsEquation es) (all_formed : Each (λ G. is_formula A G ≡ true) es) (over : Each (Over (E ∷ rest)) es) where
    abbrev d : Object
    d = formula_object (literal (not b) E)

    node_reduced : (before after : List Formula) (done : List Form) (n : Node) (G : Formula) → AreForms A E b rest done before → IsNodeOf es before n G →
        IsForm A E b rest (reduce d (formula_object E) b (map formula_object (before ++ G ∷ after)) done n) G
    node_reduced before after done (Equation k) G h i =
        let place = ap (λ m. get_or (map formula_object (before ++ G ∷ after)) m NIL) (forms_count done before h) ∙ next_listed before after G in
        subst (λ x. IsForm A E b rest (reduce_equation (formula_object E) b x) G) (sym place)
        (equation_reduced A E b rest G equation (each_at IsEquation es k G all i) formed (each_at (λ G. is_formula A G ≡ true) es k G all_formed i) (each_at (Over (E ∷ rest)) es k G over i))
    node_reduced before after done (Not a) G h i =
        let H = i.0 in
        let x = listed before (G ∷ after) a H i.1 in
        subst (IsForm A E b rest _) (sym i.2)
        (subst (λ z. IsForm A E b rest (deny d z (get_or done a nothing)) (Denial H)) (sym x) (denied_form A E b rest (literal_formed A (not b) E formed) H (get_or done a nothing) (looked_up done before a H h i.1)))
    node_reduced before after done (Or a c) G h i =
        let H = i.0 in
        let K = i.1 in
        let r = get_or done a nothing in
        let s = get_or done c nothing in
        let x = listed before (G ∷ after) a H i.2 in
        let y = listed before (G ∷ after) c K i.3 in
        subst (IsForm A E b rest _) (sym i.4)
        (subst (λ z. IsForm A E b rest (either d z (get_or (map formula_object (before ++ G ∷ after)) c NIL) r s) (Either H K)) (sym x)
        (subst (λ z. IsForm A E b rest (either d (formula_object H) z r s) (Either H K)) (sym y)
        (either_form A E b rest (literal_formed A (not b) E formed) H K r s (looked_up done before a H h i.2) (looked_up done before c K h i.3))))

    all_reduced : (before after : List Formula) (done : List Form) (ns : List Node) → AreForms A E b rest done before → AreNodesOf es before ns after →
        AreForms A E b rest (reduce_all d (formula_object E) b (map formula_object (before ++ after)) done ns) (before ++ after)
    all_reduced before [] done [] h i = subst (AreForms A E b rest done) (sym (append-nil before)) h
    all_reduced before (G ∷ after) done [] h i = absurd i
    all_reduced before [] done (n ∷ ns) h i = absurd i
    all_reduced before (G ∷ after) done (n ∷ ns) h i =
        let r = reduce d (formula_object E) b (map formula_object (before ++ G ∷ after)) done n in
        let same : (before ++ G ∷ []) ++ after ≡ before ++ G ∷ after = append_assoc before (G ∷ []) after in
        let more = one_more done before r G h (node_reduced before after done n G h i.0) in
        subst (λ l. AreForms A E b rest (reduce_all d (formula_object E) b (map formula_object l) (done ++ r ∷ []) ns) l) same
        (all_reduced (before ++ G ∷ []) after (done ++ r ∷ []) ns more i.1)

-- what the formula of a table comes to
pub whole_reduced : (A : ArityTable) (E : Formula) (b : Bool) (rest : List Formula) (F : Formula) (ns : List Node) (Gs : List Formula) (root : ℕ) → IsEquation E → is_formula A E ≡ true → is_formula A F ≡ true → Over (E ∷ rest) F →
    AreNodesOf (equations F) [] ns Gs → slice_get Gs root ≡ Some F →
    IsForm A E b rest (get_or (reduce_all (formula_object (literal (not b) E)) (formula_object E) b (map formula_object Gs) [] ns) root nothing) F
whole_reduced A E b rest F ns Gs root equation f formed over nodes at =
    let all = each_first IsEquation (all_equations F) (are_equations F) in
    let all_formed = each_first (λ G. is_formula A G ≡ true) (all_equations F) (equations_formed A F formed) in
    let all_over = each_first (Over (E ∷ rest)) (all_equations F) (equations_over (E ∷ rest) F over) in
    looked_up A E b rest _ Gs root F (all_reduced A E b rest equation f (equations F) all all_formed all_over [] Gs [] ns tt nodes) at
