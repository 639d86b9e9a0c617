-- What is said of the case in which the next equation has a value.
use Rattle.std.proofs.Common.{◌≡◌, ℕ, Bool, true, not, List, [], ◌∷◌, ◌++◌, map, length, get_or, Result, Ok, Err, IfOk, sym, ap, ◌∙◌, subst, append_assoc}
use Rattle.mw_model.specs.Terms.Object.{Object}
use Rattle.mw_model.specs.Terms.Term.{Formula, formula_object, ArityTable, is_formula}
use Rattle.mw_model.specs.Values.Truth.{Each}
use Rattle.mw_heap.specs.Objects.{object_at}
use Rattle.mw_taut.specs.declared.table.Table.{Table}
use Rattle.mw_taut.specs.Reducing.{Form, nothing, reduce_all}
use Rattle.mw_taut.specs.Meaning.{literal, IsEquation}
use Rattle.mw_taut.specs.Cases.{Step, entered, choice_of, IsEntered, IsPosed}
use Rattle.mw_taut.specs.Decided.{IsTableOf}
use Rattle.mw_taut.proofs.CaseDecided.{decided_entered}
use Rattle.mw_taut.proofs.WholeReduced.{whole_reduced}

pub if_ok : {X Y : Type 0} (P Q : X → Type 0) (r : Result X Y) → IfOk r P → ((x : X) → P x → Q x) → IfOk r Q
if_ok P Q (Ok x) h k = k x h
if_ok P Q (Err y) h k = h

pub both_ok : {X Y : Type 0} (P Q : X → Type 0) (r : Result X Y) → IfOk r P → IfOk r Q → IfOk r (λ x. P x × Q x)
both_ok P Q (Ok x) h k = (h, k)
both_ok P Q (Err y) h k = h

-- what holds of each holds of one in the middle
pub middle : {X : Type 0} (P : X → Type 0) (before : List X) (x : X) (rest : List X) → Each P (before ++ x ∷ rest) → P x
middle P [] x rest h = h.0
middle P (y ∷ before) x rest h = middle P before x rest h.1

-- the next equation
pub next_equation : (os : List Object) (before : List Formula) (E : Formula) (rest : List Formula) (es : List ℕ) (d : ℕ) → map (object_at os) es ≡ map formula_object (before ++ E ∷ rest) → object_at os (get_or es (length before) d) ≡ formula_object E
next_equation os [] E rest [] d e = cc
next_equation os [] E rest (x ∷ es) d e = cc
next_equation os (G ∷ before) E rest [] d e = cc
next_equation os (G ∷ before) E rest (x ∷ es) d e = next_equation os before E rest es d (tail e)
  where
    tail : object_at os x ∷ map (object_at os) es ≡ formula_object G ∷ map formula_object (before ++ E ∷ rest) → map (object_at os) es ≡ map formula_object (before ++ E ∷ rest)
    tail i = cc

module _ (A : ArityTable) (F : Formula) (before : List Formula) (E : Formula) (rest : List Formula) (b : Bool) (bs : List Bool) (os : List Object) (equations : List ℕ) (f : ℕ) (t : Table) (p : IsPosed A os equations bs f F before (E ∷ rest)) (table : IsTableOf os F t) where
  abbrev D : Object
  D = formula_object (literal (not b) E)

  abbrev whole : Form
  whole = get_or (reduce_all D (formula_object E) b (map formula_object table.parts) [] t.nodes.items) t.root nothing

  pub case_entered : (d x : Object) (es : List Object) (longer : List Bool) (r : Form) (s : Step) → d ≡ D → x ≡ formula_object F → es ≡ map formula_object (before ++ E ∷ rest) → longer ≡ bs ++ b ∷ [] → r ≡ whole →
      s ≡ entered d x es longer r → IsEntered A (choice_of before bs) E b rest F s
  case_entered d x es longer r s e_d e_x e_es e_longer e_r is =
      let equation = middle IsEquation before E rest p.all in
      let formed = middle (λ G. is_formula A G ≡ true) before E rest p.all_formed in
      let all : es ≡ map formula_object ((before ++ E ∷ []) ++ rest) = e_es ∙ ap (map formula_object) (sym (append_assoc before (E ∷ []) rest)) in
      let same : s ≡ entered D (formula_object F) (map formula_object ((before ++ E ∷ []) ++ rest)) (bs ++ b ∷ []) whole = is
      ∙ (ap (λ z. entered z x es longer r) e_d
      ∙ (ap (λ z. entered D z es longer r) e_x
      ∙ (ap (λ z. entered D (formula_object F) z longer r) all
      ∙ (ap (λ z. entered D (formula_object F) (map formula_object ((before ++ E ∷ []) ++ rest)) z r) e_longer
      ∙ ap (entered D (formula_object F) (map formula_object ((before ++ E ∷ []) ++ rest)) (bs ++ b ∷ [])) e_r)))) in
      subst (IsEntered A (choice_of before bs) E b rest F) (sym same)
      (decided_entered A F before E rest b bs p.apart equation p.many whole formed (whole_reduced A E b rest F t.nodes.items table.parts t.root equation formed p.formed p.over table.nodes table.root))
