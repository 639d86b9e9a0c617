-- The tests of the further rules on objects of formulas, which stand in the heap, are those on the formulas.
use Rattle.std.proofs.Common.{◌≡◌, false, List, Option, Some, None, MatchOption, IfSome, ℕ, refl, sym, ap, ap₂, ◌∙◌, subst}
use Rattle.std.proofs.lemmas.Bool.{true≢false, and_parts, and_from}
use Rattle.mw_model.specs.Terms.Object.{Object, symbol, same_object, NIL, car, list3, second_of, third_of}
use Rattle.mw_model.specs.Terms.Term.{Term, Formula, Equal, Not, Or, term_object, formula_object, is_formula, is_term, IsFormula, IsTerm}
use Rattle.mw_model.specs.Terms.Same.{same_term, same_formula}
use Rattle.mw_model.proofs.Names.{same_object-from}
use Rattle.mw_model.proofs.Formed.{formed}
use Rattle.mw_model.proofs.Readable.{term_readable, formula_readable, same_object-terms, same_object-formulas}
use Rattle.mw_commands.specs.Commands.DerivationTest.{is_commuted, is_detached, is_turned, is_chained}
use Rattle.mw_heap.specs.Objects.{object_at, IsIn}
use Rattle.mw_proof.specs.Judging.{Basis}
use Rattle.mw_lower.specs.Answers.{HasParts}

pub parts : (os : List Object) (o : Option (ℕ × ℕ)) (h x y : Object) → x ≡ y → IfSome o (λ p. IsIn os p.0 × IsIn os p.1) → MatchOption o ((a c : Object) → same_object x (list3 h a c) ≡ false) (λ p. x ≡ list3 h (object_at os p.0) (object_at os p.1)) → MatchOption o ((a c : Object) → same_object y (list3 h a c) ≡ false) (λ q. HasParts os h y q.0 q.1)
parts os None h x y e i m = λ a c. ap (λ z. same_object z (list3 h a c)) (sym e) ∙ m a c
parts os (Some p) h x y e i m = (i.0, i.1, sym e ∙ m)

differ : {X : Type 0} (x y : Object) → same_object x y ≡ false → x ≡ y → X
differ x y h e = absurd (true≢false (sym (same_object-from x y e) ∙ h))

pub no_object : {X : Type 0} (G : Formula) → NIL ≡ formula_object G → X
no_object (Equal a c) e = differ NIL (formula_object (Equal a c)) refl e
no_object (Not G) e = differ NIL (formula_object (Not G)) refl e
no_object (Or G H) e = differ NIL (formula_object (Or G H)) refl e

-- a disjunction and its parts
pub record OrParts (G : Formula) (x y : Object) : Type 0 where
  pub left : Formula
  pub right : Formula
  pub is : G ≡ Or left right
  pub left_is : x ≡ formula_object left
  pub right_is : y ≡ formula_object right

pub or_parts : (G : Formula) (k x y : Object) → k ≡ formula_object G → k ≡ list3 (symbol "POR*") x y → OrParts G x y
or_parts (Equal a c) k x y d e = differ (symbol "PEQUAL*") (symbol "POR*") refl (ap car (sym d ∙ e))
or_parts (Not G) k x y d e = differ (symbol "PNOT*") (symbol "POR*") refl (ap car (sym d ∙ e))
or_parts (Or G H) k x y d e = record { left = G; right = H; is = refl; left_is = ap second_of (sym e ∙ d); right_is = ap third_of (sym e ∙ d) }

-- an equation and its sides
pub record EqualParts (G : Formula) (x y : Object) : Type 0 where
  pub left : Term
  pub right : Term
  pub is : G ≡ Equal left right
  pub left_is : x ≡ term_object left
  pub right_is : y ≡ term_object right

pub equal_parts : (G : Formula) (k x y : Object) → k ≡ formula_object G → k ≡ list3 (symbol "PEQUAL*") x y → EqualParts G x y
equal_parts (Or G H) k x y d e = differ (symbol "POR*") (symbol "PEQUAL*") refl (ap car (sym d ∙ e))
equal_parts (Not G) k x y d e = differ (symbol "PNOT*") (symbol "PEQUAL*") refl (ap car (sym d ∙ e))
equal_parts (Equal a c) k x y d e = record { left = a; right = c; is = refl; left_is = ap second_of (sym e ∙ d); right_is = ap third_of (sym e ∙ d) }

abbrev pub IsNo : Object → Object → Type 0
IsNo head k = (x y : Object) → same_object k (list3 head x y) ≡ false

pub commuted_none : (F G : Formula) (k : Object) → k ≡ formula_object G → IsNo (symbol "POR*") k → is_commuted F G ≡ false
commuted_none F (Equal a c) k d none = refl
commuted_none F (Not G) k d none = refl
commuted_none F (Or G H) k d none = differ k (list3 (symbol "POR*") (formula_object G) (formula_object H)) (none (formula_object G) (formula_object H)) d

pub detached_none : (F G H : Formula) (k : Object) → k ≡ formula_object H → IsNo (symbol "POR*") k → is_detached F G H ≡ false
detached_none F G (Equal a c) k d none = refl
detached_none F G (Not H) k d none = refl
detached_none F G (Or H K) k d none = differ k (list3 (symbol "POR*") (formula_object H) (formula_object K)) (none (formula_object H) (formula_object K)) d

pub turned_none : (F G : Formula) (k : Object) → k ≡ formula_object G → IsNo (symbol "PEQUAL*") k → is_turned F G ≡ false
turned_none F (Or G H) k d none = refl
turned_none F (Not G) k d none = refl
turned_none F (Equal a c) k d none = differ k (list3 (symbol "PEQUAL*") (term_object a) (term_object c)) (none (term_object a) (term_object c)) d

pub chained_none : (F G H : Formula) (k : Object) → k ≡ formula_object G → IsNo (symbol "PEQUAL*") k → is_chained F G H ≡ false
chained_none F (Or G K) H k d none = refl
chained_none F (Not G) H k d none = refl
chained_none F (Equal a c) H k d none = differ k (list3 (symbol "PEQUAL*") (term_object a) (term_object c)) (none (term_object a) (term_object c)) d

pub chained_second_none : (F G H : Formula) (k : Object) → k ≡ formula_object H → IsNo (symbol "PEQUAL*") k → is_chained F G H ≡ false
chained_second_none F (Or G L) H k d none = refl
chained_second_none F (Not G) H k d none = refl
chained_second_none F (Equal a c) (Or H K) k d none = refl
chained_second_none F (Equal a c) (Not H) k d none = refl
chained_second_none F (Equal a c) (Equal t u) k d none = differ k (list3 (symbol "PEQUAL*") (term_object t) (term_object u)) (none (term_object t) (term_object u)) d

module _ (b : Basis) where
  pub same_by_objects : (F G : Formula) (c d : Object) → IsFormula b.table F → IsFormula b.table G → c ≡ formula_object F → d ≡ formula_object G → same_object c d ≡ same_formula F G
  same_by_objects F G c d i j e k = ap₂ same_object e k ∙ same_object-formulas F G (formula_readable b.table F i) (formula_readable b.table G j)

  pub same_by_terms : (t u : Term) (c d : Object) → IsTerm b.table t → IsTerm b.table u → c ≡ term_object t → d ≡ term_object u → same_object c d ≡ same_term t u
  same_by_terms t u c d i j e k = ap₂ same_object e k ∙ same_object-terms t u (term_readable b.table t (formed b.table t i)) (term_readable b.table u (formed b.table u j))

  abbrev pub list_or : Object → Object → Object
  list_or x y = list3 (symbol "POR*") x y

  pub or_formed : (G H K : Formula) → G ≡ Or H K → IsFormula b.table G → IsFormula b.table H × IsFormula b.table K
  or_formed G H K e i = and_parts (is_formula b.table H) (is_formula b.table K) (subst (IsFormula b.table) e i)

  pub equal_formed : (G : Formula) (t u : Term) → G ≡ Equal t u → IsFormula b.table G → IsTerm b.table t × IsTerm b.table u
  equal_formed G t u e i = and_parts (is_term b.table t) (is_term b.table u) (subst (IsFormula b.table) e i)

  -- what stands turned round in the heap is tested as the formulas are
  module _ (F G : Formula) (c k x y : Object) (i : IsFormula b.table F) (j : IsFormula b.table G) (e : c ≡ formula_object F) (d : k ≡ formula_object G) where
    pub commuted_test : k ≡ list3 (symbol "POR*") x y → same_object c (list3 (symbol "POR*") y x) ≡ is_commuted F G
    commuted_test is =
        let p = or_parts G k x y d is in
        let q = or_formed G p.left p.right p.is j in
        same_by_objects F (Or p.right p.left) c (list3 (symbol "POR*") y x) i (and_from _ _ q.1 q.0) e (ap₂ (list3 (symbol "POR*")) p.right_is p.left_is) ∙ sym (ap (is_commuted F) p.is)

    pub turned_test : k ≡ list3 (symbol "PEQUAL*") x y → same_object c (list3 (symbol "PEQUAL*") y x) ≡ is_turned F G
    turned_test is =
        let p = equal_parts G k x y d is in
        let q = equal_formed G p.left p.right p.is j in
        same_by_objects F (Equal p.right p.left) c (list3 (symbol "PEQUAL*") y x) i (and_from _ _ q.1 q.0) e (ap₂ (list3 (symbol "PEQUAL*")) p.right_is p.left_is) ∙ sym (ap (is_turned F) p.is)
