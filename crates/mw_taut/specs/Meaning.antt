-- What nodes stand for, and what parts come to where an equation has a value.
use Rattle.std.specs.Prelude.{◌≡◌, Bool, true, false, not, ◌||◌, List, [], ◌∷◌, ◌++◌, Option, Some, None, slice_get}
use Rattle.mw_model.specs.Terms.Object.{Object, NIL}
use Rattle.mw_model.specs.Terms.Term.{Formula, Equal, formula_object, ArityTable, is_formula, Not as Denial, Or as Either}
use Rattle.mw_model.specs.Values.Primitive.{One}
use Rattle.mw_model.specs.Proofs.Proof.{Proves}
use Rattle.mw_model.specs.Terms.Same.{same_formula}
use Rattle.mw_model.specs.Values.Truth.{Each}
use Rattle.mw_commands.specs.Commands.Tautology.{value_by}
use Rattle.mw_taut.specs.declared.table.Node.{Node}
use Rattle.mw_taut.specs.declared.table.Node.TheVariants.{Equation, Not, Or}
use Rattle.mw_taut.specs.Reducing.{ValueAndProof, Other, Form, Fixed, Kept, Changed}

-- the node, after these formulas, stands for the formula
abbrev pub IsNodeOf : List Formula → List Formula → Node → Formula → Type 0
IsNodeOf es before (Equation k) G = slice_get es k ≡ Some G
IsNodeOf es before (Not a) G = (H : Formula) × (slice_get before a ≡ Some H) × (G ≡ Denial H)
IsNodeOf es before (Or a b) G = (H K : Formula) × (slice_get before a ≡ Some H) × (slice_get before b ≡ Some K) × (G ≡ Either H K)

abbrev pub AreNodesOf : List Formula → List Formula → List Node → List Formula → Type 0
AreNodesOf es before [] [] = Unit {0}
AreNodesOf es before [] (G ∷ Gs) = ⊥
AreNodesOf es before (n ∷ ns) [] = ⊥
AreNodesOf es before (n ∷ ns) (G ∷ Gs) = IsNodeOf es before n G × AreNodesOf es (before ++ G ∷ []) ns Gs

-- ---- equations

abbrev pub IsEquation : Formula → Type 0
IsEquation (Equal a b) = Unit {0}
IsEquation (Denial F) = ⊥
IsEquation (Either F G) = ⊥

-- no two of them are equal
abbrev pub AreApart : List Formula → Type 0
AreApart [] = Unit {0}
AreApart (E ∷ Es) = Each (λ G. same_formula E G ≡ false) Es × AreApart Es

-- a formula is on a list
abbrev pub among : Formula → List Formula → Bool
among E [] = false
among E (G ∷ Gs) = same_formula E G || among E Gs

-- all equations of the formula are on the list
abbrev pub Over : List Formula → Formula → Type 0
Over es (Equal a b) = among (Equal a b) es ≡ true
Over es (Denial F) = Over es F
Over es (Either F G) = Over es F × Over es G

-- ---- where the equation E has the value b

-- the formula where it is true, and else its denial
abbrev pub literal : Bool → Formula → Formula
literal true G = G
literal false G = Denial G

abbrev pub IsDenialOf : Option Object → Formula → Type 0
IsDenialOf None H = Unit {0}
IsDenialOf (Some z) H = (K : Formula) × (H ≡ Denial K) × (z ≡ formula_object K)

module _ (A : ArityTable) (E : Formula) (b : Bool) (rest : List Formula) where
  -- the part G has the value
  abbrev pub IsFixed : ValueAndProof → Formula → Type 0
  IsFixed s G = ((v : Formula → Bool) → v E ≡ b → s.0 ≡ value_by v G) × Proves NIL NIL A One s.1 (Either (literal s.0 G) (literal (not b) E))

  -- the part G comes to H, whose equations are among the rest
  pub record ComesTo (s : Other) (G H : Formula) : Type 0 where
    pub formula : s.formula ≡ formula_object H
    pub denied : IsDenialOf s.denied H
    pub over : Over rest H
    pub same : (v : Formula → Bool) → v E ≡ b → value_by v G ≡ value_by v H
    pub from : Proves NIL NIL A One s.from (Either (Denial H) (Either G (literal (not b) E)))
    pub to : Proves NIL NIL A One s.to (Either (Denial G) (Either (literal (not b) E) H))

  abbrev pub IsForm : Form → Formula → Type 0
  IsForm (Fixed s) G = IsFixed s G
  IsForm Kept G = Over rest G × (is_formula A G ≡ true)
  IsForm (Changed s) G = (H : Formula) × ComesTo s G H

  abbrev pub AreForms : List Form → List Formula → Type 0
  AreForms [] [] = Unit {0}
  AreForms [] (G ∷ Gs) = ⊥
  AreForms (s ∷ ss) [] = ⊥
  AreForms (s ∷ ss) (G ∷ Gs) = IsForm s G × AreForms ss Gs
