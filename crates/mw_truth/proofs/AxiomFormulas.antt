-- The axioms of the primitives are formulas under the arity table of all well-made definitions.
use Rattle.std.proofs.Common.{◌≡◌, ℕ, Bool, true, ◌&&◌, List, [], ◌∷◌, Some, refl, sym}
use Rattle.std.proofs.lemmas.Bool.{and_parts, and_from}
use Rattle.std.proofs.lemmas.List.{append-nil}
use Rattle.mw_model.specs.Terms.Object.{Name}
use Rattle.mw_model.specs.Terms.Term.{Formula, Equal, Not, Or, ArityTable, arity_of, is_term, is_formula, IsFormula}
use Rattle.mw_model.specs.Values.Primitive.{Profile, One, Two, primitive_arities}
use Rattle.mw_model.specs.Values.Definition.{Block, Definitions, arities, arity_table, are_blocks, IsWellMade}
use Rattle.mw_model.specs.Values.Truth.{Each}
use Rattle.mw_model.specs.Proofs.Axioms.{primitive_axioms}
use Rattle.mw_model.proofs.Formed.{formed, is_term-from}
use Rattle.mw_model.proofs.Older.{formed_more}
use Rattle.mw_model.proofs.Begins.{begins_arity}

abbrev are_formulas : ArityTable → List Formula → Bool
are_formulas A [] = true
are_formulas A (F ∷ Fs) = is_formula A F && are_formulas A Fs

are_formulas-at_first : (P : Profile) → are_formulas (primitive_arities P) (primitive_axioms P) ≡ true
are_formulas-at_first One = refl
are_formulas-at_first Two = refl

-- the primitives keep their arities
arity_kept : (P : Profile) (D : List Block) → are_blocks P D ≡ true → (f : Name) (n : ℕ) → arity_of (primitive_arities P) f ≡ Some n → arity_of (arities P D) f ≡ Some n
arity_kept P D w = begins_arity P [] D w (D, sym (append-nil D))

module _ (A A' : ArityTable) (more : (f : Name) (n : ℕ) → arity_of A f ≡ Some n → arity_of A' f ≡ Some n) where
  formula_more : (F : Formula) → IsFormula A F → IsFormula A' F
  formula_more (Equal a b) i =
      let p = and_parts (is_term A a) (is_term A b) i in
      and_from (is_term A' a) (is_term A' b) (is_term-from A' a (formed_more A A' more a (formed A a p.0))) (is_term-from A' b (formed_more A A' more b (formed A b p.1)))
  formula_more (Not F) i = formula_more F i
  formula_more (Or F G) i = let p = and_parts (is_formula A F) (is_formula A G) i in and_from (is_formula A' F) (is_formula A' G) (formula_more F p.0) (formula_more G p.1)

  each_more : (Fs : List Formula) → are_formulas A Fs ≡ true → Each (IsFormula A') Fs
  each_more [] h = tt
  each_more (F ∷ Fs) h = let p = and_parts (is_formula A F) (are_formulas A Fs) h in (formula_more F p.0, each_more Fs p.1)

pub axioms_formulas : (D : Definitions) → IsWellMade D → Each (IsFormula (arity_table D)) (primitive_axioms D.profile)
axioms_formulas D made =
    each_more (primitive_arities D.profile) (arity_table D) (arity_kept D.profile D.blocks made) (primitive_axioms D.profile) (are_formulas-at_first D.profile)
