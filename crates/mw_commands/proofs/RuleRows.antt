-- The table of rules as a test, by how many subproofs a rule takes.
use Rattle.std.proofs.Common.{◌≡◌, false, ◌&&◌, List, [], ◌∷◌, refl, sym}
use Rattle.std.proofs.lemmas.Bool.{and_right}
use Rattle.mw_model.specs.Terms.Object.{Object, same_object, NIL}
use Rattle.mw_model.specs.Terms.Term.{Formula, ArityTable}
use Rattle.mw_model.specs.Values.Primitive.{Profile}
use Rattle.mw_model.proofs.Rows.{of_one, of_two}
use Rattle.mw_commands.specs.Commands.Derivation.{CommuteOr, ModusPonens, Symmetry, Transitivity}
use Rattle.mw_commands.specs.Commands.DerivationTest.{is_commuted, is_detached, is_turned, is_chained, derives}

module _ (axioms theorems : Object) (A : ArityTable) (P : Profile) where
  no_row : (x : Object) → false ≡ (same_object x NIL && false)
  no_row x = sym (and_right (same_object x NIL) false refl)

  pub commute-row : (F : Formula) (Fs : List Formula) (x : Object) → derives axioms theorems A P CommuteOr F Fs x ≡ (same_object x NIL && of_one (is_commuted F) Fs)
  commute-row F [] x = no_row x
  commute-row F (G ∷ []) x = refl
  commute-row F (G ∷ H ∷ Fs) x = no_row x

  pub symmetry-row : (F : Formula) (Fs : List Formula) (x : Object) → derives axioms theorems A P Symmetry F Fs x ≡ (same_object x NIL && of_one (is_turned F) Fs)
  symmetry-row F [] x = no_row x
  symmetry-row F (G ∷ []) x = refl
  symmetry-row F (G ∷ H ∷ Fs) x = no_row x

  pub detach-row : (F : Formula) (Fs : List Formula) (x : Object) → derives axioms theorems A P ModusPonens F Fs x ≡ (same_object x NIL && of_two (is_detached F) Fs)
  detach-row F [] x = no_row x
  detach-row F (G ∷ []) x = no_row x
  detach-row F (G ∷ H ∷ []) x = refl
  detach-row F (G ∷ H ∷ K ∷ Fs) x = no_row x

  pub chain-row : (F : Formula) (Fs : List Formula) (x : Object) → derives axioms theorems A P Transitivity F Fs x ≡ (same_object x NIL && of_two (is_chained F) Fs)
  chain-row F [] x = no_row x
  chain-row F (G ∷ []) x = no_row x
  chain-row F (G ∷ H ∷ []) x = refl
  chain-row F (G ∷ H ∷ K ∷ Fs) x = no_row x
