-- Conclusions that are read back from their objects, so that objects tell them apart.
use Rattle.std.proofs.Common.{◌≡◌, ℕ, zero, suc, List, [], ◌∷◌, Option, Some, None, ap, ◌∙◌, refl}
use Rattle.mw_model.specs.Terms.Object.{Object, same_object}
use Rattle.mw_model.specs.Terms.Term.{Formula, formula_object, ArityTable, IsFormula}
use Rattle.mw_model.specs.Values.Truth.{Each}
use Rattle.mw_model.proofs.Readable.{ReadableFormula, formula_readable, same_object-formulas}
use Rattle.mw_commands.specs.Commands.Log.{formula_numbered, is_that_formula}
use Rattle.mw_flat.specs.Collecting.{conclusion_numbered, is_concluded}
use Rattle.mw_flat.proofs.Premises.{IsOne}

pub formulas-readable : (A : ArityTable) (Fs : List Formula) → Each (IsFormula A) Fs → Each ReadableFormula Fs
formulas-readable A [] h = tt
formulas-readable A (F ∷ Fs) h = (formula_readable A F h.0, formulas-readable A Fs h.1)

-- where there is one, it is read back
abbrev IsReadable : Option Formula → Type 0
IsReadable None = Unit {0}
IsReadable (Some F) = ReadableFormula F

numbered-readable : (Fs : List Formula) (n : ℕ) → Each ReadableFormula Fs → IsReadable (formula_numbered Fs n)
numbered-readable [] zero h = tt
numbered-readable (F ∷ Fs) zero h = tt
numbered-readable [] (suc n) h = tt
numbered-readable (F ∷ Fs) (suc zero) h = h.0
numbered-readable (F ∷ Fs) (suc (suc n)) h = numbered-readable Fs (suc n) h.1

one-concluded : (os : List Object) (c : Option ℕ) (o : Option Formula) (F : Formula) → IsOne os c o → IsReadable o → ReadableFormula F → is_concluded os c (formula_object F) ≡ is_that_formula o F
one-concluded os None None F h r f = refl
one-concluded os (Some x) (Some G) F h r f = ap (λ y. same_object y (formula_object F)) h ∙ same_object-formulas G F r f
one-concluded os None (Some G) F h r f = absurd h
one-concluded os (Some x) None F h r f = absurd h

-- the conclusion of a number is that formula, where the object is its object
pub numbered-concluded : (os : List Object) (rs : List ℕ) (Fs : List Formula) (n : ℕ) (F : Formula) → IsOne os (conclusion_numbered rs n) (formula_numbered Fs n) → Each ReadableFormula Fs → ReadableFormula F → is_concluded os (conclusion_numbered rs n) (formula_object F) ≡ is_that_formula (formula_numbered Fs n) F
numbered-concluded os rs Fs n F h r f = one-concluded os (conclusion_numbered rs n) (formula_numbered Fs n) F h (numbered-readable Fs n r) f
