-- Whether an object has the form of a term, of a list of terms or of a formula, whatever names it calls.
use Rattle.std.specs.Prelude.{◌≡◌, ℕ, ◌+◌, ◌<◌, Bool, true, false, List, [], ◌∷◌, ◌++◌, is_some}
use Rattle.std.specs.List.{list_all}
use Rattle.mw_model.specs.Terms.Object.{Object, Natural, Symbol, Pair, same_name, nil_name, weight}
use Rattle.mw_model.specs.Terms.Reading.{term_of, terms_of, formula_of}
use Rattle.mw_heap.specs.Objects.{object_at, IsIn}
use Rattle.mw_bad_steps.specs.declared.form.Form.{Form}
use Rattle.mw_bad_steps.specs.declared.form.Form.TheVariants.{Term, Terms, Formula}

abbrev pub reference : Form → ℕ
reference (Term x) = x
reference (Terms x) = x
reference (Formula x) = x

abbrev pub has_form : List Object → Form → Bool
has_form os (Term x) = is_some (term_of (object_at os x))
has_form os (Terms x) = is_some (terms_of (object_at os x))
has_form os (Formula x) = is_some (formula_of (object_at os x))

abbrev pub have_forms : List Object → List Form → Bool
have_forms os fs = list_all (has_form os) fs

abbrev pub IsFormIn : List Object → Form → Type 0
IsFormIn os f = IsIn os (reference f)

abbrev pub AreFormsIn : List Object → List Form → Type 0
AreFormsIn os [] = Unit {0}
AreFormsIn os (f ∷ fs) = IsFormIn os f × AreFormsIn os fs

abbrev pub forms_weight : List Object → List Form → ℕ
forms_weight os [] = 0
forms_weight os (f ∷ fs) = weight (object_at os (reference f)) + forms_weight os fs

-- the object at x is a list of this head before these actuals
pub record IsCall (os : List Object) (x head actuals : ℕ) : Type 0 where
  pub head_in : IsIn os head
  pub actuals_in : IsIn os actuals
  pub is : object_at os x ≡ Pair (object_at os head) (object_at os actuals)

-- x has the form where these lighter parts have theirs, which wait; or it has not
abbrev pub IsEntered : List Object → ℕ → Bool → List Form → List Form → Bool → Type 0
IsEntered os x form old new true = (more : List Form) × (new ≡ old ++ more) × AreFormsIn os more × (form ≡ have_forms os more) × (forms_weight os more < weight (object_at os x))
IsEntered os x form old new false = form ≡ false

-- a proper list of symbols
abbrev pub are_names : Object → Bool
are_names (Pair (Symbol x) r) = are_names r
are_names (Pair a r) = false
are_names (Symbol s) = same_name s nil_name
are_names (Natural n) = false
