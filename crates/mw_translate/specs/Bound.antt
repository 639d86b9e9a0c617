-- LET and LET* by whether a binding sees those before it.
use Rattle.std.specs.Prelude.{◌≡◌, ℕ, true, false, List, Option, Some, None}
use Rattle.mw_model.specs.Terms.Object.{Name, Object}
use Rattle.mw_model.specs.Terms.Term.{Term, ArityTable, is_term, term_object}
use Rattle.mw_model.specs.Events.Expansion.{let_term}
use Rattle.mw_heap.specs.Objects.{object_at, IsIn}
use Rattle.mw_translate.specs.declared.let_forms.Order.{Order}
use Rattle.mw_translate.specs.declared.let_forms.Order.TheVariants as order
use Rattle.mw_translate.specs.Forms.{let_form, let_star_form}
use Rattle.mw_translate.specs.Lets.{let_stars}

-- the form, by what follows its word
abbrev pub bound_form : Order → Object → Option Term
bound_form order.Parallel r = let_form r
bound_form order.Sequential r = let_star_form r

-- the term, by its bindings and its body
abbrev pub bound_term : Order → List (Name × Term) → Term → Term
bound_term order.Parallel ps b = let_term ps b
bound_term order.Sequential ps b = let_stars ps b

-- the term was made, or it is no term
abbrev pub IsBound : ArityTable → List Object → Order → List (Name × Term) → Term → Option ℕ → Type 0
IsBound A os o ps b None = is_term A (bound_term o ps b) ≡ false
IsBound A os o ps b (Some r) = (is_term A (bound_term o ps b) ≡ true) × IsIn os r × (object_at os r ≡ term_object (bound_term o ps b))
