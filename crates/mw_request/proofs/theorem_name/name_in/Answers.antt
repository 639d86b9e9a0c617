-- The only datum, where it is a symbol.
use Rattle.std.proofs.Common.{◌≡◌, ℕ, Option, Some, None, refl, sym}
use Rattle.std.specs.Prelude.{IfNone}
use Rattle.mw_request.proofs.theorem_name.name_in.Goals as goal

holds_of_none : {P : Type 0} (o : Option ℕ) → ((x : ℕ) → o ≡ Some x → ⊥) → IfNone o P → P
holds_of_none None n h = h
holds_of_none (Some x) n h = absurd (n x refl)

pub returns-in_default : goal.returns-in_default
returns-in_default c = sym (holds_of_none c.in_ok-x.field-0 c.in_default.not-Some c.in_ok-x.ensures.none)
