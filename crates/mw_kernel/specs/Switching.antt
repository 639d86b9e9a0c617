-- Why a SWITCH is refused, where it is, and what it comes to.
use Rattle.std.specs.Prelude.{cond, Option, Some, None}
use Rattle.mw_model.specs.Terms.Object.{Name, Object, is_member}
use Rattle.mw_model.specs.Terms.Term.{formula_object}
use Rattle.mw_model.specs.Values.Primitive.{name_of}
use Rattle.mw_model.specs.Events.Theory.{Theory, claim}
use Rattle.mw_model.specs.Events.Refusal.{Refusal, CHECKER, CLAIM, Fate, refuse, accept}
use Rattle.mw_model.specs.Events.Fate.{checker_named}
use Rattle.mw_theory.specs.Knowledge.{with_checker}

abbrev pub claim_refusal : Theory → Option Name → Option Refusal
claim_refusal t None = Some CHECKER
claim_refusal t (Some f) = cond (is_member (formula_object (claim f)) t.theorems) None (Some CLAIM)

abbrev pub switch_refusal : Theory → Object → Option Refusal
switch_refusal t x = claim_refusal t (checker_named t x)

-- the fate of a SWITCH to this, and the theory after it
abbrev pub switched_by : Theory → Object → Option Refusal → Fate × Theory
switched_by t x (Some r) = refuse t r
switched_by t x None = accept (with_checker t (name_of x))

abbrev pub switched : Theory → Object → Fate × Theory
switched t x = switched_by t x (switch_refusal t x)
