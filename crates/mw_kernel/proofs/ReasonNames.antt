-- The words of the report are names.
use Rattle.std.proofs.Common.{◌≡◌, true, refl}
use Rattle.mw_model.specs.Terms.Object.{is_name}
use Rattle.mw_model.specs.Events.Refusal.{Refusal, RANGE, EVENT, NAME, FORMALS, TERM, FORMULA, VARIABLES, NESTED, COUNT, CONCLUSION, PROOF, NILVALUE, STEPS, OVERFLOW, WITNESS, CLAIM, CHECKER, LONG, PROFILE, reason_of}

pub reason_is_name : (r : Refusal) → is_name (reason_of r) ≡ true
reason_is_name RANGE = refl
reason_is_name EVENT = refl
reason_is_name NAME = refl
reason_is_name FORMALS = refl
reason_is_name TERM = refl
reason_is_name FORMULA = refl
reason_is_name VARIABLES = refl
reason_is_name NESTED = refl
reason_is_name COUNT = refl
reason_is_name CONCLUSION = refl
reason_is_name PROOF = refl
reason_is_name NILVALUE = refl
reason_is_name STEPS = refl
reason_is_name OVERFLOW = refl
reason_is_name WITNESS = refl
reason_is_name CLAIM = refl
reason_is_name CHECKER = refl
reason_is_name LONG = refl
reason_is_name PROFILE = refl
