-- What an event can come to: it is accepted, or refused for a reason.
use Rattle.std.specs.Prelude.{ℕ, Bool, true, false, List, [], Option, Some, None, codes}
use Rattle.mw_model.specs.Events.Theory.{Theory}

pub data Refusal : Type 0 where
  RANGE EVENT NAME FORMALS TERM FORMULA VARIABLES NESTED COUNT CONCLUSION PROOF NILVALUE STEPS OVERFLOW WITNESS CLAIM CHECKER LONG PROFILE : Refusal

-- the word of the report
abbrev pub reason_of : Refusal → List ℕ
reason_of RANGE = codes "RANGE"
reason_of EVENT = codes "EVENT"
reason_of NAME = codes "NAME"
reason_of FORMALS = codes "FORMALS"
reason_of TERM = codes "TERM"
reason_of FORMULA = codes "FORMULA"
reason_of VARIABLES = codes "VARIABLES"
reason_of NESTED = codes "NESTED"
reason_of COUNT = codes "COUNT"
reason_of CONCLUSION = codes "CONCLUSION"
reason_of PROOF = codes "PROOF"
reason_of NILVALUE = codes "NIL"
reason_of STEPS = codes "STEPS"
reason_of OVERFLOW = codes "OVERFLOW"
reason_of WITNESS = codes "WITNESS"
reason_of CLAIM = codes "CLAIM"
reason_of CHECKER = codes "CHECKER"
reason_of LONG = codes "LONG"
reason_of PROFILE = codes "PROFILE"

-- an accepted EVAL or PRINT has a text, another event an empty one
pub data Fate : Type 0 where
  Accepted : List ℕ → Fate
  Refused : Refusal → Fate

-- a refused event leaves the theory as it was
abbrev pub refuse : Theory → Refusal → Fate × Theory
refuse t r = (Refused r, t)

abbrev pub accept : Theory → Fate × Theory
accept next = (Accepted [], next)

-- The tests of an event, one after another: refused for r where there is nothing, and else on with what there is;
-- refused for r where the test fails; refused for the reason given, where one is. They are opened by name alone,
-- so that a proof can go along them.
unfoldable pub need : {X : Type 0} → Theory → Refusal → Option X → (X → Fate × Theory) → Fate × Theory
need t r None go = refuse t r
need t r (Some x) go = go x

unfoldable pub must : Theory → Refusal → Bool → Fate × Theory → Fate × Theory
must t r true rest = rest
must t r false rest = refuse t r

unfoldable pub unless : Theory → Option Refusal → Fate × Theory → Fate × Theory
unless t None rest = rest
unless t (Some r) rest = refuse t r
