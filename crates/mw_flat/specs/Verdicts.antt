-- What is answered to a datum of a log, as the logic has it.
use Rattle.std.specs.Prelude.{Option, Some, None}
use Rattle.mw_model.specs.Events.Refusal.{Refusal, COUNT, PROOF}
use Rattle.mw_commands.specs.Commands.Log as logic
use Rattle.mw_flat.specs.declared.verdict.Objection.{Objection}
use Rattle.mw_flat.specs.declared.verdict.Objection.TheVariants as objection
use Rattle.mw_flat.specs.declared.verdict.Verdict.{Verdict}
use Rattle.mw_flat.specs.declared.verdict.Verdict.TheVariants.{Noted, Yes, No}

abbrev pub objection_of : Objection → logic.Objection
objection_of objection.Shape = logic.SHAPE
objection_of objection.Step = logic.STEP
objection_of objection.Admit = logic.ADMIT
objection_of objection.Goal = logic.GOAL

-- nothing for a step
abbrev pub answer_of : Verdict → Option logic.Answer
answer_of Noted = None
answer_of Yes = Some logic.Yes
answer_of (No o) = Some (logic.No (objection_of o))

-- what is owed or given as proofs is told apart from what is looked at before
abbrev pub answer_by : Option Refusal → logic.Answer
answer_by None = logic.Yes
answer_by (Some COUNT) = logic.No logic.GOAL
answer_by (Some PROOF) = logic.No logic.GOAL
answer_by (Some _) = logic.No logic.ADMIT
