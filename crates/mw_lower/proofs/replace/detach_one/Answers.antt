-- By the parts of the disjunction.
use Rattle.std.proofs.Common.{ap, ◌∙◌}
use Rattle.mw_model.specs.Terms.Object.{third_of}
use Rattle.mw_commands.proofs.LogAccepted.{conclusion_is}
use Rattle.mw_heap.proofs.Objects.{object_at-Grows}
use Rattle.mw_lower.proofs.RulesProve.{detaches}
use Rattle.mw_lower.proofs.StepTests.{no_object}
use Rattle.mw_lower.proofs.replace.detach_one.Goals as goal

pub returns-in_default-clause-made : goal.returns-in_default-clause-made
returns-in_default-clause-made c = λ b G H w h k. no_object G (c.in_default.ensures.value ∙ conclusion_is b.axioms b.theorems b.table b.profile _ G k)

pub returns-in_default-third_of-clause-made : goal.returns-in_default-third_of-clause-made
returns-in_default-third_of-clause-made c = λ b G H w h k. no_object H (c.in_default-third_of.ensures.value ∙ ap third_of w)

pub returns-clause-made : goal.returns-clause-made
returns-clause-made c = λ b G H w h k.
    let first = c.in-Some.ensures.value ∙ conclusion_is b.axioms b.theorems b.table b.profile _ G k in
    let rest = c.in-Some-third_of.ensures.value ∙ ap third_of w in
    (object_at-Grows _ _ c.in_ok-next.ensures.grows _ c.in-Some-third_of.ensures.within ∙ rest, detaches b G H _ _ _ _ _ c.in_ok-next.ensures.made.1 first rest k h)
