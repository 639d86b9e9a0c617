-- One step premise after another, over the heap at the start.
use Rattle.std.proofs.Common.{◌<◌, ◌≤◌, length, sym, ◌∙◌, subst, arith}
use Rattle.mw_heap.specs.Objects.{object_at}
use Rattle.mw_induct.specs.Pairs.{AreSubstitutionsIn, IsFormulaIn}
use Rattle.mw_induct.proofs.Forms.{steps_none}
use Rattle.mw_induct.proofs.NextCases.{next_case, step_taken, step_refused}
use Rattle.mw_induct.proofs.Rests.{conclusion_within, same_pair, no_conclusion}
use Rattle.mw_induct.proofs.steps.take_steps.Goals as goal

pub returns-then-taken-conclusions-clause-steps : goal.returns-then-taken-conclusions-clause-steps
returns-then-taken-conclusions-clause-steps c =
    let os = c.args.heap.now.objects in
    let o = object_at os in
    let i = c.loop-condition.invariant in
    let condition = same_pair os c.loop-condition.heap.objects c.loop-condition.conditions c.in-Pair.condition c.in-Pair.more i.0 c.in-Pair.ensures.shows in
    let none : length c.args.conclusions.now ≤ c.loop-condition.taken = omega arith in
    λ rest. i.3 rest ∙ steps_none (o c.args.a) _ _ _ (o c.loop-condition.conditions) (o c.loop-condition.cases) rest (no_conclusion os c.args.conclusions.now c.loop-condition.taken none) condition.2

pub loop-condition-preserved : goal.loop-condition-preserved
loop-condition-preserved c =
    let i = c.loop-condition.invariant in
    let n = next_case c.args.heap.now.objects c.loop-condition.heap.objects i.0 c.loop-condition.conditions c.loop-condition.cases _ _ _ _ i.1 c.in-Pair.ensures.shows c.in-Pair-view.ensures.shows in
    let within : c.loop-condition.taken < length c.args.conclusions.now = omega arith in
    let taken = step_taken c.args.heap.now.objects c.loop-condition.heap.objects i.0 _ _ _ _ _ _ n c.args.a c.args.conclusions.now c.loop-condition.taken c.index-conclusions-taken.result within c.index-conclusions-taken.is _ c.in_ok-is_step.ensures.step c.if-not-branch.false in (
      c.in_ok-is_step.ensures.objects ∙ i.0,
      n.rest,
      omega arith,
      λ rest. i.3 rest ∙ taken rest,
    )

pub returns-then-not-branch-clause-steps : goal.returns-then-not-branch-clause-steps
returns-then-not-branch-clause-steps c =
    let i = c.loop-condition.invariant in
    let n = next_case c.args.heap.now.objects c.loop-condition.heap.objects i.0 c.loop-condition.conditions c.loop-condition.cases _ _ _ _ i.1 c.in-Pair.ensures.shows c.in-Pair-view.ensures.shows in
    let within : c.loop-condition.taken < length c.args.conclusions.now = omega arith in
    λ rest. i.3 rest ∙ step_refused c.args.heap.now.objects c.loop-condition.heap.objects i.0 _ _ _ _ _ _ n c.args.a c.args.conclusions.now c.loop-condition.taken c.index-conclusions-taken.result within c.index-conclusions-taken.is _ c.in_ok-is_step.ensures.step c.if-not-branch.true rest

pub is_step-requires-clause-substitutions : goal.is_step-requires-clause-substitutions
is_step-requires-clause-substitutions c =
    let i = c.loop-condition.invariant in
    let n = next_case c.args.heap.now.objects c.loop-condition.heap.objects i.0 c.loop-condition.conditions c.loop-condition.cases _ _ _ _ i.1 c.in-Pair.ensures.shows c.in-Pair-view.ensures.shows in
    subst (λ h. AreSubstitutionsIn h c.in-Pair-view.substitutions) (sym i.0) n.substitutions

pub is_step-requires-clause-formula : goal.is_step-requires-clause-formula
is_step-requires-clause-formula c = subst (λ h. IsFormulaIn h c.args.a) (sym c.loop-condition.invariant.0) c.requires.formula

pub is_step-requires-clause-within : goal.is_step-requires-clause-within
is_step-requires-clause-within c = conclusion_within _ _ c.args.conclusions.now c.loop-condition.taken _ c.loop-condition.invariant.0 c.requires.conclusions (omega arith) c.index-conclusions-taken.is
