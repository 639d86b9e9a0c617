-- The step with the other proofs, where it follows from what they prove.
use Rattle.std.proofs.Common.{◌∙◌, arith}
use Rattle.mw_heap.specs.Objects.{IsIn}
use Rattle.mw_heap.proofs.Objects.{Grows-trans, IsIn-Grows}
use Rattle.mw_build.proofs.OnStack.{AreIn-grows}
use Rattle.mw_lower.proofs.MethodSteps.{with_grows}
use Rattle.mw_lower.proofs.method.method_step.Goals as goal

pub returns-then-not-branch-clause-answer : goal.returns-then-not-branch-clause-answer
returns-then-not-branch-clause-answer c = λ A k. c.in_ok-follows_from.ensures.answer A k ∙ c.if-not-branch.true

pub with_proofs-requires-clause-itself : goal.with_proofs-requires-clause-itself
with_proofs-requires-clause-itself c = IsIn-Grows _ _ c.follows_from.ensures.grows _ c.requires.itself

pub with_proofs-requires-clause-method : goal.with_proofs-requires-clause-method
with_proofs-requires-clause-method c = IsIn-Grows _ _ c.follows_from.ensures.grows _ c.requires.method

pub with_proofs-requires-clause-conclusion : goal.with_proofs-requires-clause-conclusion
with_proofs-requires-clause-conclusion c =
    let conclusion_in : IsIn c.args.heap.now.objects c.args.step.conclusion = omega (arith, c.requires.conclusion, c.requires.marks.1.within) in
    IsIn-Grows _ _ c.follows_from.ensures.grows _ conclusion_in

pub with_proofs-requires-clause-subproofs : goal.with_proofs-requires-clause-subproofs
with_proofs-requires-clause-subproofs c = IsIn-Grows _ _ c.follows_from.ensures.grows _ c.requires.subproofs

pub with_proofs-requires-clause-extras : goal.with_proofs-requires-clause-extras
with_proofs-requires-clause-extras c =
    let extras_in : IsIn c.args.heap.now.objects c.args.step.extras = omega (arith, c.requires.extras, c.requires.marks.1.within) in
    IsIn-Grows _ _ c.follows_from.ensures.grows _ extras_in

pub with_proofs-requires-clause-within : goal.with_proofs-requires-clause-within
with_proofs-requires-clause-within c = AreIn-grows _ _ _ c.follows_from.ensures.grows c.requires.within

pub returns-in_err-with_proofs-clause-grows : goal.returns-in_err-with_proofs-clause-grows
returns-in_err-with_proofs-clause-grows c = Grows-trans _ _ _ c.follows_from.ensures.grows c.with_proofs.ensures.grows

pub returns-clause-grows : goal.returns-clause-grows
returns-clause-grows c = Grows-trans _ _ _ c.follows_from.ensures.grows c.with_proofs.ensures.grows

pub returns-clause-answer : goal.returns-clause-answer
returns-clause-answer c = λ A k.
    let os = c.args.heap.now.objects in
    let m = c.args.step in
    let made = c.in_ok-with_proofs.ensures.made in
    let marked = c.requires.marks.1.within in
    let conclusion_in : IsIn os m.conclusion = omega (arith, c.requires.conclusion, marked) in
    let extras_in : IsIn os m.extras = omega (arith, c.requires.extras, marked) in (
      c.in_ok-follows_from.ensures.answer A k ∙ c.if-not-branch.false,
      made.0,
      with_grows os c.follows_from.new.heap.objects c.in_ok-follows_from.ensures.grows c.args.p m c.requires.itself c.requires.method conclusion_in c.requires.subproofs extras_in c.args.proofs.now c.requires.within _ made.1,
    )
