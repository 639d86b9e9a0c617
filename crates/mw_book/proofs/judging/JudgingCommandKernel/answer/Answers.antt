-- The event is judged.
use Rattle.std.proofs.Common.{◌+◌, cond, ap, ◌∙◌, arith}
use Rattle.mw_heap.specs.Objects.{object_at}
use Rattle.mw_model.specs.Reports.Report.{is_accepted}
use Rattle.mw_kernel.specs.Fates.{fate_of}
use Rattle.mw_book.proofs.JudgedOne.{judged_one, judged_few}
use Rattle.mw_book.proofs.judging.JudgingCommandKernel.answer.Goals as goal

pub add-requires-clause-refused : goal.add-requires-clause-refused
add-requires-clause-refused g c = let few = judged_few g.T.Telling.request g.T.Telling.effect c.args.self.now.tally c.args.kernel.now c.requires.known in omega (arith, few, c.requires.room, ap (λ t. t.refused) c.begin.ensures.tally)

pub returns-clause-puts : goal.returns-clause-puts
returns-clause-puts g c given =
    let k = c.args.kernel.now in
    let y = object_at k.objects c.args.x in
    let f = fate_of c.in_ok-fate.fate in
    let kept = c.begin.ensures.tally in
    judged_one g.T.Telling.request g.T.Telling.effect (λ j. j.tally) c.args.self.now _ k _ y f _ c.in_ok-fate.ensures
    (c.add.ensures.events ∙ ap (λ t. t.events + 1) kept) (c.add.ensures.refused ∙ ap (λ t. t.refused + cond (is_accepted f) 0 1) kept) given
