-- The event is refused.
use Rattle.std.proofs.Common.{◌+◌, sym, ap, subst, ◌∙◌, arith}
use Rattle.mw_model.specs.Events.Refusal.{RANGE, Refused}
use Rattle.mw_read.specs.Shown.{ShowsEvent}
use Rattle.mw_book.proofs.JudgedOne.{judged_one, judged_few}
use Rattle.mw_book.proofs.judging.JudgingCommandKernel.answer_large.Goals as goal

pub add-requires-clause-refused : goal.add-requires-clause-refused
add-requires-clause-refused g c = let few = judged_few g.T.Telling.request g.T.Telling.effect c.args.self.now.tally c.args.kernel.now c.requires.known in omega (arith, few, c.requires.room, ap (λ t. t.refused) c.begin.ensures.tally)

pub returns-clause-puts : goal.returns-clause-puts
returns-clause-puts g c y large here given =
    let kept = c.begin.ensures.tally in
    let shows = subst (λ os. ShowsEvent os c.args.word c.args.label y) (sym c.heap.ensures) here in
    judged_one g.T.Telling.request g.T.Telling.effect (λ j. j.tally) c.args.self.now _ c.args.kernel.now _ y (Refused RANGE) _ (c.in_ok-refuse.ensures y large (c.deref.ensures.value ∙ c.in_ok-begin.ensures.begun y shows))
    (c.add.ensures.events ∙ ap (λ t. t.events + 1) kept) (c.add.ensures.refused ∙ ap (λ t. t.refused + 1) kept) given
