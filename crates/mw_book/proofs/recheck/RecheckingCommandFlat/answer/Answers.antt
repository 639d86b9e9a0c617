-- A step is collected, and an event answered.
use Rattle.std.proofs.Common.{◌≡◌, ◌∙◌, ap, subst, arith}
use Rattle.mw_model.specs.Terms.Object.{car, same_object, symbol}
use Rattle.mw_commands.specs.Commands.Log.{is_step}
use Rattle.mw_heap.specs.Objects.{object_at}
use Rattle.mw_read.specs.Shown.{ShowsEvent}
use Rattle.mw_book.proofs.RecheckedOne.{ended_one, is_step-car, rechecked_few}
use Rattle.mw_book.proofs.recheck.RecheckingCommandFlat.answer.Goals as goal

pub begin_datum-requires-clause-room : goal.begin_datum-requires-clause-room
begin_datum-requires-clause-room c = let few = rechecked_few c.args.self.now c.args.flat.now c.requires.known in omega (arith, few.1, c.requires.room)

pub datum-requires-clause-room : goal.datum-requires-clause-room
datum-requires-clause-room c = let few = rechecked_few c.args.self.now c.args.flat.now c.requires.known in omega (arith, few.1, c.requires.room)

pub count-requires-clause-events : goal.count-requires-clause-events
count-requires-clause-events c = let few = rechecked_few c.args.self.now c.args.flat.now c.requires.known in omega (arith, few.1, c.requires.room)

pub count-requires-clause-denied : goal.count-requires-clause-denied
count-requires-clause-denied c = let few = rechecked_few c.args.self.now c.args.flat.now c.requires.known in omega (arith, few.0, few.1, c.requires.room)

pub returns-clause-puts : goal.returns-clause-puts
returns-clause-puts c given =
    let x = c.args.x in
    let f = c.args.flat.now in
    let y = object_at f.objects x in
    let word = c.shown-word.result.0 in
    let label = c.shown-word.result.1 in
    let here : ShowsEvent f.objects word label y = subst (λ os. ShowsEvent os word label (object_at os x)) c.heap-2.ensures c.shown-word.ensures in
    let is : c.is_headed-is_step.result ≡ is_step y = c.is_headed-is_step.ensures ∙ ap (λ os. same_object (car (object_at os x)) (symbol "STEP")) c.heap.ensures ∙ is_step-car y in
    ended_one c.args.self.now c.count.new.self f c.datum.new.self y c.is_headed-is_step.result c.in_ok-verdict.verdict _ _ _ is c.requires.empty (c.in_ok-begin_datum.ensures y here) c.in_ok-end_answer.ensures c.in_ok-verdict.ensures.comes c.count.ensures given
