-- A step is collected, and is not good; an event gets a no.
use Rattle.std.proofs.Common.{◌≡◌, ◌∙◌, IfSome, sym, ap, subst, arith}
use Rattle.mw_commands.specs.Commands.Log.{is_step}
use Rattle.mw_heap.specs.Objects.{IsIn}
use Rattle.mw_read.specs.Shown.{ShowsEvent}
use Rattle.mw_flat.specs.Going.{is_step_word}
use Rattle.mw_book.proofs.RecheckedOne.{ended_one, is_step-shown, rechecked_few, shown_in}
use Rattle.mw_book.proofs.recheck.RecheckingCommandFlat.answer_large.Goals as goal

pub is_step_word-is_step-requires : goal.is_step_word-is_step-requires
is_step_word-is_step-requires c = subst (λ os. IfSome c.args.word (IsIn os)) (sym c.heap.ensures) (shown_in c.args.flat.now.objects c.args.word c.requires.shows.2.word_in)

pub begin_datum-requires-clause-room : goal.begin_datum-requires-clause-room
begin_datum-requires-clause-room c = let few = rechecked_few c.args.self.now c.args.flat.now c.requires.known in omega (arith, few.1, c.requires.room)

pub too_big-verdict-requires-clause-word : goal.too_big-verdict-requires-clause-word
too_big-verdict-requires-clause-word c = shown_in c.args.flat.now.objects c.args.word c.requires.shows.2.word_in

pub too_big-verdict-requires-clause-room : goal.too_big-verdict-requires-clause-room
too_big-verdict-requires-clause-room c = let few = rechecked_few c.args.self.now c.args.flat.now c.requires.known in omega (arith, few.1, c.requires.room)

pub count-requires-clause-events : goal.count-requires-clause-events
count-requires-clause-events c = let few = rechecked_few c.args.self.now c.args.flat.now c.requires.known in omega (arith, few.1, c.requires.room)

pub count-requires-clause-denied : goal.count-requires-clause-denied
count-requires-clause-denied c = let few = rechecked_few c.args.self.now c.args.flat.now c.requires.known in omega (arith, few.0, few.1, c.requires.room)

pub returns-clause-puts : goal.returns-clause-puts
returns-clause-puts c y large shows given =
    let f = c.args.flat.now in
    let word = c.args.word in
    let tells = is_step-shown f.objects word c.args.label y shows in
    let is : c.is_step_word-is_step.result ≡ is_step y = c.is_step_word-is_step.ensures ∙ ap (λ os. is_step_word os word) c.heap.ensures ∙ sym tells in
    let begun = c.in_ok-begin_datum.ensures y (subst (λ w. ShowsEvent f.objects w c.args.label y) (sym c.copy_of.ensures) shows) in
    ended_one c.args.self.now c.count.new.self f c.too_big-verdict.new.self y c.is_step_word-is_step.result c.too_big-verdict.result _ _ _ is c.requires.empty begun c.in_ok-end_answer.ensures (c.too_big-verdict.ensures.comes y large tells) c.count.ensures given
