-- The event made has the numbers of the proofs up to the end of their list.
use Rattle.std.proofs.Common.{ap, ◌∙◌}
use Rattle.std.proofs.lemmas.Result.{IfOk-weaker}
use Rattle.mw_model.specs.Terms.Object.{Pair, list1}
use Rattle.mw_heap.specs.Objects.{object_at}
use Rattle.mw_heap.specs.Lists.{list_object}
use Rattle.mw_heap.specs.Words.{word_object}
use Rattle.mw_flat.specs.FlatEvents.{numbers_object, put_before}
use Rattle.mw_flat.proofs.FlatWritten.{numbers_are, steps-proper, written_after}
use Rattle.mw_flat.proofs.flat_event.write_with_list.Goals as goal

pub returns : goal.returns
returns c =
    let os = c.args.heap.now.objects in
    let ps = object_at os c.args.proofs in
    let listed = ap (list_object os) c.deref.ensures.value ∙ c.in_ok-listed.ensures.members in
    let steps = c.in_ok-numbers.ensures.steps in
    let numbers = ap numbers_object c.deref-2.ensures.value ∙ numbers_are os ps c.deref.result.now c.in_ok-numbers.numbers.items listed c.in_ok-numbers.ensures.numbers in
    let made = c.in_ok-event.ensures.1 ∙ ap (λ o. Pair (word_object c.args.word) (put_before os c.args.members.now (list1 o))) (c.in_ok-list.ensures.1 ∙ numbers) in
    IfOk-weaker c.write_line.result _ _ (λ u line. written_after ps _ _ _ _ _ (steps.0, steps-proper ps _ steps.0 listed steps.1, steps.2) line c.requires.empty made) c.write_line.ensures
