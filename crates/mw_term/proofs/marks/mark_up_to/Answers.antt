-- One more mark each time.
use Rattle.std.proofs.Common.{◌≡◌, ◌∷◌, [], length, take, sym, ap, ◌∙◌, subst, length-append, arith}
use Rattle.std.proofs.lemmas.List.{take-append-le}
use Rattle.mw_heap.specs.Objects.{object_at}
use Rattle.mw_term.specs.Marking.{AreMarks, mark_of_object}
use Rattle.mw_term.proofs.ListMarks.{AreMarks-push}
use Rattle.mw_term.proofs.marks.mark_up_to.Goals as goal

pub loop-i-preserved : goal.loop-i-preserved
loop-i-preserved c =
    let os = c.args.heap.now.objects in
    let A = c.args.arity.now in
    let ms = c.loop-i.cells.items in
    let m = c.in_ok-mark.mark in
    let here : c.nth.result ≡ length ms = c.nth.ensures ∙ sym c.loop-i.invariant.reached in
    record {
      marked = subst (AreMarks A os) (sym c.in_ok-push.ensures.items) (AreMarks-push A os ms m c.loop-i.invariant.marked (omega (arith, c.loop-i.invariant.reached, c.requires.to, c.loop-i-test.true)) (c.in_ok-mark.ensures.mark ∙ ap (λ i. mark_of_object A (object_at os i)) here));
      reached = omega (arith, ap length c.in_ok-push.ensures.items, length-append ms (m ∷ []), c.loop-i.invariant.reached);
      kept =
          ap (take (length c.args.cells.now.items)) c.in_ok-push.ensures.items
          ∙ (take-append-le (length c.args.cells.now.items) ms (m ∷ []) (omega (arith, c.loop-i.invariant.reached, c.loop-i.auto.i, c.len-i.ensures)) ∙ c.loop-i.invariant.kept);
      bodies = c.in_ok-mark.ensures.bodies;
    }
