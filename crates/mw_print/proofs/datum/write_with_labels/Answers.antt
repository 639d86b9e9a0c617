-- The text with labels is what is owed.
use Rattle.std.proofs.Common.{◌++◌, ap, ◌∙◌}
use Rattle.mw_heap.specs.Objects.{object_at}
use Rattle.mw_print.proofs.Data.{written_long}
use Rattle.mw_print.proofs.datum.write_with_labels.Goals as goal

pub returns-clause-written : goal.returns-clause-written
returns-clause-written c =
    let os = c.args.heap.now.objects in
    let out = c.extend_from_slice.new.self.items in
    written_long os (object_at os c.args.x) c.args.again.now.keys c.args.first c.in_ok-text.text.items c.in_ok-text.next c.args.out.now.items out c.requires.long c.requires.again c.in_ok-text.ensures.text c.in_ok-text.ensures.next
    (c.in_ok-extend_from_slice.ensures.items ∙ ap (λ t. c.args.out.now.items ++ t) c.as_slice.ensures.value)
