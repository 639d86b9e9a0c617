-- The event is judged.
use Rattle.std.proofs.Common.{ap, ◌∙◌}
use Rattle.mw_heap.specs.Objects.{object_at}
use Rattle.mw_kernel.specs.Fates.{fate_of}
use Rattle.mw_book.specs.Pieces.{explained_piece}
use Rattle.mw_book.proofs.ExplainedOne.{explained_one}
use Rattle.mw_book.proofs.explain.ExplainingTelling.judge.Goals as goal

pub returns : goal.returns
returns c =
    let k = c.args.kernel.now in
    let f = fate_of c.in_ok-fate.fate in
    let event = c.in_ok-fate.ensures in
    explained_one k _ c.args.number (object_at k.objects c.args.x) f _ _ _ _ event.fate event.theory event.steps c.requires.begun c.clear.ensures.items event.why
    (c.in_ok-write_piece.ensures ∙ ap (explained_piece f c.args.begun.now) c.deref.ensures.value)
