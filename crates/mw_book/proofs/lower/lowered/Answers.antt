-- The line is that of the new event.
use Rattle.std.proofs.Common.{[], ◌∷◌, ◌++◌, ap, subst, ◌∙◌}
use Rattle.mw_model.specs.Texts.Written.{IsWritten}
use Rattle.mw_heap.specs.Objects.{object_at}
use Rattle.mw_book.proofs.lower.lowered.Goals as goal

pub returns-clause-datum : goal.returns-clause-datum
returns-clause-datum c =
    let next = c.in_ok-write_datum.field-0 in
    let out = c.in_ok-write_datum.ensures.written in (
      out.0,
      next,
      subst (λ os. IsWritten (object_at os c.in_ok-lowered.lowered) 1 out.0 next) c.heap.ensures out.2,
      c.in_ok-push.ensures.items ∙ ap (λ l. l ++ 10 ∷ []) (out.1 ∙ ap (λ l. l ++ out.0) c.requires.empty),
    )
