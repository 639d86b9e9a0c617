-- The heap grows four times, and what was in it stays.
use Rattle.std.proofs.Common.{ap₂, ◌∙◌}
use Rattle.std.proofs.lemmas.Result.{IfOk-weaker}
use Rattle.mw_model.specs.Terms.Object.{Pair}
use Rattle.mw_heap.proofs.Objects.{Grows-trans, IsIn-Grows, object_at-Grows}
use Rattle.mw_read.proofs.stack.quote.Goals as goal

pub returns-in_err-nil-clause-grows : goal.returns-in_err-nil-clause-grows
returns-in_err-nil-clause-grows c = Grows-trans _ _ _ c.word.ensures.grows c.nil.ensures.grows

pub pair-requires-clause-first_in : goal.pair-requires-clause-first_in
pair-requires-clause-first_in c = IsIn-Grows _ _ (Grows-trans _ _ _ c.word.ensures.grows c.nil.ensures.grows) _ c.requires

pub returns-in_err-tail-clause-grows : goal.returns-in_err-tail-clause-grows
returns-in_err-tail-clause-grows c = Grows-trans _ _ _ (Grows-trans _ _ _ c.word.ensures.grows c.nil.ensures.grows) c.pair.ensures.grows

pub pair-requires-2-clause-first_in : goal.pair-requires-2-clause-first_in
pair-requires-2-clause-first_in c = IsIn-Grows _ _ (Grows-trans _ _ _ c.nil.ensures.grows c.pair.ensures.grows) _ c.in_ok-word.ensures.made.0

pub returns-clause-grows : goal.returns-clause-grows
returns-clause-grows c = Grows-trans _ _ _ (Grows-trans _ _ _ (Grows-trans _ _ _ c.word.ensures.grows c.nil.ensures.grows) c.pair.ensures.grows) c.pair-2.ensures.grows

pub returns-clause-made : goal.returns-clause-made
returns-clause-made c =
    let word = object_at-Grows _ _ (Grows-trans _ _ _ c.nil.ensures.grows c.pair.ensures.grows) _ c.in_ok-word.ensures.made.0 ∙ c.in_ok-word.ensures.made.1 in
    let member = object_at-Grows _ _ (Grows-trans _ _ _ c.word.ensures.grows c.nil.ensures.grows) _ c.requires in
    let tail = c.in_ok-tail.ensures.made.1 ∙ ap₂ Pair member c.in_ok-nil.ensures.made.1 in
    IfOk-weaker c.pair-2.result _ _ (λ r made. (made.0, made.1 ∙ ap₂ Pair word tail)) c.pair-2.ensures.made
