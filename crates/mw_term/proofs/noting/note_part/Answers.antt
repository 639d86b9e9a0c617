-- A rest that is no list of terms is all that the pair waits for.
use Rattle.std.proofs.Common.{◌≡◌, false, sym, ap, ◌∙◌, true≢false}
use Rattle.std.proofs.lemmas.Result.{IfOk-weaker}
use Rattle.mw_heap.specs.Objects.{object_at}
use Rattle.mw_term.specs.Watching.{passes, as_terms}
use Rattle.mw_term.proofs.noting.note_part.Goals as goal

pub returns-then-not-is_terms-clause-watched : goal.returns-then-not-is_terms-clause-watched
returns-then-not-is_terms-clause-watched c =
    let A = c.args.arity.now in
    let os = c.args.heap.now.objects in
    let denied : passes A (object_at os c.args.rest) as_terms ≡ false = ap (λ m. m.is_terms) (sym (c.mark_at.ensures A os c.requires.marked)) ∙ (sym c.is_terms.ensures ∙ c.if-not-is_terms.true) in
    IfOk-weaker c.note_unless_lasting.result _ _
    (λ lasts h. record {
      on_rest = λ d. h;
      on_first = λ passed symbol. absurd (true≢false (sym passed ∙ denied));
      on_name = λ passed f is word absent. absurd (true≢false (sym passed ∙ denied));
    })
    c.note_unless_lasting.ensures.watched
