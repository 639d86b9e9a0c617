-- The text is no longer than one that is written without labels.
use Rattle.std.proofs.Common.{◌≤◌, ◌∷◌, ◌++◌, [], length, ap, ◌∙◌, arith, length-append, append_assoc}
use Rattle.mw_model.specs.Terms.Object.{Natural}
use Rattle.mw_model.specs.Events.Fate.{longest}
use Rattle.mw_model.specs.Texts.Printing.{text_of}
use Rattle.mw_heap.specs.Objects.{object_at}
use Rattle.mw_theory.specs.Words.{verify_event}
use Rattle.mw_flat.proofs.ShortTheorems.{short_line}
use Rattle.mw_flat.proofs.flat_event.put_short_theorem.Goals as goal

pub returns-clause-put : goal.returns-clause-put
returns-clause-put c = λ e.
    let os = c.args.heap.now.objects in
    let old = c.args.piece.now.items in
    let x = verify_event (object_at os c.args.name) (object_at os c.args.formula) (Natural c.args.number) in
    let put = c.in_ok-put_theorem.ensures in
    let few : length (text_of x) ≤ longest = omega (arith, c.if-len-had.false, c.len.ensures, c.len-had.ensures, ap length put, length-append old (text_of x)) in
    (text_of x ++ 10 ∷ [], short_line x few, c.in_ok-push.ensures.items ∙ (ap (λ l. l ++ 10 ∷ []) put ∙ append_assoc old (text_of x) (10 ∷ [])))
