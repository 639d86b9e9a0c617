-- The line is that of the datum.
use Rattle.std.proofs.Common.{[], ◌∷◌, ◌++◌, length, map, OnOk, refl, sym, ap, ◌∙◌, subst, append_assoc, eqb-true}
use Rattle.std.proofs.lemmas.List.{nil_from_length}
use Rattle.mw_model.specs.Terms.Object.{Natural, Symbol, Pair, symbol, name_of_bytes}
use Rattle.mw_model.specs.Events.Refusal.{reason_of}
use Rattle.mw_model.specs.Texts.Written.{IsWritten}
use Rattle.mw_heap.specs.Objects.{object_at}
use Rattle.mw_heap.specs.Variants.{refusal_of}
use Rattle.mw_commands.specs.Commands.ExplanationSteps.{listed}
use Rattle.mw_kernel.specs.Explained.{PutsLine}
use Rattle.mw_kernel.proofs.why.put_reason.Goals as goal

pub returns-clause-put : goal.returns-clause-put
returns-clause-put c =
    let next = c.in_ok-write_datum.field-0 in
    let out = c.in_ok-write_datum.ensures.written in (
      out.0 ++ 10 ∷ [],
      (out.0, next, subst (λ x. IsWritten x 1 out.0 next) c.in_ok-datum.ensures.made.1 out.2, refl),
      c.in_ok-push.ensures.items ∙ (ap (λ l. l ++ 10 ∷ []) out.1 ∙ append_assoc c.args.out.now.items out.0 (10 ∷ [])),
    )

pub returns-then-is_empty-clause-put : goal.returns-then-is_empty-clause-put
returns-then-is_empty-clause-put c =
    let os = c.args.heap.now.objects in
    let none = nil_from_length c.args.parts.now (eqb-true (length c.args.parts.now) 0 (sym c.is_empty.ensures ∙ c.if-is_empty.true)) in
    subst (λ ps. OnOk c.put_bare_reason.result (PutsLine (Pair (symbol "WHY") (Pair (Natural c.args.number) (Pair (Symbol (name_of_bytes (reason_of (refusal_of c.args.reason)))) (listed (map (object_at os) ps))))) c.args.out.now.items c.put_bare_reason.new.out.items)) (sym none) c.put_bare_reason.ensures
