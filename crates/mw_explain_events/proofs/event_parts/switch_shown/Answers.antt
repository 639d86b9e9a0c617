-- The name, or its claim.
use Rattle.std.proofs.Common.{◌≡◌, [], ◌∷◌, sym, subst}
use Rattle.mw_model.specs.Events.Refusal.{CHECKER}
use Rattle.mw_model.specs.Events.Fate.{Switch}
use Rattle.mw_heap.specs.Objects.{object_at}
use Rattle.mw_heap.specs.declared.vocabulary.refusal.Refusal.TheVariants as reason
use Rattle.mw_heap.specs.Variants.{refusal_of}
use Rattle.mw_theory.specs.Words.{switch_event}
use Rattle.mw_theory.proofs.CallerLemmas.{IfOk-map}
use Rattle.mw_commands.specs.Commands.Explanation.{shown_by}
use Rattle.mw_commands.specs.Commands.ExplanationTerms.{arity_shown}
use Rattle.mw_bad_steps.specs.Shown.{Shows}
use Rattle.mw_explain_events.proofs.EventReasons.{switch-claimed}
use Rattle.mw_explain_events.proofs.ReasonsMeant.{same-meant}
use Rattle.mw_explain_events.proofs.event_parts.switch_shown.Goals as goal

pub returns-in-Checker-clause-shown : goal.returns-in-Checker-clause-shown
returns-in-Checker-clause-shown c =
    let x = object_at c.args.heap.now.objects c.args.name in
    let new = c.arity_shown.new.heap.objects in
    IfOk-map c.arity_shown.result _ _ (λ v h t N arities refused. subst (λ q. Shows new v.items (shown_by (refusal_of q) Switch t N (switch_event x))) (sym c.in-Checker.is) (subst (λ A. Shows new v.items (arity_shown A x)) (sym arities) h)) c.arity_shown.ensures.shown

pub claim-requires-clause-symbol : goal.claim-requires-clause-symbol
claim-requires-clause-symbol c =
    let r = refusal_of c.args.reason in
    let other : r ≡ CHECKER → ⊥ = λ e. c.in_default.not-Checker (same-meant c.args.reason reason.Checker e) in
    (switch-claimed c.requires.refused.0 0 r (object_at c.args.heap.now.objects c.args.name) other c.requires.refused.1).0

pub just-requires : goal.just-requires
just-requires c = c.in_ok-formula.ensures.claim.0

pub returns-clause-shown : goal.returns-clause-shown
returns-clause-shown c =
    let x = object_at c.args.heap.now.objects c.args.name in
    let new = c.claim.new.heap.objects in
    let r = refusal_of c.args.reason in
    let other : r ≡ CHECKER → ⊥ = λ e. c.in_default.not-Checker (same-meant c.args.reason reason.Checker e) in
    IfOk-map c.just.result _ _ (λ v h t N arities refused. subst (λ q. Shows new v.items (shown_by q Switch t N (switch_event x))) (sym (switch-claimed t N r x other refused).1) (subst (λ y. Shows new v.items (y ∷ [])) c.in_ok-formula.ensures.claim.1 h)) c.just.ensures
