-- It is one definition without a name and formals, or nothing is shown.
use Rattle.std.proofs.Common.{[], ◌∷◌, sym, ap, ap₂, ◌∙◌, subst}
use Rattle.mw_model.specs.Terms.Object.{NIL}
use Rattle.mw_heap.specs.Objects.{object_at}
use Rattle.mw_heap.specs.Variants.{refusal_of}
use Rattle.mw_heap.proofs.Objects.{IsIn-Grows, object_at-Grows}
use Rattle.mw_theory.proofs.CallerLemmas.{IfOk-map}
use Rattle.mw_commands.specs.Commands.Explanation.{drafts_shown}
use Rattle.mw_bad_steps.specs.Shown.{Shows}
use Rattle.mw_explain_events.proofs.EventReasons.{term-shown}
use Rattle.mw_explain_events.proofs.Showing.{Shows-empty}
use Rattle.mw_explain_events.proofs.event_parts.term_shown.Goals as goal

pub returns-then-not-is_of_definitions-clause-shown : goal.returns-then-not-is_of_definitions-clause-shown
returns-then-not-is_of_definitions-clause-shown c = λ t N arities refused.
    let os = c.args.heap.now.objects in
    let r = refusal_of c.args.reason in
    Shows-empty os _ _ c.new.ensures.items ((term-shown t N r (object_at os c.args.term) refused).1 (sym c.is_of_definitions.ensures ∙ c.if-not-is_of_definitions.true))

pub single_shown-requires-clause-draft : goal.single_shown-requires-clause-draft
single_shown-requires-clause-draft c =
    let nil = c.in_ok-nil.ensures.made.0 in
    (nil, nil, IsIn-Grows _ _ c.in_ok-nil.ensures.grows _ c.requires.term, nil)

pub returns-clause-shown : goal.returns-clause-shown
returns-clause-shown c =
    let os = c.args.heap.now.objects in
    let between = c.nil.new.self.objects in
    let new = c.single_shown.new.heap.objects in
    let r = refusal_of c.args.reason in
    let nil = c.in_ok-nil.ensures.made.1 in
    let x = object_at os c.args.term in
    let b = object_at-Grows os between c.in_ok-nil.ensures.grows c.args.term c.requires.term in
    let draft = ap₂ (λ n y. record { name = n; formals = n; body = y; measure = n }) nil b in
    IfOk-map c.single_shown.result _ _ (λ v h t N arities refused. subst (Shows new v.items)
    (ap (λ d. drafts_shown r c.args.arity.now c.args.arity.now (d ∷ [])) draft
    ∙ (ap (λ A. drafts_shown r A A (record { name = NIL; formals = NIL; body = x; measure = NIL } ∷ [])) (sym arities)
    ∙ (term-shown t N r x refused).0 (sym c.is_of_definitions.ensures ∙ c.if-not-is_of_definitions.false))) h) c.single_shown.ensures.shown
