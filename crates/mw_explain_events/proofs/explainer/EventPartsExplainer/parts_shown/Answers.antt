-- By the event's word.
use Rattle.std.proofs.Common.{◌≡◌, sym, subst}
use Rattle.mw_heap.specs.Objects.{object_at}
use Rattle.mw_heap.specs.Variants.{refusal_of}
use Rattle.mw_theory.specs.Knowledge.{parts_of, meant}
use Rattle.mw_theory.specs.Words.{IsEvent}
use Rattle.mw_theory.specs.declared.event.Event.{Event}
use Rattle.mw_theory.proofs.CallerLemmas.{IfOk-map}
use Rattle.mw_commands.specs.Commands.Explanation.{shown, word_of}
use Rattle.mw_bad_steps.specs.Shown.{Shows}
use Rattle.mw_explain_events.proofs.ExplainedEvents.{no-event-reason, IsTold, event-told, define-told, define-all-told, print-told, profile-told, witness-not-nested, term-not-nested}
use Rattle.mw_explain_events.proofs.Showing.{Shows-empty}
use Rattle.mw_explain_events.proofs.explainer.EventPartsExplainer.parts_shown.Goals as goal
use Rattle.mw_explain_events.proofs.explainer.EventPartsExplainer.parts_shown.Goals.{In-Some}

-- an event, by its members
told : (c : In-Some) (e : Event) → c.in-Some.members ≡ e → IsTold c.args.heap.now.objects (meant c.args.heap.now.objects (parts_of c.args.theory.now)) c.args.checker.now.steps c.args.event (refusal_of c.args.reason) e
told c e is = event-told _ _ _ _ _ c.event_of.ensures.in_range c.requires.refused e (subst (IsEvent c.args.heap.now.objects c.args.event) is c.in-Some.ensures.event)

pub members_shown-requires-clause-none : goal.members_shown-requires-clause-none
members_shown-requires-clause-none c = c.in_default.ensures.event

pub returns-in_default-clause-shown : goal.returns-in_default-clause-shown
returns-in_default-clause-shown c =
    let os = c.args.heap.now.objects in
    let t = meant os (parts_of c.args.theory.now) in
    let N = c.args.checker.now.steps in
    let e = object_at os c.args.event in
    let is = no-event-reason os t N c.args.event (refusal_of c.args.reason) c.event_of.ensures.in_range c.requires.refused c.in_default.ensures.event in
    IfOk-map c.members_shown.result _ _ (λ v h. subst (λ q. Shows c.members_shown.new.heap.objects v.items (shown q (word_of e) t N e)) (sym is) (h t N)) c.members_shown.ensures.shown

pub returns-in-Verify-clause-shown : goal.returns-in-Verify-clause-shown
returns-in-Verify-clause-shown c =
    let e = told (goal.at.returns-in-Verify-clause-shown c).In-Some _ c.in-Verify.is in
    IfOk-map c.verify_shown.result _ _ (λ v h. subst (Shows c.verify_shown.new.heap.objects v.items) e.shown (h c.args.checker.now.steps e.refused)) c.verify_shown.ensures.shown

pub definitions_shown-requires-clause-refused : goal.definitions_shown-requires-clause-refused
definitions_shown-requires-clause-refused c = (told (goal.at.definitions_shown-requires-clause-refused c).In-Some _ c.in-Define.is).refused

pub returns-in-Define-clause-shown : goal.returns-in-Define-clause-shown
returns-in-Define-clause-shown c =
    let e = told (goal.at.returns-in-Define-clause-shown c).In-Some _ c.in-Define.is in
    IfOk-map c.definitions_shown.result _ _ (λ v h. subst (Shows c.definitions_shown.new.heap.objects v.items) (define-told e) h) c.definitions_shown.ensures.shown

pub definitions_shown-requires-in-DefineAll-clause-refused : goal.definitions_shown-requires-in-DefineAll-clause-refused
definitions_shown-requires-in-DefineAll-clause-refused c = (told (goal.at.definitions_shown-requires-in-DefineAll-clause-refused c).In-Some _ c.in-DefineAll.is).refused

pub returns-in-DefineAll-clause-shown : goal.returns-in-DefineAll-clause-shown
returns-in-DefineAll-clause-shown c =
    let e = told (goal.at.returns-in-DefineAll-clause-shown c).In-Some _ c.in-DefineAll.is in
    IfOk-map c.definitions_shown-in-DefineAll.result _ _ (λ v h. subst (Shows c.definitions_shown-in-DefineAll.new.heap.objects v.items) (define-all-told e) h) c.definitions_shown-in-DefineAll.ensures.shown

pub witness_shown-requires-clause-other : goal.witness_shown-requires-clause-other
witness_shown-requires-clause-other c = witness-not-nested (told (goal.at.witness_shown-requires-clause-other c).In-Some _ c.in-Skolem.is)

pub returns-in-Skolem-clause-shown : goal.returns-in-Skolem-clause-shown
returns-in-Skolem-clause-shown c =
    let e = told (goal.at.returns-in-Skolem-clause-shown c).In-Some _ c.in-Skolem.is in
    IfOk-map c.witness_shown.result _ _ (λ v h. subst (Shows c.witness_shown.new.heap.objects v.items) e.shown (h _ _ (sym c.requires.held.arities) e.refused)) c.witness_shown.ensures.shown

pub switch_shown-requires-clause-refused : goal.switch_shown-requires-clause-refused
switch_shown-requires-clause-refused c = (meant c.args.heap.now.objects (parts_of c.args.theory.now), (told (goal.at.switch_shown-requires-clause-refused c).In-Some _ c.in-Switch.is).refused)

pub returns-in-Switch-clause-shown : goal.returns-in-Switch-clause-shown
returns-in-Switch-clause-shown c =
    let e = told (goal.at.returns-in-Switch-clause-shown c).In-Some _ c.in-Switch.is in
    IfOk-map c.switch_shown.result _ _ (λ v h. subst (Shows c.switch_shown.new.heap.objects v.items) e.shown (h _ _ (sym c.requires.held.arities) e.refused)) c.switch_shown.ensures.shown

pub term_shown-requires-clause-other : goal.term_shown-requires-clause-other
term_shown-requires-clause-other c = term-not-nested (told (goal.at.term_shown-requires-clause-other c).In-Some _ c.in-Eval.is)

pub returns-in-Eval-clause-shown : goal.returns-in-Eval-clause-shown
returns-in-Eval-clause-shown c =
    let e = told (goal.at.returns-in-Eval-clause-shown c).In-Some _ c.in-Eval.is in
    IfOk-map c.term_shown.result _ _ (λ v h. subst (Shows c.term_shown.new.heap.objects v.items) e.shown (h _ _ (sym c.requires.held.arities) e.refused)) c.term_shown.ensures.shown

pub returns-in-Print-clause-shown : goal.returns-in-Print-clause-shown
returns-in-Print-clause-shown c = Shows-empty c.args.heap.now.objects _ _ c.new.ensures.items (print-told (told (goal.at.returns-in-Print-clause-shown c).In-Some _ c.in-Print.is))

pub returns-in-Profile-clause-shown : goal.returns-in-Profile-clause-shown
returns-in-Profile-clause-shown c = Shows-empty c.args.heap.now.objects _ _ c.new-in-Profile.ensures.items (profile-told (told (goal.at.returns-in-Profile-clause-shown c).In-Some _ c.in-Profile.is))
