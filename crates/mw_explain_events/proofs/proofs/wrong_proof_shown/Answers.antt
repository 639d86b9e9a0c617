-- By the reason.
use Rattle.std.proofs.Common.{refl, sym, subst}
use Rattle.mw_heap.specs.Objects.{object_at}
use Rattle.mw_heap.specs.Variants.{refusal_of}
use Rattle.mw_theory.specs.Knowledge.{parts_of, meant}
use Rattle.mw_theory.proofs.CallerLemmas.{IfOk-map}
use Rattle.mw_commands.specs.Commands.Explanation.{wrong_proof}
use Rattle.mw_bad_steps.specs.Shown.{Shows}
use Rattle.mw_explain_events.proofs.Showing.{Shows-empty}
use Rattle.mw_explain_events.proofs.ReasonsMeant.{nothing-wrong}
use Rattle.mw_explain_events.proofs.proofs.wrong_proof_shown.Goals as goal

pub returns-in-Conclusion-clause-shown : goal.returns-in-Conclusion-clause-shown
returns-in-Conclusion-clause-shown c =
    let os = c.args.heap.now.objects in
    let new = c.conclusion_shown.new.heap.objects in
    let t = meant os (parts_of c.args.theory.now) in
    IfOk-map c.conclusion_shown.result _ _ (λ v h. subst (λ q. Shows new v.items (wrong_proof t (refusal_of q) (object_at os c.args.proof))) (sym c.in-Conclusion.is) h) c.conclusion_shown.ensures.shown

pub bad_step_shown-requires-clause-axioms : goal.bad_step_shown-requires-clause-axioms
bad_step_shown-requires-clause-axioms c = c.requires.stands.held.each_axiom_in

pub bad_step_shown-requires-clause-theorems : goal.bad_step_shown-requires-clause-theorems
bad_step_shown-requires-clause-theorems c = c.requires.stands.held.each_theorem_in

pub returns-in-Proof-clause-shown : goal.returns-in-Proof-clause-shown
returns-in-Proof-clause-shown c =
    let os = c.args.heap.now.objects in
    let new = c.bad_step_shown.new.heap.objects in
    let t = meant os (parts_of c.args.theory.now) in
    let h = c.requires.stands.held in
    IfOk-map c.bad_step_shown.result _ _ (λ v told. subst (λ q. Shows new v.items (wrong_proof t (refusal_of q) (object_at os c.args.proof))) (sym c.in-Proof.is) (told t (sym h.axioms_known) (sym h.theorems_known) (sym h.arities) refl)) c.bad_step_shown.ensures.shown

pub returns-in_default-clause-shown : goal.returns-in_default-clause-shown
returns-in_default-clause-shown c =
    let os = c.args.heap.now.objects in
    let t = meant os (parts_of c.args.theory.now) in
    let p = object_at os c.args.proof in
    Shows-empty os _ _ c.new.ensures.items (nothing-wrong t p c.args.reason c.in_default.not-Conclusion c.in_default.not-Proof)
