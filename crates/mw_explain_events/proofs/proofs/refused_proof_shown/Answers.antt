-- By the first bad step, or by the checker's answer.
use Rattle.std.proofs.Common.{sym, ap, ap₂, ◌∙◌, subst}
use Rattle.mw_heap.specs.Objects.{object_at}
use Rattle.mw_heap.specs.Variants.{refusal_of}
use Rattle.mw_heap.proofs.Objects.{Grows-refl, object_at-Grows}
use Rattle.mw_theory.specs.Knowledge.{parts_of, meant}
use Rattle.mw_theory.proofs.CallerLemmas.{IfOk-map, held-grows, meant-grows}
use Rattle.mw_commands.specs.Commands.Explanation.{wrong_proof}
use Rattle.mw_bad_steps.specs.Shown.{Shows}
use Rattle.mw_explain_events.proofs.RefusedProofs.{proof-found, judged-none, judged-some}
use Rattle.mw_explain_events.proofs.proofs.refused_proof_shown.Goals as goal

pub returns-in-Proof-clause-shown : goal.returns-in-Proof-clause-shown
returns-in-Proof-clause-shown c =
    let os = c.args.heap.now.objects in
    let t = meant os (parts_of c.args.theory.now) in
    let p = object_at os c.args.proof in
    let is = ap refusal_of c.in-Proof.is in
    IfOk-map c.bad_step_of.result _ _ (λ o h. proof-found t c.args.checker.now.steps (object_at os c.args.formula) p (c.requires.built_in is) (c.bad_steps.ensures.some t p) (c.bad_steps.ensures.none t p) (λ v. v.items) c.bad_step_of.new.heap.objects o (refusal_of c.args.reason) is c.requires.reason h) c.bad_step_of.ensures.shown

pub refusal-requires-clause-ready : goal.refusal-requires-clause-ready
refusal-requires-clause-ready c = let os = c.args.heap.now.objects in (os, Grows-refl os, tt)

pub returns-then-not-is_some-clause-shown : goal.returns-then-not-is_some-clause-shown
returns-then-not-is_some-clause-shown c =
    let os = c.args.heap.now.objects in
    judged-none c.in_ok-refused.refused _ (sym c.is_some.ensures ∙ c.if-not-is_some.true) (c.in_ok-refused.ensures.refusal os (Grows-refl os) tt)

pub wrong_proof_shown-requires-clause-stands : goal.wrong_proof_shown-requires-clause-stands
wrong_proof_shown-requires-clause-stands c = record { held = held-grows _ _ c.in_ok-refused.ensures.grows _ c.requires.stands.held; marked = c.in_ok-refused.ensures.marked }

pub returns-clause-shown : goal.returns-clause-shown
returns-clause-shown c =
    let os = c.args.heap.now.objects in
    let between = c.refusal.new.heap.objects in
    let new = c.wrong_proof_shown.new.heap.objects in
    let g = c.in_ok-refused.ensures.grows in
    let r = refusal_of c.args.reason in
    let same = ap₂ (λ t p. wrong_proof t r p) (meant-grows os between g c.args.theory.now c.requires.stands.held) (object_at-Grows os between g c.args.proof c.requires.proof) in (
      judged-some r c.in_ok-refused.refused _ (sym c.is_some.ensures ∙ c.if-not-is_some.false) (c.in_ok-refused.ensures.refusal os (Grows-refl os) tt) c.requires.reason,
      subst (Shows new c.in_ok-parts.parts.items) same c.in_ok-parts.ensures.shown,
    )
