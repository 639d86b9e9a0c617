-- A step is collected, an event answered; then no step is collected any more.
use Rattle.std.proofs.Common.{Result, Ok, Err, IfOk, OnOk, Some, None, refl, sym, ap, ◌∙◌, subst}
use Rattle.mw_model.specs.Events.Theory.{IsSound}
use Rattle.mw_model.specs.Terms.Object.{symbol, car, same_object}
use Rattle.mw_commands.specs.Commands.Log.{logged}
use Rattle.mw_heap.specs.Objects.{object_at}
use Rattle.mw_theory.proofs.CallerLemmas.{held, OnErr-from}
use Rattle.mw_flat.specs.Verdicts.{answer_of}
use Rattle.mw_flat.specs.Going.{theory_of, HasCollected, going_of, IsNoted, ComesBy, Comes}
use Rattle.mw_flat.proofs.Goings.{going-same}
use Rattle.mw_flat.proofs.Noting.{goes-on}
use Rattle.mw_flat.proofs.Answered.{step-headed, none-collected, forgotten}
use Rattle.mw_flat.proofs.flat.Flat.datum.Goals as goal

-- a value of which two things are said
both_said : {X E : Type 0} (r : Result X E) (P R : X → Type 0) (Q : Type 0) → IfOk r P → OnOk r Q → ((x : X) → P x → Q → R x) → IfOk r R
both_said (Ok x) P R Q p q f = f x p q
both_said (Err e) P R Q p q f = tt

pub invariant_of-self : goal.invariant_of-self
invariant_of-self c =
    let a = c.allow_looks.ensures in
    goes-on c.self.inside.world c.self.inside.collected c.self.invariant c.allow_looks.new.self a.world a.objects (ap (λ w. w.theory) a.rest) c.self.inside.collected refl refl refl

pub answer-verdict-requires-clause-going : goal.answer-verdict-requires-clause-going
answer-verdict-requires-clause-going c =
    let a = c.allow_looks.ensures in
    goes-on c.self.inside.world c.self.inside.collected c.self.invariant c.allow_looks.new.self a.world a.objects (ap (λ w. w.theory) a.rest) c.self.inside.collected refl refl refl

pub invariant_of-self-2 : goal.invariant_of-self-2
invariant_of-self-2 c =
    let v = c.cut.ensures in
    let f = c.forget.ensures in
    forgotten c.cut.new.self c.forget.new.self v.world (ap (λ t. t.checker) v.theory_kept ∙ c.answer-verdict.ensures.built_in) f.conclusions f.good f.count

pub returns-clause-sound : goal.returns-clause-sound
returns-clause-sound c = (held _ _ _ _ c.cut.ensures.world).sound

pub returns-in_err-collect-clause-sound : goal.returns-in_err-collect-clause-sound
returns-in_err-collect-clause-sound c = subst IsSound (sym c.collect.ensures.theory) (held _ _ _ _ c.allow_looks.ensures.world).sound

pub returns-in_err-collect-clause-err : goal.returns-in_err-collect-clause-err
returns-in_err-collect-clause-err c =
    let a = c.allow_looks.ensures in
    OnErr-from c.from_residual.result _ (c.collect.ensures.theory ∙ ap theory_of (going-same c.self.inside.world c.allow_looks.new.self c.self.inside.collected a.objects a.rest ∙ c.self.view_is))

pub returns-then-is_headed-clause-sound : goal.returns-then-is_headed-clause-sound
returns-then-is_headed-clause-sound c = subst IsSound (sym c.collect.ensures.theory) (held _ _ _ _ c.allow_looks.ensures.world).sound

pub returns-then-is_headed-clause-comes : goal.returns-then-is_headed-clause-comes
returns-then-is_headed-clause-comes c = λ steps h.
    let a = c.allow_looks.ensures in
    let old = c.args.self.now in
    let view = going-same c.self.inside.world c.allow_looks.new.self c.self.inside.collected a.objects a.rest ∙ c.self.view_is in
    let step = sym (step-headed (object_at old.objects c.args.x)) ∙ (ap (λ g. same_object (car (object_at g.objects c.args.x)) (symbol "STEP")) (sym view) ∙ (sym c.is_headed.ensures ∙ c.if-is_headed.true)) in
    subst (λ b. ComesBy b old c.collect.new.self steps (object_at old.objects c.args.x) None) (sym step)
    (subst (λ g. HasCollected g steps → IsNoted g c.collect.new.self steps (object_at g.objects c.args.x) None) view (c.in_ok-collect.ensures.noted steps) h)

pub returns-clause-comes : goal.returns-clause-comes
returns-clause-comes c = λ steps h.
    let a = c.allow_looks.ensures in
    let old = c.args.self.now in
    let now = c.allow_looks.new.self in
    let x = object_at old.objects c.args.x in
    let new = going_of c.cut.new.self c.forget.new.self in
    let view = going-same c.self.inside.world now c.self.inside.collected a.objects a.rest ∙ c.self.view_is in
    let said = c.answer-verdict.ensures in
    let here : HasCollected (going_of now c.self.inside.collected) steps = subst (λ g. HasCollected g steps) (sym view) h in
    let event = sym (step-headed x) ∙ (ap (λ g. same_object (car (object_at g.objects c.args.x)) (symbol "STEP")) (sym view) ∙ (sym c.is_headed.ensures ∙ c.if-is_headed.false)) in
    let same = ap (λ g. logged (theory_of g) steps (object_at g.objects c.args.x)) view in
    both_said c.answer-verdict.result _ (λ v. Comes v old new steps x) _ (said.answer steps here) (said.theory steps here)
    (λ v p q.
    subst (λ b. ComesBy b old new steps x (answer_of v)) (sym event)
    (record {
      answer = p ∙ ap (λ r. Some r.0) same;
      theory = c.cut.ensures.theory ∙ (q ∙ ap (λ r. r.1) same);
      collected = none-collected new c.forget.ensures.count c.forget.ensures.good c.forget.ensures.conclusions;
    }))
