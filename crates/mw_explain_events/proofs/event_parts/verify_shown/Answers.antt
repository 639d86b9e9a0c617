-- By the reason.
use Rattle.std.proofs.Common.{◌≡◌, ◌∷◌, map, All, sym, ap, ◌∙◌, subst}
use Rattle.mw_model.specs.Terms.Object.{Natural}
use Rattle.mw_model.specs.Events.Refusal.{NAME, FORMULA}
use Rattle.mw_model.specs.Events.Fate.{Verify}
use Rattle.mw_heap.specs.Objects.{object_at, IsIn}
use Rattle.mw_heap.specs.declared.vocabulary.refusal.Refusal.TheVariants as reason
use Rattle.mw_heap.specs.Variants.{refusal_of}
use Rattle.mw_heap.proofs.Objects.{object_at-Grows}
use Rattle.mw_theory.specs.Knowledge.{parts_of, meant}
use Rattle.mw_theory.specs.Words.{verify_event}
use Rattle.mw_theory.proofs.CallerLemmas.{IfOk-map}
use Rattle.mw_commands.specs.Commands.Explanation.{shown_by}
use Rattle.mw_commands.specs.Commands.ExplanationTerms.{bad_formula, part_shown}
use Rattle.mw_bad_steps.specs.Shown.{Shows}
use Rattle.mw_explain_events.proofs.EventReasons.{verify-shown}
use Rattle.mw_explain_events.proofs.ReasonsMeant.{same-meant}
use Rattle.mw_explain_events.proofs.event_parts.verify_shown.Goals as goal

pub returns-in-Name-clause-shown : goal.returns-in-Name-clause-shown
returns-in-Name-clause-shown c =
    let os = c.args.heap.now.objects in
    let t = meant os (parts_of c.args.theory.now) in
    let e = verify_event (object_at os c.args.name) (object_at os c.args.formula) (object_at os c.args.proof) in
    IfOk-map c.just.result _ _ (λ v h N refused. subst (λ q. Shows os v.items (shown_by (refusal_of q) Verify t N e)) (sym c.in-Name.is) h) c.just.ensures

pub returns-in-Formula-clause-shown : goal.returns-in-Formula-clause-shown
returns-in-Formula-clause-shown c =
    let os = c.args.heap.now.objects in
    let new = c.formula_shown.new.heap.objects in
    let t = meant os (parts_of c.args.theory.now) in
    let f = object_at os c.args.formula in
    let e = verify_event (object_at os c.args.name) f (object_at os c.args.proof) in
    IfOk-map c.formula_shown.result _ _ (λ v h N refused. subst (λ q. Shows new v.items (shown_by (refusal_of q) Verify t N e)) (sym c.in-Formula.is) (subst (λ A. Shows new v.items (part_shown A (bad_formula A f))) c.requires.stands.held.arities h)) c.formula_shown.ensures.shown

pub numbered-requires-clause-parts : goal.numbered-requires-clause-parts
numbered-requires-clause-parts c = subst (λ l. All (IsIn c.wrong_proof_shown.new.heap.objects) l) (sym c.as_slice.ensures.value) c.in_ok-parts-in_default.ensures.shown.0

pub returns-in_ok-parts-in_default-clause-shown : goal.returns-in_ok-parts-in_default-clause-shown
returns-in_ok-parts-in_default-clause-shown c =
    let os = c.args.heap.now.objects in
    let between = c.wrong_proof_shown.new.heap.objects in
    let new = c.numbered.new.heap.objects in
    let t = meant os (parts_of c.args.theory.now) in
    let n = object_at os c.args.name in
    let f = object_at os c.args.formula in
    let p = object_at os c.args.proof in
    let r = refusal_of c.args.reason in
    let g = c.in_ok-parts-in_default.ensures.kept.grows in
    let not_name : r ≡ NAME → ⊥ = λ e. c.in_default.not-Name (same-meant c.args.reason reason.Name e) in
    let not_formula : r ≡ FORMULA → ⊥ = λ e. c.in_default.not-Formula (same-meant c.args.reason reason.Formula e) in
    IfOk-map c.numbered.result _ _ (λ v h N refused. subst (Shows new v.items)
    (ap (λ x. Natural 1 ∷ x ∷ map (object_at between) c.as_slice.result.now) (object_at-Grows os between g c.args.formula c.requires.formula)
    ∙ (ap (λ xs. Natural 1 ∷ f ∷ xs) (ap (map (object_at between)) c.as_slice.ensures.value ∙ c.in_ok-parts-in_default.ensures.shown.1)
    ∙ verify-shown t N n f p r not_name not_formula refused)) h) c.numbered.ensures.shown
