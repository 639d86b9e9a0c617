-- A formula and its proof at a time.
use Rattle.std.proofs.Common.{◌∷◌, map, All, arith, refl, sym, ap, ap₂, ◌∙◌, subst}
use Rattle.mw_model.specs.Terms.Object.{Natural}
use Rattle.mw_heap.specs.Objects.{object_at, IsIn}
use Rattle.mw_heap.specs.Variants.{refusal_of}
use Rattle.mw_heap.proofs.Objects.{Grows-refl, Grows-trans, IsIn-Grows, object_at-Grows}
use Rattle.mw_heap.proofs.NoPair.{shown_no_pair}
use Rattle.mw_term.proofs.CallerLemmas.{AreMarks-grows}
use Rattle.mw_theory.specs.Knowledge.{parts_of, meant}
use Rattle.mw_theory.proofs.CallerLemmas.{held-grows, meant-grows, IfOk-map}
use Rattle.mw_bad_steps.specs.Shown.{Shows}
use Rattle.mw_explain_events.proofs.Showing.{Shows-empty}
use Rattle.mw_kernel.specs.Proofs.{judged_for}
use Rattle.mw_explain_events.specs.Reasons.{IsNoneOr}
use Rattle.mw_explain_events.proofs.ProofReasons.{proofs-built-in}
use Rattle.mw_explain_events.proofs.RefusedProofs.{shown-none, shown-some, Walks-first, Walks-next, reason-here, shown-here, none-left, never-too-few}
use Rattle.mw_explain_events.proofs.proofs.first_refused_shown.Goals as goal

pub unreachable-requires : goal.unreachable-requires
unreachable-requires c =
    let now = c.loop-formula.heap.objects in
    let no_proof = shown_no_pair now c.view-in-Pair.result (object_at now c.loop-formula.rest) c.view-in-Pair.ensures.shows c.in_default-view.not-Pair in
    never-too-few _ _ _ _ _ _ _ _ _ _ _ _ _ c.loop-formula.invariant.0 c.in-Pair.ensures.below.0 c.in-Pair.ensures.below.1 c.in-Pair.ensures.shows.2 no_proof

pub loop-formula-init : goal.loop-formula-init
loop-formula-init c =
    let os = c.args.heap.now.objects in
    let (Fs, is, refused) = c.requires.refused in
    (Walks-first os c.args.theory.now c.args.checker.now.steps (refusal_of c.args.reason) c.args.formulas c.args.proofs c.args.marks.now (Grows-refl os) c.requires.stands.marked c.requires.formulas c.requires.proofs Fs is refused, refl)

pub refused_proof_shown-requires-clause-formula : goal.refused_proof_shown-requires-clause-formula
refused_proof_shown-requires-clause-formula c =
    let w = c.loop-formula.invariant.0 in
    IsIn-Grows _ _ w.grows _ (omega (arith, c.in-Pair.ensures.below.0, w.left_in))

pub refused_proof_shown-requires-clause-proof : goal.refused_proof_shown-requires-clause-proof
refused_proof_shown-requires-clause-proof c =
    let w = c.loop-formula.invariant.0 in
    IsIn-Grows _ _ w.grows _ (omega (arith, c.in-Pair-view.ensures.below.0, w.rest_in))

pub refused_proof_shown-requires-clause-stands : goal.refused_proof_shown-requires-clause-stands
refused_proof_shown-requires-clause-stands c =
    let w = c.loop-formula.invariant.0 in
    record { held = held-grows _ _ w.grows _ c.requires.stands.held; marked = w.marked }

pub refused_proof_shown-requires-clause-reason : goal.refused_proof_shown-requires-clause-reason
refused_proof_shown-requires-clause-reason c =
    let now = c.loop-formula.heap.objects in
    let pair = c.in-Pair.ensures in
    let proof = c.in-Pair-view.ensures in
    subst (λ N. IsNoneOr (refusal_of c.args.reason) (judged_for N (meant now (parts_of c.args.theory.now)) (object_at now c.in-Pair.formula) (object_at now c.in-Pair-view.proof))) (sym c.loop-formula.invariant.1)
    (reason-here _ _ _ _ _ _ c.requires.stands.held _ _ _ _ _ c.loop-formula.invariant.0 _ _ _ _ pair.below.0 pair.below.1 proof.below.0 proof.below.1 pair.shows.2 proof.shows.2)

pub refused_proof_shown-requires-clause-built_in : goal.refused_proof_shown-requires-clause-built_in
refused_proof_shown-requires-clause-built_in c = λ e.
    let os = c.args.heap.now.objects in
    let now = c.loop-formula.heap.objects in
    let (Fs, is, refused) = c.requires.refused in
    ap (λ t. t.checker) (meant-grows os now c.loop-formula.invariant.0.grows c.args.theory.now c.requires.stands.held)
    ∙ proofs-built-in (meant os (parts_of c.args.theory.now)) c.args.checker.now.steps Fs (object_at os c.args.proofs) (refusal_of c.args.reason) refused.1 e

pub loop-formula-preserved : goal.loop-formula-preserved
loop-formula-preserved c =
    let now = c.loop-formula.heap.objects in
    let pair = c.in-Pair.ensures in
    let proof = c.in-Pair-view.ensures in
    let w = c.loop-formula.invariant.0 in
    let same = c.loop-formula.invariant.1 in
    let none = sym (ap (λ N. judged_for N (meant now (parts_of c.args.theory.now)) (object_at now c.in-Pair.formula) (object_at now c.in-Pair-view.proof)) same) ∙ shown-none _ _ c.in_ok-shown.shown c.in_default-shown.is c.in_ok-shown.ensures.shown in (
      Walks-next _ _ _ _ _ _ c.requires.stands.held _ _ _ _ _ w _ _ _ _ pair.below.0 pair.below.1 proof.below.0 proof.below.1 pair.shows.2 proof.shows.2
          none _ _ _ c.in_ok-shown.ensures.kept.grows c.in_ok-shown.ensures.kept.marked c.in_ok-number.ensures,
      c.in_ok-shown.ensures.steps ∙ same,
    )

pub numbered-requires-clause-formula : goal.numbered-requires-clause-formula
numbered-requires-clause-formula c =
    let w = c.loop-formula.invariant.0 in
    IsIn-Grows _ _ (Grows-trans _ _ _ w.grows c.in_ok-shown.ensures.kept.grows) _ (omega (arith, c.in-Pair.ensures.below.0, w.left_in))

pub returns-in-Some-clause-kept : goal.returns-in-Some-clause-kept
returns-in-Some-clause-kept c =
    let shown = c.in_ok-shown.ensures.kept in
    let g = c.numbered.ensures.grows in
    record {
      grows = Grows-trans _ _ _ (Grows-trans _ _ _ c.loop-formula.invariant.0.grows shown.grows) g;
      marked = AreMarks-grows _ _ _ _ g shown.marked;
    }

pub returns-in-Some-clause-shown : goal.returns-in-Some-clause-shown
returns-in-Some-clause-shown c =
    let now = c.loop-formula.heap.objects in
    let between = c.refused_proof_shown.new.heap.objects in
    let new = c.numbered.new.heap.objects in
    let pair = c.in-Pair.ensures in
    let proof = c.in-Pair-view.ensures in
    let w = c.loop-formula.invariant.0 in
    let same = c.loop-formula.invariant.1 in
    let f = c.in-Pair.formula in
    let g = c.in_ok-shown.ensures.kept.grows in
    let (told, shows) = shown-some _ _ c.in_ok-shown.shown c.in-Some.parts c.in-Some.is c.in_ok-shown.ensures.shown in
    let refused = sym (ap (λ N. judged_for N (meant now (parts_of c.args.theory.now)) (object_at now f) (object_at now c.in-Pair-view.proof)) same) ∙ told in
    let within = IsIn-Grows _ _ w.grows f (omega (arith, pair.below.0, w.left_in)) in
    IfOk-map c.numbered.result _ _ (λ v h Fs is. subst (Shows new v.items)
    (ap₂ (λ x xs. Natural c.loop-formula.number ∷ x ∷ xs) (object_at-Grows now between g f within) (ap (map (object_at between)) c.as_slice.ensures.value ∙ shows.1)
    ∙ shown-here _ _ _ _ _ _ c.requires.stands.held _ _ _ _ _ w _ _ _ _ pair.below.0 pair.below.1 proof.below.0 proof.below.1 pair.shows.2 proof.shows.2 refused Fs is) h) c.numbered.ensures.shown

pub numbered-requires-clause-parts : goal.numbered-requires-clause-parts
numbered-requires-clause-parts c =
    let (told, shows) = shown-some _ _ c.in_ok-shown.shown c.in-Some.parts c.in-Some.is c.in_ok-shown.ensures.shown in
    subst (λ l. All (IsIn c.refused_proof_shown.new.heap.objects) l) (sym c.as_slice.ensures.value) shows.0

pub returns-clause-shown : goal.returns-clause-shown
returns-clause-shown c = λ Fs is.
    let now = c.loop-formula.heap.objects in
    let w = c.loop-formula.invariant.0 in
    let end = shown_no_pair now c.view.result (object_at now c.loop-formula.left) c.view.ensures.shows c.in_default.not-Pair in
    Shows-empty now _ _ c.new.ensures.items (none-left _ _ _ _ _ _ _ _ _ _ _ w end Fs is)
