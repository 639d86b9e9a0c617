-- One fall after another, over the heap at the start.
use Rattle.std.proofs.Common.{◌<◌, length, sym, ap, ◌∙◌, subst, arith}
use Rattle.mw_heap.specs.Objects.{object_at, IsIn}
use Rattle.mw_model.specs.Terms.Object.{same_object}
use Rattle.mw_model.specs.Laws.RulesInduction.{fall_object}
use Rattle.mw_induct.specs.Pairs.{IsSubstitutionIn}
use Rattle.mw_induct.proofs.Forms.{falls_next}
use Rattle.mw_induct.proofs.Rests.{conclusion_within, next_substitution, next_conclusion}
use Rattle.mw_induct.proofs.falls.take_falls.Goals as goal

pub loop-s-preserved : goal.loop-s-preserved
loop-s-preserved c =
    let os = c.args.heap.now.objects in
    let o = object_at os in
    let i = c.loop-s.invariant in
    let s = c.in-Pair.s in
    let x = c.index-conclusions-taken.result in
    let next = next_substitution os c.loop-s.heap.objects c.loop-s.substitutions s c.in-Pair.more i.0 i.1 c.in-Pair.ensures.shows in
    let within : c.loop-s.taken < length c.args.conclusions.now = omega arith in
    let fall = sym (ap (λ h. same_object (object_at h x) (fall_object (object_at h c.args.measure) (object_at h c.args.condition) (object_at h s))) i.0) ∙ (sym c.in_ok-is_fall.ensures.fall ∙ c.if-not-branch.false) in (
      c.in_ok-is_fall.ensures.objects ∙ i.0,
      next.1,
      omega arith,
      λ rest. i.3 rest ∙ falls_next (o c.args.measure) (o c.args.condition) (o x) _ (o s) (o c.in-Pair.more) _ (o c.loop-s.substitutions) rest (next_conclusion os c.args.conclusions.now c.loop-s.taken x within c.index-conclusions-taken.is) next.2 fall,
    )

pub is_fall-requires-clause-substitution : goal.is_fall-requires-clause-substitution
is_fall-requires-clause-substitution c =
    let os = c.args.heap.now.objects in
    let i = c.loop-s.invariant in
    let s = c.in-Pair.s in
    let next = next_substitution os c.loop-s.heap.objects c.loop-s.substitutions s c.in-Pair.more i.0 i.1 c.in-Pair.ensures.shows in
    subst (λ h. IsSubstitutionIn h s) (sym i.0) next.0

pub is_fall-requires-clause-measure : goal.is_fall-requires-clause-measure
is_fall-requires-clause-measure c = subst (λ os. IsIn os c.args.measure) (sym c.loop-s.invariant.0) c.requires.measure

pub is_fall-requires-clause-condition : goal.is_fall-requires-clause-condition
is_fall-requires-clause-condition c = subst (λ os. IsIn os c.args.condition) (sym c.loop-s.invariant.0) c.requires.condition

pub is_fall-requires-clause-within : goal.is_fall-requires-clause-within
is_fall-requires-clause-within c = conclusion_within _ _ c.args.conclusions.now c.loop-s.taken _ c.loop-s.invariant.0 c.requires.conclusions (omega arith) c.index-conclusions-taken.is
