-- One substitution after another.
use Rattle.std.proofs.Common.{◌≡◌, sym, ◌∙◌, subst, arith}
use Rattle.mw_model.specs.Terms.Object.{Pair}
use Rattle.mw_model.specs.Laws.Rules.{is_substitution_object}
use Rattle.mw_heap.specs.Objects.{object_at}
use Rattle.mw_term.specs.Marking.{AreMarks}
use Rattle.mw_explain.proofs.ExtrasExact.{substitutions_next}
use Rattle.mw_explain.proofs.extras.are_substitutions.Goals as goal

pub loop-s-preserved : goal.loop-s-preserved
loop-s-preserved c =
    let os = c.args.heap.now.objects in
    let cur = c.loop-s.heap.objects in
    let inv = c.loop-s.invariant in
    let s = c.in-Pair.s in
    let more = c.in-Pair.more in
    let same = c.in_ok-take_searches_of_members.ensures ∙ (c.in_ok-take_searches.ensures ∙ inv.objects) in
    let below = c.in-Pair.ensures.below.1 in
    record {
      objects = same;
      within = omega (arith, below, inv.within);
      marked = omega (arith, below, inv.marked);
      same = λ A k.
          let shows = subst (λ h. object_at h c.loop-s.rest ≡ Pair (object_at h s) (object_at h more)) inv.objects c.in-Pair.ensures.shows.2 in
          let marks = subst (λ h. AreMarks A h c.args.marks.now) (sym same) k in
          let is = subst (λ h. c.is_substitution.result ≡ is_substitution_object A (object_at h s)) same (c.is_substitution.ensures A marks) in
          substitutions_next A (object_at os c.loop-s.rest) (object_at os s) (object_at os more) shows (sym is ∙ c.if-not-is_substitution.false) ∙ inv.same A k;
    }
