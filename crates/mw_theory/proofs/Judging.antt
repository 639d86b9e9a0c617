-- A judge that may be asked, as the heap grows, and one that has judged.
use Rattle.std.proofs.Common.{◌≡◌, ℕ, List, ◌∙◌}
use Rattle.mw_model.specs.Terms.Object.{Object}
use Rattle.mw_heap.specs.Objects.{Grows}
use Rattle.mw_heap.proofs.Objects.{Grows-trans}
use Rattle.mw_term.specs.Marking.{ObjectMark}
use Rattle.mw_term.proofs.CallerLemmas.{AreMarks-grows}
use Rattle.mw_theory.specs.declared.theory.Theory.{Theory as Kept}
use Rattle.mw_theory.specs.Proofs.{Judge}
use Rattle.mw_theory.specs.Judging.{MayJudge, IsSameJudge}
use Rattle.mw_theory.proofs.Held.{held-grows}

pub may_judge_grows : {S : Type 0} (ready : S → List Object → Type 0) (judge : S) (old new : List Object) (t : Kept) (marks : List ObjectMark) → Grows old new → MayJudge ready judge old t marks → MayJudge ready judge new t marks
may_judge_grows ready judge old new t marks grows may =
    let (before, grown, is) = may.ready in
    record {
      held = held-grows old new grows t may.held;
      ready = (before, Grows-trans before old new grown grows, is);
      marked = AreMarks-grows _ _ _ _ grows may.marked;
    }

-- the same judge as one that was the same
pub same_judge_later : {S : Type 0} (ready : S → List Object → Type 0) (judges : S → List Object → Judge) (limit : S → ℕ) (old mid new : S) → IsSameJudge ready judges limit old mid → judges new ≡ judges mid → limit new ≡ limit mid → ((os : List Object) → ready mid os → ready new os) → IsSameJudge ready judges limit old new
same_judge_later ready judges limit old mid new was same same_limit as_ready = record {
  same = same ∙ was.same;
  limit = same_limit ∙ was.limit;
  ready = λ os h. as_ready os (was.ready os h);
}
