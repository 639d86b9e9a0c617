-- When a judge may be asked, and what of it stays as it judges.
use Rattle.std.specs.Prelude.{◌≡◌, ℕ, List}
use Rattle.mw_model.specs.Terms.Object.{Object}
use Rattle.mw_heap.specs.Objects.{Grows}
use Rattle.mw_term.specs.Marking.{ObjectMark, AreMarks}
use Rattle.mw_theory.specs.declared.theory.Theory.{Theory as Kept}
use Rattle.mw_theory.specs.Knowledge.{IsHeld}
use Rattle.mw_theory.specs.Proofs.{Judge}

-- The theory is right over these objects, the marks are under its arity table, and the judge is ready.
pub record MayJudge {S : Type 0} (is_ready : S → List Object → Type 0) (judge : S) (os : List Object) (t : Kept) (marks : List ObjectMark) : Type 0 where
  pub held : IsHeld os t
  pub ready : (before : List Object) × Grows before os × is_ready judge before
  pub marked : AreMarks t.arity os marks

-- It says what it said, under the same limit, and is as ready.
pub record IsSameJudge {S : Type 0} (is_ready : S → List Object → Type 0) (judges : S → List Object → Judge) (limit_of : S → ℕ) (old new : S) : Type 0 where
  pub same : judges new ≡ judges old
  pub limit : limit_of new ≡ limit_of old
  pub ready : (os : List Object) → is_ready old os → is_ready new os
