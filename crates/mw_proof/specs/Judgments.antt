-- What a judgment says.
use Rattle.std.specs.Prelude.{◌≡◌, ℕ, ◌+◌, ◌≤◌, Bool, true, false, List, length}
use Rattle.mw_model.specs.Terms.Object.{Object}
use Rattle.mw_proof.specs.Gathered.{AreProofsOf, AreGathered}
use Rattle.mw_proof.specs.declared.judging.Judged.{Judged}
use Rattle.mw_proof.specs.declared.judging.Judged.TheVariants.{Good, Bad, Memory}

-- the judgment is that answer, or out of memory
abbrev pub IsJudgment : Judged → Bool → Type 0
IsJudgment Good b = b ≡ true
IsJudgment Bad b = b ≡ false
IsJudgment Memory b = Unit {0}

-- one step for each of what the proof is made of
abbrev pub HasStepForEach : List Object → ℕ → ℕ → ℕ → Type 0
HasStepForEach os proof before after = (keys : List ℕ) × AreGathered os keys proof × (after ≡ before + length keys)

-- no more steps than the proof is made of
abbrev pub HasStepForSome : List Object → ℕ → ℕ → ℕ → Type 0
HasStepForSome os proof before after = (keys : List ℕ) × AreProofsOf os proof keys × (after ≤ before + length keys)

-- each was decided, or something did not hold of one, or memory ran out
abbrev pub DecidesEach : Judged → List Object → ℕ → ℕ → ℕ → Type 0
DecidesEach Good os proof before after = HasStepForEach os proof before after
DecidesEach Bad os proof before after = HasStepForSome os proof before after
DecidesEach Memory os proof before after = HasStepForSome os proof before after

-- the marks reach just to the end of the heap, or memory ran out and none of them went
abbrev pub Reaches : Judged → ℕ → ℕ → ℕ → Type 0
Reaches Good before end after = after ≡ end
Reaches Bad before end after = after ≡ end
Reaches Memory before end after = before ≤ after
