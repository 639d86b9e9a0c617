-- The theory's checker as a judge.
use Rattle.std.specs.Prelude.{ℕ, cond, Some}
use Rattle.mw_model.specs.Terms.Object.{second_of, same_object}
use Rattle.mw_model.specs.Events.Refusal.{CONCLUSION}
use Rattle.mw_model.specs.Events.Checking.{judged}
use Rattle.mw_theory.specs.Proofs.{Judge}

-- with a step limit: the second member of the proof must be the formula
abbrev pub judged_for : ℕ → Judge
judged_for N t formula proof = cond (same_object (second_of proof) formula) (judged t proof N) (Some CONCLUSION)
