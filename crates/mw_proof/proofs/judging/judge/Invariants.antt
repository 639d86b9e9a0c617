-- A ledger of its own.
use Rattle.mw_proof.proofs.judging.judge.Given as goal

abbrev pub ghosts-judge_uncounted : goal.ghosts-judge_uncounted
ghosts-judge_uncounted a = record { name = a.blank.name; parts = a.blank.parts }
