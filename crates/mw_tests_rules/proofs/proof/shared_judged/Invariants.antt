-- A ledger of its own.
use Rattle.mw_tests_rules.proofs.proof.shared_judged.Given as goal

abbrev pub ghosts-judged_counted : goal.ghosts-judged_counted
ghosts-judged_counted a = record { name = a.blank.name; parts = a.blank.parts }
