-- A ledger of its own.
use Rattle.mw_tests_text.proofs.subst.substitutes_in_shared.Given as goal

abbrev pub ghosts-with_term_uncounted : goal.ghosts-with_term_uncounted
ghosts-with_term_uncounted a = record { name = a.blank.name; parts = a.blank.parts }
