-- A ledger of its own.
use Rattle.mw_subst.proofs.walk.substitute.Given as goal

abbrev pub ghosts-substitute_uncounted : goal.ghosts-substitute_uncounted
ghosts-substitute_uncounted a = record { name = a.blank.name; parts = a.blank.parts }
