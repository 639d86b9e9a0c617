use Rattle.std.proofs.Common.{◌≡◌, map, take}
use Rattle.mw_model.specs.Texts.Lexemes.{raised}
use Rattle.mw_lex.proofs.atoms.is_raised.Given as goal

abbrev pub invariant-loop-i : goal.invariant-loop-i
invariant-loop-i l = map raised (take l.i l.token) ≡ take l.i l.name
