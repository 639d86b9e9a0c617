use Rattle.std.proofs.Common.{◌≡◌, map, take}
use Rattle.mw_model.specs.Texts.Lexemes.{raised}
use Rattle.mw_lex.proofs.atoms.raise_all.Given as goal

abbrev pub invariant-loop-b : goal.invariant-loop-b
invariant-loop-b l = l.name.items ≡ map raised (take l.b-index l.token)
