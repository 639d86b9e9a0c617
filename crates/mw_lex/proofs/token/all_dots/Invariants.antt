use Rattle.std.proofs.Common.{◌≡◌, drop}
use Rattle.mw_model.specs.Texts.Lexemes.{is_dot}
use Rattle.std.specs.List.{list_all}
use Rattle.mw_lex.proofs.token.all_dots.Given as goal

abbrev pub invariant-loop-b : goal.invariant-loop-b
invariant-loop-b l = list_all is_dot l.token ≡ list_all is_dot (drop l.b-index l.token)
