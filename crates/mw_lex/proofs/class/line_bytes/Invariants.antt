use Rattle.std.proofs.Common.{◌≡◌, true, take}
use Rattle.mw_model.specs.Texts.Lexemes.{is_inside_comment}
use Rattle.std.specs.List.{list_all}
use Rattle.mw_lex.proofs.class.line_bytes.Given as goal

abbrev pub invariant-loop-i : goal.invariant-loop-i
invariant-loop-i l = list_all is_inside_comment (take l.i l.bytes) ≡ true
