-- The code's kinds of fault as the text's.
use Rattle.mw_model.specs.Texts.Lexemes as lex
use Rattle.mw_read.specs.declared.step.SyntaxKind as codes
use Rattle.mw_read.specs.declared.step.SyntaxKind.TheVariants as kinds

abbrev pub kind_of : codes.SyntaxKind → lex.SyntaxKind
kind_of kinds.End = lex.END
kind_of kinds.Close = lex.CLOSE
kind_of kinds.Dot = lex.DOT
kind_of kinds.Token = lex.TOKEN
kind_of kinds.Byte = lex.BYTE
kind_of kinds.Label = lex.LABEL
kind_of kinds.Length = lex.LENGTH
