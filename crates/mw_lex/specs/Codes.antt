-- The code's types as the definitions'.
use Rattle.mw_model.specs.Texts.Lexemes.{Class}
use Rattle.mw_model.specs.Texts.Lexemes as lex
use Rattle.mw_lex.specs.declared.class.Class as code
use Rattle.mw_lex.specs.declared.class.Class.TheVariants as classes

abbrev pub class_of : code.Class → Class
class_of classes.White = lex.White
class_of classes.Semicolon = lex.Semicolon
class_of classes.Opening = lex.Opening
class_of classes.Closing = lex.Closing
class_of classes.Apostrophe = lex.Apostrophe
class_of classes.Bar = lex.Bar
class_of classes.Hash = lex.Hash
class_of classes.Constituent = lex.Constituent
class_of classes.Other = lex.Other
