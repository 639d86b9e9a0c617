use Rattle.std.proofs.Common.{map}
use Rattle.mw_model.specs.Terms.Object.{name_of_bytes}
use Rattle.mw_model.specs.Texts.Lexemes.{raised}
use Rattle.mw_lex.proofs.RaisedNames.{is_name_raised}
use Rattle.mw_lex.proofs.token.token_of.Goals as goal

pub symbol-requires : goal.symbol-requires
symbol-requires g c = is_name_raised c.args.token.now (name_of_bytes (map raised c.args.token.now)) c.requires c.in-Name.ensures
