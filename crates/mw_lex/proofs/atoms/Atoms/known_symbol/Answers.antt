-- The symbol in the slot has the name of the token.
use Rattle.std.proofs.Common.{map, sym, ◌∙◌}
use Rattle.mw_model.specs.Texts.Lexemes.{raised}
use Rattle.mw_model.proofs.Names.{same_bytes-eq}
use Rattle.mw_heap.specs.Objects.{object_at}
use Rattle.mw_lex.proofs.Raised.{symbol_by_name}
use Rattle.mw_lex.proofs.atoms.Atoms.known_symbol.Goals as goal

pub returns-in-Symbol : goal.returns-in-Symbol
returns-in-Symbol c =
    let os = c.args.heap.now.objects in
    let b = map raised c.args.token.now in (
      c.in_ok-place.ensures,
      symbol_by_name (object_at os c.in_ok-place.place) b c.in-Symbol.ensures.shows
          (c.name_of.ensures ∙ sym (same_bytes-eq b c.name_of.result.now (sym c.is_raised.ensures ∙ c.if-is_raised.true))),
    )
