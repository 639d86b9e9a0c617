-- The arity table and the entries of a context.
use Rattle.std.specs.Prelude.{◌++◌}
use Rattle.mw_model.specs.Terms.Term.{ArityTable}
use Rattle.mw_translate.specs.declared.context.Context.{Context}
use Rattle.mw_translate.specs.Memo.{Entries}

abbrev pub arities : Context → ArityTable
arities context = context.newer.now ++ context.older.now

abbrev pub entries : Context → Entries
entries context = context.memo.now.made.entries
