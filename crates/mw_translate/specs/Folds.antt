-- AND, OR and LIST by their members: what stands for none, whether one stands for itself, and how one is joined to those after it.
use Rattle.std.specs.Prelude.{Bool, true, false, Option}
use Rattle.mw_model.specs.Terms.Object.{Object, symbol, list2, NIL, T}
use Rattle.mw_model.specs.Terms.Term.{ArityTable}
use Rattle.mw_translate.specs.declared.folds.Fold.{Fold}
use Rattle.mw_translate.specs.declared.folds.Fold.TheVariants as fold
use Rattle.mw_translate.specs.declared.part.Kind.{Kind}
use Rattle.mw_translate.specs.declared.part.Kind.TheVariants as kind
use Rattle.mw_translate.specs.Checked.{if_made, cons_made}
use Rattle.mw_translate.specs.Meaning.{Meaning}

abbrev pub fold_kind : Fold → Kind
fold_kind fold.And = kind.And
fold_kind fold.Or = kind.Or
fold_kind fold.List = kind.List

abbrev pub unit_of : Fold → Object
unit_of fold.And = T
unit_of fold.Or = NIL
unit_of fold.List = NIL

abbrev pub keeps_last : Fold → Bool
keeps_last fold.And = true
keeps_last fold.Or = true
keeps_last fold.List = false

abbrev pub joined : ArityTable → Fold → Object → Object → Option Meaning
joined A fold.And a b = if_made A a b (list2 (symbol "QUOTE") NIL)
joined A fold.Or a b = if_made A a a b
joined A fold.List a b = cons_made A a b
