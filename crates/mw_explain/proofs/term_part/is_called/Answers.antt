-- The table has the symbol's name.
use Rattle.std.proofs.Common.{◌≡◌, is_some, sym, ap, ◌∙◌}
use Rattle.mw_model.specs.Terms.Object.{name_of_bytes}
use Rattle.mw_model.specs.Terms.Term.{arity_of}
use Rattle.mw_model.specs.Values.Primitive.{name_of}
use Rattle.mw_model.proofs.Names.{name_of_bytes-bytes}
use Rattle.mw_heap.specs.Objects.{object_at}
use Rattle.mw_explain.proofs.LookingDown.{called_symbol}
use Rattle.mw_explain.proofs.term_part.is_called.Goals as goal

pub returns-then-not-is_word : goal.returns-then-not-is_word
returns-then-not-is_word c =
    let A = c.args.arity.now in
    let x = object_at c.args.heap.now.objects c.args.head in
    let f = name_of x in
    let name : name_of_bytes c.name_of.result.now ≡ f = ap name_of_bytes (sym c.name_of.ensures) ∙ name_of_bytes-bytes f in
    let looked : c.lookup.result ≡ arity_of A f = c.lookup.ensures ∙ ap (arity_of A) name in
    c.is_some.ensures ∙ (ap is_some looked ∙ called_symbol A x c.in-Symbol.ensures.shows (sym c.is_word.ensures ∙ c.if-not-is_word.true))
