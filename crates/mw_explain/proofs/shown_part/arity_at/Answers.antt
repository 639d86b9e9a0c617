-- The arity of the symbol's name.
use Rattle.std.proofs.Common.{◌≡◌, ◌++◌, option_map, option_to_list, sym, ap, ◌∙◌}
use Rattle.mw_model.specs.Terms.Object.{Natural, name_of_bytes}
use Rattle.mw_model.specs.Terms.Term.{arity_of}
use Rattle.mw_model.specs.Values.Primitive.{name_of}
use Rattle.mw_model.proofs.Names.{name_of_bytes-bytes}
use Rattle.mw_heap.specs.Objects.{object_at}
use Rattle.mw_explain.proofs.ShownParts.{symbol-arity}
use Rattle.mw_explain.proofs.shown_part.arity_at.Goals as goal

pub returns-in-Symbol : goal.returns-in-Symbol
returns-in-Symbol c =
    let A = c.args.newer.now ++ c.args.older.now in
    let x = object_at c.args.heap.now.objects c.args.x in
    let f = name_of x in
    let name : name_of_bytes c.name_of.result.now ≡ f = ap name_of_bytes (sym c.name_of.ensures) ∙ name_of_bytes-bytes f in
    let looked : c.look_up.result ≡ arity_of A f = c.look_up.ensures ∙ ap (arity_of A) name in
    ap (λ o. option_to_list (option_map Natural o)) looked ∙ symbol-arity A x c.in-Symbol.ensures.shows
