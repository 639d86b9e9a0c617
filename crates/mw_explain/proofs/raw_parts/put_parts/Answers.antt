-- A form, or a lambda call.
use Rattle.std.proofs.Common.{◌++◌, is_some, ap, ◌∙◌, arith}
use Rattle.std.proofs.lemmas.Result.{on_ok_weaker}
use Rattle.mw_model.specs.Terms.Term.{arity_of}
use Rattle.mw_model.specs.Values.Primitive.{name_of}
use Rattle.mw_model.specs.Events.Expansion.{abbreviation_of}
use Rattle.mw_heap.specs.Objects.{object_at}
use Rattle.mw_explain.specs.RawParts.{form_members, raw_parts}
use Rattle.mw_explain.proofs.PuttingParts.{puts-older, symbol-parts, other-parts, no_symbol}
use Rattle.mw_explain.proofs.raw_parts.put_parts.Goals as goal

pub returns-in-Symbol : goal.returns-in-Symbol
returns-in-Symbol c =
    let os = c.args.heap.now.objects in
    let A = c.args.newer.now ++ c.args.older.now in
    let head = object_at os c.in-Pair.head in
    let rest = object_at os c.in-Pair.rest in
    on_ok_weaker c.put_form.result
    (λ p. puts-older os c.args.x c.in-Pair.rest (raw_parts A (object_at os c.args.x)) (form_members (is_some (arity_of A (name_of head))) (abbreviation_of (name_of head)) rest) c.args.parts.now.refs.items c.put_form.new.parts.refs.items (ap (raw_parts A) c.in-Pair.ensures.shows.2 ∙ symbol-parts A head rest c.in-Symbol.ensures.shows) (omega (arith, c.in-Pair.ensures.below.1)) p)
    c.put_form.ensures

pub returns-in_default-view : goal.returns-in_default-view
returns-in_default-view c =
    let os = c.args.heap.now.objects in
    let A = c.args.newer.now ++ c.args.older.now in
    let head = object_at os c.in-Pair.head in
    let rest = object_at os c.in-Pair.rest in
    let below = c.in-Pair.ensures.below in
    on_ok_weaker c.put_lambda.result
    (λ p. puts-older os c.args.x c.args.x (raw_parts A (object_at os c.args.x)) _ c.args.parts.now.refs.items c.put_lambda.new.parts.refs.items (ap (raw_parts A) c.in-Pair.ensures.shows.2 ∙ other-parts A head rest (no_symbol os c.view-2.result head c.view-2.ensures.shows c.in_default-view.not-Symbol)) (omega arith) (p c.args.x below.0 below.1))
    c.put_lambda.ensures
