-- The first members of both decide.
use Rattle.std.proofs.Common.{◌&&◌, sym, ap, ap₂, ◌∙◌}
use Rattle.mw_model.specs.Terms.Object.{same_object, cdr}
use Rattle.mw_model.specs.Laws.Rules.{are_calls_of_one}
use Rattle.mw_heap.specs.Objects.{object_at}
use Rattle.mw_heap.specs.Parts.{part_at}
use Rattle.mw_equal.proofs.Calls.{calls_of_pairs, no_calls}
use Rattle.mw_equal.proofs.shapes.arguments_of_one.Goals as goal

pub returns-in_default-clause-calls : goal.returns-in_default-clause-calls
returns-in_default-clause-calls c =
    let os = c.args.heap.now.objects in
    ap (λ x. are_calls_of_one (part_at os x) (part_at os c.args.y)) c.in_default.is

pub returns-in_default-y-clause-calls : goal.returns-in_default-y-clause-calls
returns-in_default-y-clause-calls c =
    let os = c.args.heap.now.objects in
    ap (λ y. are_calls_of_one (part_at os c.args.x) (part_at os y)) c.in_default-y.is ∙ no_calls (part_at os c.args.x)

pub returns-then-not-is_function_symbol-clause-calls : goal.returns-then-not-is_function_symbol-clause-calls
returns-then-not-is_function_symbol-clause-calls c =
    let os = c.args.heap.now.objects in
    let first = ap (part_at os) c.in-Some.is ∙ c.in-Pair.ensures.shows.2 in
    let second = ap (part_at os) c.in-Some-y.is ∙ c.in-Pair-view.ensures.shows.2 in
    calls_of_pairs _ _ _ _ _ _ first second ∙ ap (λ b. b && same_object (object_at os c.in-Pair.f) (object_at os c.in-Pair-view.g)) (sym c.is_function_symbol.ensures ∙ c.if-not-is_function_symbol.true)

pub returns-then-not-same-clause-calls : goal.returns-then-not-same-clause-calls
returns-then-not-same-clause-calls c =
    let os = c.args.heap.now.objects in
    let first = ap (part_at os) c.in-Some.is ∙ c.in-Pair.ensures.shows.2 in
    let second = ap (part_at os) c.in-Some-y.is ∙ c.in-Pair-view.ensures.shows.2 in
    calls_of_pairs _ _ _ _ _ _ first second ∙ ap₂ ◌&&◌ (sym c.is_function_symbol.ensures ∙ c.if-not-is_function_symbol.false) (sym c.same.ensures.same ∙ c.if-not-same.true)

pub returns-clause-calls : goal.returns-clause-calls
returns-clause-calls c =
    let os = c.args.heap.now.objects in
    let first = ap (part_at os) c.in-Some.is ∙ c.in-Pair.ensures.shows.2 in
    let second = ap (part_at os) c.in-Some-y.is ∙ c.in-Pair-view.ensures.shows.2 in
    calls_of_pairs _ _ _ _ _ _ first second ∙ ap₂ ◌&&◌ (sym c.is_function_symbol.ensures ∙ c.if-not-is_function_symbol.false) (sym c.same.ensures.same ∙ c.if-not-same.false)

pub returns-clause-arguments : goal.returns-clause-arguments
returns-clause-arguments c =
    let os = c.args.heap.now.objects in
    let first = ap (part_at os) c.in-Some.is ∙ c.in-Pair.ensures.shows.2 in
    let second = ap (part_at os) c.in-Some-y.is ∙ c.in-Pair-view.ensures.shows.2 in
    (sym (ap cdr first), sym (ap cdr second))
