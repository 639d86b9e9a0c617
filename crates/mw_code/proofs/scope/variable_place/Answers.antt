-- A place that is known is right.
use Rattle.std.proofs.Common.{◌≡◌, ◌+◌, ◌≤◌, Some, sym, ap, ◌∙◌, subst, arith, rules}
use Rattle.std.specs.Map.{lookup}
use Rattle.mw_model.specs.Values.Primitive.{name_of}
use Rattle.mw_model.specs.Terms.Reading.{names_of}
use Rattle.mw_model.proofs.ReadBack.{some_one}
use Rattle.mw_heap.specs.Objects.{object_at}
use Rattle.mw_heap.specs.Parts.{part_at}
use Rattle.mw_code.specs.Jobs.{place_in}
use Rattle.mw_code.specs.Places.{same_variable}
use Rattle.mw_code.proofs.PlaceLemmas.{place-within}
use Rattle.mw_code.proofs.scope.variable_place.Goals as goal

pub overflow_add-result : goal.overflow_add-result
overflow_add-result c =
    let os = c.args.heap.now.objects in
    let (xs, scope, among) = c.requires.among in
    let found : lookup (same_variable (c.in-Some.formals, c.args.task.now.term)) c.args.places.now.entries ≡ Some c.in-Some-copied.place = sym c.get.ensures.value ∙ (sym c.copied.ensures ∙ c.in-Some-copied.is) in
    let names = subst (λ o. names_of (part_at os o) ≡ Some xs) c.in-Some.is scope.names in
    let place = c.requires.places (c.in-Some.formals, c.args.task.now.term) c.in-Some-copied.place found xs names scope.distinct in
    let below : c.args.task.now.scope.start + c.in-Some-copied.place ≤ c.args.task.now.height = omega (arith, place, scope.below, place-within xs (name_of (object_at os c.args.task.now.term)) among) in
    search (rules, below)

pub returns-in-Some-copied-clause-place : goal.returns-in-Some-copied-clause-place
returns-in-Some-copied-clause-place c xs names =
    let os = c.args.heap.now.objects in
    let (ys, scope, among) = c.requires.among in
    let same = some_one (sym scope.names ∙ names) in
    let found : lookup (same_variable (c.in-Some.formals, c.args.task.now.term)) c.args.places.now.entries ≡ Some c.in-Some-copied.place = sym c.get.ensures.value ∙ (sym c.copied.ensures ∙ c.in-Some-copied.is) in
    let here = subst (λ o. names_of (part_at os o) ≡ Some ys) c.in-Some.is scope.names in
    let place = c.requires.places (c.in-Some.formals, c.args.task.now.term) c.in-Some-copied.place found ys here scope.distinct in
    ap (λ n. c.args.task.now.scope.start + n) (place ∙ ap (λ l. place_in l (name_of (object_at os c.args.task.now.term))) same)
