-- The head is made where there are formals that close the body.
use Rattle.std.proofs.Common.{List, Some, option_map, sym, ap, ◌∙◌}
use Rattle.mw_model.specs.Terms.Object.{Object, list3}
use Rattle.mw_heap.specs.Objects.{object_at}
use Rattle.mw_translate.proofs.calls.closed_head.Goals as goal

pub returns-in_default-clause-head : goal.returns-in_default-clause-head
returns-in_default-clause-head c = λ t h.
    let os = c.args.heap.now.objects in
    let l = object_at os c.args.lambda in
    let xs = object_at os c.args.list in
    let b = object_at os c.args.body in
    c.in_ok-count.ensures.count l t h ∙ ap (option_map (λ n. (list3 l xs b, n))) c.in_default.is

pub returns-clause-head : goal.returns-clause-head
returns-clause-head c = λ t h.
    let os = c.args.heap.now.objects in
    let l = object_at os c.args.lambda in
    let xs = object_at os c.args.list in
    let b = object_at os c.args.body in
    let same = ap (λ (g : List Object). list3 (object_at g c.args.lambda) (object_at g c.args.list) (object_at g c.args.body)) c.closing_formals.ensures.same in (
      c.in_ok-list_of_three.ensures.made.0,
      (c.in_ok-count.ensures.count l t h ∙ ap (option_map (λ n. (list3 l xs b, n))) c.in-Some.is) ∙ ap (λ z. Some (z, c.in-Some.count)) (sym same ∙ sym c.in_ok-list_of_three.ensures.made.1),
    )
