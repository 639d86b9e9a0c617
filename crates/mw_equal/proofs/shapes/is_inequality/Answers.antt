-- Both sides begin with PNOT*.
use Rattle.std.proofs.Common.{sym, ap, ◌∙◌}
use Rattle.std.proofs.Math.Bool.{and-true}
use Rattle.mw_model.specs.Terms.Object.{same_object}
use Rattle.mw_model.specs.Laws.Rules.{not_object, equal_object}
use Rattle.mw_heap.specs.Objects.{object_at}
use Rattle.mw_equal.proofs.shapes.is_inequality.Goals as goal

pub returns-in-Some : goal.returns-in-Some
returns-in-Some c =
    let os = c.args.heap.now.objects in
    let equality = equal_object (object_at os c.args.a) (object_at os c.args.b) in
    c.is_equal.ensures ∙ (sym (and-true (same_object (object_at os c.in-Some.equality) equality)) ∙ ap (λ x. same_object x (not_object equality)) (sym c.in-Some.ensures.member))

pub returns-in-None : goal.returns-in-None
returns-in-None c =
    let os = c.args.heap.now.objects in
    sym (c.in-None.ensures.member (equal_object (object_at os c.args.a) (object_at os c.args.b)))
