-- The word of the name has the logic's value at the constants, in their places.
use Rattle.std.proofs.Common.{[], ◌∷◌, sym, ap, ap₂, ◌∙◌}
use Rattle.mw_model.specs.Terms.Object.{same_object, second_of}
use Rattle.mw_model.specs.Values.Primitive.{name_of}
use Rattle.mw_heap.specs.Objects.{object_at}
use Rattle.mw_heap.specs.Parts.{part_at}
use Rattle.mw_base.specs.Answers.{value_of}
use Rattle.mw_base.proofs.PrimitiveValues.{is_that_value-some, is_that_value-none}
use Rattle.mw_base.proofs.rule.has_value.Goals as goal

pub returns-in-Some : goal.returns-in-Some
returns-in-Some c =
    let os = c.args.heap.now.objects in
    let v = part_at os c.args.v in
    let f = name_of (object_at os c.args.f) in
    let word = sym c.in-Some.is ∙ c.named.ensures f c.name_of.ensures in
    let first = c.unquoted-a.ensures.value ∙ ap second_of c.car.ensures.value in
    let second = c.unquoted-b.ensures.value ∙ ap second_of c.second_of.ensures.value in
    let third = c.unquoted-c.ensures.value ∙ ap second_of c.third_of.ensures.value in
    let members = ap₂ ◌∷◌ first (ap₂ ◌∷◌ second (ap (λ x. x ∷ []) third)) in
    c.is_value.ensures ∙ (ap (λ vs. same_object (value_of c.in-Some.p vs) v) members ∙ is_that_value-some _ f (object_at os c.args.args) v c.in-Some.p word)

pub returns-in-None : goal.returns-in-None
returns-in-None c =
    let os = c.args.heap.now.objects in
    let f = name_of (object_at os c.args.f) in
    is_that_value-none _ f (object_at os c.args.args) (part_at os c.args.v) (sym c.in-None.is ∙ c.named.ensures f c.name_of.ensures)
