-- Two pairs are compared by their leading terms, and where these are equal by their rests.
use Rattle.std.proofs.Common.{◌≡◌, true, false, ltb, sym, ap, ap₂, ◌∙◌}
use Rattle.mw_model.specs.Terms.Object.{same_object, car, cdr}
use Rattle.mw_model.specs.Values.Primitive.{number}
use Rattle.mw_heap.specs.Objects.{object_at}
use Rattle.mw_ordinal.proofs.Compared.{by_exponents, by_coefficients, by_rests, Turns-along}
use Rattle.mw_ordinal.proofs.heap_order.compare_once.Goals as goal

pub returns-then-not-is_same : goal.returns-then-not-is_same
returns-then-not-is_same c =
    let p = object_at c.args.heap.now.objects c.in-Pair.p in
    let q = object_at c.args.heap.now.objects c.in-Pair-view.q in
    let differ : same_object (car p) (car q) ≡ false = ap₂ same_object (sym c.car.ensures.value) (sym c.car-2.ensures.value) ∙ (sym c.is_same.ensures ∙ c.if-not-is_same.true) in
    let tells = by_exponents _ _ _ _ _ _ c.in-Pair.ensures.shows.2 c.in-Pair-view.ensures.shows.2 differ in
    let os = c.args.heap.now.objects in
    Turns-along os c.in-Pair.p c.args.x (car p) (car q) (object_at os c.args.x) (object_at os c.args.y) c.compare_exponents.result c.in-Pair.ensures.below.0 tells c.compare_exponents.ensures

pub returns-then-not-is_same-2 : goal.returns-then-not-is_same-2
returns-then-not-is_same-2 c =
    let p = object_at c.args.heap.now.objects c.in-Pair.p in
    let q = object_at c.args.heap.now.objects c.in-Pair-view.q in
    let same : same_object (car p) (car q) ≡ true = ap₂ same_object (sym c.car.ensures.value) (sym c.car-2.ensures.value) ∙ (sym c.is_same.ensures ∙ c.if-not-is_same.false) in
    let differ : same_object (cdr p) (cdr q) ≡ false = ap₂ same_object (sym c.cdr.ensures.value) (sym c.cdr-2.ensures.value) ∙ (sym c.is_same-2.ensures ∙ c.if-not-is_same-2.true) in
    let left = c.number.ensures ∙ ap number c.cdr-then-not-is_same-2.ensures.value in
    let right = c.number-then-not-is_same-2.ensures ∙ ap number c.cdr-then-not-is_same-2-2.ensures.value in
    by_coefficients _ _ _ _ _ _ c.in-Pair.ensures.shows.2 c.in-Pair-view.ensures.shows.2 same differ ∙ ap₂ ltb (sym left) (sym right)

pub returns : goal.returns
returns c =
    let p = object_at c.args.heap.now.objects c.in-Pair.p in
    let q = object_at c.args.heap.now.objects c.in-Pair-view.q in
    let same : same_object (car p) (car q) ≡ true = ap₂ same_object (sym c.car.ensures.value) (sym c.car-2.ensures.value) ∙ (sym c.is_same.ensures ∙ c.if-not-is_same.false) in
    let alike : same_object (cdr p) (cdr q) ≡ true = ap₂ same_object (sym c.cdr.ensures.value) (sym c.cdr-2.ensures.value) ∙ (sym c.is_same-2.ensures ∙ c.if-not-is_same-2.false) in
    let x = c.in-Pair.ensures.shows in
    let y = c.in-Pair-view.ensures.shows in
    (x.1, y.1, c.in-Pair.ensures.below.1, by_rests _ _ _ _ _ _ x.2 y.2 same alike)
