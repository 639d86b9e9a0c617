-- A member goes before the list of those after it.
use Rattle.std.proofs.Common.{◌≡◌, ◌-◌, ◌<◌, suc, length, drop, sym, ap, ap₂, ◌∙◌, subst, arith, drop-cons}
use Rattle.std.proofs.lemmas.List.Elements.{All-get_or}
use Rattle.mw_model.specs.Terms.Object.{Pair}
use Rattle.mw_heap.specs.Objects.{object_at, IsIn}
use Rattle.mw_heap.specs.Lists.{list_object}
use Rattle.mw_heap.proofs.Objects.{Grows-trans, object_at-Grows}
use Rattle.mw_heap.proofs.shapes.list.list_of.Goals as goal

pub returns-in_err-list-2-clause-grows : goal.returns-in_err-list-2-clause-grows
returns-in_err-list-2-clause-grows c = Grows-trans _ _ _ c.loop-index.invariant.0 c.in_err-list-2.ensures.grows

pub loop-index-preserved : goal.loop-index-preserved
loop-index-preserved c =
    let os = c.args.heap.now.objects in
    let members = c.args.members.now in
    let index = c.loop-index.index in
    let item = c.index-members-index.result in
    let some : 0 < index = omega (arith, c.loop-index-test.true) in
    let within : index - 1 < length members = omega (arith, some, c.loop-index.auto.index) in
    let at = c.index-members-index.is in
    let is_in = subst (IsIn os) (sym at) (All-get_or (IsIn os) members (index - 1) item within c.requires) in
    let rest = drop-cons members (index - 1) item within in
    let next : suc (index - 1) ≡ index = omega (arith, some) in
    let parts = ap₂ Pair (object_at-Grows _ _ c.loop-index.invariant.0 item is_in ∙ ap (object_at os) at) (c.loop-index.invariant.2 ∙ ap (λ n. list_object os (drop n members)) (sym next)) in (
      Grows-trans _ _ _ c.loop-index.invariant.0 c.in_ok-list-2.ensures.grows,
      c.in_ok-list-2.ensures.made.0,
      c.in_ok-list-2.ensures.made.1 ∙ (parts ∙ sym (ap (list_object os) rest)),
    )
