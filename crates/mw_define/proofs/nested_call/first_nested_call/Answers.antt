-- Measures do not count.
use Rattle.std.proofs.Common.{map, sym, ap, ◌∙◌, subst}
use Rattle.std.proofs.lemmas.Result.{IfOk-weaker}
use Rattle.mw_heap.proofs.Objects.{Grows-trans}
use Rattle.mw_define.specs.Blocks.{draft_at, AreDraftsIn}
use Rattle.mw_define.specs.NestedCall.{IsNestedFrom, measures_expand}
use Rattle.mw_define.proofs.NestedDrafts.{plain-in, plain-measures, plain-nested}
use Rattle.mw_define.proofs.nested_call.first_nested_call.Goals as goal

pub nested_among-requires-clause-within : goal.nested_among-requires-clause-within
nested_among-requires-clause-within c =
    let mid = c.without_measures.new.heap.objects in
    subst (AreDraftsIn mid) (sym c.as_slice.ensures.value) (plain-in c.args.heap.now.objects mid c.in_ok-plain.ensures.grows c.args.drafts.now c.in_ok-plain.plain.items c.requires c.in_ok-plain.ensures.made)

pub nested_among-requires-clause-measures : goal.nested_among-requires-clause-measures
nested_among-requires-clause-measures c =
    let mid = c.without_measures.new.heap.objects in
    ap (measures_expand c.args.arity.now mid) c.as_slice.ensures.value ∙ plain-measures c.args.heap.now.objects mid c.in_ok-plain.ensures.grows c.args.drafts.now c.in_ok-plain.plain.items c.requires c.in_ok-plain.ensures.made c.args.arity.now

pub returns-clause-grows : goal.returns-clause-grows
returns-clause-grows c = Grows-trans _ _ _ c.in_ok-plain.ensures.grows c.nested_among.ensures.grows

pub returns-clause-nested : goal.returns-clause-nested
returns-clause-nested c =
    let mid = c.without_measures.new.heap.objects in
    let new = c.nested_among.new.heap.objects in
    IfOk-weaker c.nested_among.result _ _
    (λ o h. plain-nested c.args.heap.now.objects mid c.in_ok-plain.ensures.grows c.args.drafts.now c.in_ok-plain.plain.items c.requires c.in_ok-plain.ensures.made c.args.arity.now new o
    (subst (λ l. IsNestedFrom c.args.arity.now (map (draft_at mid) l) new o) c.as_slice.ensures.value h))
    c.nested_among.ensures.nested
