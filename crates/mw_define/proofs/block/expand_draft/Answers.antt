-- The body and the measure, expanded one after the other.
use Rattle.std.proofs.Common.{◌++◌, inl, inr, refl, sym, ap, ◌∙◌, subst}
use Rattle.mw_model.specs.Events.Expansion.{expand}
use Rattle.mw_heap.specs.Objects.{object_at}
use Rattle.mw_heap.proofs.Objects.{object_at-Grows, IsIn-Grows, Grows-trans}
use Rattle.mw_define.specs.Blocks.{IsExpansion}
use Rattle.mw_define.proofs.Expanding.{expansion-Grows}
use Rattle.mw_define.proofs.block.expand_draft.Goals as goal

pub expanded_measure-requires : goal.expanded_measure-requires
expanded_measure-requires c = IsIn-Grows c.args.heap.now.objects c.expanded_body.new.heap.objects c.expanded_body.ensures.grows c.args.draft.measure c.requires.3

pub returns-in_err-measure-clause-grows : goal.returns-in_err-measure-clause-grows
returns-in_err-measure-clause-grows c = Grows-trans c.args.heap.now.objects c.expanded_body.new.heap.objects c.expanded_measure.new.heap.objects c.expanded_body.ensures.grows c.expanded_measure.ensures.grows

pub returns-in_default-clause-expanded : goal.returns-in_default-clause-expanded
returns-in_default-clause-expanded c = inl (rw c.in_default.is at c.in_ok-body.ensures.expanded)

pub returns-in_default-2-clause-grows : goal.returns-in_default-2-clause-grows
returns-in_default-2-clause-grows c = Grows-trans c.args.heap.now.objects c.expanded_body.new.heap.objects c.expanded_measure.new.heap.objects c.expanded_body.ensures.grows c.expanded_measure.ensures.grows

pub returns-in_default-2-clause-expanded : goal.returns-in_default-2-clause-expanded
returns-in_default-2-clause-expanded c =
    let kept = object_at-Grows c.args.heap.now.objects c.expanded_body.new.heap.objects c.expanded_body.ensures.grows c.args.draft.measure c.requires.3 in
    inr (ap (expand c.args.older.now) (sym kept) ∙ (rw c.in_default-2.is at c.in_ok-measure.ensures.expanded))

pub returns-clause-grows : goal.returns-clause-grows
returns-clause-grows c = Grows-trans c.args.heap.now.objects c.expanded_body.new.heap.objects c.expanded_measure.new.heap.objects c.expanded_body.ensures.grows c.expanded_measure.ensures.grows

pub returns-clause-expanded : goal.returns-clause-expanded
returns-clause-expanded c =
    let h0 = c.args.heap.now.objects in
    let h1 = c.expanded_body.new.heap.objects in
    let h2 = c.expanded_measure.new.heap.objects in
    record {
      name = refl;
      formals = refl;
      body = expansion-Grows h1 h2 c.expanded_measure.ensures.grows (c.args.newer.now ++ c.args.older.now) (object_at h0 c.args.draft.body) c.in-Some.body (rw c.in-Some.is at c.in_ok-body.ensures.expanded);
      measure = subst (λ x. IsExpansion c.args.older.now h2 x c.in-Some-2.measure) (object_at-Grows h0 h1 c.expanded_body.ensures.grows c.args.draft.measure c.requires.3) (rw c.in-Some-2.is at c.in_ok-measure.ensures.expanded);
    }
