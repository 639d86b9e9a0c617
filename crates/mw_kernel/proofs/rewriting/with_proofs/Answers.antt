-- The definitions mean in the end what they meant before.
use Rattle.std.proofs.Common.{sym, ap, ◌∙◌, subst}
use Rattle.mw_model.specs.Laws.Rewriting.{EachTurnsOrStays}
use Rattle.mw_heap.specs.Objects.{object_at, Grows}
use Rattle.mw_heap.specs.Lists.{list_object}
use Rattle.mw_heap.proofs.Objects.{Grows-trans}
use Rattle.mw_term.proofs.CallerLemmas.{AreMarks-grows}
use Rattle.mw_theory.specs.Knowledge.{parts_of, meant}
use Rattle.mw_theory.proofs.CallerLemmas.{IfOk-map, within-grows}
use Rattle.mw_kernel.proofs.Rewritten.{defining_event-grows}
use Rattle.mw_kernel.proofs.rewriting.with_proofs.Goals as goal
use Rattle.mw_kernel.proofs.rewriting.with_proofs.Goals.{In_ok-turned}

-- until the list of the proofs is made
grows : (g : _) (c : In_ok-turned g) → Grows c.args.heap.now.objects c.list_of.new.heap.objects
grows g c = Grows-trans _ _ _ c.in_ok-members.ensures.kept.grows c.in_ok-turned.ensures.grows

pub defining_event-requires-clause-drafts : goal.defining_event-requires-clause-drafts
defining_event-requires-clause-drafts g c = within-grows _ _ (grows g (goal.at.defining_event-requires-clause-drafts g c).In_ok-turned) c.args.drafts c.requires.drafts

pub returns-clause-kept : goal.returns-clause-kept
returns-clause-kept g c = record {
  grows = Grows-trans _ _ _ (grows g (goal.at.returns-clause-kept g c).In_ok-turned) c.defining_event.ensures.grows;
  marked = AreMarks-grows _ _ _ _ (Grows-trans _ _ _ c.in_ok-turned.ensures.grows c.defining_event.ensures.grows) c.in_ok-members.ensures.kept.marked;
}

pub returns-clause-within : goal.returns-clause-within
returns-clause-within g c = IfOk-map c.defining_event.result _ _ (λ r made. made.0) c.defining_event.ensures.made

pub returns-clause-rewritten : goal.returns-clause-rewritten
returns-clause-rewritten g c =
    let os = c.args.heap.now.objects in
    let turned = object_at c.list_of.new.heap.objects c.in_ok-turned.turned in
    let is = c.in_ok-turned.ensures.made.1 ∙ ap (list_object c.rewritten_members.new.heap.objects) c.as_slice.ensures.value in
    let each = subst (EachTurnsOrStays g.R.Rewriter.turns (meant os (parts_of c.args.theory.now)) (object_at os c.args.proofs)) (sym is) c.in_ok-members.ensures.turned in
    IfOk-map c.defining_event.result _ _ (λ r made. (turned, each, made.1 ∙ defining_event-grows _ _ (grows g (goal.at.returns-clause-rewritten g c).In_ok-turned) c.args.drafts c.requires.drafts turned)) c.defining_event.ensures.made
