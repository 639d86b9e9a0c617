-- One member after another.
use Rattle.std.proofs.Common.{[], sym, ap, ◌∙◌, subst, append-nil}
use Rattle.std.specs.Option.{option_copied}
use Rattle.mw_model.specs.Terms.Object.{NIL}
use Rattle.mw_model.proofs.Names.{same_object-eq}
use Rattle.mw_heap.specs.Objects.{object_at}
use Rattle.mw_lower.specs.Turned.{AreReplaced}
use Rattle.mw_lower.proofs.Members.{Replaces, Replaces-first, Replaces-more, stops, ends, no_list}
use Rattle.mw_lower.proofs.subproofs.turned_members.Goals as goal

pub loop-p-init : goal.loop-p-init
loop-p-init c = Replaces-first c.args.heap.now.objects c.args.turned.now.entries c.args.list _ c.new-proofs.ensures.items c.requires

pub returns-in_default-get-clause-turned : goal.returns-in_default-get-clause-turned
returns-in_default-get-clause-turned c = λ b h.
    let shows = c.in-Pair.ensures.shows in
    stops c.args.heap.now.objects c.args.turned.now.entries c.args.list c.loop-p.rest c.in-Pair.p c.in-Pair.more c.loop-p.proofs.items c.loop-p.invariant shows.0 shows.1 shows.2 b h (sym c.get.ensures.value ∙ ap option_copied c.in_default-get.is)

pub loop-p-preserved : goal.loop-p-preserved
loop-p-preserved c =
    let shows = c.in-Pair.ensures.shows in
    subst (Replaces c.args.heap.now.objects c.args.turned.now.entries c.args.list c.in-Pair.more) (sym c.in_ok-push.ensures.items)
    (Replaces-more c.args.heap.now.objects c.args.turned.now.entries c.args.list c.loop-p.rest c.in-Pair.p c.in-Pair.more c.loop-p.proofs.items c.loop-p.invariant shows.0 shows.1 shows.2 c.in-Some.q.now (sym c.get.ensures.value ∙ ap option_copied c.in-Some.is))

pub returns-then-is_nil : goal.returns-then-is_nil
returns-then-is_nil c =
    let os = c.args.heap.now.objects in
    let nil = same_object-eq (object_at os c.loop-p.rest) NIL (sym c.is_nil.ensures ∙ c.if-is_nil.true) in
    record {
      turned = λ b h. subst (AreReplaced b os (object_at os c.args.list)) (append-nil c.loop-p.proofs.items) (c.loop-p.invariant.some b h [] (ends b os (object_at os c.loop-p.rest) nil));
      within = λ b h. c.loop-p.invariant.all_in b h;
    }

pub returns-else-is_nil : goal.returns-else-is_nil
returns-else-is_nil c = record {
  turned = λ b h. c.loop-p.invariant.none b h (no_list b c.args.heap.now.objects c.view.result (object_at c.args.heap.now.objects c.loop-p.rest) c.view.ensures.shows c.in_default.not-Pair (sym c.is_nil.ensures ∙ c.if-is_nil.false));
  within = λ b h. tt;
}
