-- The members are made from the last one on, and then the word before them.
use Rattle.std.proofs.Common.{◌≡◌, drop, ap, ap₂, ◌∙◌, arith}
use Rattle.std.proofs.lemmas.Result.{IfOk-weaker}
use Rattle.mw_model.specs.Terms.Object.{Pair, list1}
use Rattle.mw_heap.specs.Objects.{object_at}
use Rattle.mw_heap.proofs.Objects.{object_at-Grows}
use Rattle.mw_flat.specs.FlatEvents.{put_before}
use Rattle.mw_flat.proofs.FlatWritten.{list-begun, list-more}
use Rattle.mw_flat.proofs.flat_event.event_with.Goals as goal

pub loop-index-init : goal.loop-index-init
loop-index-init c =
    list-begun c.args.from.now.objects c.args.members.now c.args.to.now.objects c.nil.new.self.objects c.cons.new.self.objects c.args.last c.in_ok-end.end c.in_ok-list.list
    c.nil.ensures.grows c.requires.last c.in_ok-end.ensures.made.1 c.in_ok-list.ensures.made.0 c.in_ok-list.ensures.made.1

pub loop-index-preserved : goal.loop-index-preserved
loop-index-preserved c =
    let made = c.in_ok-list-2.ensures.made in
    list-more c.args.from.now.objects c.args.members.now c.loop-index.index c.index-members-index.result (list1 (object_at c.args.to.now.objects c.args.last))
    c.loop-index.to.objects c.copy.new.to.objects c.cons-in-loop-index.new.self.objects c.loop-index.list c.in_ok-member.member c.in_ok-list-2.list
    (omega (arith, c.loop-index-test.true)) (omega (arith, c.loop-index.auto.index)) c.index-members-index.is c.loop-index.invariant c.copy.ensures.grows
    c.in_ok-member.ensures.made.1 made.0 made.1

pub returns : goal.returns
returns c =
    let os = c.args.from.now.objects in
    let listed = c.loop-index.invariant in
    let first : c.loop-index.index ≡ 0 = omega (arith, c.loop-index-test.false) in
    let members =
    object_at-Grows _ _ c.word.ensures.grows _ listed.0
    ∙ (listed.1 ∙ ap (λ n. put_before os (drop n c.args.members.now) (list1 (object_at c.args.to.now.objects c.args.last))) first) in
    IfOk-weaker c.cons-2.result _ _ (λ r made. (made.0, made.1 ∙ ap₂ Pair c.in_ok-first.ensures.made.1 members)) c.cons-2.ensures.made
