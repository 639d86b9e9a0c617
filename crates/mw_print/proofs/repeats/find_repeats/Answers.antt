-- Once nothing waits, all that stands in the object was entered.
use Rattle.std.proofs.Common.{◌≡◌, [], ◌∷◌, ◌++◌, length, ap, ◌∙◌, subst, arith}
use Rattle.std.proofs.lemmas.List.{append-nil}
use Rattle.mw_print.proofs.Waiting.{empty_list}
use Rattle.mw_print.proofs.Meeting.{IsCounting, path_falls, counting_starts, counting_rest, counting_goes, counting_ends}
use Rattle.mw_print.proofs.repeats.find_repeats.Goals as goal

pub loop-y-init : goal.loop-y-init
loop-y-init c =
    counting_starts c.args.heap.now.objects c.args.x c.push.new.self.items c.args.seen.now.keys c.args.again.now.keys c.requires.within
    (c.in_ok-push.ensures.items ∙ ap (λ ps. ps ++ c.args.x ∷ []) c.new-path.ensures.items) c.requires.none_seen c.requires.none_again

pub meet-requires : goal.meet-requires
meet-requires c =
    let os = c.args.heap.now.objects in
    let p = c.loop-y in
    (counting_rest os c.args.x c.in-Some.y c.pop.new.self.items p.seen.keys p.again.keys (subst (λ ps. IsCounting os c.args.x ps p.seen.keys p.again.keys) c.in-Some.ensures.items p.invariant)).1

pub loop-y-smaller : goal.loop-y-smaller
loop-y-smaller c =
    let p = c.loop-y in
    let n = c.meet.new in
    path_falls c.args.heap.now.objects c.in-Some.y c.pop.new.self.items n.path.items p.seen.keys n.seen.keys p.again.keys n.again.keys c.in_ok-meet.ensures p.path.items c.in-Some.ensures.items

pub loop-y-preserved : goal.loop-y-preserved
loop-y-preserved c =
    let os = c.args.heap.now.objects in
    let p = c.loop-y in
    let n = c.meet.new in
    counting_goes os c.args.x c.in-Some.y c.pop.new.self.items p.seen.keys p.again.keys (subst (λ ps. IsCounting os c.args.x ps p.seen.keys p.again.keys) c.in-Some.ensures.items p.invariant)
    c.order.ensures.distinct n.path.items n.seen.keys n.again.keys c.in_ok-meet.ensures

pub returns : goal.returns
returns c =
    let p = c.loop-y in
    let rest = c.pop.new.self.items in
    let gone : length rest ≡ 0 = omega (arith, c.in_default.ensures.cases.1, c.pop.new.self.ok.0) in
    let none : p.path.items ≡ [] = c.in_default.ensures.items ∙ (append-nil rest ∙ empty_list rest gone) in
    counting_ends c.args.heap.now.objects c.args.x p.path.items p.seen.keys p.again.keys none p.invariant
