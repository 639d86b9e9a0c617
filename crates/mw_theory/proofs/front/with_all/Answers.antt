-- One member more in front.
use Rattle.std.proofs.Common.{◌∷◌, [], take, map, sym, ap, ap₂, ◌∙◌, subst}
use Rattle.std.proofs.lemmas.List.{map-append}
use Rattle.mw_model.specs.Terms.Object.{Pair}
use Rattle.mw_heap.specs.Objects.{object_at, IsIn}
use Rattle.mw_heap.proofs.Objects.{Grows-trans, object_at-Grows}
use Rattle.mw_theory.specs.Knowledge.{put_all}
use Rattle.mw_theory.proofs.Listing.{take_next, put_one}
use Rattle.mw_theory.proofs.front.with_all.Goals as goal

pub loop-member-preserved : goal.loop-member-preserved
loop-member-preserved c =
    let os = c.args.heap.now.objects in
    let l = c.loop-member in
    let i = l.member-index in
    let xs = c.args.members.now in
    let x = c.member-item.result in
    let g = l.invariant.0 in
    let next = take_next xs i x c.loop-member-test.true c.member-item.is in
    let x_in : IsIn os x = subst (IsIn os) (sym c.member-item.is) (c.requires.members i x c.loop-member-test.true) in
    let made = c.in_ok-list.ensures.made in (
      Grows-trans os l.heap.objects c.with_front.new.heap.objects g c.with_front.ensures.grows,
      made.0,
      made.1 ∙ (ap₂ Pair (object_at-Grows os l.heap.objects g x x_in) l.invariant.2 ∙ (sym (put_one (map (object_at os) (take i xs)) (object_at os x) (object_at os c.args.list)) ∙ ap (λ zs. put_all zs (object_at os c.args.list)) (sym (ap (map (object_at os)) next ∙ map-append (object_at os) (take i xs) (x ∷ []))))),
    )
