-- The number and the formula stand in front.
use Rattle.std.proofs.Common.{[], ◌∷◌, ◌++◌, map, sym, ap, ◌∙◌, subst}
use Rattle.mw_model.specs.Terms.Object.{Natural}
use Rattle.mw_heap.specs.Objects.{object_at}
use Rattle.mw_heap.proofs.Objects.{IsIn-Grows, object_at-Grows}
use Rattle.mw_bad_steps.specs.Shown.{Shows}
use Rattle.mw_explain_events.proofs.Showing.{Shows-more, Shows-grown}
use Rattle.mw_explain_events.proofs.proofs.numbered.Goals as goal

pub returns-clause-shown : goal.returns-clause-shown
returns-clause-shown c =
    let os = c.args.heap.now.objects in
    let new = c.nat.new.self.objects in
    let made = c.in_ok-count.ensures in
    let f = c.args.formula in
    let parts = c.args.parts.now in
    let items = c.in_ok-extend_from_slice.ensures.items ∙ ap (λ l. l ++ parts) (c.in_ok-push-2.ensures.items ∙ ap (λ l. l ++ f ∷ []) (c.in_ok-push.ensures.items ∙ ap (λ l. l ++ c.in_ok-count.count ∷ []) c.new-shown.ensures.items)) in
    subst (λ l. Shows new l (Natural c.args.number ∷ object_at os f ∷ map (object_at os) parts)) (sym items)
    (Shows-more new c.in_ok-count.count (Natural c.args.number) (f ∷ parts) (object_at os f ∷ map (object_at os) parts) made.made.0 made.made.1
    (Shows-more new f (object_at os f) parts (map (object_at os) parts) (IsIn-Grows os new made.grows f c.requires.formula) (object_at-Grows os new made.grows f c.requires.formula)
    (Shows-grown os new made.grows parts c.requires.parts)))
