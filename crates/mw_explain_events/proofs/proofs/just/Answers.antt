-- It is the one member.
use Rattle.std.proofs.Common.{[], ◌∷◌, ◌++◌, refl, sym, ap, ◌∙◌, subst}
use Rattle.mw_heap.specs.Objects.{object_at}
use Rattle.mw_bad_steps.specs.Shown.{Shows}
use Rattle.mw_explain_events.proofs.Showing.{Shows-one}
use Rattle.mw_explain_events.proofs.proofs.just.Goals as goal

pub returns : goal.returns
returns c =
    let os = c.args.heap.now.objects in
    let x = c.args.x in
    subst (λ l. Shows os l (object_at os x ∷ [])) (sym (c.in_ok-push.ensures.items ∙ ap (λ l. l ++ x ∷ []) c.new-shown.ensures.items)) (Shows-one os x (object_at os x) c.requires refl)
