-- Nothing of formals, or the list.
use Rattle.std.proofs.Common.{[], ◌∷◌, ◌++◌, cond, is_some, refl, sym, ap, ◌∙◌, subst}
use Rattle.mw_heap.specs.Objects.{object_at}
use Rattle.mw_heap.proofs.Objects.{Grows-same}
use Rattle.mw_bad_steps.specs.Shown.{Shows}
use Rattle.mw_explain.proofs.ShownParts.{shows-none, shows-first}
use Rattle.mw_explain.proofs.one_draft.formals_shown.Goals as goal

pub returns-clause-shown : goal.returns-clause-shown
returns-clause-shown c =
    let os = c.args.heap.now.objects in
    let new = c.read_formals.new.heap.objects in
    let x = object_at os c.args.list in
    subst (λ o. Shows new c.new.result.items (cond (is_some o) [] (x ∷ []))) (rw c.in-Some.is at c.in_ok-formals.ensures.formals) (shows-none new c.new.result.items c.new.ensures.items)

pub returns-in_default-clause-shown : goal.returns-in_default-clause-shown
returns-in_default-clause-shown c =
    let os = c.args.heap.now.objects in
    let new = c.read_formals.new.heap.objects in
    let same = c.in_ok-formals.ensures.same in
    let x = object_at os c.args.list in
    let one = c.in_ok-push.ensures.items ∙ ap (λ l. l ++ c.args.list ∷ []) c.new-shown.ensures.items in
    subst (λ o. Shows new c.push.new.self.items (cond (is_some o) [] (x ∷ []))) (rw c.in_default.is at c.in_ok-formals.ensures.formals)
    (subst (λ h. Shows h c.push.new.self.items (x ∷ [])) (sym same) (shows-first os os (Grows-same os os refl) c.args.list x [] c.push.new.self.items [] c.requires refl one (shows-none os [] refl)))
