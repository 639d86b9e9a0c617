-- The call, and then the number.
use Rattle.std.proofs.Common.{[], ◌∷◌, ◌++◌, refl, ap, ◌∙◌}
use Rattle.std.proofs.lemmas.Result.{IfOk-weaker}
use Rattle.mw_model.specs.Terms.Object.{Pair}
use Rattle.mw_heap.specs.Objects.{object_at}
use Rattle.mw_heap.proofs.Objects.{Grows-refl}
use Rattle.mw_explain.proofs.ShownParts.{shows-none, shows-first}
use Rattle.mw_explain.proofs.definition.call_shown.Goals as goal

pub returns-clause-shown : goal.returns-clause-shown
returns-clause-shown c =
    let os = c.args.heap.now.objects in
    let mid = c.cons.new.self.objects in
    let x = Pair (object_at os c.args.nested.name) (object_at os c.args.nested.actuals) in
    let one = c.in_ok-push.ensures.items ∙ ap (λ l. l ++ c.in_ok-call.call ∷ []) c.new-shown.ensures.items in
    IfOk-weaker c.put_number.result _ _
    (λ v h. h (x ∷ []) (shows-first mid mid (Grows-refl mid) c.in_ok-call.call x [] c.push.new.self.items [] c.in_ok-call.ensures.made.0 c.in_ok-call.ensures.made.1 one (shows-none mid [] refl)))
    c.put_number.ensures.shown
