-- The name before its arity, and then the number.
use Rattle.std.proofs.Common.{◌∷◌}
use Rattle.std.proofs.lemmas.Result.{IfOk-weaker}
use Rattle.mw_heap.specs.Objects.{object_at}
use Rattle.mw_heap.proofs.Objects.{IsIn-Grows, object_at-Grows}
use Rattle.mw_commands.specs.Commands.ExplanationTerms.{arity_shown}
use Rattle.mw_explain.proofs.ShownParts.{shows-first}
use Rattle.mw_heap.proofs.Objects.{Grows-refl}
use Rattle.mw_explain.proofs.draft_name.name_shown.Goals as goal

pub returns-clause-shown : goal.returns-clause-shown
returns-clause-shown c =
    let os = c.args.heap.now.objects in
    let mid = c.arity_shown.new.heap.objects in
    let g = c.in_ok-shown.ensures.grows in
    let x = object_at os c.args.bad.name in
    let rest = arity_shown c.args.arity.now x in
    IfOk-weaker c.put_number.result _ _
    (λ v h. h (x ∷ rest) (shows-first mid mid (Grows-refl mid) c.args.bad.name x c.in_ok-shown.shown.items c.insert.new.self.items rest (IsIn-Grows os mid g c.args.bad.name c.requires) (object_at-Grows os mid g c.args.bad.name c.requires) c.in_ok-insert.ensures.items c.in_ok-shown.ensures.shown))
    c.put_number.ensures.shown
