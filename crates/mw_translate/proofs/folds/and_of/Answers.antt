-- The constant, and then the call.
use Rattle.std.proofs.Common.{IfOk, ap, ap₂, ◌∙◌, subst}
use Rattle.mw_heap.specs.Objects.{object_at}
use Rattle.mw_heap.proofs.Objects.{object_at-Grows, IsIn-Grows, Grows-trans}
use Rattle.mw_translate.specs.Contexts.{arities}
use Rattle.mw_translate.specs.Checked.{IsMade, if_made}
use Rattle.mw_translate.proofs.folds.and_of.Goals as goal

pub checked_if-requires-clause-first_in : goal.checked_if-requires-clause-first_in
checked_if-requires-clause-first_in c = IsIn-Grows _ _ c.in_ok-nil.ensures.grows c.args.a c.requires.first_in

pub checked_if-requires-clause-second_in : goal.checked_if-requires-clause-second_in
checked_if-requires-clause-second_in c = IsIn-Grows _ _ c.in_ok-nil.ensures.grows c.args.b c.requires.second_in

pub returns-clause-grows : goal.returns-clause-grows
returns-clause-grows c = Grows-trans _ _ _ c.in_ok-nil.ensures.grows c.checked_if.ensures.grows

pub returns-clause-made : goal.returns-clause-made
returns-clause-made c =
    let os = c.args.heap.now.objects in
    let h1 = c.quoted_symbol.new.heap.objects in
    let A = arities c.args.context.now in
    let g = c.in_ok-nil.ensures.grows in
    let same =
    ap₂ (λ x y. if_made A x y (object_at h1 c.in_ok-nil.nil)) (object_at-Grows os h1 g c.args.a c.requires.first_in) (object_at-Grows os h1 g c.args.b c.requires.second_in)
    ∙ ap (if_made A (object_at os c.args.a) (object_at os c.args.b)) c.in_ok-nil.ensures.made.1 in
    subst (λ m. IfOk c.checked_if.result (IsMade c.checked_if.new.heap.objects m)) same c.checked_if.ensures.made
