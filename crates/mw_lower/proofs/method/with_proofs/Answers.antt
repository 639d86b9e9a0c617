-- The step itself, or one that is made.
use Rattle.std.proofs.Common.{[], ◌∷◌, inl, inr, sym, ap, ◌∙◌}
use Rattle.std.proofs.lemmas.Bool.{true≢false}
use Rattle.std.proofs.lemmas.List.Elements.{All-from_recursion}
use Rattle.std.proofs.lemmas.Result.{IfOk-weaker}
use Rattle.mw_model.specs.Terms.Object.{list4}
use Rattle.mw_model.proofs.Names.{same_object-eq, same_object-from}
use Rattle.mw_heap.specs.Objects.{object_at, IsIn}
use Rattle.mw_heap.proofs.Objects.{IsIn-Grows, object_at-Grows, Grows-trans}
use Rattle.mw_lower.proofs.MethodSteps.{made_step}
use Rattle.mw_lower.proofs.method.with_proofs.Goals as goal

pub returns-then-same-clause-made : goal.returns-then-same-clause-made
returns-then-same-clause-made c =
    let made = c.in_ok-list.ensures.made in
    let grows = c.in_ok-list.ensures.grows in
    let same = same_object-eq _ _ (sym c.same.ensures.same ∙ c.if-same.true) in
    (IsIn-Grows _ _ grows _ c.requires.itself, inl (sym made.1 ∙ (same ∙ object_at-Grows _ _ grows _ c.requires.subproofs), object_at-Grows _ _ grows _ c.requires.itself))

pub returns-clause-made : goal.returns-clause-made
returns-clause-made c =
    let os = c.args.heap.now.objects in
    let mid = c.list_of.new.heap.objects in
    let list = c.in_ok-list.ensures.made in
    let grows = c.in_ok-list.ensures.grows in
    let step = c.args.step in
    IfOk-weaker c.list_of-2.result _ _ (λ q m. (
      m.0,
      inr (
        λ e. true≢false (sym (same_object-from _ _ (list.1 ∙ (e ∙ sym (object_at-Grows os mid grows step.subproofs c.requires.subproofs)))) ∙ (sym c.same.ensures.same ∙ c.if-same.false)),
        m.1 ∙ (ap (λ z. list4 (object_at mid step.method) (object_at mid step.conclusion) z (object_at mid step.extras)) list.1 ∙ made_step os mid grows step c.requires.method c.requires.conclusion c.requires.extras _),
      ),
    )) c.list_of-2.ensures.made

pub same-requires-clause-second_in : goal.same-requires-clause-second_in
same-requires-clause-second_in c = IsIn-Grows _ _ c.in_ok-list.ensures.grows _ c.requires.subproofs

pub list_of-requires-2 : goal.list_of-requires-2
list_of-requires-2 c =
    let grows = c.in_ok-list.ensures.grows in
    let step = c.args.step in
    All-from_recursion (IsIn c.list_of.new.heap.objects) (step.method ∷ step.conclusion ∷ c.in_ok-list.list ∷ step.extras ∷ []) (IsIn-Grows _ _ grows _ c.requires.method, (IsIn-Grows _ _ grows _ c.requires.conclusion, (c.in_ok-list.ensures.made.0, (IsIn-Grows _ _ grows _ c.requires.extras, tt))))

pub returns-clause-grows : goal.returns-clause-grows
returns-clause-grows c = Grows-trans _ _ _ c.in_ok-list.ensures.grows c.list_of-2.ensures.grows
