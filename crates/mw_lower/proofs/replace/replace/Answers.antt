-- The test of functional equality on the disjunction, and the premises that are detached from it.
use Rattle.std.proofs.Common.{[], ◌∷◌, not, sym, ap, ◌∙◌, subst}
use Rattle.std.proofs.lemmas.List.Elements.{All-from_recursion}
use Rattle.mw_model.specs.Proofs.Proof.{ProveEach}
use Rattle.mw_heap.specs.Objects.{object_at, IsIn}
use Rattle.mw_heap.specs.Lists.{list_object}
use Rattle.mw_heap.proofs.Objects.{Grows-refl, Grows-trans, IsIn-Grows, object_at-Grows}
use Rattle.mw_proof.proofs.Holding.{list_object-grows}
use Rattle.mw_build.proofs.OnStack.{AreIn-grows}
use Rattle.mw_lower.proofs.Replaced.{not_headed, test_exact, functional_proves}
use Rattle.mw_lower.proofs.replace.replace.Goals as goal

pub apply-requires : goal.apply-requires
apply-requires c = All-from_recursion (IsIn c.unless.new.heap.objects) (c.in_ok-whole.whole ∷ []) (c.in_ok-whole.ensures.within, tt)

pub detach_all-requires-clause-whole : goal.detach_all-requires-clause-whole
detach_all-requires-clause-whole c = IsIn-Grows _ _ c.apply.ensures.grows _ c.in_ok-whole.ensures.within

pub detach_all-requires-clause-proofs : goal.detach_all-requires-clause-proofs
detach_all-requires-clause-proofs c = AreIn-grows _ _ _ (Grows-trans _ _ _ c.in_ok-whole.ensures.grows c.in_ok-step.ensures.grows) c.requires.proofs

pub returns-then-is_none-clause-grows : goal.returns-then-is_none-clause-grows
returns-then-is_none-clause-grows c = Grows-refl c.args.heap.now.objects

pub returns-in_err-step-clause-grows : goal.returns-in_err-step-clause-grows
returns-in_err-step-clause-grows c = Grows-trans _ _ _ c.unless.ensures.grows c.apply.ensures.grows

pub returns-in_err-detach_all-clause-grows : goal.returns-in_err-detach_all-clause-grows
returns-in_err-detach_all-clause-grows c = Grows-trans _ _ _ (Grows-trans _ _ _ c.unless.ensures.grows c.apply.ensures.grows) c.detach_all.ensures.grows

pub returns-clause-grows : goal.returns-clause-grows
returns-clause-grows c = Grows-trans _ _ _ (Grows-trans _ _ _ c.unless.ensures.grows c.apply.ensures.grows) c.detach_all.ensures.grows

pub returns-then-is_none-clause-answer : goal.returns-then-is_none-clause-answer
returns-then-is_none-clause-answer c = λ b F Fs has i d hs. not_headed F Fs (object_at c.args.heap.now.objects c.args.c) d (c.equal_parts.ensures.equal ∙ (c.is_none.ensures ∙ ap not c.if-is_none.true))

pub returns-then-not-functional_equality-clause-answer : goal.returns-then-not-functional_equality-clause-answer
returns-then-not-functional_equality-clause-answer c = λ b F Fs has i d hs.
    let os = c.args.heap.now.objects in
    let whole = c.in_ok-whole.ensures.made b F Fs d hs in
    let headed = c.equal_parts.ensures.equal ∙ (c.is_none.ensures ∙ ap not c.if-is_none.false) in
    sym (test_exact b Fs (list_object os c.args.proofs.now) hs F (object_at os c.args.c) _ i d headed whole) ∙ (sym c.functional_equality.ensures ∙ c.if-not-functional_equality.true)

pub returns-clause-answer : goal.returns-clause-answer
returns-clause-answer c = λ b F Fs has i d hs.
    let os = c.args.heap.now.objects in
    let mid = c.unless.new.heap.objects in
    let new = c.apply.new.heap.objects in
    let ps = list_object os c.args.proofs.now in
    let whole = c.in_ok-whole.ensures.made b F Fs d hs in
    let headed = c.equal_parts.ensures.equal ∙ (c.is_none.ensures ∙ ap not c.if-is_none.false) in
    let holds = sym c.functional_equality.ensures ∙ c.if-not-functional_equality.false in
    let step = c.in_ok-step.ensures.made in
    let grows = Grows-trans os mid new c.in_ok-whole.ensures.grows c.in_ok-step.ensures.grows in
    let whole_now = object_at-Grows mid new c.in_ok-step.ensures.grows _ c.in_ok-whole.ensures.within ∙ whole in
    let proves = functional_proves b Fs ps hs F _ _ i step.1 whole holds in (
      sym (test_exact b Fs ps hs F (object_at os c.args.c) _ i d headed whole) ∙ holds,
      c.in_ok-detach_all.ensures.within,
      c.in_ok-detach_all.ensures.made b F Fs whole_now proves (subst (λ z. ProveEach b.axioms b.theorems b.table b.profile z Fs) (sym (list_object-grows os new grows c.args.proofs.now c.requires.proofs)) hs),
    )
