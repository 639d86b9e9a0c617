-- One negated instance after another, while the heap stays.
use Rattle.std.proofs.Common.{◌≡◌, Bool, false, ℕ, List, sym, ◌∙◌, subst}
use Rattle.std.proofs.lemmas.Result.{IfOk-weaker}
use Rattle.std.specs.Prelude.{IfOk}
use Rattle.mw_model.specs.Terms.Object.{Object, Pair, same_object}
use Rattle.mw_model.specs.Values.Primitive.{is_pair}
use Rattle.mw_model.specs.Laws.Rules.{or_object, not_object, substitute_formula_object}
use Rattle.mw_model.specs.Laws.RulesInduction.{disjunction_object, hypotheses_object}
use Rattle.mw_heap.specs.Objects.{object_at, IsIn}
use Rattle.mw_heap.proofs.NoPair.{shown_no_pair}
use Rattle.mw_induct.proofs.Forms.{instances_next, instances_other, instances_none, instances_end}
use Rattle.mw_induct.proofs.Rests.{same_pair, next_substitution}
use Rattle.mw_induct.proofs.steps.are_negated_instances.Goals as goal

abbrev Within : ℕ → List Object → Type 0
Within x os = IsIn os x

pub returns-in_default-members_after-clause-hypotheses :
    goal.returns-in_default-members_after-clause-hypotheses
returns-in_default-members_after-clause-hypotheses c =
    let o = object_at c.args.heap.now.objects in
    let i = c.loop-next.invariant in
    let rest = c.loop-next.rest in
    let shows = same_pair _ c.loop-next.heap.objects c.loop-next.more c.in-Pair.next c.in-Pair.others i.0 c.in-Pair.ensures.shows in
    let none = subst (λ h. (d e : Object) → same_object (object_at h rest) (or_object d e) ≡ false) i.0 c.in_default-members_after.ensures.members in
    sym (instances_none (o rest) (o c.args.a) (o c.loop-next.s) (o c.in-Pair.next) (o c.in-Pair.others) (o c.loop-next.more) shows.2 none) ∙ i.4

-- what is left of the disjunction, compared with what is left of the substitutions, decides
abbrev Decides : ℕ → ℕ → ℕ → ℕ → Bool → List Object → Type 0
Decides x a s more b os = same_object (object_at os x) (disjunction_object (hypotheses_object (object_at os a) (Pair (object_at os s) (object_at os more)))) ≡ b

pub returns-then-not-branch-clause-hypotheses : goal.returns-then-not-branch-clause-hypotheses
returns-then-not-branch-clause-hypotheses c =
    let o = object_at c.loop-next.heap.objects in
    let i = c.loop-next.invariant in
    let rest = c.loop-next.rest in
    let a = c.args.a in
    let s = c.loop-next.s in
    let more = c.loop-next.more in
    let so = subst (Decides rest a s more _) (sym i.0) i.4 in
    sym (instances_other (o rest) (o a) (o s) (o c.in-Pair.next) (o c.in-Pair.others) (o more) c.in-Pair.ensures.shows.2 _ _ c.in-Some.ensures.members (sym c.in_ok-is_negated_instance.ensures.negation ∙ c.if-not-branch.true)) ∙ so

pub loop-next-preserved : goal.loop-next-preserved
loop-next-preserved c =
    let os = c.args.heap.now.objects in
    let o = object_at c.loop-next.heap.objects in
    let i = c.loop-next.invariant in
    let rest = c.loop-next.rest in
    let a = c.args.a in
    let s = c.loop-next.s in
    let more = c.loop-next.more in
    let next = c.in-Pair.next in
    let others = c.in-Pair.others in
    let after = next_substitution os c.loop-next.heap.objects more next others i.0 i.3 c.in-Pair.ensures.shows in
    let so = subst (Decides rest a s more _) (sym i.0) i.4 in
    let later = sym (instances_next (o rest) (o a) (o s) (o next) (o others) (o more) c.in-Pair.ensures.shows.2 _ _ c.in-Some.ensures.members (sym c.in_ok-is_negated_instance.ensures.negation ∙ c.if-not-branch.false)) ∙ so in
    (c.is_negated_instance.ensures.objects ∙ i.0, subst (Within _) i.0 c.in-Some.ensures.within.1, after.0, after.1, subst (Decides _ a next others _) i.0 later)

pub returns : goal.returns
returns c =
    let os = c.args.heap.now.objects in
    let o = object_at os in
    let i = c.loop-next.invariant in
    let rest = c.loop-next.rest in
    let result = c.is_negated_instance-2.result in
    let plain = subst (λ h. is_pair (object_at h c.loop-next.more) ≡ false) i.0 (shown_no_pair c.loop-next.heap.objects c.view.result (object_at c.loop-next.heap.objects c.loop-next.more) c.view.ensures.shows c.in_default.not-Pair) in
    let negation = subst (λ h. IfOk result (λ b. b ≡ same_object (object_at h rest) (not_object (substitute_formula_object (object_at h c.loop-next.s) (object_at h c.args.a))))) i.0 c.is_negated_instance-2.ensures.negation in
    record {
      objects = c.is_negated_instance-2.ensures.objects ∙ i.0;
      hypotheses = IfOk-weaker result _ _ (λ b e. e ∙ (sym (instances_end (o rest) (o c.args.a) (o c.loop-next.s) (o c.loop-next.more) plain) ∙ i.4)) negation;
    }
