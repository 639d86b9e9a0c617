-- The first premise, the steps and the rest make the premises.
use Rattle.std.proofs.Common.{◌≡◌, ◌-◌, All, length, take, drop, sym, ap, ◌∙◌, subst}
use Rattle.std.specs.Prelude.{IfOk}
use Rattle.mw_model.specs.Terms.Object.{Pair, same_object}
use Rattle.mw_model.specs.Laws.RulesInduction.{disjunction_object}
use Rattle.mw_heap.specs.Objects.{object_at, IsIn}
use Rattle.mw_induct.specs.Conclusions.{conclusions_object}
use Rattle.mw_induct.specs.Scheme.{IsScheme, steps_of, measured_of}
use Rattle.mw_induct.proofs.Rests.{first_fits, first_fits_not, takes_none, takes_some, slice_from, All-from}
use Rattle.mw_induct.proofs.premises.are_premises.Goals as goal

pub returns-in-Some-clause-premises : goal.returns-in-Some-clause-premises
returns-in-Some-clause-premises c =
    let os = c.args.heap.now.objects in
    let ps = c.args.conclusions.now in
    let disjunction = disjunction_object (Pair (object_at os c.args.a) (object_at os c.args.scheme.now.conditions)) in
    let others = take (length ps - 1) (drop 1 ps) in
    let later = take (length others - c.in-Some.count) (drop c.in-Some.count others) in
    let measured = measured_of os c.args.scheme.now in
    let taken = takes_some (steps_of os c.args.a c.args.scheme.now) os others _ c.in-Some.count c.in-Some.is c.in_ok-count.ensures.steps in
    let whole = first_fits os ps _ c.if-is_empty.ensures c.index-conclusions-0.is disjunction (steps_of os c.args.a c.args.scheme.now measured) c.if-not-is_disjunction.ensures in
    subst (λ z. IfOk c.are_measured.result (λ b. b ≡ z))
    (ap (λ h. same_object (conclusions_object h later) (measured_of h c.args.scheme.now)) c.in_ok-count.ensures.objects
    ∙ (ap (λ l. same_object (conclusions_object os l) measured) (slice_from c.in-Some.count others) ∙ (sym (taken.1 measured) ∙ whole)))
    c.are_measured.ensures.premises

pub returns-then-not-is_disjunction-clause-premises : goal.returns-then-not-is_disjunction-clause-premises
returns-then-not-is_disjunction-clause-premises c =
    let os = c.args.heap.now.objects in
    let disjunction = disjunction_object (Pair (object_at os c.args.a) (object_at os c.args.scheme.now.conditions)) in
    first_fits_not os c.args.conclusions.now _ c.if-is_empty.ensures c.index-conclusions-0.is disjunction (steps_of os c.args.a c.args.scheme.now (measured_of os c.args.scheme.now)) c.if-not-is_disjunction.ensures

pub returns-in-None-clause-premises : goal.returns-in-None-clause-premises
returns-in-None-clause-premises c =
    let os = c.args.heap.now.objects in
    let ps = c.args.conclusions.now in
    let disjunction = disjunction_object (Pair (object_at os c.args.a) (object_at os c.args.scheme.now.conditions)) in
    let steps = steps_of os c.args.a c.args.scheme.now in
    let measured = measured_of os c.args.scheme.now in
    let none = takes_none steps os (take (length ps - 1) (drop 1 ps)) _ c.in-None.is c.in_ok-count.ensures.steps in
    sym (none measured) ∙ first_fits os ps _ c.if-is_empty.ensures c.index-conclusions-0.is disjunction (steps measured) c.if-not-is_disjunction.ensures

pub take_steps-requires-clause-conclusions : goal.take_steps-requires-clause-conclusions
take_steps-requires-clause-conclusions c = All-from (IsIn c.args.heap.now.objects) 1 c.args.conclusions.now c.requires.conclusions

-- the steps change no object
pub are_measured-requires-clause-conclusions : goal.are_measured-requires-clause-conclusions
are_measured-requires-clause-conclusions c =
    let os = c.args.heap.now.objects in
    let ps = c.args.conclusions.now in
    let others = take (length ps - 1) (drop 1 ps) in
    let n = c.in-Some.count in
    subst (λ h. All (IsIn h) (take (length others - n) (drop n others))) (sym c.in_ok-count.ensures.objects) (All-from (IsIn os) n others (All-from (IsIn os) 1 ps c.requires.conclusions))

pub are_measured-requires-clause-scheme : goal.are_measured-requires-clause-scheme
are_measured-requires-clause-scheme c = subst (λ os. IsScheme os c.args.scheme.now) (sym c.in_ok-count.ensures.objects) c.requires.scheme
