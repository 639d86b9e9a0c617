-- The members, the method, the conclusion that may be meant, and whether the step follows with it.
use Rattle.std.proofs.Common.{◌≡◌, ◌<◌, None, length, sym, ap, ap₂, ◌∙◌, option_map, arith, subst, IfSome}
use Rattle.mw_model.specs.Terms.Object.{list4}
use Rattle.mw_model.specs.Proofs.Judgment.{methods, method_among}
use Rattle.mw_heap.specs.Objects.{object_at, IsIn}
use Rattle.mw_heap.specs.Variants.{profile_of}
use Rattle.mw_heap.proofs.Objects.{Grows-trans, IsIn-Grows, object_at-Grows}
use Rattle.mw_term.proofs.CallerLemmas.{AreMarks-grows}
use Rattle.mw_rules.specs.Methods.{method_of_logic}
use Rattle.mw_proof.specs.Judging.{basis, is_step_on}
use Rattle.mw_proof.proofs.Holding.{basis-grows}
use Rattle.mw_bad_steps.specs.Candidates.{IsMended}
use Rattle.mw_bad_steps.proofs.MendedSteps.{none_mended, follows_mended}
use Rattle.mw_bad_steps.proofs.mending.mended.Goals as goal

pub returns-in_default-clause-mended : goal.returns-in_default-clause-mended
returns-in_default-clause-mended c = λ m F Fs s i f j e. absurd (cc (c.in_default.ensures.shape, s))

pub returns-in_default-of-clause-mended : goal.returns-in_default-of-clause-mended
returns-in_default-of-clause-mended c = λ m F Fs s i f j e.
    let os = c.args.heap.now.objects in
    let none : method_among methods (object_at os c.in-Some.members.method) ≡ None = sym c.of.ensures ∙ ap (option_map method_of_logic) c.in_default-of.is in
    absurd (cc (none, ap (method_among methods) c.in-Some.ensures.members.method_is, i))

pub returns-in_default-2-clause-mended : goal.returns-in_default-2-clause-mended
returns-in_default-2-clause-mended c = λ m F Fs s i f j e.
    let os = c.args.heap.now.objects in
    let A = c.args.arity.now in
    none_mended os c.meant.new.heap.objects c.args.step c.in-Some.members c.in-Some.ensures.members (basis os A c.args.axioms.now c.args.theorems.now (profile_of c.args.profile)) (method_of_logic c.in-Some-of.method) m F Fs c.in-Some-of.ensures i f j e _
    (λ G Gs g gs d k l. c.in_ok-conclusion.ensures.meant A G Gs c.requires.marked g gs d k l) c.in_default-2.is

pub returns-in_default-2-clause-marked : goal.returns-in_default-2-clause-marked
returns-in_default-2-clause-marked c = AreMarks-grows c.args.arity.now c.args.heap.now.objects c.meant.new.heap.objects c.args.marks.now c.meant.ensures.grows c.requires.marked

pub returns-clause-mended : goal.returns-clause-mended
returns-clause-mended c = λ m F Fs s i f j e.
    let os = c.args.heap.now.objects in
    let new = c.meant.new.heap.objects in
    let mid = c.step_with.new.heap.objects in
    let last = c.is_step.new.heap.objects in
    let A = c.args.arity.now in
    let ax = c.args.axioms.now in
    let th = c.args.theorems.now in
    let P = profile_of c.args.profile in
    let mem = c.in-Some.members in
    let am = c.in-Some.ensures.members in
    let r = c.in-Some-2.conclusion in
    let r_in = subst (λ o. IfSome o (IsIn new)) c.in-Some-2.is c.in_ok-conclusion.ensures.within in
    let g = c.meant.ensures.grows in
    let to_mid = Grows-trans os new mid g c.step_with.ensures.grows in
    let to_last = Grows-trans new mid last c.step_with.ensures.grows c.is_step.ensures.grows in
    let marked = c.requires.marked.within in
    let in_method : mem.method < length os = omega (arith, am.method_before, c.requires.within, marked) in
    let in_subproofs : mem.subproofs < length os = omega (arith, am.subproofs_before, c.requires.within, marked) in
    let in_extras : mem.extras < length os = omega (arith, am.extras_before, c.requires.within, marked) in
    let made = c.in_ok-made.ensures.made ∙ (ap (λ z. list4 z (object_at new r) (object_at new mem.subproofs) (object_at new mem.extras)) (object_at-Grows os new g mem.method in_method) ∙ ap₂ (λ z w. list4 (object_at os mem.method) (object_at new r) z w) (object_at-Grows os new g mem.subproofs in_subproofs) (object_at-Grows os new g mem.extras in_extras)) in
    let answer = c.in_ok-follows.ensures.answer ∙ ap (λ e. is_step_on e (object_at mid c.in_ok-made.made)) (basis-grows os mid to_mid A ax th P c.requires.axioms c.requires.theorems) in
    subst (IsMended last _) (sym c.then_some.ensures)
    (follows_mended os new c.args.step mem am (basis os A ax th P) (method_of_logic c.in-Some-of.method) m F Fs c.in-Some-of.ensures i f j e _
    (λ G Gs p ps d k l. c.in_ok-conclusion.ensures.meant A G Gs c.requires.marked p ps d k l) r c.in-Some-2.is last c.in_ok-follows.follows (object_at mid c.in_ok-made.made) (IsIn-Grows new last to_last r r_in) (object_at-Grows new last to_last r r_in) c.in_range.ensures made answer)
