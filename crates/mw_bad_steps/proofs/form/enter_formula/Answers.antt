-- The sides of an equation or of a disjunction wait, or what is negated.
use Rattle.std.proofs.Common.{is_some}
use Rattle.mw_model.specs.Terms.Object.{symbol}
use Rattle.mw_model.specs.Terms.Reading.{formula_of}
use Rattle.mw_heap.specs.Objects.{object_at}
use Rattle.mw_bad_steps.specs.declared.form.Form.TheVariants.{Formula}
use Rattle.mw_bad_steps.proofs.FormTests.{equal_form, or_form, not_form, no_formula_form, one_waits, two_wait, lighter_list3, lighter_list2}
use Rattle.mw_bad_steps.proofs.form.enter_formula.Goals as goal

pub returns-in-Some : goal.returns-in-Some
returns-in-Some c =
    let os = c.args.heap.now.objects in
    let x = object_at os c.args.x in
    two_wait os c.args.x (is_some (formula_of x)) c.args.waiting.now.items _ _ c.push.new.self.items c.push-in-Some.new.self.items c.in_ok-push.ensures.items c.in_ok-push-2.ensures.items c.in-Some.ensures.within.0 c.in-Some.ensures.within.1
    (equal_form x _ _ c.in-Some.ensures.members)
    (lighter_list3 x (symbol "PEQUAL*") _ _ c.in-Some.ensures.members)

pub returns-in-Some-members_after : goal.returns-in-Some-members_after
returns-in-Some-members_after c =
    let os = c.args.heap.now.objects in
    let x = object_at os c.args.x in
    two_wait os c.args.x (is_some (formula_of x)) c.args.waiting.now.items _ _ c.push-in-Some-members_after.new.self.items c.push-in-Some-members_after-2.new.self.items c.in_ok-push-3.ensures.items c.in_ok-push-4.ensures.items c.in-Some-members_after.ensures.within.0 c.in-Some-members_after.ensures.within.1
    (or_form x _ _ c.in-Some-members_after.ensures.members)
    (lighter_list3 x (symbol "POR*") _ _ c.in-Some-members_after.ensures.members)

pub returns-in_default-member_after : goal.returns-in_default-member_after
returns-in_default-member_after c =
    no_formula_form (object_at c.args.heap.now.objects c.args.x) c.in_default.ensures.members c.in_default-members_after.ensures.members c.in_default-member_after.ensures.member

pub returns : goal.returns
returns c =
    let os = c.args.heap.now.objects in
    let x = object_at os c.args.x in
    let f = c.in-Some-member_after.f in
    one_waits os c.args.x (is_some (formula_of x)) c.args.waiting.now.items (Formula f) c.push-2.new.self.items c.in_ok-push-5.ensures.items c.in-Some-member_after.ensures.within
    (not_form x (object_at os f) c.in-Some-member_after.ensures.member)
    (lighter_list2 x (symbol "PNOT*") (object_at os f) c.in-Some-member_after.ensures.member)
