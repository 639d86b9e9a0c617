-- One premise more before the disjunction.
use Rattle.std.proofs.Common.{◌≡◌, ◌+◌, ◌-◌, ◌<◌, length, drop, sym, ap, ◌∙◌, subst, arith}
use Rattle.mw_model.specs.Terms.Object.{second_of}
use Rattle.mw_heap.specs.Objects.{object_at}
use Rattle.mw_heap.proofs.Objects.{Grows-refl, Grows-trans, object_at-Grows}
use Rattle.mw_heap.specs.Lists.{list_object}
use Rattle.mw_lower.specs.Unless.{MakesUnless}
use Rattle.mw_lower.proofs.Premises.{MakesUnless-first, MakesUnless-more, MakesUnless-none, MakesUnless-at, nothing_left}
use Rattle.mw_lower.proofs.RulesProve.{implied_made}
use Rattle.mw_lower.proofs.replace.unless.Goals as goal

pub loop-left-init : goal.loop-left-init
loop-left-init c = record {
  some = omega arith;
  within = c.requires.conclusion;
  grows = Grows-refl c.args.heap.now.objects;
  made = MakesUnless-first (object_at c.args.heap.now.objects c.args.c) _ (nothing_left c.args.heap.now.objects c.args.proofs.now (length c.args.proofs.now) (omega arith));
}

pub returns-clause-grows : goal.returns-clause-grows
returns-clause-grows c = c.loop-left.invariant.grows

pub returns-clause-within : goal.returns-clause-within
returns-clause-within c = c.loop-left.invariant.within

pub loop-left-preserved-in-Some : goal.loop-left-preserved-in-Some
loop-left-preserved-in-Some c =
    let os = c.args.heap.now.objects in
    let ps = c.args.proofs.now in
    let i = c.loop-left.left - 1 in
    let d = c.index-proofs-left.result in
    let before = c.loop-left.invariant in
    let below : i < length ps = omega (arith, before.some, c.loop-left-test.true) in
    let whole_of = object_at os c.args.c in
    let e : i + 1 ≡ c.loop-left.left = omega (arith, c.loop-left-test.true) in
    let same = ap (object_at c.loop-left.heap.objects) c.index-proofs-left.is ∙ object_at-Grows _ _ before.grows _ (c.requires.proofs i d below) in
    let made = c.in_ok-whole.ensures.made in
    record {
      some = omega (arith, before.some);
      within = made.0;
      grows = Grows-trans _ _ _ before.grows c.in_ok-whole.ensures.grows;
      made = MakesUnless-at os ps i d whole_of _ below (MakesUnless-more whole_of _ _ _ _ _ (subst (λ n. MakesUnless whole_of (list_object os (drop n ps)) (object_at c.loop-left.heap.objects c.loop-left.whole)) (sym e) before.made) (c.in-Some.ensures.value ∙ ap second_of same) (made.1 ∙ implied_made _ _));
    }

pub loop-left-preserved : goal.loop-left-preserved
loop-left-preserved c =
    let os = c.args.heap.now.objects in
    let ps = c.args.proofs.now in
    let i = c.loop-left.left - 1 in
    let d = c.index-proofs-left.result in
    let before = c.loop-left.invariant in
    let below : i < length ps = omega (arith, before.some, c.loop-left-test.true) in
    let same = ap (object_at c.loop-left.heap.objects) c.index-proofs-left.is ∙ object_at-Grows _ _ before.grows _ (c.requires.proofs i d below) in
    record {
      some = omega (arith, before.some);
      within = before.within;
      grows = before.grows;
      made = MakesUnless-at os ps i d _ _ below (MakesUnless-none _ _ _ _ (c.in_default.ensures.value ∙ ap second_of same));
    }

pub returns-clause-made : goal.returns-clause-made
returns-clause-made c =
    let none : c.loop-left.left ≡ 0 = omega (arith, c.loop-left-test.false) in
    subst (λ n. MakesUnless (object_at c.args.heap.now.objects c.args.c) (list_object c.args.heap.now.objects (drop n c.args.proofs.now)) (object_at c.loop-left.heap.objects c.loop-left.whole)) none c.loop-left.invariant.made
