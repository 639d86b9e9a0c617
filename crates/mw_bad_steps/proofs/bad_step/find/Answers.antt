-- Looking goes on, back, or ends.
use Rattle.std.proofs.Common.{◌≡◌, ◌<◌, [], ◌∷◌, ◌++◌, map, Some, sym, ap, ◌∙◌, subst, arith}
use Rattle.mw_model.specs.Values.Primitive.{is_pair}
use Rattle.mw_heap.specs.Objects.{object_at}
use Rattle.mw_heap.proofs.Objects.{Grows-trans}
use Rattle.mw_term.proofs.CallerLemmas.{AreMarks-grows}
use Rattle.mw_proof.specs.Judging.{basis_over, is_step_on}
use Rattle.mw_commands.specs.Commands.ExplanationSteps.{placed}
use Rattle.mw_bad_steps.proofs.Paths.{IsLooking, EachOpen}
use Rattle.mw_bad_steps.specs.BadStep.{Advances, number_of}
use Rattle.mw_proof.proofs.Gathering.{adds-older}
use Rattle.mw_proof.proofs.Holding.{is_step-grows}
use Rattle.mw_bad_steps.proofs.Looking.{nothing_left, looking_goes_on, looking_goes_back, looking_ends, nothing_bad, known_or_new}
use Rattle.mw_bad_steps.proofs.LookingOlder.{popped, opens_each, open_grows, part_same, opens_older}
use Rattle.mw_bad_steps.proofs.LookingSizes.{last_falls, opened_falls}
use Rattle.mw_bad_steps.proofs.bad_step.find.Goals as goal

pub advance-requires : goal.advance-requires
advance-requires c =
    let inv = c.loop-last.invariant in
    let both = popped c.args.heap.now.objects c.loop-last.path.items c.pop.new.self.items c.in-Some.last c.in-Some.ensures.items inv.within in
    open_grows c.args.heap.now.objects c.loop-last.heap.objects inv.grows c.in-Some.last both.1

pub loop-last-smaller-then-branch : goal.loop-last-smaller-then-branch
loop-last-smaller-then-branch c =
    let os = c.args.heap.now.objects in
    let cur = c.loop-last.heap.objects in
    let inv = c.loop-last.invariant in
    let w = c.in-Some.last in
    let ws = c.pop.new.self.items in
    let new = c.advance.new.path.items in
    let both = popped os c.loop-last.path.items ws w c.in-Some.ensures.items inv.within in
    let opens = opens_older os cur inv.grows w c.loop-last.good.keys ws new both.1 (subst (Advances cur w c.loop-last.good.keys ws new) c.if-branch.true c.in_ok-advance.ensures) in
    opened_falls os w c.loop-last.good.keys ws new c.loop-last.path.items opens c.in-Some.ensures.items

pub loop-last-preserved-then-branch : goal.loop-last-preserved-then-branch
loop-last-preserved-then-branch c =
    let os = c.args.heap.now.objects in
    let cur = c.loop-last.heap.objects in
    let inv = c.loop-last.invariant in
    let w = c.in-Some.last in
    let ws = c.pop.new.self.items in
    let known = c.loop-last.good.keys in
    let new = c.advance.new.path.items in
    let both = popped os c.loop-last.path.items ws w c.in-Some.ensures.items inv.within in
    let opens = opens_older os cur inv.grows w known ws new both.1 (subst (Advances cur w known ws new) c.if-branch.true c.in_ok-advance.ensures) in
    record {
      grows = inv.grows;
      within = opens_each os w known ws new both.1 both.0 opens;
      found = inv.found;
      looks = λ A k.
          let b = basis_over os A c.args.basis.now in
          looking_goes_on b os c.args.proof known ws new w (subst (IsLooking b os c.args.proof known) c.in-Some.ensures.items (inv.looks A k)) opens;
    }

pub decide-requires-clause-within : goal.decide-requires-clause-within
decide-requires-clause-within c =
    let both = popped c.args.heap.now.objects c.loop-last.path.items c.pop.new.self.items c.in-Some.last c.in-Some.ensures.items c.loop-last.invariant.within in
    subst (λ n. c.in-Some.last.proof < n) (sym c.requires.may.all) both.1.0

pub returns-then-not-holds-clause-found : goal.returns-then-not-holds-clause-found
returns-then-not-holds-clause-found c = λ A k.
    let os = c.args.heap.now.objects in
    let cur = c.loop-last.heap.objects in
    let inv = c.loop-last.invariant in
    let w = c.in-Some.last in
    let ws = c.pop.new.self.items in
    let known = c.loop-last.good.keys in
    let new = c.advance.new.path.items in
    let both = popped os c.loop-last.path.items ws w c.in-Some.ensures.items inv.within in
    let b = basis_over os A c.args.basis.now in
    let ended = subst (Advances cur w known ws new) c.if-branch.false c.in_ok-advance.ensures in
    let answer : c.in_ok-holds.holds ≡ is_step_on b (object_at os w.proof) = c.in_ok-holds.ensures.answer A (AreMarks-grows A os cur c.args.marks.now inv.grows k) ∙ is_step-grows os cur inv.grows A c.args.basis.now c.requires.may.basis w.proof both.1.0 in
    let looks = subst (IsLooking b os c.args.proof known) c.in-Some.ensures.items (inv.looks A k) in
    let none_left = sym (ap is_pair (part_same os cur inv.grows w.left both.1.1)) ∙ ended.0 in
    (both.1.0, looking_ends b os c.args.proof known ws w looks none_left (sym answer ∙ c.if-not-holds.true) ∙ ap (λ l. Some (placed (map number_of l) (object_at os w.proof))) (sym ended.1))

pub loop-last-smaller : goal.loop-last-smaller
loop-last-smaller c =
    let w = c.in-Some.last in
    let ws = c.pop.new.self.items in
    let new = c.advance.new.path.items in
    let ended = subst (Advances c.loop-last.heap.objects w c.loop-last.good.keys ws new) c.if-branch.false c.in_ok-advance.ensures in
    last_falls new c.loop-last.path.items w (c.in-Some.ensures.items ∙ ap (λ l. l ++ w ∷ []) (sym ended.1))

pub loop-last-preserved : goal.loop-last-preserved
loop-last-preserved c =
    let os = c.args.heap.now.objects in
    let cur = c.loop-last.heap.objects in
    let inv = c.loop-last.invariant in
    let w = c.in-Some.last in
    let ws = c.pop.new.self.items in
    let known = c.loop-last.good.keys in
    let new = c.advance.new.path.items in
    let both = popped os c.loop-last.path.items ws w c.in-Some.ensures.items inv.within in
    let ended = subst (Advances cur w known ws new) c.if-branch.false c.in_ok-advance.ensures in
    let adds = adds-older os cur w.proof c.loop-last.found.keys c.decide.new.found.keys inv.grows both.1.0 inv.found (c.in_ok-holds.ensures.found c.if-not-holds.false) in
    record {
      grows = Grows-trans os cur c.decide.new.heap.objects inv.grows c.decide.ensures.grows;
      within = subst (EachOpen os) (sym ended.1) both.0;
      found = adds.within;
      looks = λ A k.
          let b = basis_over os A c.args.basis.now in
          let answer : c.in_ok-holds.holds ≡ is_step_on b (object_at os w.proof) = c.in_ok-holds.ensures.answer A (AreMarks-grows A os cur c.args.marks.now inv.grows k) ∙ is_step-grows os cur inv.grows A c.args.basis.now c.requires.may.basis w.proof both.1.0 in
          let looks = subst (IsLooking b os c.args.proof known) c.in-Some.ensures.items (inv.looks A k) in
          let none_left = sym (ap is_pair (part_same os cur inv.grows w.left both.1.1)) ∙ ended.0 in
          subst (IsLooking b os c.args.proof c.insert.new.self.keys) (sym ended.1)
          (looking_goes_back b os c.args.proof known c.insert.new.self.keys ws w looks none_left (sym answer ∙ c.if-not-holds.false) (known_or_new known c.insert.new.self.keys w.proof c.in_ok-insert.ensures.updates.0));
    }

pub returns-clause-found : goal.returns-clause-found
returns-clause-found c = λ A k.
    let os = c.args.heap.now.objects in
    let inv = c.loop-last.invariant in
    let b = basis_over os A c.args.basis.now in
    nothing_bad b os c.args.proof c.loop-last.good.keys (subst (IsLooking b os c.args.proof c.loop-last.good.keys) (nothing_left c.loop-last.path.items c.pop.new.self.items c.in_default.ensures.items (omega (arith, c.in_default.ensures.cases.1, c.pop.new.self.ok.0))) (inv.looks A k))
