-- At first the proof alone is found; one more of which all holds; and what follows where it holds of all, or of one it does not.
use Rattle.std.proofs.Common.{◌≡◌, ◌<◌, ◌≤◌, length, true, refl, sym, ◌∙◌, subst, arith}
use Rattle.mw_heap.specs.Objects.{object_at, IsIn}
use Rattle.mw_heap.proofs.Objects.{Grows-refl, Grows-trans, IsIn-Grows}
use Rattle.mw_term.proofs.CallerLemmas.{AreMarks-grows}
use Rattle.mw_proof.specs.Gathered.{IsAmong, AddsSubproofs}
use Rattle.mw_proof.specs.Judging.{basis_over, is_step_on}
use Rattle.mw_proof.proofs.Deciding.{All-map}
use Rattle.mw_proof.proofs.Gathering.{holds_alone, none_decided, gathers_starts, gathers_more, gathered, read_at, next_in, few, IsAmong-at, place, adds-older, some_decided, holds_more}
use Rattle.mw_proof.proofs.Holding.{is_step-grows, no_proof, are_proofs}
use Rattle.mw_proof.proofs.judging.all_hold.Goals as goal

pub returns-in_err-insert-clause-most : goal.returns-in_err-insert-clause-most
returns-in_err-insert-clause-most g c = none_decided c.args.heap.now.objects c.args.proof c.args.steps.now

pub loop-next-init : goal.loop-next-init
loop-next-init g c = record {
  grows = Grows-refl c.args.heap.now.objects;
  gathers = gathers_starts c.args.heap.now.objects c.insert.new.self.keys c.args.proof c.requires.within
      (holds_alone c.insert.new.self.keys c.args.found.now.keys c.args.proof c.requires.none_found c.in_ok-insert.ensures.updates.1 c.in_ok-insert.ensures.updates.0);
  holds = λ A k i l. absurd (omega (arith, l));
  steps = omega arith;
}

pub decide-requires-clause-marks : goal.decide-requires-clause-marks
decide-requires-clause-marks g c = (c.requires.marks.0, AreMarks-grows c.requires.marks.0 c.args.heap.now.objects c.loop-next.heap.objects c.args.marks.now c.loop-next.invariant.grows c.requires.marks.1)

pub decide-requires-clause-within : goal.decide-requires-clause-within
decide-requires-clause-within g c =
    let os = c.args.heap.now.objects in
    let keys = c.loop-next.found.keys in
    let next = c.loop-next.next in
    let l : next < length keys = omega (arith, c.loop-next-test.true, c.len.ensures.len) in
    let p_is = read_at c.index-as_slice-next.result _ keys next (length keys) c.index-as_slice-next.is c.as_slice.ensures.keys l refl in
    let p_in = next_in os keys c.args.proof next c.loop-next.invariant.gathers l in
    subst (λ n. c.index-as_slice-next.result < n) (sym c.requires.all) (subst (IsIn os) (sym p_is) p_in)

pub decide-requires-clause-axioms : goal.decide-requires-clause-axioms
decide-requires-clause-axioms g c = All-map (IsIn c.args.heap.now.objects) (IsIn c.loop-next.heap.objects) c.args.basis.now.axioms.now (λ r. IsIn-Grows c.args.heap.now.objects c.loop-next.heap.objects c.loop-next.invariant.grows r) c.requires.basis.axioms

pub decide-requires-clause-theorems : goal.decide-requires-clause-theorems
decide-requires-clause-theorems g c = All-map (IsIn c.args.heap.now.objects) (IsIn c.loop-next.heap.objects) c.args.basis.now.theorems.now (λ r. IsIn-Grows c.args.heap.now.objects c.loop-next.heap.objects c.loop-next.invariant.grows r) c.requires.basis.theorems

pub decide-requires-clause-all_within : goal.decide-requires-clause-all_within
decide-requires-clause-all_within g c = λ q k. IsIn-Grows c.args.heap.now.objects c.loop-next.heap.objects c.loop-next.invariant.grows q (c.loop-next.invariant.gathers.within q k)

pub returns-in_err-holds-clause-grows : goal.returns-in_err-holds-clause-grows
returns-in_err-holds-clause-grows g c = Grows-trans c.args.heap.now.objects c.loop-next.heap.objects c.decide.new.heap.objects c.loop-next.invariant.grows c.decide.ensures.grows

pub returns-in_err-holds-clause-most : goal.returns-in_err-holds-clause-most
returns-in_err-holds-clause-most g c =
    let l = c.loop-next-test.true in
    some_decided c.args.heap.now.objects c.loop-next.found.keys c.args.proof c.loop-next.next c.args.steps.now _ c.loop-next.invariant.gathers c.len.ensures.unique (omega (arith, l, c.len.ensures.len, c.loop-next.invariant.steps, c.tick.ensures))

pub returns-then-not-holds-clause-grows : goal.returns-then-not-holds-clause-grows
returns-then-not-holds-clause-grows g c = Grows-trans c.args.heap.now.objects c.loop-next.heap.objects c.decide.new.heap.objects c.loop-next.invariant.grows c.decide.ensures.grows

pub returns-then-not-holds-clause-most : goal.returns-then-not-holds-clause-most
returns-then-not-holds-clause-most g c =
    let l = c.loop-next-test.true in
    some_decided c.args.heap.now.objects c.loop-next.found.keys c.args.proof c.loop-next.next c.args.steps.now _ c.loop-next.invariant.gathers c.len.ensures.unique (omega (arith, l, c.len.ensures.len, c.loop-next.invariant.steps, c.tick.ensures))

pub returns-then-not-holds-clause-judged : goal.returns-then-not-holds-clause-judged
returns-then-not-holds-clause-judged g c = λ A k.
    let os = c.args.heap.now.objects in
    let new = c.loop-next.heap.objects in
    let keys = c.loop-next.found.keys in
    let next = c.loop-next.next in
    let inv = c.loop-next.invariant in
    let l : next < length keys = omega (arith, c.loop-next-test.true, c.len.ensures.len) in
    let p = c.index-as_slice-next.result in
    let p_is = read_at p _ keys next (length keys) c.index-as_slice-next.is c.as_slice.ensures.keys l refl in
    let p_in = subst (IsIn os) (sym p_is) (next_in os keys c.args.proof next inv.gathers l) in
    let b = basis_over os A c.args.basis.now in
    let answer : c.in_ok-holds.holds ≡ is_step_on b (object_at os p) = c.in_ok-holds.ensures.answer A (AreMarks-grows A os new c.args.marks.now inv.grows k) ∙ is_step-grows os new inv.grows A c.args.basis.now c.requires.basis p p_in in
    let made = inv.gathers.made_of p (subst (IsAmong keys) (sym p_is) (IsAmong-at keys next l)) in
    sym (no_proof b (object_at os c.args.proof) (object_at os p) made (sym answer ∙ c.if-not-holds.true))

pub loop-next-smaller : goal.loop-next-smaller
loop-next-smaller g c =
    let l = c.loop-next-test.true in
    let f = few c.args.heap.now.objects c.loop-next.found.keys c.args.proof c.loop-next.next c.loop-next.invariant.gathers c.len.ensures.unique in
    omega (arith, l, c.len.ensures.len, f)

pub loop-next-preserved : goal.loop-next-preserved
loop-next-preserved g c =
    let os = c.args.heap.now.objects in
    let new = c.loop-next.heap.objects in
    let keys = c.loop-next.found.keys in
    let next = c.loop-next.next in
    let inv = c.loop-next.invariant in
    let l : next < length keys = omega (arith, c.loop-next-test.true, c.len.ensures.len) in
    let p = c.index-as_slice-next.result in
    let p_is = read_at p _ keys next (length keys) c.index-as_slice-next.is c.as_slice.ensures.keys l refl in
    let p_in = subst (IsIn os) (sym p_is) (next_in os keys c.args.proof next inv.gathers l) in
    let more = c.decide.new.found.keys in
    let adds = adds-older os new p keys more inv.grows p_in inv.gathers.within (c.in_ok-holds.ensures.found c.if-not-holds.false) in
    let gathers = gathers_more os keys c.args.proof next inv.gathers more l (subst (λ q. AddsSubproofs os q keys more) p_is adds) in
    record {
      grows = Grows-trans os new c.decide.new.heap.objects inv.grows c.decide.ensures.grows;
      gathers = gathers;
      holds = λ A k.
          let b = basis_over os A c.args.basis.now in
          let answer : c.in_ok-holds.holds ≡ is_step_on b (object_at os p) = c.in_ok-holds.ensures.answer A (AreMarks-grows A os new c.args.marks.now inv.grows k) ∙ is_step-grows os new inv.grows A c.args.basis.now c.requires.basis p p_in in
          holds_more (λ q. is_step_on b (object_at os q) ≡ true) keys more adds.more next l adds.longer (inv.holds A k) (subst (λ q. is_step_on b (object_at os q) ≡ true) p_is (sym answer ∙ c.if-not-holds.false));
      steps = omega (arith, inv.steps, c.tick.ensures);
    }

pub returns-clause-grows : goal.returns-clause-grows
returns-clause-grows g c = c.loop-next.invariant.grows

pub returns-clause-judged : goal.returns-clause-judged
returns-clause-judged g c = λ A k.
    let os = c.args.heap.now.objects in
    let keys = c.loop-next.found.keys in
    let inv = c.loop-next.invariant in
    let b = basis_over os A c.args.basis.now in
    let end : length keys ≤ c.loop-next.next = omega (arith, c.loop-next-test.false, c.len.ensures.len) in
    let all = gathered os keys c.args.proof c.loop-next.next inv.gathers end c.len.ensures.unique in
    sym (are_proofs b os keys all.held (λ p h. let q = place keys p h in subst (λ r. is_step_on b (object_at os r) ≡ true) q.2 (inv.holds A k q.0 (omega (arith, q.1, end)))) c.args.proof all.here)

pub returns-clause-each : goal.returns-clause-each
returns-clause-each g c = λ e.
    let keys = c.loop-next.found.keys in
    let inv = c.loop-next.invariant in
    let end : length keys ≤ c.loop-next.next = omega (arith, c.loop-next-test.false, c.len.ensures.len) in
    let n = inv.gathers.next_within in
    (keys, gathered c.args.heap.now.objects keys c.args.proof c.loop-next.next inv.gathers end c.len.ensures.unique, omega (arith, n, end, inv.steps))

pub returns-clause-most : goal.returns-clause-most
returns-clause-most g c =
    let inv = c.loop-next.invariant in
    let n = inv.gathers.next_within in
    some_decided c.args.heap.now.objects c.loop-next.found.keys c.args.proof c.loop-next.next c.args.steps.now _ inv.gathers c.len.ensures.unique (omega (arith, n, inv.steps))
