-- One more of which the subproofs are found, or which is no derivation; and at the end all are put in order.
use Rattle.std.proofs.Common.{◌≡◌, ◌<◌, ◌≤◌, None, length, refl, sym, ◌∙◌, subst, arith}
use Rattle.std.proofs.lemmas.List.Sorted.{IsNonDecreasingBy-from_sort}
use Rattle.mw_model.specs.Terms.Term.{ArityTable}
use Rattle.mw_heap.specs.Objects.{object_at, IsIn}
use Rattle.mw_term.specs.Marking.{AreMarks}
use Rattle.mw_proof.specs.Gathered.{IsAmong, AreIn, AddsSubproofs}
use Rattle.mw_proof.proofs.Gathering.{holds_alone, gathers_starts, gathers_more, gathered, read_at, next_in, few, IsAmong-at}
use Rattle.mw_lower.specs.Turned.{derived_on}
use Rattle.mw_lower.proofs.DerivationSteps.{no_derivation}
use Rattle.mw_lower.proofs.SortedParts.{sorted_parts}
use Rattle.mw_lower.proofs.parts.add_parts.Goals as goal

pub loop-next-init : goal.loop-next-init
loop-next-init c = record {
  same = refl;
  gathers = gathers_starts c.args.heap.now.objects c.insert.new.self.keys c.args.proof c.requires.within
      (holds_alone c.insert.new.self.keys c.args.found.now.keys c.args.proof c.requires.empty c.in_ok-insert.ensures.updates.1 c.in_ok-insert.ensures.updates.0);
}

pub add_subproofs-requires-clause-marks : goal.add_subproofs-requires-clause-marks
add_subproofs-requires-clause-marks c = subst (λ os. (A : ArityTable) × AreMarks A os c.args.marks.now) (sym c.loop-next.invariant.same) c.requires.marks

pub add_subproofs-requires-clause-within : goal.add_subproofs-requires-clause-within
add_subproofs-requires-clause-within c =
    let os = c.args.heap.now.objects in
    let keys = c.loop-next.found.keys in
    let next = c.loop-next.next in
    let l : next < length keys = omega (arith, c.loop-next-test.true, c.len.ensures.len) in
    let p_is = read_at c.index-as_slice-next.result _ keys next (length keys) c.index-as_slice-next.is c.as_slice.ensures.keys l refl in
    subst (λ n. c.index-as_slice-next.result < n) (sym c.requires.all) (subst (IsIn os) (sym p_is) (next_in os keys c.args.proof next c.loop-next.invariant.gathers l))

pub add_subproofs-requires-clause-all_within : goal.add_subproofs-requires-clause-all_within
add_subproofs-requires-clause-all_within c = subst (λ os. AreIn os c.loop-next.found.keys) (sym c.loop-next.invariant.same) c.loop-next.invariant.gathers.within

pub returns-then-not-branch-clause-none : goal.returns-then-not-branch-clause-none
returns-then-not-branch-clause-none c = λ e b k.
    let os = c.args.heap.now.objects in
    let keys = c.loop-next.found.keys in
    let next = c.loop-next.next in
    let l : next < length keys = omega (arith, c.loop-next-test.true, c.len.ensures.len) in
    let p = c.index-as_slice-next.result in
    let p_is = read_at p _ keys next (length keys) c.index-as_slice-next.is c.as_slice.ensures.keys l refl in
    let made = c.loop-next.invariant.gathers.made_of p (subst (IsAmong keys) (sym p_is) (IsAmong-at keys next l)) in
    let none = subst (λ o. AreMarks b.table o c.args.marks.now → derived_on b (object_at o p) ≡ None) c.loop-next.invariant.same (c.in_ok-add_subproofs.ensures.none c.if-not-branch.true b) in
    no_derivation b (object_at os c.args.proof) (object_at os p) made (none k)

pub loop-next-smaller : goal.loop-next-smaller
loop-next-smaller c =
    let l = c.loop-next-test.true in
    let f = few c.args.heap.now.objects c.loop-next.found.keys c.args.proof c.loop-next.next c.loop-next.invariant.gathers c.len.ensures.unique in
    omega (arith, l, c.len.ensures.len, f)

pub loop-next-preserved : goal.loop-next-preserved
loop-next-preserved c =
    let os = c.args.heap.now.objects in
    let keys = c.loop-next.found.keys in
    let next = c.loop-next.next in
    let l : next < length keys = omega (arith, c.loop-next-test.true, c.len.ensures.len) in
    let p = c.index-as_slice-next.result in
    let p_is = read_at p _ keys next (length keys) c.index-as_slice-next.is c.as_slice.ensures.keys l refl in
    let more = c.add_subproofs.new.found.keys in
    let adds = subst (λ o. AddsSubproofs o p keys more) c.loop-next.invariant.same (c.in_ok-add_subproofs.ensures.found c.if-not-branch.false) in
    record {
      same = c.add_subproofs.ensures.same ∙ c.loop-next.invariant.same;
      gathers = gathers_more os keys c.args.proof next c.loop-next.invariant.gathers more l (subst (λ q. AddsSubproofs os q keys more) p_is adds);
    }

pub returns-clause-parts : goal.returns-clause-parts
returns-clause-parts c = λ e.
    let os = c.args.heap.now.objects in
    let keys = c.loop-next.found.keys in
    let end : length keys ≤ c.loop-next.next = omega (arith, c.loop-next-test.false, c.len.ensures.len) in
    let all = gathered os keys c.args.proof c.loop-next.next c.loop-next.invariant.gathers end c.len.ensures.unique in
    let sorted = c.sort_unstable.new.self.keys in
    sorted_parts os keys sorted c.in_ok-sort_unstable.ensures.reordered.2 c.args.proof all (IsNonDecreasingBy-from_sort (λ x. x) sorted c.in_ok-sort_unstable.ensures.sorted)
