-- One conclusion more, and the ends of the list.
use Rattle.std.proofs.Common.{◌≡◌, true, false, eqb, Some, length, inl, inr, sym, ◌∙◌, ap, subst, arith}
use Rattle.std.specs.Option.{option_eq}
use Rattle.mw_model.specs.Terms.Object.{second_of}
use Rattle.mw_model.specs.Laws.Rules.{is_formula_object}
use Rattle.mw_heap.specs.Objects.{object_at}
use Rattle.mw_proof.proofs.Collecting.{Collects, collect_starts, collects_more, collects_all, stops_at_most, stops_at_no_formula, stops_at_end}
use Rattle.mw_proof.proofs.Gathering.{HasMembers-nil, walk_starts, walk_goes_on, walk_ends}
use Rattle.mw_proof.proofs.conclusions.conclusions_of.Goals as goal

pub loop-p-preserved : goal.loop-p-preserved
loop-p-preserved c =
    let os = c.args.heap.now.objects in
    let ms = c.args.marks.now in
    let list = c.args.subproofs in
    let cs = c.loop-p.conclusions.items in
    let count : c.len.result ≡ length cs = omega arith in
    let some_left : option_eq eqb c.args.most (Some (length cs)) ≡ false = ap (λ n. option_eq eqb c.args.most (Some n)) (sym count) ∙ (sym c.eq.ensures ∙ c.if-eq.false) in
    let shown = c.in-Pair.ensures.shows in (
      subst (Collects os ms c.args.most list c.in-Pair.more) (sym c.in_ok-push.ensures.items)
          (collects_more os ms c.args.most list c.loop-p.rest cs c.loop-p.invariant.0 c.in-Pair.p c.in-Pair.more shown c.in-Some.conclusion c.in-Pair.ensures.below c.in-Some.ensures.older c.in-Some.ensures.value (λ A k. sym (c.is_formula.ensures A os k) ∙ c.if-not-is_formula.false) some_left),
      walk_goes_on os c.args.found.now.keys list c.loop-p.found.keys c.loop-p.rest c.loop-p.invariant.1 c.in-Pair.p c.in-Pair.more c.insert.new.self.keys _ shown c.in-Pair.ensures.below c.in_ok-insert.ensures.keys c.in_ok-insert.ensures.updates.1 c.in_ok-insert.ensures.updates.0,
    )

pub returns-then-not-is_formula-clause-answer : goal.returns-then-not-is_formula-clause-answer
returns-then-not-is_formula-clause-answer c = λ A k.
    let os = c.args.heap.now.objects in
    let no : is_formula_object A (second_of (object_at os c.in-Pair.p)) ≡ false = ap (is_formula_object A) (sym c.in-Some.ensures.value) ∙ (sym (c.is_formula.ensures A os k) ∙ c.if-not-is_formula.true) in
    inl (stops_at_no_formula os c.args.marks.now c.args.most c.args.subproofs c.loop-p.rest c.loop-p.conclusions.items c.loop-p.invariant.0 c.in-Pair.p c.in-Pair.more c.in-Pair.ensures.shows A k no)

pub returns-then-is_nil : goal.returns-then-is_nil
returns-then-is_nil c =
    let os = c.args.heap.now.objects in
    let nil = sym c.is_nil.ensures ∙ c.if-is_nil.true in
    record {
      answer = collects_all os c.args.marks.now c.args.most c.args.subproofs c.loop-p.rest c.loop-p.conclusions.items c.loop-p.invariant.0 nil;
      found = walk_ends os c.args.found.now.keys c.args.subproofs c.loop-p.found.keys c.loop-p.rest c.loop-p.invariant.1 (HasMembers-nil os c.loop-p.found.keys c.loop-p.rest (object_at os c.loop-p.rest) nil);
    }

pub loop-p-init : goal.loop-p-init
loop-p-init c =
    let os = c.args.heap.now.objects in
    let ms = c.args.marks.now in
    let list = c.args.subproofs in (
      subst (Collects os ms c.args.most list list) (sym c.new-conclusions.ensures.items) (collect_starts os ms c.args.most list (omega (arith, c.requires.within, c.requires.marks.1.within))),
      walk_starts os c.args.found.now.keys list c.requires.all_within,
    )

pub returns-then-eq-clause-answer : goal.returns-then-eq-clause-answer
returns-then-eq-clause-answer c = λ A k.
    let cs = c.loop-p.conclusions.items in
    let count : c.len.result ≡ length cs = omega arith in
    let none_left : option_eq eqb c.args.most (Some (length cs)) ≡ true = ap (λ n. option_eq eqb c.args.most (Some n)) (sym count) ∙ (sym c.eq.ensures ∙ c.if-eq.true) in
    inr (stops_at_most c.args.heap.now.objects c.args.marks.now c.args.most c.args.subproofs c.loop-p.rest cs c.loop-p.invariant.0 c.in-Pair.p c.in-Pair.more c.in-Pair.ensures.shows none_left)

pub returns-else-is_nil-clause-answer : goal.returns-else-is_nil-clause-answer
returns-else-is_nil-clause-answer c = λ A k.
    inl (stops_at_end c.args.heap.now.objects c.args.marks.now c.args.most c.args.subproofs c.loop-p.rest c.loop-p.conclusions.items c.loop-p.invariant.0 c.view.result c.view.ensures.shows c.in_default.not-Pair (sym c.is_nil.ensures ∙ c.if-is_nil.false) A k)
