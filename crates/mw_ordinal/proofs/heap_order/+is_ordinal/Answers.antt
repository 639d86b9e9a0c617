-- Each test that fails decides, and each that passes leaves the rest.
use Rattle.std.proofs.Common.{◌≡◌, true, false, sym, ◌∙◌, arith}
use Rattle.mw_model.specs.Values.Primitive.{is_pair, is_natural}
use Rattle.mw_model.specs.Laws.Ordinal.{is_ordinal}
use Rattle.mw_heap.specs.Objects.{object_at}
use Rattle.mw_ordinal.specs.Leading.{may_lead}
use Rattle.mw_ordinal.proofs.Passed.{without_leading, passes, is_pair-shown, is_natural-shown, without_term, of_no_kind}
use Rattle.mw_ordinal.proofs.heap_order.+is_ordinal.Goals as goal

pub returns-in_default-view : goal.returns-in_default-view
returns-in_default-view t c =
    let os = c.args.heap.now.objects in
    let none : is_pair (object_at os c.in-Pair.term) ≡ false = is_pair-shown os c.view-in-Pair.result _ c.view-in-Pair.ensures.shows c.in_default-view.not-Pair in
    without_term (object_at os c.loop-term.rest) _ (object_at os c.in-Pair.others) c.in-Pair.ensures.shows.2 none ∙ c.loop-term.invariant.tells

pub returns-then-not-may_lead : goal.returns-then-not-may_lead
returns-then-not-may_lead t c =
    let os = c.args.heap.now.objects in
    let exponent : is_ordinal (object_at os c.in-Pair-view.e) ≡ true = sym c.is_ordinal.ensures ∙ c.if-not-is_ordinal.false in
    let leading : may_lead (object_at os c.in-Pair-view.e) (object_at os c.in-Pair-view.c) (object_at os c.in-Pair.others) ≡ false = sym c.may_lead.ensures ∙ c.if-not-may_lead.true in
    without_leading (object_at os c.loop-term.rest) _ _ _ _ c.in-Pair.ensures.shows.2 c.in-Pair-view.ensures.shows.2 exponent leading ∙ c.loop-term.invariant.tells

pub loop-term-preserved : goal.loop-term-preserved
loop-term-preserved t c =
    let os = c.args.heap.now.objects in
    let exponent : is_ordinal (object_at os c.in-Pair-view.e) ≡ true = sym c.is_ordinal.ensures ∙ c.if-not-is_ordinal.false in
    let leading : may_lead (object_at os c.in-Pair-view.e) (object_at os c.in-Pair-view.c) (object_at os c.in-Pair.others) ≡ true = sym c.may_lead.ensures ∙ c.if-not-may_lead.false in
    record {
      within = c.in-Pair.ensures.shows.1;
      older = omega (arith, c.in-Pair.ensures.below.1, c.loop-term.invariant.older);
      tells = passes (object_at os c.loop-term.rest) _ _ _ _ c.in-Pair.ensures.shows.2 c.in-Pair-view.ensures.shows.2 exponent leading ∙ c.loop-term.invariant.tells;
    }

pub returns-in_default-matches : goal.returns-in_default-matches
returns-in_default-matches t c =
    let os = c.args.heap.now.objects in
    let x = object_at os c.loop-term.rest in
    let no_pair : is_pair x ≡ false = is_pair-shown os c.view.result x c.view.ensures.shows c.in_default.not-Pair in
    let no_natural : is_natural x ≡ false = is_natural-shown os c.view-2.result x c.view-2.ensures.shows c.in_default-matches.not-Nat in
    of_no_kind x no_pair no_natural ∙ c.loop-term.invariant.tells
