-- One function after another.
use Rattle.std.proofs.Common.{sym, ap, ◌∙◌, subst}
use Rattle.mw_model.specs.Terms.Reading.{term_of}
use Rattle.mw_model.specs.Events.Obligation.{recursive_calls}
use Rattle.mw_heap.proofs.Objects.{Grows-trans, IsIn-Grows, object_at-Grows}
use Rattle.mw_define.specs.Blocks.{functions_at, function_at}
use Rattle.mw_define.specs.NestedCall.{IsFirstFound}
use Rattle.mw_define.proofs.Knowing.{known-own, known-before, known-names}
use Rattle.mw_define.proofs.OwedCalls.{has-names}
use Rattle.mw_define.proofs.Expanding.{expanded-at}
use Rattle.mw_define.proofs.FirstNested.{none-here, some-here, none-left}
use Rattle.mw_define.proofs.nested_call.find_nested.Goals as goal
use Rattle.mw_define.proofs.nested_call.find_nested.Goals.{In_ok-nested}

pub nested_in-requires-clause-within : goal.nested_in-requires-clause-within
nested_in-requires-clause-within c =
    let x = expanded-at c.args.heap.now.objects c.args.block.now c.loop-index.index c.index-block-index.result c.requires.block.expanded c.loop-index-test.true c.index-block-index.is in
    IsIn-Grows c.args.heap.now.objects c.loop-index.heap.objects c.loop-index.invariant.grows c.index-block-index.result.body x.within.2

pub nested_in-requires-clause-read : goal.nested_in-requires-clause-read
nested_in-requires-clause-read c =
    let x = expanded-at c.args.heap.now.objects c.args.block.now c.loop-index.index c.index-block-index.result c.requires.block.expanded c.loop-index-test.true c.index-block-index.is in
    ((function_at c.args.heap.now.objects c.index-block-index.result).body, ap term_of (object_at-Grows c.args.heap.now.objects c.loop-index.heap.objects c.loop-index.invariant.grows c.index-block-index.result.body x.within.2) ∙ x.body)

pub nested_in-requires-clause-known : goal.nested_in-requires-clause-known
nested_in-requires-clause-known c = known-own c.loop-index.heap.objects c.args.known.now.names.keys c.loop-index.known c.loop-index.invariant.known

pub returns-in_err-nested-clause-grows : goal.returns-in_err-nested-clause-grows
returns-in_err-nested-clause-grows c = Grows-trans _ _ _ c.loop-index.invariant.grows c.nested_in.ensures.grows

pub returns-in-Some-clause-grows : goal.returns-in-Some-clause-grows
returns-in-Some-clause-grows c = Grows-trans _ _ _ c.loop-index.invariant.grows c.in_ok-nested.ensures.grows

-- what was found in the function's body is the first of its calls that is nested
asked : (c : goal.In_ok-nested) → IsFirstFound (functions_at c.args.heap.now.objects c.args.block.now) c.nested_in.new.heap.objects (recursive_calls (functions_at c.args.heap.now.objects c.args.block.now) (function_at c.args.heap.now.objects c.index-block-index.result)) c.in_ok-nested.nested
asked c =
    let os = c.args.heap.now.objects in
    let es = c.args.block.now in
    let e = c.index-block-index.result in
    let keys = c.args.known.now.names.keys in
    let inv = c.loop-index.invariant in
    let x = expanded-at os es c.loop-index.index e c.requires.block.expanded c.loop-index-test.true c.index-block-index.is in
    let same = known-names os c.loop-index.heap.objects keys c.loop-index.known inv.grows c.requires.block.symbols inv.known in
    c.in_ok-nested.ensures.nested (functions_at os es) (function_at os e).body (has-names os es keys c.requires.block.refs ∙ sym same) (ap term_of (object_at-Grows os c.loop-index.heap.objects inv.grows e.body x.within.2) ∙ x.body)

pub returns-in-Some-clause-nested : goal.returns-in-Some-clause-nested
returns-in-Some-clause-nested c =
    let os = c.args.heap.now.objects in
    let es = c.args.block.now in
    let e = c.index-block-index.result in
    let B = functions_at os es in
    let found = subst (IsFirstFound B c.nested_in.new.heap.objects (recursive_calls B (function_at os e))) c.in-Some.is (asked (goal.at.returns-in-Some-clause-nested c).In_ok-nested) in
    (found.0, some-here os es c.loop-index.index e c.loop-index-test.true c.index-block-index.is c.loop-index.invariant.left found.0 found.1, found.2)

pub loop-index-preserved : goal.loop-index-preserved
loop-index-preserved c =
    let os = c.args.heap.now.objects in
    let es = c.args.block.now in
    let e = c.index-block-index.result in
    let B = functions_at os es in
    let inv = c.loop-index.invariant in
    let none = subst (IsFirstFound B c.nested_in.new.heap.objects (recursive_calls B (function_at os e))) c.in_default.is (asked (goal.at.loop-index-preserved c).In_ok-nested) in
    record {
      grows = Grows-trans _ _ _ inv.grows c.in_ok-nested.ensures.grows;
      known = known-before c.loop-index.heap.objects c.nested_in.new.heap.objects c.args.known.now.names.keys c.loop-index.known c.nested_in.new.known inv.known c.in_ok-nested.ensures.known;
      left = none-here os es c.loop-index.index e c.loop-index-test.true c.index-block-index.is inv.left none;
    }

pub returns-clause-nested : goal.returns-clause-nested
returns-clause-nested c = none-left c.args.heap.now.objects c.args.block.now c.loop-index.index c.loop-index-test.false c.loop-index.invariant.left
