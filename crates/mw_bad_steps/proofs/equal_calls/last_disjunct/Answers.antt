-- The other side ends with the same disjunct, and is lighter.
use Rattle.std.proofs.Common.{sym, ap, ◌∙◌, arith}
use Rattle.mw_model.specs.Terms.Term.{formula_object}
use Rattle.mw_bad_steps.proofs.EqualCalls.{last_in, last_here}
use Rattle.mw_bad_steps.proofs.FormTests.{lighter_list3}
use Rattle.mw_bad_steps.proofs.equal_calls.last_disjunct.Goals as goal

pub loop-others-smaller : goal.loop-others-smaller
loop-others-smaller c = let l = lighter_list3 _ _ _ _ c.in-Some.ensures.members in omega (arith, l)

pub loop-others-preserved : goal.loop-others-preserved
loop-others-preserved c = record {
  within = c.in-Some.ensures.within.1;
  same = λ F e.
      let p = c.loop-others.invariant.same F e in
      let q = last_in c.args.heap.now.objects p.0 _ _ _ p.1 c.in-Some.ensures.members in
      (q.0, q.1, p.2 ∙ q.2);
}

pub returns-clause-last : goal.returns-clause-last
returns-clause-last c = λ F e.
    let p = c.loop-others.invariant.same F e in
    p.1 ∙ (ap formula_object (last_here p.0 _ p.1 c.in_default.ensures.members) ∙ sym (ap formula_object p.2))
