-- By what they close.
use Rattle.std.proofs.Common.{cond, length, Some, None, sym, ap, ◌∙◌}
use Rattle.mw_translate.proofs.calls.closing_count.Goals as goal

pub returns-then-not-branch-clause-count : goal.returns-then-not-branch-clause-count
returns-then-not-branch-clause-count c = λ t h. sym (ap (λ b. cond b (Some (length c.args.formals.now)) None) (sym (c.in_ok-closes_counted.ensures t h) ∙ c.if-not-branch.true))

pub returns-clause-count : goal.returns-clause-count
returns-clause-count c = λ t h. ap Some c.len.ensures ∙ sym (ap (λ b. cond b (Some (length c.args.formals.now)) None) (sym (c.in_ok-closes_counted.ensures t h) ∙ c.if-not-branch.false))
