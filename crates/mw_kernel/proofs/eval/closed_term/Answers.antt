-- By the tests, in their order.
use Rattle.std.proofs.Common.{sym, ◌∙◌, subst, Some, None, ◌≡◌}
use Rattle.mw_model.specs.Events.Expansion.{expand}
use Rattle.mw_heap.specs.Objects.{object_at}
use Rattle.mw_kernel.proofs.Evaluating.{refused_term, refused_variables, expanded-read}
use Rattle.mw_kernel.proofs.eval.closed_term.Goals as goal

pub returns-then-branch-clause-tried : goal.returns-then-branch-clause-tried
returns-then-branch-clause-tried c =
    let x = object_at c.args.heap.now.objects c.args.raw in
    let e = c.in-Term.ensures.expanded in
    let read = expanded-read c.args.arity.now c.expand.new.heap.objects x c.in-Term.term e.0 e.1 e.3 in
    (e.0, e.1, sym (c.in_ok-has_no_variables-in-Term.ensures e.0 read) ∙ c.if-branch.true, e.2, e.3)

pub returns-else-branch-clause-tried : goal.returns-else-branch-clause-tried
returns-else-branch-clause-tried c = λ t N arities.
    let x = object_at c.args.heap.now.objects c.args.raw in
    let e = c.in-Term.ensures.expanded in
    let read = expanded-read c.args.arity.now c.expand.new.heap.objects x c.in-Term.term e.0 e.1 e.3 in
    refused_variables t N x e.0 (subst (λ A. expand A x ≡ Some e.0) arities e.1) (sym (c.in_ok-has_no_variables-in-Term.ensures e.0 read) ∙ c.if-branch.false)

pub returns-in-NotTerm-clause-tried : goal.returns-in-NotTerm-clause-tried
returns-in-NotTerm-clause-tried c = λ t N arities.
    let x = object_at c.args.heap.now.objects c.args.raw in
    refused_term t N x (subst (λ A. expand A x ≡ None) arities c.in-NotTerm.ensures.expanded)
