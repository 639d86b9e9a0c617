-- By the tests, and then by the run.
use Rattle.std.proofs.Common.{[], sym, ap, ◌∙◌, subst, Some, ◌≡◌}
use Rattle.mw_model.specs.Events.Expansion.{expand}
use Rattle.mw_model.specs.Events.Evaluation.{evaluate}
use Rattle.mw_heap.specs.Objects.{object_at}
use Rattle.mw_kernel.specs.Evaluating.{IsTried}
use Rattle.mw_kernel.proofs.Evaluating.{tried-closed, evaluated_is, table-grows}
use Rattle.mw_kernel.proofs.eval.evaluated.Goals as goal

pub run_term-outcome-requires : goal.run_term-outcome-requires
run_term-outcome-requires c =
    let x = object_at c.args.heap.now.objects c.args.raw in
    let new = c.closed_term.new.heap.objects in
    let tried = subst (IsTried c.args.arity.now new x) c.in-Closed.is c.in_ok-reason.ensures.tried in
    let given = c.requires.table in
    (given.0, tried.0, table-grows c.args.heap.now.objects new c.closed_term.ensures.grows c.args.table.now given.0 given.1, tried-closed given.0 c.args.arity.now given.2 new x c.in-Closed.term tried)

pub fate_of_run-requires : goal.fate_of_run-requires
fate_of_run-requires c =
    let x = object_at c.args.heap.now.objects c.args.raw in
    let new = c.closed_term.new.heap.objects in
    let tried = subst (IsTried c.args.arity.now new x) c.in-Closed.is c.in_ok-reason.ensures.tried in
    let given = c.requires.table in (
      evaluate given.0 c.args.steps [] tried.0,
      c.run_term-outcome.ensures.outcome given.0 tried.0 (table-grows c.args.heap.now.objects new c.closed_term.ensures.grows c.args.table.now given.0 given.1) (tried-closed given.0 c.args.arity.now given.2 new x c.in-Closed.term tried),
    )

pub returns-in_ok-fate_of_run-in-Closed-clause-fate : goal.returns-in_ok-fate_of_run-in-Closed-clause-fate
returns-in_ok-fate_of_run-in-Closed-clause-fate c = λ t stands arities.
    let x = object_at c.args.heap.now.objects c.args.raw in
    let new = c.closed_term.new.heap.objects in
    let tried = subst (IsTried c.args.arity.now new x) c.in-Closed.is c.in_ok-reason.ensures.tried in
    let D = t.definitions in
    c.in_ok-fate_of_run-in-Closed.ensures t (evaluate D c.args.steps [] tried.0)
    (c.run_term-outcome.ensures.outcome D tried.0 (table-grows c.args.heap.now.objects new c.closed_term.ensures.grows c.args.table.now D stands) (tried-closed D c.args.arity.now arities new x c.in-Closed.term tried))
    ∙ ap (λ r. r.0) (sym (evaluated_is t c.args.steps x tried.0 (subst (λ A. expand A x ≡ Some tried.0) arities tried.1) tried.2))
