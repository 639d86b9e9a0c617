-- The checker's code is found, and its run is that of its call on the proof and the theory.
use Rattle.std.proofs.Common.{[], sym, ◌∙◌, subst}
use Rattle.std.proofs.lemmas.Result.{IfOk-weaker}
use Rattle.mw_model.specs.Events.Evaluation.{evaluate}
use Rattle.mw_code.specs.Tables.{StandsFor}
use Rattle.mw_theory.specs.Knowledge.{parts_of, definitions_of}
use Rattle.mw_kernel.proofs.Judged.{code-found, never-missed, checker_call, checker-count, checker-entry, checker-verdict}
use Rattle.mw_kernel.proofs.judging.refusal_by_run.Goals as goal

pub unreachable-requires : goal.unreachable-requires
unreachable-requires c =
    let os = c.args.heap.now.objects in
    let t = c.args.theory.now in
    let found = code-found os t c.requires.held c.args.checker c.requires.checker c.deref.result.now c.deref.ensures c.name_of.result.now c.name_of.ensures c.find.result (c.find.ensures.code os) in
    never-missed os t c.requires.held c.args.checker c.requires.checker c.find.result c.in_default.is found

pub run_entry-outcome-requires-clause-entry : goal.run_entry-outcome-requires-clause-entry
run_entry-outcome-requires-clause-entry c =
    let os = c.args.heap.now.objects in
    let t = c.args.theory.now in
    let h = c.requires.held in
    let found = code-found os t h c.args.checker c.requires.checker c.deref.result.now c.deref.ensures c.name_of.result.now c.name_of.ensures c.find.result (c.find.ensures.code os) in
    let D = definitions_of os (parts_of t) in (
      D,
      checker_call os t h c.args.checker c.requires.checker c.args.proof,
      subst (λ T. StandsFor os T D) (sym c.deref-2.ensures) h.coded,
      checker-entry os t h c.args.checker c.requires.checker c.args.proof c.deref-2.result.now c.deref-2.ensures c.in-Some.code c.find.result c.in-Some.is found,
    )

pub run_entry-outcome-requires-clause-count : goal.run_entry-outcome-requires-clause-count
run_entry-outcome-requires-clause-count c =
    let os = c.args.heap.now.objects in
    let t = c.args.theory.now in
    let found = code-found os t c.requires.held c.args.checker c.requires.checker c.deref.result.now c.deref.ensures c.name_of.result.now c.name_of.ensures c.find.result (c.find.ensures.code os) in
    checker-count os t c.requires.held c.args.checker c.requires.checker c.in-Some.code c.find.result c.in-Some.is found

pub refusal_of_outcome-requires : goal.refusal_of_outcome-requires
refusal_of_outcome-requires c =
    let os = c.args.heap.now.objects in
    let t = c.args.theory.now in
    let h = c.requires.held in
    let found = code-found os t h c.args.checker c.requires.checker c.deref.result.now c.deref.ensures c.name_of.result.now c.name_of.ensures c.find.result (c.find.ensures.code os) in
    let D = definitions_of os (parts_of t) in
    let u = checker_call os t h c.args.checker c.requires.checker c.args.proof in (
      evaluate D c.args.steps [] u,
      c.run_entry-outcome.ensures.answer D u (subst (λ T. StandsFor os T D) (sym c.deref-2.ensures) h.coded)
          (checker-entry os t h c.args.checker c.requires.checker c.args.proof c.deref-2.result.now c.deref-2.ensures c.in-Some.code c.find.result c.in-Some.is found),
    )

pub returns-clause-refusal : goal.returns-clause-refusal
returns-clause-refusal c =
    let os = c.args.heap.now.objects in
    let t = c.args.theory.now in
    let h = c.requires.held in
    let found = code-found os t h c.args.checker c.requires.checker c.deref.result.now c.deref.ensures c.name_of.result.now c.name_of.ensures c.find.result (c.find.ensures.code os) in
    let D = definitions_of os (parts_of t) in
    let u = checker_call os t h c.args.checker c.requires.checker c.args.proof in
    let answer = c.run_entry-outcome.ensures.answer D u (subst (λ T. StandsFor os T D) (sym c.deref-2.ensures) h.coded)
    (checker-entry os t h c.args.checker c.requires.checker c.args.proof c.deref-2.result.now c.deref-2.ensures c.in-Some.code c.find.result c.in-Some.is found) in
    IfOk-weaker c.refusal_of_outcome.result _ _ (λ r is. is ∙ checker-verdict os t h c.args.checker c.requires.checker c.args.proof c.args.steps)
    (c.refusal_of_outcome.ensures (evaluate D c.args.steps [] u) answer)
