-- The count decides, or else the proofs do.
use Rattle.std.proofs.Common.{sym, ◌∙◌}
use Rattle.std.proofs.lemmas.Result.{IfOk-weaker}
use Rattle.mw_theory.specs.Knowledge.{parts_of, meant}
use Rattle.mw_theory.proofs.ProofLists.{not_as_many, as_many}
use Rattle.mw_theory.proofs.proofs.refusal_of_proofs.Goals as goal

pub returns-then-not-has_as_many-clause-refusal : goal.returns-then-not-has_as_many-clause-refusal
returns-then-not-has_as_many-clause-refusal g c = λ os grows ready Fs owed.
    not_as_many (g.J.Judge.judges c.args.judge.now os) (meant c.args.heap.now.objects (parts_of c.args.theory.now)) Fs _ _ owed (sym c.has_as_many.ensures ∙ c.if-not-has_as_many.true)

pub returns-clause-refusal : goal.returns-clause-refusal
returns-clause-refusal g c = λ os grows ready.
    IfOk-weaker c.first_refusal.result _ _ (λ r is. λ Fs owed.
    is Fs owed
    ∙ as_many (g.J.Judge.judges c.args.judge.now os) (meant c.args.heap.now.objects (parts_of c.args.theory.now)) Fs _ _ owed (sym c.has_as_many.ensures ∙ c.if-not-has_as_many.false))
    (c.first_refusal.ensures.refusal os grows ready)
