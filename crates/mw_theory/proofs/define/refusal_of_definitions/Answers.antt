-- The tests of the functions, and then those of their proofs.
use Rattle.std.proofs.Common.{Some, ap₂, ◌∙◌, subst, arith}
use Rattle.std.proofs.lemmas.Result.{IfOk-weaker}
use Rattle.mw_model.specs.Values.Definition.{arity_table}
use Rattle.mw_model.specs.Events.Obligation.{obligations}
use Rattle.mw_model.specs.Events.Admission.{functions, measures}
use Rattle.mw_heap.specs.Objects.{object_at}
use Rattle.mw_heap.proofs.Objects.{IsIn-Grows, object_at-Grows, Grows-trans}
use Rattle.mw_term.proofs.CallerLemmas.{AreMarks-grows}
use Rattle.mw_define.specs.BlockTests.{IsBlockOf, IsBlockOfWithin}
use Rattle.mw_define.specs.declared.admitted.Admitted.TheVariants as admitted
use Rattle.mw_theory.specs.Knowledge.{parts_of, meant}
use Rattle.mw_theory.specs.Proofs.{judged_all}
use Rattle.mw_theory.specs.Admitting.{drafts_given}
use Rattle.mw_theory.proofs.Held.{meant-grows}
use Rattle.mw_theory.proofs.Defined.{given-within, given-passed, refused-given-within, definitions-judged}
use Rattle.mw_theory.proofs.Judging.{may_judge_grows}
use Rattle.mw_theory.proofs.define.refusal_of_definitions.Goals as goal

pub refusal_of_proofs-requires-clause-may : goal.refusal_of_proofs-requires-clause-may
refusal_of_proofs-requires-clause-may g c = may_judge_grows _ _ _ _ _ _ c.admit_within.ensures.grows c.requires.may

pub returns-in-Refused-clause-defined : goal.returns-in-Refused-clause-defined
returns-in-Refused-clause-defined g c = λ before grows ready.
    let os = c.args.heap.now.objects in
    let given = drafts_given os c.args.drafts.now in
    let reason = c.in-Refused.reason in
    let most = c.count_members-most.result in
    refused-given-within (g.J.Judge.judges c.args.judge.now before) (meant os (parts_of c.args.theory.now)) (object_at os c.args.proofs) c.admit_within.new.heap.objects most given reason (omega (arith, c.count_members-most.ensures))
    (subst (λ B. IsBlockOfWithin (Some most) B given c.admit_within.new.heap.objects (admitted.Refused reason)) c.requires.may.held.arities c.in-Refused.ensures.admitted)

pub returns-in-Obligations-clause-defined : goal.returns-in-Obligations-clause-defined
returns-in-Obligations-clause-defined g c = λ before grows ready.
    let os = c.args.heap.now.objects in
    let new = c.admit_within.new.heap.objects in
    let given = drafts_given os c.args.drafts.now in
    let t = meant os (parts_of c.args.theory.now) in
    let owed = c.in-Obligations.owed in
    let p = given-passed (arity_table t.definitions) given new owed (subst (λ B. IsBlockOf B given new (admitted.Obligations owed)) c.requires.may.held.arities (given-within c.count_members-most.result c.args.theory.now.arity given new owed c.in-Obligations.ensures.admitted)) in
    let q = p.passes in
    let Fs = obligations (functions q.names q.formals q.bodies) (measures q.names q.measures_of) in
    let same = ap₂ (λ u x. judged_all (g.J.Judge.judges c.args.judge.now before) u Fs x) (meant-grows os new c.admit_within.ensures.grows c.args.theory.now c.requires.may.held) (object_at-Grows os new c.admit_within.ensures.grows c.args.proofs c.requires.proofs) in
    IfOk-weaker c.refusal_of_proofs.result _ _ (λ r is. definitions-judged (g.J.Judge.judges c.args.judge.now before) t (object_at os c.args.proofs) new given owed p _ (is Fs q.obligations ∙ same)) (c.refusal_of_proofs.ensures.refusal before (Grows-trans before os new grows c.admit_within.ensures.grows) ready)

pub refusal_of_proofs-requires-clause-proofs : goal.refusal_of_proofs-requires-clause-proofs
refusal_of_proofs-requires-clause-proofs g c = IsIn-Grows _ _ c.admit_within.ensures.grows _ c.requires.proofs

pub returns-in-Refused-clause-marked : goal.returns-in-Refused-clause-marked
returns-in-Refused-clause-marked g c = AreMarks-grows _ _ _ _ c.admit_within.ensures.grows c.requires.may.marked

pub returns-in-Memory-clause-marked : goal.returns-in-Memory-clause-marked
returns-in-Memory-clause-marked g c = AreMarks-grows _ _ _ _ c.admit_within.ensures.grows c.requires.may.marked

pub returns-in-Obligations-clause-grows : goal.returns-in-Obligations-clause-grows
returns-in-Obligations-clause-grows g c = Grows-trans _ _ _ c.admit_within.ensures.grows c.refusal_of_proofs.ensures.grows
