-- The decision on the formula.
use Rattle.std.proofs.Common.{[], ◌∷◌, subst}
use Rattle.mw_model.specs.Terms.Reading.{formula_under}
use Rattle.mw_commands.specs.Commands.Tautology.{decision}
use Rattle.mw_heap.specs.Objects.{object_at, IsIn}
use Rattle.mw_heap.proofs.Objects.{IsIn-Grows}
use Rattle.mw_taut.specs.Decided.{IsDecision}
use Rattle.mw_taut.proofs.Given.{all_given}
use Rattle.mw_taut.proofs.Verdicts.{present, proof_holds, theorem_found, choice_found, many_found}
use Rattle.mw_taut.proofs.verdict.decided.Goals as goal

pub form_of-requires : goal.form_of-requires
form_of-requires c =
    let os = c.args.heap.now.objects in
    let mid = c.decide.new.heap.objects in
    let A = c.args.arity.now in
    let f = present (formula_under A (object_at os c.args.formula)) c.requires.formula in
    let proof_in = (proof_holds mid A f.0 (decision f.0) c.in-Proof.proof (subst (IsDecision mid A f.0 (decision f.0)) c.in-Proof.is (c.decide.ensures.decided f.0 f.1))).1 in
    let named = c.requires.named.1 in
    all_given (IsIn mid) (c.args.name ∷ c.args.formula ∷ c.in-Proof.proof ∷ []) (IsIn-Grows os mid c.decide.ensures.grows c.args.name named.name_in, (IsIn-Grows os mid c.decide.ensures.grows c.args.formula named.formula_in, (proof_in, tt)))

pub returns-in_ok-theorem-in-Proof-clause-verdict : goal.returns-in_ok-theorem-in-Proof-clause-verdict
returns-in_ok-theorem-in-Proof-clause-verdict c = λ x named.
    let os = c.args.heap.now.objects in
    let mid = c.decide.new.heap.objects in
    let A = c.args.arity.now in
    let f = present (formula_under A (object_at os c.args.formula)) c.requires.formula in
    theorem_found os mid c.form_of.new.heap.objects c.decide.ensures.grows A c.requires.arity c.args.name c.args.formula f.0 f.1 x named c.in-Proof.proof c.in_ok-theorem-in-Proof.theorem
    (subst (IsDecision mid A f.0 (decision f.0)) c.in-Proof.is (c.decide.ensures.decided f.0 f.1)) c.in_ok-theorem-in-Proof.ensures.made.0 c.in_ok-theorem-in-Proof.ensures.made.1

pub returns-in-Choice-clause-verdict : goal.returns-in-Choice-clause-verdict
returns-in-Choice-clause-verdict c = λ x named.
    let os = c.args.heap.now.objects in
    let mid = c.decide.new.heap.objects in
    let A = c.args.arity.now in
    let f = present (formula_under A (object_at os c.args.formula)) c.requires.formula in
    choice_found os mid mid c.decide.ensures.grows A c.requires.arity c.args.name c.args.formula f.0 f.1 x named c.in-Choice.choice
    (subst (IsDecision mid A f.0 (decision f.0)) c.in-Choice.is (c.decide.ensures.decided f.0 f.1))

pub returns-in-Many-clause-verdict : goal.returns-in-Many-clause-verdict
returns-in-Many-clause-verdict c = λ x named.
    let os = c.args.heap.now.objects in
    let mid = c.decide.new.heap.objects in
    let A = c.args.arity.now in
    let f = present (formula_under A (object_at os c.args.formula)) c.requires.formula in
    many_found os mid mid c.decide.ensures.grows A c.requires.arity c.args.name c.args.formula f.0 f.1 x named
    (subst (IsDecision mid A f.0 (decision f.0)) c.in-Many.is (c.decide.ensures.decided f.0 f.1))
