-- Whether the name is a function's, and then whether its claim is known.
use Rattle.std.proofs.Common.{true, false, ◌∙◌, sym, subst}
use Rattle.mw_heap.specs.Objects.{object_at}
use Rattle.mw_code.specs.Tables.{StandsFor}
use Rattle.mw_theory.specs.Knowledge.{parts_of, definitions_of, meant}
use Rattle.mw_theory.proofs.CallerLemmas.{all-grow}
use Rattle.mw_kernel.proofs.Switching.{no-checker, checker-symbol, claim-decided}
use Rattle.mw_kernel.proofs.switch.refusal_of_switch.Goals as goal

pub may_check-requires-clause-table : goal.may_check-requires-clause-table
may_check-requires-clause-table c = (definitions_of c.args.heap.now.objects (parts_of c.args.theory.now), subst (λ T. StandsFor c.args.heap.now.objects T (definitions_of c.args.heap.now.objects (parts_of c.args.theory.now))) (sym c.deref.ensures) c.requires.held.coded)

pub returns-then-not-may_check-clause-refusal : goal.returns-then-not-may_check-clause-refusal
returns-then-not-may_check-clause-refusal c =
    let os = c.args.heap.now.objects in
    let t = meant os (parts_of c.args.theory.now) in
    no-checker t (object_at os c.args.name) (sym (c.may_check.ensures t (subst (λ T. StandsFor c.args.heap.now.objects T (definitions_of c.args.heap.now.objects (parts_of c.args.theory.now))) (sym c.deref.ensures) c.requires.held.coded)) ∙ c.if-not-may_check.true)

pub claim-requires-clause-symbol : goal.claim-requires-clause-symbol
claim-requires-clause-symbol c =
    let os = c.args.heap.now.objects in
    let t = meant os (parts_of c.args.theory.now) in
    checker-symbol t (object_at os c.args.name) (sym (c.may_check.ensures t (subst (λ T. StandsFor c.args.heap.now.objects T (definitions_of c.args.heap.now.objects (parts_of c.args.theory.now))) (sym c.deref.ensures) c.requires.held.coded)) ∙ c.if-not-may_check.false)

pub is_known-requires-clause-known : goal.is_known-requires-clause-known
is_known-requires-clause-known c = all-grow c.args.heap.now.objects c.claim.new.heap.objects c.claim.ensures.grows c.args.theory.now.known_theorems c.requires.held.each_theorem_in

pub returns-then-is_known-clause-refusal : goal.returns-then-is_known-clause-refusal
returns-then-is_known-clause-refusal c =
    let os = c.args.heap.now.objects in
    let t = c.args.theory.now in
    let D = definitions_of os (parts_of t) in
    let present = sym (c.may_check.ensures (meant os (parts_of t)) (subst (λ T. StandsFor os T D) (sym c.deref.ensures) c.requires.held.coded)) ∙ c.if-not-may_check.false in
    claim-decided os t c.requires.held c.args.name present c.claim.new.heap.objects c.claim.ensures.grows c.in_ok-claim.claim c.in_ok-claim.ensures.claim.1 c.is_known.result true c.is_known.ensures c.if-is_known.true

pub returns-else-is_known-clause-refusal : goal.returns-else-is_known-clause-refusal
returns-else-is_known-clause-refusal c =
    let os = c.args.heap.now.objects in
    let t = c.args.theory.now in
    let D = definitions_of os (parts_of t) in
    let present = sym (c.may_check.ensures (meant os (parts_of t)) (subst (λ T. StandsFor os T D) (sym c.deref.ensures) c.requires.held.coded)) ∙ c.if-not-may_check.false in
    claim-decided os t c.requires.held c.args.name present c.claim.new.heap.objects c.claim.ensures.grows c.in_ok-claim.claim c.in_ok-claim.ensures.claim.1 c.is_known.result false c.is_known.ensures c.if-is_known.false
