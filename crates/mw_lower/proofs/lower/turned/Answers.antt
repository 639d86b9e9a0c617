-- By the marks as they are then, in the heap that is the same.
use Rattle.std.proofs.Common.{◌≡◌, None, MatchOption, sym, subst}
use Rattle.std.proofs.lemmas.Result.{IfOk-weaker}
use Rattle.mw_heap.specs.Objects.{object_at, Grows}
use Rattle.mw_term.specs.Marking.{AreMarks}
use Rattle.mw_term.proofs.CallerLemmas.{AreMarks-grows}
use Rattle.mw_rules.specs.Basis.{IsBasisIn}
use Rattle.mw_proof.specs.Judging.{Basis, basis_over}
use Rattle.mw_lower.specs.Parts.{AreParts}
use Rattle.mw_lower.specs.Proofs.{HasEquality}
use Rattle.mw_lower.specs.Turned.{derived_on, IsTurned}
use Rattle.mw_lower.proofs.lower.turned.Goals as goal

pub returns-clause-marked : goal.returns-clause-marked
returns-clause-marked c =
    let os = c.args.heap.now.objects in
    let new = c.turn_all.new.heap.objects in
    AreMarks-grows c.args.arity.now os new c.extend.new.self (subst (λ o. Grows o new) c.parts.ensures.same c.turn_all.ensures.grows) c.in_ok-extend.ensures.marked

pub returns-in_default-clause-turned : goal.returns-in_default-clause-turned
returns-in_default-clause-turned c =
    let os = c.args.heap.now.objects in
    subst (λ o. MatchOption o ((b : Basis) → AreMarks b.table os c.extend.new.self → derived_on b (object_at os c.args.proof) ≡ None) (λ s. AreParts os c.args.proof s.keys)) c.in_default.is c.in_ok-parts.ensures.parts
    (basis_over os c.args.arity.now c.args.basis.now) c.in_ok-extend.ensures.marked

pub turn_all-requires-clause-marks : goal.turn_all-requires-clause-marks
turn_all-requires-clause-marks c = (c.args.arity.now, subst (λ os. AreMarks c.args.arity.now os c.extend.new.self) (sym c.parts.ensures.same) c.in_ok-extend.ensures.marked)

pub turn_all-requires-clause-basis : goal.turn_all-requires-clause-basis
turn_all-requires-clause-basis c = subst (λ os. IsBasisIn os c.args.basis.now) (sym c.parts.ensures.same) c.requires.basis

pub turn_all-requires-clause-equality : goal.turn_all-requires-clause-equality
turn_all-requires-clause-equality c = λ A. subst (λ os. HasEquality (basis_over os A c.args.basis.now)) (sym c.parts.ensures.same) c.requires.equality

pub returns-clause-grows : goal.returns-clause-grows
returns-clause-grows c = subst (λ os. Grows os c.turn_all.new.heap.objects) c.parts.ensures.same c.turn_all.ensures.grows

pub returns-clause-turned : goal.returns-clause-turned
returns-clause-turned c =
    let A = c.args.arity.now in
    let same = c.parts.ensures.same in
    let marked = subst (λ os. AreMarks A os c.extend.new.self) (sym same) c.in_ok-extend.ensures.marked in
    IfOk-weaker c.turn_all.result _ _ (λ o h. subst (λ os. IsTurned (basis_over os A c.args.basis.now) c.turn_all.new.heap.objects o (object_at os c.args.proof)) same (h A marked)) c.turn_all.ensures.turned
