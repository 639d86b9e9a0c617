-- One after another, each after its subproofs.
use Rattle.std.proofs.Common.{◌<◌, Some, length, get_or, refl, sym, ◌∙◌, subst, arith}
use Rattle.std.proofs.lemmas.List.{take_all}
use Rattle.mw_heap.specs.Objects.{object_at, IsIn}
use Rattle.mw_heap.proofs.Objects.{Grows-trans, IsIn-Grows, object_at-Grows}
use Rattle.mw_term.proofs.CallerLemmas.{AreMarks-grows}
use Rattle.mw_proof.specs.Gathered.{IsAmong}
use Rattle.mw_proof.specs.Judging.{basis_over}
use Rattle.mw_proof.proofs.Gathering.{IsAmong-at, read_at}
use Rattle.mw_lower.specs.Proofs.{HasEquality}
use Rattle.mw_lower.specs.Turned.{AreSubproofsTurned, IsTurned}
use Rattle.mw_lower.proofs.DerivationSteps.{no_derivation}
use Rattle.mw_lower.proofs.Walking.{IsBasisIn-grows, basis_over-grows, AreMarks-older, subproofs_turned, turned_more}
use Rattle.mw_lower.proofs.walk.turn_all.Goals as goal

pub turn-requires-clause-marks : goal.turn-requires-clause-marks
turn-requires-clause-marks c = (c.requires.marks.0, AreMarks-grows c.requires.marks.0 c.args.heap.now.objects c.loop-p.heap.objects c.args.marks.now c.loop-p.invariant.grows c.requires.marks.1)

pub turn-requires-clause-basis : goal.turn-requires-clause-basis
turn-requires-clause-basis c = IsBasisIn-grows c.args.heap.now.objects c.loop-p.heap.objects c.loop-p.invariant.grows c.args.basis.now c.requires.basis

pub turn-requires-clause-within : goal.turn-requires-clause-within
turn-requires-clause-within c =
    let parts = c.args.parts.now in
    let is = read_at c.p-item.result parts parts c.loop-p.p-index (length parts) c.p-item.is refl c.loop-p-test.true refl in
    subst (λ n. c.p-item.result < n) (sym c.requires.all) (subst (IsIn c.args.heap.now.objects) (sym is) (c.requires.parts.within (get_or parts c.loop-p.p-index 0) (IsAmong-at parts c.loop-p.p-index c.loop-p-test.true)))

pub turn-requires-clause-equality : goal.turn-requires-clause-equality
turn-requires-clause-equality c = λ A. subst HasEquality (sym (basis_over-grows c.args.heap.now.objects c.loop-p.heap.objects c.loop-p.invariant.grows A c.args.basis.now c.requires.basis)) (c.requires.equality A)

pub turn-requires-clause-known : goal.turn-requires-clause-known
turn-requires-clause-known c = λ A k.
    let os = c.args.heap.now.objects in
    let new = c.loop-p.heap.objects in
    let basis = c.args.basis.now in
    let parts = c.args.parts.now in
    let i = c.loop-p.p-index in
    let g = c.loop-p.invariant.grows in
    let is = read_at c.p-item.result parts parts i (length parts) c.p-item.is refl c.loop-p-test.true refl in
    let marked = AreMarks-older A os new c.args.marks.now g (omega (arith, c.requires.all)) k in
    let known = subproofs_turned (basis_over os A basis) os new g c.loop-p.turned.entries c.args.proof parts i c.loop-p-test.true c.order.ensures.distinct c.requires.parts (c.loop-p.invariant.turned A marked) in
    subst (λ b. AreSubproofsTurned b new c.loop-p.turned.entries (object_at new c.p-item.result)) (sym (basis_over-grows os new g A basis c.requires.basis))
    (subst (λ q. AreSubproofsTurned (basis_over os A basis) new c.loop-p.turned.entries (object_at new q)) (sym is) known)

pub returns-in_default-clause-turned : goal.returns-in_default-clause-turned
returns-in_default-clause-turned c = λ A k.
    let os = c.args.heap.now.objects in
    let heap = c.loop-p.heap.objects in
    let parts = c.args.parts.now in
    let i = c.loop-p.p-index in
    let p = c.p-item.result in
    let f = c.loop-p.invariant.grows in
    let b = basis_over os A c.args.basis.now in
    let is = read_at p parts parts i (length parts) c.p-item.is refl c.loop-p-test.true refl in
    let among = subst (IsAmong parts) (sym is) (IsAmong-at parts i c.loop-p-test.true) in
    let turned = subst (λ e. IsTurned e c.turn.new.heap.objects c.in_ok-q.field-0 (object_at heap p)) (basis_over-grows os heap f A c.args.basis.now c.requires.basis) (c.in_ok-q.ensures.turned A (AreMarks-grows A os heap c.args.marks.now f k)) in
    let none = subst (λ o. IsTurned b c.turn.new.heap.objects o (object_at os p)) c.in_default.is (subst (IsTurned b c.turn.new.heap.objects c.in_ok-q.field-0) (object_at-Grows os heap f p (c.requires.parts.within p among)) turned) in
    no_derivation b (object_at os c.args.proof) (object_at os p) (c.requires.parts.made_of p among) none

pub loop-p-preserved : goal.loop-p-preserved
loop-p-preserved c =
    let os = c.args.heap.now.objects in
    let heap = c.loop-p.heap.objects in
    let new = c.turn.new.heap.objects in
    let basis = c.args.basis.now in
    let parts = c.args.parts.now in
    let i = c.loop-p.p-index in
    let p = c.p-item.result in
    let q = c.in-Some.q in
    let f = c.loop-p.invariant.grows in
    let g = c.turn.ensures.grows in
    let is = read_at p parts parts i (length parts) c.p-item.is refl c.loop-p-test.true refl in
    let p_in = IsIn-Grows os heap f p (subst (IsIn os) (sym is) (c.requires.parts.within (get_or parts i 0) (IsAmong-at parts i c.loop-p-test.true))) in
    let here = object_at-Grows heap new g p p_in in
    record {
      grows = Grows-trans os heap new f g;
      turned = λ A k.
          let turned = subst (λ e. IsTurned e new c.in_ok-q.field-0 (object_at heap p)) (basis_over-grows os heap f A basis c.requires.basis) (c.in_ok-q.ensures.turned A (AreMarks-grows A os heap c.args.marks.now f k)) in
          turned_more (basis_over os A basis) os heap new f g parts c.requires.parts.within c.loop-p.turned.entries c.insert.new.self.entries q i p c.loop-p-test.true is c.in_ok-insert.ensures.updates.0 (c.loop-p.invariant.turned A k)
          (subst (IsTurned (basis_over os A basis) new (Some q)) (sym here) (subst (λ o. IsTurned (basis_over os A basis) new o (object_at heap p)) c.in-Some.is turned));
    }

pub returns-clause-grows : goal.returns-clause-grows
returns-clause-grows c = c.loop-p.invariant.grows

pub returns-clause-turned : goal.returns-clause-turned
returns-clause-turned c = λ A k.
    let os = c.args.heap.now.objects in
    let heap = c.loop-p.heap.objects in
    let parts = c.args.parts.now in
    let f = c.loop-p.invariant.grows in
    let proof = c.args.proof in
    let b = basis_over os A c.args.basis.now in
    let here = subst (λ keys. IsAmong keys proof) (sym (take_all c.loop-p.p-index parts c.loop-p-test.false)) c.requires.parts.here in
    let all = c.loop-p.invariant.turned A k proof here in
    subst (λ o. IsTurned b heap o (object_at os proof)) (sym (c.copied.ensures ∙ c.get.ensures.value))
    (subst (IsTurned b heap _) (object_at-Grows os heap f proof (c.requires.parts.within proof c.requires.parts.here)) all)
