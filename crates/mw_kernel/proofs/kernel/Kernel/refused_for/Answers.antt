-- What is shown is made in the heap, and the line is that of the datum of it.
use Rattle.std.proofs.Common.{◌≡◌, All, map, sym, ap, ◌∙◌, subst}
use Rattle.mw_model.specs.Events.Refusal.{Refused}
use Rattle.mw_model.specs.Events.Fate.{fate}
use Rattle.mw_heap.specs.Objects.{object_at, IsIn, Grows}
use Rattle.mw_heap.specs.Variants.{refusal_of}
use Rattle.mw_heap.proofs.Objects.{Grows-trans}
use Rattle.mw_term.proofs.CallerLemmas.{AreMarks-grows}
use Rattle.mw_theory.proofs.CallerLemmas.{held, grown-marked}
use Rattle.mw_commands.specs.Commands.Explanation.{why}
use Rattle.mw_kernel.specs.Explained.{PutsLine}
use Rattle.mw_kernel.specs.Knowledge.{theory_of}
use Rattle.mw_kernel.proofs.Reasoned.{datum-why}
use Rattle.mw_kernel.proofs.Told.{held-by, told-theory}
use Rattle.mw_kernel.proofs.kernel.Kernel.refused_for.Goals as goal

pub parts_shown-requires-clause-held : goal.parts_shown-requires-clause-held
parts_shown-requires-clause-held g c = held _ _ _ _ c.self.invariant

pub parts_shown-requires-clause-marked : goal.parts_shown-requires-clause-marked
parts_shown-requires-clause-marked g c = c.self.invariant.marked

pub parts_shown-requires-clause-refused : goal.parts_shown-requires-clause-refused
parts_shown-requires-clause-refused g c = subst (λ v. fate (theory_of v) (object_at v.objects c.args.event) v.steps ≡ Refused (refusal_of c.args.reason)) (sym c.self.view_is) c.requires.refused

pub put_reason-requires : goal.put_reason-requires
put_reason-requires g c = subst (λ l. All (IsIn c.parts_shown.new.heap.objects) l) (sym c.as_slice.ensures.value) c.in_ok-parts.ensures.shown.0

pub invariant_of-self-in_err-put_reason : goal.invariant_of-self-in_err-put_reason
invariant_of-self-in_err-put_reason g c =
    grown-marked _ _ _ _ c.self.invariant c.put_reason.new.heap.objects (Grows-trans _ _ _ c.parts_shown.ensures.grows c.put_reason.ensures.grows) c.parts_shown.new.marks (AreMarks-grows _ _ _ _ c.put_reason.ensures.grows c.parts_shown.ensures.marked)

pub invariant_of-self-2 : goal.invariant_of-self-2
invariant_of-self-2 g c =
    grown-marked _ _ _ _ c.self.invariant c.put_reason.new.heap.objects (Grows-trans _ _ _ c.parts_shown.ensures.grows c.put_reason.ensures.grows) c.parts_shown.new.marks (AreMarks-grows _ _ _ _ c.put_reason.ensures.grows c.parts_shown.ensures.marked)

pub returns-in_err-parts-clause-theory : goal.returns-in_err-parts-clause-theory
returns-in_err-parts-clause-theory g c = told-theory c.self.inside.world c.self.invariant c.args.self.now c.self.view_is c.parts_shown.new.heap.objects c.parts_shown.ensures.grows

pub returns-in_err-put_reason-clause-theory : goal.returns-in_err-put_reason-clause-theory
returns-in_err-put_reason-clause-theory g c =
    told-theory c.self.inside.world c.self.invariant c.args.self.now c.self.view_is c.put_reason.new.heap.objects (Grows-trans _ _ _ c.parts_shown.ensures.grows c.put_reason.ensures.grows)

pub returns-clause-theory : goal.returns-clause-theory
returns-clause-theory g c =
    told-theory c.self.inside.world c.self.invariant c.args.self.now c.self.view_is c.put_reason.new.heap.objects (Grows-trans _ _ _ c.parts_shown.ensures.grows c.put_reason.ensures.grows)

pub returns-in_err-parts-clause-grows : goal.returns-in_err-parts-clause-grows
returns-in_err-parts-clause-grows g c = subst (λ v. Grows v.objects c.parts_shown.new.heap.objects) c.self.view_is c.parts_shown.ensures.grows

pub returns-in_err-put_reason-clause-grows : goal.returns-in_err-put_reason-clause-grows
returns-in_err-put_reason-clause-grows g c =
    subst (λ v. Grows v.objects c.put_reason.new.heap.objects) c.self.view_is (Grows-trans _ _ _ c.parts_shown.ensures.grows c.put_reason.ensures.grows)

pub returns-clause-grows : goal.returns-clause-grows
returns-clause-grows g c = subst (λ v. Grows v.objects c.put_reason.new.heap.objects) c.self.view_is (Grows-trans _ _ _ c.parts_shown.ensures.grows c.put_reason.ensures.grows)

pub returns-clause-why : goal.returns-clause-why
returns-clause-why g c =
    let old = c.args.self.now in
    let inside = c.self.inside in
    let mid = c.parts_shown.new.heap.objects in
    let n = c.args.number in
    let r = refusal_of c.args.reason in
    let e = object_at inside.world.heap.objects c.args.event in
    let t = theory_of (held-by inside.world inside.checker.steps) in
    let shows = ap (map (object_at mid)) c.as_slice.ensures.value ∙ c.in_ok-parts.ensures.shown.1 in
    let same = datum-why n r t inside.checker.steps e (map (object_at mid) c.as_slice.result.now) shows ∙ ap (λ v. why n r (theory_of v) v.steps (object_at v.objects c.args.event)) c.self.view_is in
    subst (λ x. PutsLine x c.args.out.now.items c.put_reason.new.out.items) same c.in_ok-put_reason.ensures.put
