-- A refused event leaves the theory, and is still in the heap.
use Rattle.std.proofs.Common.{◌≡◌, sym, ap, ap₂, ◌∙◌, subst, Ok, OnOk}
use Rattle.mw_model.specs.Events.Refusal.{Refused}
use Rattle.mw_model.specs.Events.Fate.{fate, happens}
use Rattle.mw_heap.specs.Objects.{object_at}
use Rattle.mw_heap.specs.Variants.{refusal_of}
use Rattle.mw_heap.proofs.Objects.{IsIn-Grows, object_at-Grows, Grows-trans}
use Rattle.mw_theory.proofs.CallerLemmas.{IfOk-map}
use Rattle.mw_commands.specs.Commands.Explanation.{why}
use Rattle.mw_kernel.specs.Explained.{PutsLine}
use Rattle.mw_kernel.specs.Fates.{fate_of, KeepsRoom, KeepsObjects, Comes}
use Rattle.mw_kernel.specs.Knowledge.{theory_of}
use Rattle.mw_kernel.proofs.Comings.{comes-grown}
use Rattle.mw_kernel.proofs.KeptObjects.{puts-refused}
use Rattle.mw_kernel.proofs.kernel.Kernel.happens_explained.Goals as goal

pub refused_for-requires-clause-event : goal.refused_for-requires-clause-event
refused_for-requires-clause-event g c =
    let grows = subst (λ f. KeepsObjects f c.args.self.now.objects c.happens.new.self.objects) c.in-Refused.is c.in_ok-fate.ensures.objects in
    IsIn-Grows _ _ grows _ c.requires

pub refused_for-requires-clause-refused : goal.refused_for-requires-clause-refused
refused_for-requires-clause-refused g c =
    let old = c.args.self.now in
    let now = c.happens.new.self in
    let e = c.args.event in
    let r = refusal_of c.in-Refused.reason in
    let grows = subst (λ f. KeepsObjects f old.objects now.objects) c.in-Refused.is c.in_ok-fate.ensures.objects in
    let told = sym c.in_ok-fate.ensures.fate ∙ ap fate_of c.in-Refused.is in
    let stays = c.in_ok-fate.ensures.theory ∙ c.refusals.ensures (theory_of old) old.steps (object_at old.objects e) r told in
    subst (λ N. fate (theory_of now) (object_at now.objects e) N ≡ Refused r) (sym c.happens.ensures.steps) (ap₂ (λ t x. fate t x old.steps) stays (object_at-Grows _ _ grows e c.requires) ∙ told)

pub returns-in-Refused-clause-comes : goal.returns-in-Refused-clause-comes
returns-in-Refused-clause-comes g c =
    let old = c.args.self.now in
    let new = c.refused_for.new.self in
    let came = c.in_ok-fate.ensures in
    let r = refusal_of c.in-Refused.reason in
    let told = sym came.fate ∙ ap fate_of c.in-Refused.is in
    let needed = ap (λ v. v.needed) c.refused_for.ensures.rest ∙ subst (λ f. KeepsRoom f old.needed c.happens.new.self.needed) c.in-Refused.is came.kept in
    let grows = Grows-trans _ _ _ (subst (λ f. KeepsObjects f old.objects c.happens.new.self.objects) c.in-Refused.is came.objects) c.refused_for.ensures.grows in
    comes-grown c.refused_for.result old new (happens (theory_of old) old.steps (object_at old.objects c.args.event)) (ap (λ v. v.steps) c.refused_for.ensures.rest ∙ c.happens.ensures.steps) needed grows
    (c.refused_for.ensures.theory ∙ (came.theory ∙ c.refusals.ensures (theory_of old) old.steps (object_at old.objects c.args.event) r told))
    (sym (c.refusals.ensures (theory_of old) old.steps (object_at old.objects c.args.event) r told))
    (IfOk-map c.refused_for.result _ _ (λ f h. h ∙ sym told) c.refused_for.ensures.fate)

pub returns-in-Accepted-clause-comes : goal.returns-in-Accepted-clause-comes
returns-in-Accepted-clause-comes g c =
    subst (λ f. Comes (Ok f) c.args.self.now c.happens.new.self (happens (theory_of c.args.self.now) c.args.self.now.steps (object_at c.args.self.now.objects c.args.event))) c.in-Accepted.is c.in_ok-fate.ensures

pub returns-in-Refused-clause-why : goal.returns-in-Refused-clause-why
returns-in-Refused-clause-why g c =
    let old = c.args.self.now in
    let now = c.happens.new.self in
    let e = c.args.event in
    let r = refusal_of c.in-Refused.reason in
    let before = c.args.out.now.items in
    let after = c.refused_for.new.out.items in
    let grows = subst (λ f. KeepsObjects f old.objects now.objects) c.in-Refused.is c.in_ok-fate.ensures.objects in
    let told = sym c.in_ok-fate.ensures.fate ∙ ap fate_of c.in-Refused.is in
    let stays = c.in_ok-fate.ensures.theory ∙ c.refusals.ensures (theory_of old) old.steps (object_at old.objects e) r told in
    let same = ap (λ N. why c.args.number r (theory_of now) N (object_at now.objects e)) c.happens.ensures.steps ∙ ap₂ (λ t x. why c.args.number r t old.steps x) stays (object_at-Grows _ _ grows e c.requires) in
    puts-refused c.refused_for.result r c.args.number (theory_of old) old.steps (object_at old.objects e) before after c.refused_for.ensures.fate
    (subst (λ x. OnOk c.refused_for.result (PutsLine x before after)) same c.refused_for.ensures.why)
