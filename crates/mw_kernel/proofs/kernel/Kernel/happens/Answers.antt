-- By the event's word.
use Rattle.std.proofs.Common.{length, sym, ap, ◌∙◌, subst, refl}
use Rattle.mw_model.specs.Events.Fate.{happens, show}
use Rattle.mw_model.specs.Events.Theory.{IsSound}
use Rattle.mw_model.specs.Texts.Printing.{text_of}
use Rattle.mw_heap.specs.Objects.{object_at}
use Rattle.mw_heap.proofs.Objects.{Grows-refl}
use Rattle.mw_theory.specs.Words.{IsEvent}
use Rattle.mw_theory.specs.declared.event.Event.TheVariants.{Switch, Eval, Print}
use Rattle.mw_theory.proofs.CallerLemmas.{held, before-later, IfOk-map}
use Rattle.mw_kernel.specs.Fates.{Comes}
use Rattle.mw_kernel.specs.Knowledge.{theory_of}
use Rattle.mw_kernel.proofs.Comings.{comes-grown}
use Rattle.mw_kernel.proofs.Happening.{settled-others, show_stays, no-event, event-happens, sound-after}
use Rattle.mw_kernel.proofs.kernel.Kernel.happens.Goals as goal

pub returns-in_default : goal.returns-in_default
returns-in_default c =
    let old = c.args.self.now in
    let comes = no-event _ _ c.self.view_is c.args.event c.event_of.ensures.in_range c.in_default.ensures.event in
    comes-grown _ old old (happens (theory_of old) old.steps (object_at old.objects c.args.event)) refl refl (Grows-refl old.objects) refl (ap (λ r. r.1) comes) (ap (λ r. r.0) comes)

pub returns-in-Print : goal.returns-in-Print
returns-in-Print c =
    let m = c.in-Print in
    let old = c.args.self.now in
    let t = theory_of old in
    let fate = IfOk-map c.shown.result _ _ (λ f h. h t ∙ ap (λ v. (show t (text_of (object_at v.objects m.x))).0) c.self.view_is) c.shown.ensures in
    subst (Comes c.shown.result old old) (event-happens _ _ c.self.view_is c.args.event c.event_of.ensures.in_range (Print m.x) (subst (IsEvent c.self.inside.world.heap.objects c.args.event) c.in-Print.is c.in-Some.ensures.event))
    (comes-grown c.shown.result old old (show t (text_of (object_at old.objects m.x))) refl refl (Grows-refl old.objects) refl (show_stays t (text_of (object_at old.objects m.x))) fate)

pub returns-in-Eval : goal.returns-in-Eval
returns-in-Eval c =
    subst (Comes c.eval.result c.args.self.now c.eval.new.self) (event-happens _ _ c.self.view_is c.args.event c.event_of.ensures.in_range (Eval c.in-Eval.term) (subst (IsEvent c.self.inside.world.heap.objects c.args.event) c.in-Eval.is c.in-Some.ensures.event)) c.eval.ensures

pub returns-in-Switch : goal.returns-in-Switch
returns-in-Switch c =
    subst (Comes c.switch.result c.args.self.now c.switch.new.self) (event-happens _ _ c.self.view_is c.args.event c.event_of.ensures.in_range (Switch c.in-Switch.name) (subst (IsEvent c.self.inside.world.heap.objects c.args.event) c.in-Switch.is c.in-Some.ensures.event)) c.switch.ensures

pub switch-requires-clause-sound : goal.switch-requires-clause-sound
switch-requires-clause-sound c =
    let old = c.args.self.now in
    let sound = subst (λ v. IsSound (theory_of v)) c.self.view_is (held _ _ _ _ c.self.invariant).sound in
    sound-after _ _ c.self.view_is c.args.event c.event_of.ensures.in_range (Switch c.in-Switch.name) (subst (IsEvent c.self.inside.world.heap.objects c.args.event) c.in-Switch.is c.in-Some.ensures.event)
    (c.events_keep.ensures.truly (theory_of old) old.steps (object_at old.objects c.args.event) sound (c.reached_sound.ensures.judges (theory_of old) old.steps sound))

pub settle-requires-clause-within : goal.settle-requires-clause-within
settle-requires-clause-within c =
    let old = c.args.self.now in
    before-later c.args.event (length old.objects) c.requires c.in-Some.members c.in-Some.ensures.event.1

pub settle-requires-clause-sound : goal.settle-requires-clause-sound
settle-requires-clause-sound c =
    let old = c.args.self.now in
    let sound = subst (λ v. IsSound (theory_of v)) c.self.view_is (held _ _ _ _ c.self.invariant).sound in
    subst (λ r. IsSound r.1) (settled-others old.objects (theory_of old) old.steps c.in-Some.members c.in_default-members.not-Eval c.in_default-members.not-Print c.in_default-members.not-Switch)
    (sound-after _ _ c.self.view_is c.args.event c.event_of.ensures.in_range c.in-Some.members c.in-Some.ensures.event
    (c.events_keep.ensures.truly (theory_of old) old.steps (object_at old.objects c.args.event) sound (c.reached_sound.ensures.judges (theory_of old) old.steps sound)))

pub returns-in_default-members : goal.returns-in_default-members
returns-in_default-members c =
    let old = c.args.self.now in
    subst (Comes c.settle.result old c.settle.new.self)
    (sym (settled-others old.objects (theory_of old) old.steps c.in-Some.members c.in_default-members.not-Eval c.in_default-members.not-Print c.in_default-members.not-Switch) ∙ event-happens _ _ c.self.view_is c.args.event c.event_of.ensures.in_range c.in-Some.members c.in-Some.ensures.event)
    c.settle.ensures
