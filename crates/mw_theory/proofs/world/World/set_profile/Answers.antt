-- Refused, or the theory of a profile.
use Rattle.std.proofs.Common.{Some, refl, sym, ap, ◌∙◌}
use Rattle.mw_model.specs.Events.Fate.{profile}
use Rattle.mw_heap.specs.Objects.{object_at}
use Rattle.mw_heap.specs.declared.vocabulary.profile.Profile.TheVariants.{One, Two}
use Rattle.mw_heap.specs.declared.vocabulary.refusal.Refusal.TheVariants.{Profile}
use Rattle.mw_heap.proofs.Objects.{Grows-refl}
use Rattle.mw_theory.specs.Words.{profile_event}
use Rattle.mw_theory.specs.Worlds.{theory_in}
use Rattle.mw_theory.proofs.Profiles.{later-refused, none-refused, profile-begun}
use Rattle.mw_theory.proofs.Settlings.{settles-stays, settles-failed, settles-accepted}
use Rattle.mw_theory.proofs.world.World.set_profile.Goals as goal

pub returns-then-not-self : goal.returns-then-not-self
returns-then-not-self c =
    let old = c.args.self.now in
    let comes = sym (later-refused c.args.self.now c.requires.world c.args.number c.if-not-self.true) in
    settles-stays old old (profile (theory_in old) (profile_event (object_at old.heap.objects c.args.number))) c.requires.world (Some Profile) refl (Grows-refl old.heap.objects) refl (ap (λ r. r.0) comes) (ap (λ r. r.1) comes)

pub returns-in-None : goal.returns-in-None
returns-in-None c =
    let old = c.args.self.now in
    let comes = sym (none-refused c.args.self.now c.requires.world c.args.number c.if-not-self.false _ c.in-None.is c.profile_numbered.ensures) in
    settles-stays old old (profile (theory_in old) (profile_event (object_at old.heap.objects c.args.number))) c.requires.world (Some Profile) refl (Grows-refl old.heap.objects) refl (ap (λ r. r.0) comes) (ap (λ r. r.1) comes)

pub returns-in-Some-One : goal.returns-in-Some-One
returns-in-Some-One c =
    let old = c.args.self.now in
    let comes = sym (profile-begun c.args.self.now c.requires.world c.args.number c.if-not-self.false _ One (c.in-Some-One.is ∙ ap Some c.in-Some-One.field-0-is) c.profile_numbered.ensures) in
    settles-accepted old old (profile (theory_in old) (profile_event (object_at old.heap.objects c.args.number))) c.requires.world (ap (λ r. r.0) comes) (ap (λ r. r.1) comes)

pub returns-in_err-begin_second-in-Some-Two : goal.returns-in_err-begin_second-in-Some-Two
returns-in_err-begin_second-in-Some-Two c =
    let old = c.args.self.now in
    settles-failed old _ (profile (theory_in old) (profile_event (object_at old.heap.objects c.args.number))) c.in_err-begin_second-in-Some-Two.ensures.world c.from_residual.result c.from_residual.ensures.0 c.in_err-begin_second-in-Some-Two.ensures.err

pub returns-in_ok-begin_second-in-Some-Two : goal.returns-in_ok-begin_second-in-Some-Two
returns-in_ok-begin_second-in-Some-Two c =
    let old = c.args.self.now in
    let comes = sym (profile-begun c.args.self.now c.requires.world c.args.number c.if-not-self.false _ Two (c.in-Some-Two.is ∙ ap Some c.in-Some-Two.field-0-is) c.profile_numbered.ensures) in
    settles-accepted old _ (profile (theory_in old) (profile_event (object_at old.heap.objects c.args.number))) c.in_ok-begin_second-in-Some-Two.ensures.world (ap (λ r. r.0) comes) (c.in_ok-begin_second-in-Some-Two.ensures.theory ∙ ap (λ r. r.1) comes)
