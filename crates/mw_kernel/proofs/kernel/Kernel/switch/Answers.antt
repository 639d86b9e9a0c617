-- Refused, or a switch.
use Rattle.std.proofs.Common.{option_map, Some, None, Ok, sym, ap, ap₂, ◌∙◌, subst}
use Rattle.mw_model.specs.Values.Primitive.{is_symbol, name_of}
use Rattle.mw_model.specs.Events.Theory.{IsSound}
use Rattle.mw_heap.specs.Objects.{object_at, IsIn, Grows}
use Rattle.mw_heap.proofs.Objects.{IsIn-Grows}
use Rattle.mw_heap.specs.Variants.{refusal_of}
use Rattle.mw_kernel.specs.Knowledge.{theory_of}
use Rattle.mw_theory.proofs.CallerLemmas.{held, grown}
use Rattle.mw_kernel.specs.declared.fate.Fate.TheVariants.{Refused}
use Rattle.mw_theory.specs.Knowledge.{with_checker}
use Rattle.mw_kernel.specs.Switching.{switched_by, switched}
use Rattle.mw_kernel.proofs.Switching.{switched-symbol}
use Rattle.mw_kernel.proofs.Told.{told-theory, object-told, switch-told}
use Rattle.mw_kernel.proofs.Comings.{comes-grown, comes-failed, comes-accepted}
use Rattle.mw_kernel.proofs.kernel.Kernel.switch.Goals as goal

pub refusal_of_switch-requires-clause-held : goal.refusal_of_switch-requires-clause-held
refusal_of_switch-requires-clause-held c = held _ _ _ _ c.self.invariant

pub invariant_of-self : goal.invariant_of-self
invariant_of-self c = grown _ _ _ _ c.self.invariant c.refusal_of_switch.new.heap.objects c.refusal_of_switch.ensures.grows

pub invariant_of-self-in-Some : goal.invariant_of-self-in-Some
invariant_of-self-in-Some c = grown _ _ _ _ c.self.invariant c.refusal_of_switch.new.heap.objects c.refusal_of_switch.ensures.grows

pub returns-in_err-refused : goal.returns-in_err-refused
returns-in_err-refused c =
    let old = c.args.self.now in
    comes-failed c.from_residual.result old _ (switched (theory_of old) (object_at old.objects c.args.name)) c.from_residual.ensures.0 (ap (λ v. v.steps) c.self.view_is) (told-theory c.self.inside.world c.self.invariant old c.self.view_is c.refusal_of_switch.new.heap.objects c.refusal_of_switch.ensures.grows)

pub returns-in-Some : goal.returns-in-Some
returns-in-Some c =
    let old = c.args.self.now in
    let x = object_at old.objects c.args.name in
    let told = switch-told c.self.inside.world c.self.invariant old c.self.view_is c.refusal_of_switch.new.heap.objects c.refusal_of_switch.ensures.grows c.args.name _ (Some (refusal_of c.in-Some.reason)) (ap (option_map refusal_of) c.in-Some.is) c.in_ok-refused.ensures.refusal in
    let comes = sym (ap (switched_by (theory_of old) x) told) in
    comes-grown (Ok (Refused c.in-Some.reason)) old _ (switched (theory_of old) x) (ap (λ v. v.steps) c.self.view_is) (ap (λ v. v.needed) c.self.view_is)
    (subst (λ v. Grows v.objects c.refusal_of_switch.new.heap.objects) c.self.view_is c.refusal_of_switch.ensures.grows)
    (told-theory c.self.inside.world c.self.invariant old c.self.view_is c.refusal_of_switch.new.heap.objects c.refusal_of_switch.ensures.grows) (ap (λ r. r.1) comes) (ap (λ r. r.0) comes)

pub set_checker-requires-clause-world : goal.set_checker-requires-clause-world
set_checker-requires-clause-world c = grown _ _ _ _ c.self.invariant c.refusal_of_switch.new.heap.objects c.refusal_of_switch.ensures.grows

pub set_checker-requires-clause-name : goal.set_checker-requires-clause-name
set_checker-requires-clause-name c =
    let old = c.args.self.now in
    let x = c.args.name in
    let told = switch-told c.self.inside.world c.self.invariant old c.self.view_is c.refusal_of_switch.new.heap.objects c.refusal_of_switch.ensures.grows x _ None (ap (option_map refusal_of) c.in_default.is) c.in_ok-refused.ensures.refusal in
    (IsIn-Grows _ _ c.refusal_of_switch.ensures.grows x (subst (λ v. IsIn v.objects x) (sym c.self.view_is) c.requires.name), ap is_symbol (object-told c.self.inside.world c.self.invariant old c.self.view_is c.refusal_of_switch.new.heap.objects c.refusal_of_switch.ensures.grows x c.requires.name) ∙ switched-symbol (theory_of old) (object_at old.objects x) told)

pub set_checker-requires-clause-sound : goal.set_checker-requires-clause-sound
set_checker-requires-clause-sound c =
    let old = c.args.self.now in
    let x = object_at old.objects c.args.name in
    let told = switch-told c.self.inside.world c.self.invariant old c.self.view_is c.refusal_of_switch.new.heap.objects c.refusal_of_switch.ensures.grows c.args.name _ None (ap (option_map refusal_of) c.in_default.is) c.in_ok-refused.ensures.refusal in
    let same = told-theory c.self.inside.world c.self.invariant old c.self.view_is c.refusal_of_switch.new.heap.objects c.refusal_of_switch.ensures.grows in
    let name = object-told c.self.inside.world c.self.invariant old c.self.view_is c.refusal_of_switch.new.heap.objects c.refusal_of_switch.ensures.grows c.args.name c.requires.name in
    subst IsSound (sym (ap₂ with_checker same (ap name_of name))) (subst (λ r. IsSound (switched_by (theory_of old) x r).1) told c.requires.sound)

pub returns-in_err-set_checker : goal.returns-in_err-set_checker
returns-in_err-set_checker c =
    let old = c.args.self.now in
    comes-failed c.from_residual-in_err-set_checker.result old _ (switched (theory_of old) (object_at old.objects c.args.name)) c.from_residual-in_err-set_checker.ensures.0 (ap (λ v. v.steps) c.self.view_is)
    (c.in_err-set_checker.ensures.err ∙ told-theory c.self.inside.world c.self.invariant old c.self.view_is c.refusal_of_switch.new.heap.objects c.refusal_of_switch.ensures.grows)

pub returns : goal.returns
returns c =
    let old = c.args.self.now in
    let x = object_at old.objects c.args.name in
    let told = switch-told c.self.inside.world c.self.invariant old c.self.view_is c.refusal_of_switch.new.heap.objects c.refusal_of_switch.ensures.grows c.args.name _ None (ap (option_map refusal_of) c.in_default.is) c.in_ok-refused.ensures.refusal in
    let comes = sym (ap (switched_by (theory_of old) x) told) in
    let same = told-theory c.self.inside.world c.self.invariant old c.self.view_is c.refusal_of_switch.new.heap.objects c.refusal_of_switch.ensures.grows in
    let name = object-told c.self.inside.world c.self.invariant old c.self.view_is c.refusal_of_switch.new.heap.objects c.refusal_of_switch.ensures.grows c.args.name c.requires.name in
    comes-accepted c.accepted.result old _ (switched (theory_of old) x) (ap (λ v. v.steps) c.self.view_is) c.accepted.ensures (ap (λ r. r.0) comes)
    (c.in_ok-set_checker.ensures.theory ∙ (ap₂ with_checker same (ap name_of name) ∙ ap (λ r. r.1) comes))
