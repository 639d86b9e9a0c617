-- The tests of a witness, and then the step that adds it.
use Rattle.std.proofs.Common.{◌≡◌, Some, Err, IfSome, refl, sym, ap, ◌∙◌, subst, slice_get}
use Rattle.mw_model.specs.Values.Definition.{Choice}
use Rattle.mw_model.specs.Events.Admission.{add_to_theory}
use Rattle.mw_preamble.specs.declared.definition.Definition.TheVariants.{Witness}
use Rattle.mw_theory.specs.Settling.{skolem_at}
use Rattle.mw_theory.specs.Worlds.{theory_in}
use Rattle.mw_theory.proofs.Held.{grown}
use Rattle.mw_theory.proofs.Settlings.{settles-stays, settles-failed, settles-accepted}
use Rattle.mw_theory.proofs.Defined.{theory-same, skolem-fails, skolem-passes, witness-block}
use Rattle.mw_theory.proofs.world.World.skolem.Goals as goal

pub returns-in-Refused : goal.returns-in-Refused
returns-in-Refused c =
    let old = c.args.self.now in
    let comes = sym (skolem-fails _ _ _ _ c.requires.world c.admit_witness.new.heap.objects c.admit_witness.ensures.grows c.args.name c.args.bound c.args.free c.args.body c.in-Refused.reason c.in-Refused.ensures.admitted) in
    settles-stays old _ (skolem_at old.heap.objects (theory_in old) c.args.name c.args.bound c.args.free c.args.body) (grown _ _ _ _ c.requires.world c.admit_witness.new.heap.objects c.admit_witness.ensures.grows) (Some c.in-Refused.reason) refl c.admit_witness.ensures.grows (theory-same _ _ _ _ c.requires.world c.admit_witness.new.heap.objects c.admit_witness.ensures.grows) (ap (λ r. r.0) comes) (ap (λ r. r.1) comes)

pub returns-in-Memory : goal.returns-in-Memory
returns-in-Memory c =
    let old = c.args.self.now in
    settles-failed old _ (skolem_at old.heap.objects (theory_in old) c.args.name c.args.bound c.args.free c.args.body) (grown _ _ _ _ c.requires.world c.admit_witness.new.heap.objects c.admit_witness.ensures.grows) (Err _) refl (theory-same _ _ _ _ c.requires.world c.admit_witness.new.heap.objects c.admit_witness.ensures.grows)

pub add_definitions-requires-clause-world : goal.add_definitions-requires-clause-world
add_definitions-requires-clause-world c = grown _ _ _ _ c.requires.world c.admit_witness.new.heap.objects c.admit_witness.ensures.grows

pub add_definitions-requires-clause-block : goal.add_definitions-requires-clause-block
add_definitions-requires-clause-block c =
    let owed = c.in-Obligations.owed in
    let p = c.in-Obligations.ensures.admitted in
    let B = Choice p.symbol p.first p.rest p.term in
    let w_is = subst (λ es. IfSome (slice_get es 0) (λ e. c.witness_of-witness.result ≡ Witness c.args.name c.args.bound c.args.free e.body)) (c.as_slice.ensures.value ∙ p.entries) c.witness_of-witness.ensures in
    let block = witness-block _ _ _ _ c.requires.world c.admit_witness.new.heap.objects c.admit_witness.ensures.grows c.args.name c.args.bound c.args.free c.args.body c.requires.name c.requires.bound c.requires.free owed p c.witness_of-witness.result w_is c.requires.sound in
    (B, block)

pub returns-in_err-add_definitions : goal.returns-in_err-add_definitions
returns-in_err-add_definitions c =
    let old = c.args.self.now in
    settles-failed old _ (skolem_at old.heap.objects (theory_in old) c.args.name c.args.bound c.args.free c.args.body) c.in_err-add_definitions.ensures.world c.from_residual.result c.from_residual.ensures.0 (c.in_err-add_definitions.ensures.err ∙ theory-same _ _ _ _ c.requires.world c.admit_witness.new.heap.objects c.admit_witness.ensures.grows)

pub returns : goal.returns
returns c =
    let old = c.args.self.now in
    let owed = c.in-Obligations.owed in
    let p = c.in-Obligations.ensures.admitted in
    let B = Choice p.symbol p.first p.rest p.term in
    let w_is = subst (λ es. IfSome (slice_get es 0) (λ e. c.witness_of-witness.result ≡ Witness c.args.name c.args.bound c.args.free e.body)) (c.as_slice.ensures.value ∙ p.entries) c.witness_of-witness.ensures in
    let block = witness-block _ _ _ _ c.requires.world c.admit_witness.new.heap.objects c.admit_witness.ensures.grows c.args.name c.args.bound c.args.free c.args.body c.requires.name c.requires.bound c.requires.free owed p c.witness_of-witness.result w_is c.requires.sound in
    let comes = sym (skolem-passes _ _ _ _ c.requires.world c.admit_witness.new.heap.objects c.admit_witness.ensures.grows c.args.name c.args.bound c.args.free c.args.body owed p) in
    settles-accepted old _ (skolem_at old.heap.objects (theory_in old) c.args.name c.args.bound c.args.free c.args.body) c.in_ok-add_definitions.ensures.world (ap (λ r. r.0) comes)
    (c.in_ok-add_definitions.ensures.theory B block ∙ (ap (λ t. add_to_theory t B) (theory-same _ _ _ _ c.requires.world c.admit_witness.new.heap.objects c.admit_witness.ensures.grows) ∙ ap (λ r. r.1) comes))
