-- The tests of the functions, of which the last is that nothing is owed, and then the step that adds them.
use Rattle.std.proofs.Common.{Some, Err, map, refl, sym, ap, ◌∙◌, arith}
use Rattle.mw_model.specs.Terms.Object.{NIL}
use Rattle.mw_theory.specs.Admitting.{drafts_given, function_of_entry}
use Rattle.mw_theory.specs.Settling.{defined}
use Rattle.mw_theory.specs.Worlds.{theory_in}
use Rattle.mw_theory.proofs.Held.{grown}
use Rattle.mw_theory.proofs.Settlings.{settles-stays, settles-failed, settles-accepted}
use Rattle.mw_theory.proofs.Defined.{given-within, owes-few, theory-same, functions-fail-within, alone-passes, alone-accepted, functions-block, block-leads}
use Rattle.mw_theory.proofs.world.World.define_alone.Goals as goal

pub returns-in-Refused : goal.returns-in-Refused
returns-in-Refused c = λ J.
    let old = c.args.self.now in
    let comes = sym (functions-fail-within _ _ _ _ c.requires.world c.admit_within.new.heap.objects c.admit_within.ensures.grows c.args.drafts J NIL 0 c.in-Refused.reason (omega arith) c.in-Refused.ensures.admitted) in
    settles-stays old _ (defined J (theory_in old) (drafts_given old.heap.objects c.args.drafts) NIL) (grown _ _ _ _ c.requires.world c.admit_within.new.heap.objects c.admit_within.ensures.grows) (Some c.in-Refused.reason) refl c.admit_within.ensures.grows (theory-same _ _ _ _ c.requires.world c.admit_within.new.heap.objects c.admit_within.ensures.grows) (ap (λ r. r.0) comes) (ap (λ r. r.1) comes)

pub returns-in-Memory : goal.returns-in-Memory
returns-in-Memory c = λ J.
    let old = c.args.self.now in
    settles-failed old _ (defined J (theory_in old) (drafts_given old.heap.objects c.args.drafts) NIL) (grown _ _ _ _ c.requires.world c.admit_within.new.heap.objects c.admit_within.ensures.grows) (Err _) refl (theory-same _ _ _ _ c.requires.world c.admit_within.new.heap.objects c.admit_within.ensures.grows)

pub returns-in_err-block : goal.returns-in_err-block
returns-in_err-block c = λ J.
    let old = c.args.self.now in
    settles-failed old _ (defined J (theory_in old) (drafts_given old.heap.objects c.args.drafts) NIL) (grown _ _ _ _ c.requires.world c.admit_within.new.heap.objects c.admit_within.ensures.grows) c.from_residual.result c.from_residual.ensures.0 (theory-same _ _ _ _ c.requires.world c.admit_within.new.heap.objects c.admit_within.ensures.grows)

pub add_definitions-requires-clause-world : goal.add_definitions-requires-clause-world
add_definitions-requires-clause-world c = grown _ _ _ _ c.requires.world c.admit_within.new.heap.objects c.admit_within.ensures.grows

pub add_definitions-requires-clause-block : goal.add_definitions-requires-clause-block
add_definitions-requires-clause-block c =
    let (J, sound) = c.requires.sound in
    let new = c.admit_within.new.heap.objects in
    let g = c.admit_within.ensures.grows in
    let owed = c.in-Obligations.owed in
    let given = drafts_given c.args.self.now.heap.objects c.args.drafts in
    let tested = given-within 0 c.args.self.now.theory.arity given new owed c.in-Obligations.ensures.admitted in
    let none = owes-few 0 c.args.self.now.theory.arity given new owed c.in-Obligations.ensures.admitted in
    let a = alone-accepted _ _ _ _ c.requires.world new g c.args.drafts owed tested J none sound in
    (_, functions-block _ _ _ _ c.requires.world new g c.args.drafts owed tested J NIL a c.as_slice-2.result.now (c.as_slice-2.ensures.value ∙ (c.in_ok-block.ensures ∙ ap (map function_of_entry) c.as_slice.ensures.value)))

pub returns-in_err-add_definitions : goal.returns-in_err-add_definitions
returns-in_err-add_definitions c = λ J.
    let old = c.args.self.now in
    settles-failed old _ (defined J (theory_in old) (drafts_given old.heap.objects c.args.drafts) NIL) c.in_err-add_definitions.ensures.world c.from_residual-in_err-add_definitions.result c.from_residual-in_err-add_definitions.ensures.0 (c.in_err-add_definitions.ensures.err ∙ theory-same _ _ _ _ c.requires.world c.admit_within.new.heap.objects c.admit_within.ensures.grows)

pub returns : goal.returns
returns c = λ J.
    let (K, sound) = c.requires.sound in
    let old = c.args.self.now in
    let new = c.admit_within.new.heap.objects in
    let g = c.admit_within.ensures.grows in
    let owed = c.in-Obligations.owed in
    let given = drafts_given old.heap.objects c.args.drafts in
    let tested = given-within 0 old.theory.arity given new owed c.in-Obligations.ensures.admitted in
    let none = owes-few 0 old.theory.arity given new owed c.in-Obligations.ensures.admitted in
    let a = alone-accepted _ _ _ _ c.requires.world new g c.args.drafts owed tested K none sound in
    let block = functions-block _ _ _ _ c.requires.world new g c.args.drafts owed tested K NIL a c.as_slice-2.result.now (c.as_slice-2.ensures.value ∙ (c.in_ok-block.ensures ∙ ap (map function_of_entry) c.as_slice.ensures.value)) in
    let passes = alone-passes _ _ _ _ c.requires.world new g c.args.drafts owed tested J none in
    settles-accepted old _ (defined J (theory_in old) (drafts_given old.heap.objects c.args.drafts) NIL) c.in_ok-add_definitions.ensures.world (sym (ap (λ r. r.0) passes))
    (c.in_ok-add_definitions.ensures.theory _ block ∙ block-leads _ _ _ _ c.requires.world new g c.args.drafts owed tested J NIL passes)
