-- The tests of the functions, which pass again, and then the step that adds them.
use Rattle.std.proofs.Common.{Some, Err, map, refl, sym, ap, ◌∙◌}
use Rattle.mw_theory.specs.Admitting.{drafts_given, function_of_entry}
use Rattle.mw_theory.specs.Settling.{defined}
use Rattle.mw_theory.specs.Worlds.{theory_in}
use Rattle.mw_theory.proofs.Held.{grown}
use Rattle.mw_theory.proofs.Settlings.{settles-stays, settles-failed, settles-accepted}
use Rattle.mw_theory.proofs.Defined.{theory-same, functions-fail, functions-pass, functions-block, block-leads}
use Rattle.mw_theory.proofs.world.World.add_functions.Goals as goal

pub returns-in-Refused : goal.returns-in-Refused
returns-in-Refused c = λ M proofs a.
    let old = c.args.self.now in
    let comes = sym (functions-fail _ _ _ _ c.requires.world c.admit.new.heap.objects c.admit.ensures.grows c.args.drafts M proofs c.in-Refused.reason c.in-Refused.ensures.admitted) in
    settles-stays old _ (defined M (theory_in old) (drafts_given old.heap.objects c.args.drafts) proofs) (grown _ _ _ _ c.requires.world c.admit.new.heap.objects c.admit.ensures.grows) (Some c.in-Refused.reason) refl c.admit.ensures.grows (theory-same _ _ _ _ c.requires.world c.admit.new.heap.objects c.admit.ensures.grows) (ap (λ r. r.0) comes) (ap (λ r. r.1) comes)

pub returns-in-Memory : goal.returns-in-Memory
returns-in-Memory c = λ M proofs a.
    let old = c.args.self.now in
    settles-failed old _ (defined M (theory_in old) (drafts_given old.heap.objects c.args.drafts) proofs) (grown _ _ _ _ c.requires.world c.admit.new.heap.objects c.admit.ensures.grows) (Err _) refl (theory-same _ _ _ _ c.requires.world c.admit.new.heap.objects c.admit.ensures.grows)

pub returns-in_err-block : goal.returns-in_err-block
returns-in_err-block c = λ M proofs a.
    let old = c.args.self.now in
    settles-failed old _ (defined M (theory_in old) (drafts_given old.heap.objects c.args.drafts) proofs) (grown _ _ _ _ c.requires.world c.admit.new.heap.objects c.admit.ensures.grows) c.from_residual.result c.from_residual.ensures.0 (theory-same _ _ _ _ c.requires.world c.admit.new.heap.objects c.admit.ensures.grows)

pub add_definitions-requires-clause-world : goal.add_definitions-requires-clause-world
add_definitions-requires-clause-world c = grown _ _ _ _ c.requires.world c.admit.new.heap.objects c.admit.ensures.grows

pub add_definitions-requires-clause-block : goal.add_definitions-requires-clause-block
add_definitions-requires-clause-block c =
    let (M, proofs, a) = c.requires.accepted in
    (_, functions-block _ _ _ _ c.requires.world c.admit.new.heap.objects c.admit.ensures.grows c.args.drafts c.in-Obligations.owed c.in-Obligations.ensures.admitted M proofs a c.as_slice-2.result.now (c.as_slice-2.ensures.value ∙ (c.in_ok-block.ensures ∙ ap (map function_of_entry) c.as_slice.ensures.value)))

pub returns-in_err-add_definitions : goal.returns-in_err-add_definitions
returns-in_err-add_definitions c = λ M proofs a.
    let old = c.args.self.now in
    settles-failed old _ (defined M (theory_in old) (drafts_given old.heap.objects c.args.drafts) proofs) c.in_err-add_definitions.ensures.world c.from_residual-in_err-add_definitions.result c.from_residual-in_err-add_definitions.ensures.0 (c.in_err-add_definitions.ensures.err ∙ theory-same _ _ _ _ c.requires.world c.admit.new.heap.objects c.admit.ensures.grows)

pub returns : goal.returns
returns c = λ M proofs a.
    let old = c.args.self.now in
    let new = c.admit.new.heap.objects in
    let g = c.admit.ensures.grows in
    let owed = c.in-Obligations.owed in
    let tested = c.in-Obligations.ensures.admitted in
    let block = functions-block _ _ _ _ c.requires.world new g c.args.drafts owed tested M proofs a c.as_slice-2.result.now (c.as_slice-2.ensures.value ∙ (c.in_ok-block.ensures ∙ ap (map function_of_entry) c.as_slice.ensures.value)) in
    let passes = functions-pass _ _ _ _ c.requires.world new g c.args.drafts owed tested M proofs a in
    settles-accepted old _ (defined M (theory_in old) (drafts_given old.heap.objects c.args.drafts) proofs) c.in_ok-add_definitions.ensures.world (sym (ap (λ r. r.0) passes))
    (c.in_ok-add_definitions.ensures.theory _ block ∙ block-leads _ _ _ _ c.requires.world new g c.args.drafts owed tested M proofs passes)
