-- The part is in the heap, since it has a mark.
use Rattle.std.proofs.Common.{subst, arith}
use Rattle.mw_commands.specs.Commands.ExplanationTerms.{part_shown}
use Rattle.mw_bad_steps.specs.Shown.{Shows}
use Rattle.mw_theory.proofs.CallerLemmas.{IfOk-map}
use Rattle.mw_explain_events.proofs.Showing.{part-within}
use Rattle.mw_explain_events.proofs.event_parts.formula_shown.Goals as goal

pub part_shown-requires : goal.part_shown-requires
part_shown-requires c = part-within c.args.heap.now.objects _ c.bad_formula-part.result (omega (arith, c.in_ok-extend.ensures.length, c.mark-below.ensures)) c.bad_formula-part.ensures.within

pub returns-clause-shown : goal.returns-clause-shown
returns-clause-shown c =
    let new = c.part_shown.new.heap.objects in
    IfOk-map c.part_shown.result _ _ (λ v h. subst (λ o. Shows new v.items (part_shown c.args.arity.now o)) c.bad_formula-part.ensures.bad h) c.part_shown.ensures.shown
