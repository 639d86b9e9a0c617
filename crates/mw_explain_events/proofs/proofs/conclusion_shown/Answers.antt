-- Just the conclusion.
use Rattle.std.proofs.Common.{[], ◌∷◌, subst}
use Rattle.mw_theory.proofs.CallerLemmas.{IfOk-map}
use Rattle.mw_bad_steps.specs.Shown.{Shows}
use Rattle.mw_explain_events.proofs.proofs.conclusion_shown.Goals as goal

pub just-requires : goal.just-requires
just-requires c = c.in_ok-conclusion.ensures.conclusion.0

pub returns-clause-shown : goal.returns-clause-shown
returns-clause-shown c =
    let new = c.conclusion_of.new.heap.objects in
    IfOk-map c.just.result _ _ (λ v h. subst (λ x. Shows new v.items (x ∷ [])) c.in_ok-conclusion.ensures.conclusion.1 h) c.just.ensures
