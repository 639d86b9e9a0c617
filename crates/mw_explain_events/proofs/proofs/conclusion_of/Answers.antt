-- The part is there, or NIL.
use Rattle.std.proofs.Common.{sym, ap, subst, ◌∙◌}
use Rattle.mw_heap.specs.Parts.{part_at, IsPart}
use Rattle.mw_heap.proofs.Objects.{Grows-refl}
use Rattle.mw_theory.proofs.CallerLemmas.{IfOk-map}
use Rattle.mw_explain_events.proofs.proofs.conclusion_of.Goals as goal

pub returns-in-Some-clause-grows : goal.returns-in-Some-clause-grows
returns-in-Some-clause-grows c = Grows-refl c.args.heap.now.objects

pub returns-in-Some-clause-conclusion : goal.returns-in-Some-clause-conclusion
returns-in-Some-clause-conclusion c =
    let os = c.args.heap.now.objects in
    (subst (IsPart os) c.in-Some.is c.second_of.ensures.within, sym (ap (part_at os) c.in-Some.is) ∙ c.second_of.ensures.value)

pub returns-in-None-clause-conclusion : goal.returns-in-None-clause-conclusion
returns-in-None-clause-conclusion c =
    let os = c.args.heap.now.objects in
    IfOk-map c.nil.result _ _ (λ r made. (made.0, made.1 ∙ (sym (ap (part_at os) c.in-None.is) ∙ c.second_of.ensures.value))) c.nil.ensures.made
