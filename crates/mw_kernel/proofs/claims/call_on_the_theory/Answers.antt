-- Each part means in the end what it meant when it was made.
use Rattle.std.proofs.Common.{refl, ap₂, ◌∙◌}
use Rattle.mw_model.specs.Terms.Object.{Pair}
use Rattle.mw_heap.proofs.Objects.{Grows-trans, IsIn-Grows, object_at-Grows}
use Rattle.mw_theory.proofs.CallerLemmas.{IfOk-map}
use Rattle.mw_kernel.proofs.Parts.{AreIn-four}
use Rattle.mw_kernel.proofs.claims.call_on_the_theory.Goals as goal

pub returns-clause-term : goal.returns-clause-term
returns-clause-term c =
    let axioms = c.in_ok-axioms.ensures in
    let theorems = c.in_ok-theorems.ensures in
    let arities = c.in_ok-arities.ensures in
    let arguments = c.in_ok-arguments.ensures in
    let later = Grows-trans _ _ _ theorems.grows arities.grows in
    let all = Grows-trans _ _ _ axioms.grows later in
    IfOk-map c.cons.result _ _ (λ r made f t function_is argument_is.
    made.1
    ∙ ap₂ Pair (object_at-Grows _ _ (Grows-trans _ _ _ all arguments.grows) c.args.function c.requires.function ∙ function_is)
    (arguments.made.1
    ∙ ap₂ Pair (object_at-Grows _ _ all c.args.argument c.requires.argument ∙ argument_is)
    (ap₂ Pair (object_at-Grows _ _ later c.in_ok-axioms.axioms axioms.made.0 ∙ axioms.made.1)
    (ap₂ Pair (object_at-Grows _ _ arities.grows c.in_ok-theorems.theorems theorems.made.0 ∙ theorems.made.1)
    (ap₂ Pair arities.made.1 refl))))) c.cons.ensures.made

pub list_of-requires : goal.list_of-requires
list_of-requires c =
    let axioms = c.in_ok-axioms.ensures in
    let theorems = c.in_ok-theorems.ensures in
    let arities = c.in_ok-arities.ensures in
    let later = Grows-trans _ _ _ theorems.grows arities.grows in
    AreIn-four _ c.args.argument c.in_ok-axioms.axioms c.in_ok-theorems.theorems c.in_ok-arities.arities
    (IsIn-Grows _ _ (Grows-trans _ _ _ axioms.grows later) _ c.requires.argument) (IsIn-Grows _ _ later _ axioms.made.0) (IsIn-Grows _ _ arities.grows _ theorems.made.0) arities.made.0

pub cons-requires-clause-first_in : goal.cons-requires-clause-first_in
cons-requires-clause-first_in c =
    IsIn-Grows _ _ (Grows-trans _ _ _ c.in_ok-axioms.ensures.grows (Grows-trans _ _ _ c.in_ok-theorems.ensures.grows (Grows-trans _ _ _ c.in_ok-arities.ensures.grows c.in_ok-arguments.ensures.grows))) _ c.requires.function

pub returns-in_err-theorems-clause-grows : goal.returns-in_err-theorems-clause-grows
returns-in_err-theorems-clause-grows c = Grows-trans _ _ _ c.in_ok-axioms.ensures.grows c.symbol-2.ensures.grows

pub returns-in_err-arities-clause-grows : goal.returns-in_err-arities-clause-grows
returns-in_err-arities-clause-grows c = Grows-trans _ _ _ c.in_ok-axioms.ensures.grows (Grows-trans _ _ _ c.in_ok-theorems.ensures.grows c.symbol-3.ensures.grows)

pub returns-in_err-arguments-clause-grows : goal.returns-in_err-arguments-clause-grows
returns-in_err-arguments-clause-grows c =
    Grows-trans _ _ _ c.in_ok-axioms.ensures.grows (Grows-trans _ _ _ c.in_ok-theorems.ensures.grows (Grows-trans _ _ _ c.in_ok-arities.ensures.grows c.list_of.ensures.grows))

pub returns-clause-grows : goal.returns-clause-grows
returns-clause-grows c =
    Grows-trans _ _ _ c.in_ok-axioms.ensures.grows
    (Grows-trans _ _ _ c.in_ok-theorems.ensures.grows (Grows-trans _ _ _ c.in_ok-arities.ensures.grows (Grows-trans _ _ _ c.in_ok-arguments.ensures.grows c.cons.ensures.grows)))
