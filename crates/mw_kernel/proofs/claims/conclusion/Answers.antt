-- The function means in the end what it meant when it was made.
use Rattle.std.proofs.Common.{ap₂, ◌∙◌}
use Rattle.mw_model.specs.Terms.Object.{list2}
use Rattle.mw_heap.proofs.Objects.{Grows-trans, IsIn-Grows, object_at-Grows}
use Rattle.mw_theory.proofs.CallerLemmas.{IfOk-map}
use Rattle.mw_kernel.proofs.Parts.{AreIn-two}
use Rattle.mw_kernel.proofs.claims.conclusion.Goals as goal

pub list_of-requires : goal.list_of-requires
list_of-requires c = AreIn-two _ c.in_ok-function.function c.in_ok-x.x (IsIn-Grows _ _ c.in_ok-x.ensures.grows _ c.in_ok-function.ensures.made.0) c.in_ok-x.ensures.made.0

pub returns-clause-grows : goal.returns-clause-grows
returns-clause-grows c = Grows-trans _ _ _ c.symbol.ensures.grows (Grows-trans _ _ _ c.symbol-2.ensures.grows c.list_of.ensures.grows)

pub returns-clause-made : goal.returns-clause-made
returns-clause-made c =
    let function = c.in_ok-function.ensures in
    let x = c.in_ok-x.ensures in
    IfOk-map c.list_of.result _ _ (λ r made. (
      made.0,
      made.1 ∙ ap₂ list2 (object_at-Grows _ _ x.grows c.in_ok-function.function function.made.0 ∙ function.made.1) x.made.1,
    )) c.list_of.ensures.made
