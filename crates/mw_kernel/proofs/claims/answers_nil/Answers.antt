-- Each part means in the end what it meant when it was made.
use Rattle.std.proofs.Common.{ap, ap₂, ◌∙◌}
use Rattle.mw_model.specs.Terms.Object.{list2, list3, symbol}
use Rattle.mw_heap.proofs.Objects.{Grows-trans, IsIn-Grows, object_at-Grows}
use Rattle.mw_theory.proofs.CallerLemmas.{IfOk-map}
use Rattle.mw_kernel.proofs.Parts.{AreIn-two}
use Rattle.mw_kernel.proofs.claims.answers_nil.Goals as goal

pub form_of-requires-2 : goal.form_of-requires-2
form_of-requires-2 c =
    let later = Grows-trans _ _ _ c.in_ok-nil.ensures.grows c.in_ok-constant.ensures.grows in
    AreIn-two _ c.in_ok-call.call c.in_ok-constant.constant (IsIn-Grows _ _ later _ c.in_ok-call.ensures.within) c.in_ok-constant.ensures.made.0

pub returns-in_err-constant-clause-grows : goal.returns-in_err-constant-clause-grows
returns-in_err-constant-clause-grows c = Grows-trans _ _ _ c.in_ok-call.ensures.grows (Grows-trans _ _ _ c.in_ok-nil.ensures.grows c.form_of.ensures.grows)

pub returns-in_err-nil-clause-grows : goal.returns-in_err-nil-clause-grows
returns-in_err-nil-clause-grows c = Grows-trans _ _ _ c.in_ok-call.ensures.grows c.nil.ensures.grows

pub returns-clause-grows : goal.returns-clause-grows
returns-clause-grows c =
    Grows-trans _ _ _ c.in_ok-call.ensures.grows (Grows-trans _ _ _ c.in_ok-nil.ensures.grows (Grows-trans _ _ _ c.in_ok-constant.ensures.grows c.form_of-2.ensures.grows))

pub returns-clause-formula : goal.returns-clause-formula
returns-clause-formula c =
    let call = c.in_ok-call.ensures in
    let nil = c.in_ok-nil.ensures in
    let constant = c.in_ok-constant.ensures in
    let later = Grows-trans _ _ _ nil.grows constant.grows in
    IfOk-map c.form_of-2.result _ _ (λ r made f t function_is argument_is.
    made.1
    ∙ ap₂ (list3 (symbol "PEQUAL*")) (object_at-Grows _ _ later c.in_ok-call.call call.within ∙ call.term f t function_is argument_is)
    (constant.made.1 ∙ ap (list2 (symbol "QUOTE")) nil.made.1)) c.form_of-2.ensures.made
