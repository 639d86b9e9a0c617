-- Each part means in the end what it meant when it was made.
use Rattle.std.proofs.Common.{[], ◌∷◌, ap, ◌∙◌}
use Rattle.mw_model.specs.Terms.Object.{named, symbol, list2}
use Rattle.mw_model.specs.Events.Writing.{var, call}
use Rattle.mw_heap.proofs.Objects.{Grows-trans, IsIn-Grows, object_at-Grows}
use Rattle.mw_theory.proofs.CallerLemmas.{IfOk-map}
use Rattle.mw_kernel.proofs.claims.has_proof.Goals as goal

pub answers_nil-requires-clause-function : goal.answers_nil-requires-clause-function
answers_nil-requires-clause-function c = c.in_ok-provable.ensures.made.0

pub answers_nil-requires-clause-argument : goal.answers_nil-requires-clause-argument
answers_nil-requires-clause-argument c = IsIn-Grows _ _ c.in_ok-provable.ensures.grows _ c.in_ok-conclusion.ensures.made.0

pub returns-in_err-provable-clause-grows : goal.returns-in_err-provable-clause-grows
returns-in_err-provable-clause-grows c = Grows-trans _ _ _ c.conclusion.ensures.grows c.symbol.ensures.grows

pub returns-in_err-unproved-clause-grows : goal.returns-in_err-unproved-clause-grows
returns-in_err-unproved-clause-grows c = Grows-trans _ _ _ c.conclusion.ensures.grows (Grows-trans _ _ _ c.symbol.ensures.grows c.answers_nil.ensures.grows)

pub returns-clause-grows : goal.returns-clause-grows
returns-clause-grows c =
    Grows-trans _ _ _ c.conclusion.ensures.grows (Grows-trans _ _ _ c.symbol.ensures.grows (Grows-trans _ _ _ c.answers_nil.ensures.grows c.form_of.ensures.grows))

pub returns-clause-made : goal.returns-clause-made
returns-clause-made c =
    let conclusion = c.in_ok-conclusion.ensures in
    let provable = c.in_ok-provable.ensures in
    let unproved =
    c.in_ok-unproved.ensures.formula (named "LOGIC.PROVABLEP") (call "LOGIC.CONCLUSION" (var "X" ∷ [])) provable.made.1
    (object_at-Grows _ _ provable.grows c.in_ok-conclusion.conclusion conclusion.made.0 ∙ conclusion.made.1) in
    IfOk-map c.form_of.result _ _ (λ r made. (made.0, made.1 ∙ ap (list2 (symbol "PNOT*")) unproved)) c.form_of.ensures.made
