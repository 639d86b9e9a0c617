-- Each part means in the end what it meant when it was made.
use Rattle.std.proofs.Common.{ap₂, ◌∙◌}
use Rattle.mw_model.specs.Terms.Object.{symbol, list3}
use Rattle.mw_model.specs.Values.Primitive.{name_of}
use Rattle.mw_model.specs.Events.Writing.{var}
use Rattle.mw_heap.specs.Objects.{object_at}
use Rattle.mw_heap.proofs.Objects.{Grows-trans, IsIn-Grows, object_at-Grows}
use Rattle.mw_term.proofs.Symbols.{symbol_is}
use Rattle.mw_theory.proofs.CallerLemmas.{IfOk-map}
use Rattle.mw_kernel.proofs.Parts.{AreIn-two}
use Rattle.mw_kernel.proofs.claims.claim.Goals as goal

pub answers_nil-requires-clause-function : goal.answers_nil-requires-clause-function
answers_nil-requires-clause-function c = IsIn-Grows _ _ c.in_ok-x.ensures.grows _ c.requires.within

pub answers_nil-requires-clause-argument : goal.answers_nil-requires-clause-argument
answers_nil-requires-clause-argument c = c.in_ok-x.ensures.made.0

pub form_of-requires : goal.form_of-requires
form_of-requires c =
    AreIn-two _ c.in_ok-refuses.refuses c.in_ok-proved.proved (IsIn-Grows _ _ c.in_ok-proved.ensures.grows _ c.in_ok-refuses.ensures.within) c.in_ok-proved.ensures.made.0

pub returns-in_err-refuses-clause-grows : goal.returns-in_err-refuses-clause-grows
returns-in_err-refuses-clause-grows c = Grows-trans _ _ _ c.in_ok-x.ensures.grows c.answers_nil.ensures.grows

pub returns-in_err-proved-clause-grows : goal.returns-in_err-proved-clause-grows
returns-in_err-proved-clause-grows c = Grows-trans _ _ _ c.in_ok-x.ensures.grows (Grows-trans _ _ _ c.answers_nil.ensures.grows c.has_proof.ensures.grows)

pub returns-clause-grows : goal.returns-clause-grows
returns-clause-grows c =
    Grows-trans _ _ _ c.in_ok-x.ensures.grows (Grows-trans _ _ _ c.answers_nil.ensures.grows (Grows-trans _ _ _ c.has_proof.ensures.grows c.form_of.ensures.grows))

pub returns-clause-claim : goal.returns-clause-claim
returns-clause-claim c =
    let name = object_at c.args.heap.now.objects c.args.name in
    let x = c.in_ok-x.ensures in
    let refuses = c.in_ok-refuses.ensures in
    let proved = c.in_ok-proved.ensures in
    let first = refuses.formula (name_of name) (var "X") (object_at-Grows _ _ x.grows c.args.name c.requires.within ∙ symbol_is name c.requires.symbol) x.made.1 in
    IfOk-map c.form_of.result _ _ (λ r made. (
      made.0,
      made.1 ∙ ap₂ (list3 (symbol "POR*")) (object_at-Grows _ _ proved.grows c.in_ok-refuses.refuses refuses.within ∙ first) proved.made.1,
    )) c.form_of.ensures.made
