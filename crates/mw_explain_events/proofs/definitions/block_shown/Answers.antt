-- The names passed, or the reason is NAME; and so on.
use Rattle.std.proofs.Common.{◌≡◌, ◌∷◌, [], map, Some, sym, ap, ◌∙◌, subst}
use Rattle.mw_heap.specs.Variants.{refusal_of}
use Rattle.mw_define.specs.Blocks.{draft_at}
use Rattle.mw_bad_steps.specs.Shown.{Shows}
use Rattle.mw_theory.specs.Admitting.{drafts_given}
use Rattle.mw_theory.proofs.CallerLemmas.{IfOk-map}
use Rattle.mw_explain_events.specs.Defining.{block_shown}
use Rattle.mw_explain_events.proofs.DefinitionReasons.{names-passed, formals-passed}
use Rattle.mw_explain_events.proofs.Owing.{given-fails}
use Rattle.mw_explain_events.proofs.definitions.block_shown.Goals as goal
use Rattle.mw_explain_events.proofs.definitions.block_shown.Goals.{In-One, After-as_slice}

-- what is given, as one draft and as a block
one_given : (c : In-One) → drafts_given c.args.heap.now.objects c.args.drafts ≡ Some (draft_at c.args.heap.now.objects c.in-One.draft ∷ [])
one_given c = ap (drafts_given c.args.heap.now.objects) c.in-One.is

block_given : (c : After-as_slice) → drafts_given c.args.heap.now.objects c.args.drafts ≡ Some (map (draft_at c.args.heap.now.objects) c.as_slice.result.now)
block_given c =
    let os = c.args.heap.now.objects in
    ap (drafts_given os) c.in-All.is ∙ (c.in_ok-block-in-All.ensures.drafts ∙ ap (λ l. Some (map (draft_at os) l)) (sym c.as_slice.ensures.value))

pub definition_shown-requires-clause-named : goal.definition_shown-requires-clause-named
definition_shown-requires-clause-named c = λ e. names-passed _ _ _ (given-fails _ _ _ _ (one_given (goal.at.definition_shown-requires-clause-named c).In-One) c.requires.fails)

pub definition_shown-requires-clause-formals : goal.definition_shown-requires-clause-formals
definition_shown-requires-clause-formals c = λ e. formals-passed _ _ _ (given-fails _ _ _ _ (one_given (goal.at.definition_shown-requires-clause-formals c).In-One) c.requires.fails)

pub definition_shown-requires-in-All-clause-named : goal.definition_shown-requires-in-All-clause-named
definition_shown-requires-in-All-clause-named c = λ e. names-passed _ _ _ (given-fails _ _ _ _ (block_given (goal.at.definition_shown-requires-in-All-clause-named c).After-as_slice) c.requires.fails)

pub definition_shown-requires-in-All-clause-formals : goal.definition_shown-requires-in-All-clause-formals
definition_shown-requires-in-All-clause-formals c = λ e. formals-passed _ _ _ (given-fails _ _ _ _ (block_given (goal.at.definition_shown-requires-in-All-clause-formals c).After-as_slice) c.requires.fails)

pub returns-in-One-clause-shown : goal.returns-in-One-clause-shown
returns-in-One-clause-shown c =
    let given = one_given (goal.at.returns-in-One-clause-shown c).In-One in
    IfOk-map c.definition_shown.result _ _ (λ v h. subst (λ g. Shows c.definition_shown.new.heap.objects v.items (block_shown (refusal_of c.args.reason) c.args.arity.now g)) (sym given) h) c.definition_shown.ensures.shown

pub returns-in_ok-block-in-All-clause-shown : goal.returns-in_ok-block-in-All-clause-shown
returns-in_ok-block-in-All-clause-shown c =
    let given = block_given (goal.at.returns-in_ok-block-in-All-clause-shown c).After-as_slice in
    IfOk-map c.definition_shown-in-All.result _ _ (λ v h. subst (λ g. Shows c.definition_shown-in-All.new.heap.objects v.items (block_shown (refusal_of c.args.reason) c.args.arity.now g)) (sym given) h) c.definition_shown-in-All.ensures.shown
