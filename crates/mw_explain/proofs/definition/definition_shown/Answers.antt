-- By the reason.
use Rattle.std.proofs.Common.{◌≡◌, true, false, map, sym, ap, subst, IfOk}
use Rattle.std.proofs.lemmas.Result.{IfOk-weaker}
use Rattle.mw_heap.specs.Variants.{refusal_of}
use Rattle.mw_define.specs.Blocks.{draft_at}
use Rattle.mw_heap.specs.declared.vocabulary.refusal.Refusal.TheVariants as reason
use Rattle.mw_commands.specs.Commands.Explanation.{draft_shown, first_shown, drafts_shown}
use Rattle.mw_explain.specs.Drafts.{bodies_under}
use Rattle.mw_bad_steps.specs.Shown.{Shows}
use Rattle.mw_explain.proofs.DefinitionShown.{by-drafts, no-name, no-formals}
use Rattle.mw_explain.proofs.definition.definition_shown.Goals as goal

pub returns-in-Name-clause-shown : goal.returns-in-Name-clause-shown
returns-in-Name-clause-shown c =
    let ds = map (draft_at c.args.heap.now.objects) c.args.drafts.now in
    let A = c.args.arity.now in
    let new = c.names_shown.new.heap.objects in
    subst (λ r. IfOk c.names_shown.result (λ v. Shows new v.items (drafts_shown (refusal_of r) A (bodies_under c.args.recursive A ds) ds))) (sym c.in-Name.is) c.names_shown.ensures.shown

pub returns-in-Formals-clause-shown : goal.returns-in-Formals-clause-shown
returns-in-Formals-clause-shown c =
    let ds = map (draft_at c.args.heap.now.objects) c.args.drafts.now in
    let A = c.args.arity.now in
    let new = c.terms_shown.new.heap.objects in
    subst (λ r. IfOk c.terms_shown.result (λ v. Shows new v.items (drafts_shown (refusal_of r) A (bodies_under c.args.recursive A ds) ds))) (sym c.in-Formals.is)
    (subst (λ r. IfOk c.terms_shown.result (λ v. Shows new v.items (first_shown (draft_shown (refusal_of r) A (bodies_under false A ds)) 1 ds))) c.in-Formals.is c.terms_shown.ensures.shown)

pub nested_shown-requires-clause-named : goal.nested_shown-requires-clause-named
nested_shown-requires-clause-named c = c.requires.named (c.requires.nested (ap refusal_of c.in-Nested.is)) (λ e. cc (e, ap refusal_of c.in-Nested.is))

pub nested_shown-requires-clause-formals : goal.nested_shown-requires-clause-formals
nested_shown-requires-clause-formals c = c.requires.formals (c.requires.nested (ap refusal_of c.in-Nested.is)) (λ e. cc (e, ap refusal_of c.in-Nested.is)) (λ e. cc (e, ap refusal_of c.in-Nested.is))

pub returns-in-Nested-clause-shown : goal.returns-in-Nested-clause-shown
returns-in-Nested-clause-shown c =
    let ds = map (draft_at c.args.heap.now.objects) c.args.drafts.now in
    let A = c.args.arity.now in
    let new = c.nested_shown.new.heap.objects in
    let recursive : c.args.recursive ≡ true = c.requires.nested (ap refusal_of c.in-Nested.is) in
    subst (λ r. IfOk c.nested_shown.result (λ v. Shows new v.items (drafts_shown (refusal_of r) A (bodies_under c.args.recursive A ds) ds))) (sym c.in-Nested.is)
    (subst (λ b. IfOk c.nested_shown.result (λ v. Shows new v.items (drafts_shown (refusal_of reason.Nested) A (bodies_under b A ds) ds))) (sym recursive) c.nested_shown.ensures.shown)

pub terms_shown-requires-in_default-clause-named : goal.terms_shown-requires-in_default-clause-named
terms_shown-requires-in_default-clause-named c = λ h. c.requires.named h (no-name c.args.reason c.in_default.not-Name)

pub terms_shown-requires-in_default-clause-formals : goal.terms_shown-requires-in_default-clause-formals
terms_shown-requires-in_default-clause-formals c = λ h. c.requires.formals h (no-name c.args.reason c.in_default.not-Name) (no-formals c.args.reason c.in_default.not-Formals)

pub returns-in_default-clause-shown : goal.returns-in_default-clause-shown
returns-in_default-clause-shown c =
    let ds = map (draft_at c.args.heap.now.objects) c.args.drafts.now in
    let A = c.args.arity.now in
    let B = bodies_under c.args.recursive A ds in
    let new = c.terms_shown-in_default.new.heap.objects in
    IfOk-weaker c.terms_shown-in_default.result _ _ (λ v h. subst (Shows new v.items) (by-drafts c.args.reason A B ds c.in_default.not-Name c.in_default.not-Nested) h) c.terms_shown-in_default.ensures.shown
