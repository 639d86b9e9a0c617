-- By what is defined: one function, or those of a list.
use Rattle.std.proofs.Common.{sym, ap, ◌∙◌, subst}
use Rattle.mw_heap.specs.Objects.{object_at}
use Rattle.mw_theory.specs.Admitting.{AreWithin}
use Rattle.mw_theory.proofs.CallerLemmas.{IfOk-map}
use Rattle.mw_kernel.specs.Rewriting.{defining_event}
use Rattle.mw_kernel.proofs.Parts.{AreIn-two, AreIn-five}
use Rattle.mw_kernel.proofs.rewriting.defining_event.Goals as goal

pub form_of-requires : goal.form_of-requires
form_of-requires c =
    let draft = c.in-One.draft in
    let within = subst (AreWithin c.args.heap.now.objects) c.in-One.is c.requires.drafts in
    AreIn-five _ draft.name draft.formals draft.body draft.measure c.args.proofs within.0 within.1 within.2 within.3 c.requires.proofs

pub form_of-requires-in-All : goal.form_of-requires-in-All
form_of-requires-in-All c = AreIn-two _ c.in-All.definitions c.args.proofs (subst (AreWithin c.args.heap.now.objects) c.in-All.is c.requires.drafts) c.requires.proofs

pub returns-in-One-clause-made : goal.returns-in-One-clause-made
returns-in-One-clause-made c =
    let os = c.args.heap.now.objects in
    let given = ap (λ d. defining_event os d (object_at os c.args.proofs)) c.in-One.is in
    IfOk-map c.form_of.result _ _ (λ r made. (made.0, made.1 ∙ sym given)) c.form_of.ensures.made

pub returns-in-All-clause-made : goal.returns-in-All-clause-made
returns-in-All-clause-made c =
    let os = c.args.heap.now.objects in
    let given = ap (λ d. defining_event os d (object_at os c.args.proofs)) c.in-All.is in
    IfOk-map c.form_of-in-All.result _ _ (λ r made. (made.0, made.1 ∙ sym given)) c.form_of-in-All.ensures.made
