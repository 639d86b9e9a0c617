-- The names, and then the formals.
use Rattle.std.proofs.Common.{Some, inl, sym, ap, ◌∙◌, subst}
use Rattle.mw_model.specs.Terms.Term.{are_distinct}
use Rattle.mw_model.specs.Terms.Reading.{that}
use Rattle.mw_model.specs.Events.Admission.{new_name}
use Rattle.mw_term.specs.Parts.{names_at, AreSymbols}
use Rattle.mw_define.proofs.BlockRead.{of-drafts, names-are}
use Rattle.mw_define.proofs.newer.arities_of_drafts.Goals as goal

pub arities_of_named-requires-clause-named : goal.arities_of_named-requires-clause-named
arities_of_named-requires-clause-named c =
    let os = c.args.heap.now.objects in
    let n = rw c.in-Some.is at c.in_ok-names.ensures in
    names-are c.args.arity.now os c.args.drafts.now _ n ∙ ap (λ l. Some (names_at os l)) n.refs

pub arities_of_named-requires-clause-symbols : goal.arities_of_named-requires-clause-symbols
arities_of_named-requires-clause-symbols c =
    let n = rw c.in-Some.is at c.in_ok-names.ensures in
    subst (AreSymbols c.args.heap.now.objects) n.refs n.symbols

pub arities_of_named-requires-clause-distinct : goal.arities_of_named-requires-clause-distinct
arities_of_named-requires-clause-distinct c =
    let n = rw c.in-Some.is at c.in_ok-names.ensures in
    ap (λ l. are_distinct (names_at c.args.heap.now.objects l)) (sym n.refs) ∙ n.distinct

pub returns-in_default : goal.returns-in_default
returns-in_default c =
    let A = c.args.arity.now in
    inl (ap (that are_distinct) (of-drafts (new_name A) (λ d. d.name) c.args.heap.now.objects c.args.drafts.now) ∙ (rw c.in_default.is at c.in_ok-names.ensures))
