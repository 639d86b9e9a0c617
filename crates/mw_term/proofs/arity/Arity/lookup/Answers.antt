use Rattle.std.proofs.Common.{sym, ap, ◌∙◌}
use Rattle.mw_model.specs.Terms.Object.{name_of_bytes}
use Rattle.mw_model.specs.Terms.Term.{arity_of}
use Rattle.mw_term.proofs.Entries.{arity_of-table_of}
use Rattle.mw_term.proofs.arity.Arity.lookup.Goals as goal

pub returns : goal.returns
returns c =
    c.copied.ensures
    ∙ (c.get.ensures.value
    ∙ (sym (arity_of-table_of c.args.name.now c.self.inside.arities.entries c.requires c.self.invariant.named c.self.invariant.distinct)
    ∙ ap (λ A. arity_of A (name_of_bytes c.args.name.now)) c.self.view_is))
