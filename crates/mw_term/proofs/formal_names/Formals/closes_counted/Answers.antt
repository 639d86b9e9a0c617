-- On the object of a term, closed is what it is on the term.
use Rattle.std.proofs.Common.{ap, ◌∙◌}
use Rattle.mw_model.specs.Terms.Term.{is_closed}
use Rattle.mw_heap.specs.Objects.{object_at}
use Rattle.mw_term.specs.Parts.{names_at}
use Rattle.mw_term.proofs.Heads.{closed-object}
use Rattle.mw_term.proofs.formal_names.Formals.closes_counted.Goals as goal

pub returns : goal.returns
returns c = λ t h.
    let os = c.args.heap.now.objects in
    c.in_ok-closed.ensures
    ∙ (closed-object (names_at os c.self.inside.symbols.keys) (object_at os c.args.term) t h
    ∙ ap (λ k. is_closed (names_at os k) t) c.self.view_is)
