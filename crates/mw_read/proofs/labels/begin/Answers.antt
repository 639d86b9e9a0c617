use Rattle.std.proofs.Common.{◌∙◌, sym, ap, Some, None, is_some, eqb, if◌then◌else◌}
use Rattle.mw_read.proofs.Named.{known, insert_is, new_or_known}
use Rattle.mw_read.proofs.labels.begin.Goals as goal

pub returns-clause-begun : goal.returns-clause-begun
returns-clause-begun c os ls h =
    let m = c.args.labels.now.entries in
    let begun = known os m ls c.args.n h ∙ ap is_some (sym c.in_ok-was.ensures.old) in
    new_or_known _ _ _ c.is_none.result c.is_none.ensures
    (λ e. (begun ∙ e, λ q. insert_is os m c.insert.new.self.entries c.args.n q None (c.in_ok-was.ensures.updates.0 q) ∙ ap (λ s. if eqb q c.args.n then Some None else s) (h q)))
    (λ e. begun ∙ e)
