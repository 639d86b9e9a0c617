-- The job's part begins at the place.
use Rattle.std.proofs.Common.{sym, subst}
use Rattle.mw_code.specs.Reused.{IsPartAt, BeginsPart}
use Rattle.mw_code.proofs.PartLemmas.{parts-more}
use Rattle.mw_code.proofs.parts.Parts.note.Goals as goal

pub returns-in_ok-insert : goal.returns-in_ok-insert
returns-in_ok-insert c P os S from code begins low parts =
    let here = subst (BeginsPart P os S code c.args.place) c.in-Part.is begins in
    parts-more P os S from code c.args.self.now.laid.entries c.insert.new.self.entries c.key_of.result (record { task = c.part_task.result; place = c.args.place }) c.in_ok-insert.ensures.updates.0 low (subst (λ t. IsPartAt P os S code t c.args.place) (sym c.part_task.ensures) here) parts
