-- What was noted with the part waits.
use Rattle.std.proofs.Common.{refl, ◌∙◌}
use Rattle.std.proofs.lemmas.Result.{on_ok_weaker}
use Rattle.mw_term.proofs.Woken.{wakes-noted}
use Rattle.mw_term.proofs.watch.Watch.wake.Goals as goal

pub returns : goal.returns
returns c =
    on_ok_weaker c.add_all.result (λ added. wakes-noted c.args.self.now _ c.args.part c.as_slice.result.now refl (c.as_slice.ensures.value ∙ c.take-cells.ensures.taken) c.take-cells.ensures.rest added) c.add_all.ensures
