-- The number in front.
use Rattle.std.proofs.Common.{ap, ◌∙◌}
use Rattle.mw_model.specs.Terms.Object.{Natural}
use Rattle.mw_explain.proofs.ShownParts.{shows-first}
use Rattle.mw_explain.proofs.putting_first.put_number.Goals as goal

pub returns-clause-shown : goal.returns-clause-shown
returns-clause-shown c = λ xs h. shows-first c.args.heap.now.objects c.nat.new.self.objects c.in_ok-first.ensures.grows c.in_ok-first.first (Natural c.args.number) c.args.shown.items c.insert.new.self.items xs c.in_ok-first.ensures.made.0 (c.in_ok-first.ensures.made.1 ∙ ap Natural c.from.ensures) c.in_ok-insert.ensures.items h
