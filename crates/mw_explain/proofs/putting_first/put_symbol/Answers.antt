-- The symbol in front.
use Rattle.mw_model.specs.Terms.Object.{Symbol, name_of_bytes}
use Rattle.mw_explain.proofs.ShownParts.{shows-first}
use Rattle.mw_explain.proofs.putting_first.put_symbol.Goals as goal

pub returns-clause-shown : goal.returns-clause-shown
returns-clause-shown c = λ xs h. shows-first c.args.heap.now.objects c.symbol.new.self.objects c.in_ok-first.ensures.grows c.in_ok-first.first (Symbol (name_of_bytes c.args.name.now)) c.args.shown.items c.insert.new.self.items xs c.in_ok-first.ensures.made.0 c.in_ok-first.ensures.made.1 c.in_ok-insert.ensures.items h
