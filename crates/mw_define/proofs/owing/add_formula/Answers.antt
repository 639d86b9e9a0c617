-- A new formula goes last.
use Rattle.std.proofs.Common.{refl}
use Rattle.mw_define.proofs.OwedSoFar.{adds-one}
use Rattle.mw_define.proofs.owing.add_formula.Goals as goal

pub returns : goal.returns
returns c = λ F is read. adds-one c.args.heap.now.objects c.order.ensures.distinct c.args.formula c.requires F is read c.args.owed.now (record { formulas = c.insert.new.self; most = c.args.owed.now.most }) refl c.in_ok-insert.ensures.keys
