-- The order has no cycles, and what is before an object is no heavier.
use Rattle.mw_model.proofs.Order.{is_before_tri}
use Rattle.mw_model.proofs.Acyclic.{irreflexive, transitive, descends}
use Rattle.mw_model.proofs.Finite.{finitely_many}
use Rattle.mw_model.proofs.objects.object_order.Goals as goal

pub returns-clause-irreflexive : goal.returns-clause-irreflexive
returns-clause-irreflexive c = irreflexive

pub returns-clause-transitive : goal.returns-clause-transitive
returns-clause-transitive c = transitive

pub returns-clause-total : goal.returns-clause-total
returns-clause-total c = is_before_tri

pub returns-clause-descending : goal.returns-clause-descending
returns-clause-descending c = descends

pub returns-clause-finite : goal.returns-clause-finite
returns-clause-finite c = finitely_many
