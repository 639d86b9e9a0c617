-- The word, and then the pair.
use Rattle.std.proofs.Common.{ap₂, ◌∙◌}
use Rattle.std.proofs.lemmas.Result.{IfOk-weaker}
use Rattle.mw_model.specs.Terms.Object.{Pair}
use Rattle.mw_heap.proofs.Objects.{object_at-Grows, IsIn-Grows, Grows-trans}
use Rattle.mw_translate.proofs.build.headed.Goals as goal

pub cons-requires-clause-second_in : goal.cons-requires-clause-second_in
cons-requires-clause-second_in c = IsIn-Grows _ _ c.in_ok-head.ensures.grows c.args.members c.requires

pub returns-clause-grows : goal.returns-clause-grows
returns-clause-grows c = Grows-trans _ _ _ c.in_ok-head.ensures.grows c.cons.ensures.grows

pub returns-clause-made : goal.returns-clause-made
returns-clause-made c = IfOk-weaker c.cons.result _ _ (λ r made. (made.0, made.1 ∙ ap₂ Pair c.in_ok-head.ensures.made.1 (object_at-Grows _ _ c.in_ok-head.ensures.grows c.args.members c.requires))) c.cons.ensures.made
