-- NIL, and then the pair.
use Rattle.std.proofs.Common.{ap₂, ◌∙◌}
use Rattle.std.proofs.lemmas.Result.{IfOk-weaker}
use Rattle.mw_model.specs.Terms.Object.{Pair}
use Rattle.mw_heap.proofs.Objects.{object_at-Grows, IsIn-Grows, Grows-trans}
use Rattle.mw_translate.proofs.build.list_of_one.Goals as goal

pub cons-requires-clause-first_in : goal.cons-requires-clause-first_in
cons-requires-clause-first_in c = IsIn-Grows _ _ c.in_ok-nil.ensures.grows c.args.a c.requires

pub returns-clause-grows : goal.returns-clause-grows
returns-clause-grows c = Grows-trans _ _ _ c.in_ok-nil.ensures.grows c.cons.ensures.grows

pub returns-clause-made : goal.returns-clause-made
returns-clause-made c = IfOk-weaker c.cons.result _ _ (λ r made. (made.0, made.1 ∙ ap₂ Pair (object_at-Grows _ _ c.in_ok-nil.ensures.grows c.args.a c.requires) c.in_ok-nil.ensures.made.1)) c.cons.ensures.made
