-- A substitution is a list of pairs.
use Rattle.std.proofs.Common.{sym, ◌∙◌}
use Rattle.mw_heap.specs.Objects.{object_at}
use Rattle.mw_subst.proofs.PairLists.{substitution_pairs}
use Rattle.mw_bad_steps.proofs.computed.instantiated.Goals as goal

pub instance-requires-clause-pairs : goal.instance-requires-clause-pairs
instance-requires-clause-pairs c =
    let A = c.requires.marks.0 in
    substitution_pairs A (object_at c.args.heap.now.objects c.args.extras) (sym (c.is_substitution.ensures A c.requires.marks.1) ∙ c.if-not-is_substitution.false)
