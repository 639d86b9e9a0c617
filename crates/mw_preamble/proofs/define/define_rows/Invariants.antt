-- The blocks of the rows that were read are defined.
use Rattle.mw_heap.specs.Variants.{profile_of}
use Rattle.mw_preamble.specs.Admitted.{definitions_of}
use Rattle.mw_preamble.proofs.DefineWalk.{Defines}
use Rattle.mw_preamble.proofs.define.define_rows.Given as goal

abbrev pub invariant-loop-row : goal.invariant-loop-row
invariant-loop-row l = Defines l.heap.objects (profile_of l.fn.table.profile) (definitions_of (profile_of l.fn.table.profile)).blocks l.rest l.entries l.table

abbrev pub decreases-loop-row : goal.decreases-loop-row
decreases-loop-row l = l.rest
