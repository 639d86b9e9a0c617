-- None of the heaps before this one has such an object.
use Rattle.std.proofs.Common.{ℕ, ◌<◌}
use Rattle.mw_slice.specs.Firsts.{NamesNone}
use Rattle.mw_slice.specs.Heaps.{heap_of}
use Rattle.mw_slice.proofs.firsts.some_names_theorem.Given as goal

abbrev pub invariant-loop-place : goal.invariant-loop-place
invariant-loop-place l = (k : ℕ) → k < l.place → NamesNone (heap_of l.heaps k)
