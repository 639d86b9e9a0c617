-- The words before this one stand in their places.
use Rattle.mw_heap.specs.Objects.{Grows}
use Rattle.mw_heap.proofs.Words.{StandBefore}
use Rattle.mw_heap.proofs.store.heap.Heap.keep_words.Given as goal

abbrev pub invariant-loop-word : goal.invariant-loop-word
invariant-loop-word l = Grows l.fn.self.objects l.self.objects × StandBefore l.word-index l.self.objects
