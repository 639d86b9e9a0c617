-- It is none of the words before this one.
use Rattle.std.proofs.Common.{◌≡◌, ℕ, ◌<◌, false, get_or}
use Rattle.mw_model.specs.Terms.Object.{same_object}
use Rattle.mw_heap.specs.Objects.{object_at}
use Rattle.mw_heap.specs.Words.{word_object}
use Rattle.mw_heap.specs.declared.vocabulary.word.Word.TheVariants as word
use Rattle.mw_heap.specs.declared.vocabulary.word.TheConstants.{WORDS}
use Rattle.mw_heap.proofs.store.heap.Heap.word_at.Given as goal

abbrev pub invariant-loop-word : goal.invariant-loop-word
invariant-loop-word l = (i : ℕ) → i < l.word-index → same_object (object_at l.self.objects l.x) (word_object (get_or WORDS i word.Nil)) ≡ false
