-- A datum past the range gives no formula.
use Rattle.std.proofs.Common.{refl}
use Rattle.std.proofs.lemmas.Result.{on_ok_weaker}
use Rattle.mw_book.proofs.Proved.{known_proving}
use Rattle.mw_book.proofs.taut.ProvingCommandHeap.answer_large.Goals as goal

pub write-requires-clause-proving : goal.write-requires-clause-proving
write-requires-clause-proving c = known_proving c.args.self.now c.args.heap.now c.requires.known

pub returns-clause-puts : goal.returns-clause-puts
returns-clause-puts c = on_ok_weaker c.write.result (λ f x large shows given. f x (shows.word_in, shows.word_shown) (rw large refl) given) c.write.ensures.puts
