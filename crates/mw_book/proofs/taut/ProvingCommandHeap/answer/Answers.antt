-- What is found of the datum is answered.
use Rattle.std.proofs.Common.{[], ◌∷◌, ◌++◌}
use Rattle.std.proofs.lemmas.Result.{on_ok_weaker}
use Rattle.mw_heap.specs.Objects.{object_at}
use Rattle.mw_book.proofs.Proved.{known_proving, proving_marked, puts_after, shows_grows}
use Rattle.mw_book.proofs.taut.ProvingCommandHeap.answer.Goals as goal

pub verdict_on-requires : goal.verdict_on-requires
verdict_on-requires c = let k = known_proving c.args.self.now c.args.heap.now c.requires.known in record { within = c.requires.within; arity = k.arity; marked = k.marked }

pub write-requires-clause-found : goal.write-requires-clause-found
write-requires-clause-found c =
    let os = c.args.heap.now.objects in
    let s = c.shown-word.ensures in
    (object_at os c.args.x, shows_grows os c.verdict_on.new.heap.objects c.in_ok-verdict.ensures.grows c.shown-word.result.0 (object_at os c.args.x) (s.word_in, s.word_shown), c.in_ok-verdict.ensures.verdict)

pub write-requires-clause-proving : goal.write-requires-clause-proving
write-requires-clause-proving c = proving_marked c.args.self.now c.args.heap.now c.verdict_on.new.heap c.verdict_on.new.marks c.in_ok-verdict.ensures.grows c.in_ok-verdict.ensures.marked (known_proving c.args.self.now c.args.heap.now c.requires.known)

pub returns-clause-puts : goal.returns-clause-puts
returns-clause-puts c =
    let old = c.args.self.now in
    let heap = c.args.heap.now in
    let x = object_at heap.objects c.args.x in
    let s = c.shown-word.ensures in
    let e = c.in_ok-verdict.ensures in
    on_ok_weaker c.write.result (λ f given.
    puts_after old c.write.new.self heap c.verdict_on.new.heap c.write.new.heap c.verdict_on.new.marks given (given ++ x ∷ []) _ e.grows e.marked
    (f x (shows_grows heap.objects c.verdict_on.new.heap.objects e.grows c.shown-word.result.0 x (s.word_in, s.word_shown)) e.verdict given)) c.write.ensures.puts
