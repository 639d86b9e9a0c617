-- The first one that waited waits no more.
use Rattle.std.proofs.Common.{refl, arith}
use Rattle.mw_term.specs.Watching.{mark_in}
use Rattle.mw_term.proofs.Woken.{least-first}
use Rattle.mw_term.proofs.Settled.{popped-first, popped-beyond}
use Rattle.mw_term.proofs.watch.Watch.mark_first.Goals as goal

pub mark_anew-requires-clause-first : goal.mark_anew-requires-clause-first
mark_anew-requires-clause-first c = λ y o. least-first c.pop_first.new.self.keys c.in-Some.x y c.in-Some.ensures.all_above o

pub mark_anew-requires-clause-settling : goal.mark_anew-requires-clause-settling
mark_anew-requires-clause-settling c = popped-first c.args.arity.now c.args.heap.now.objects (mark_in c.args.cells.now.items) c.args.self.now _ refl refl c.in-Some.x c.in-Some.ensures.removal c.requires.settling

pub returns-else-index-len-clause-settling : goal.returns-else-index-len-clause-settling
returns-else-index-len-clause-settling c =
    popped-beyond c.args.arity.now c.args.heap.now.objects (mark_in c.args.cells.now.items) c.args.self.now _ refl refl c.in-Some.x c.in-Some.ensures.removal c.requires.settling
    (omega (arith, c.if-index-len.false, c.index.ensures, c.len.ensures, c.requires.size))
