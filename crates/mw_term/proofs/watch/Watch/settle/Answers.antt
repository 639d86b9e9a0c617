-- The marks of the watched cells are those that stood; the others are made anew.
use Rattle.std.proofs.Common.{◌≡◌, length, take, sym, ap, ◌∙◌, subst, arith}
use Rattle.mw_term.specs.Watching.{mark_in}
use Rattle.mw_term.specs.Settling.{Waits, IsSettling}
use Rattle.mw_term.proofs.Settled.{awake-settling}
use Rattle.mw_term.proofs.watch.Watch.settle.Goals as goal

pub mark_waiting-requires-clause-settling : goal.mark_waiting-requires-clause-settling
mark_waiting-requires-clause-settling c =
    let (A, given) = c.requires.marked in
    let w = c.args.self.now in
    let ms = c.args.marks.now in
    let had : c.len-had.result ≡ length w.lasting.items = omega (arith, c.len-had.ensures, w.lasting.ok.0) in
    let stood : c.truncate.new.self.items ≡ take (length w.lasting.items) ms = c.truncate.ensures.items ∙ (ap (take c.len-had.result) c.marks.view_is ∙ ap (λ n. take n ms) had) in
    subst (λ l. IsSettling c.args.arity.now c.args.heap.now.objects (mark_in l) w (Waits w)) (sym stood)
    (awake-settling A c.args.arity.now c.args.heap.now.objects ms w given.0 (omega (arith, c.if-len-had.false, c.len.ensures, had)) given.1)
