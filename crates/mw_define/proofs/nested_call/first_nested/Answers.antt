-- One call after another.
use Rattle.std.proofs.Common.{sym, ◌∙◌}
use Rattle.mw_term.specs.Parts.{names_at}
use Rattle.mw_define.proofs.Knowing.{known-own, known-before, has-own}
use Rattle.mw_define.proofs.FirstNested.{looking-start, looking-piece, looking-found, looking-next, looking-end}
use Rattle.mw_define.proofs.nested_call.first_nested.Goals as goal

pub loop-call-init : goal.loop-call-init
loop-call-init c = record { looking = looking-start (names_at c.args.heap.now.objects c.args.known.now.names.keys) c.args.heap.now.objects c.args.calls.now c.requires.calls; known = c.requires.known }

pub mentions_some-requires-clause-within : goal.mentions_some-requires-clause-within
mentions_some-requires-clause-within c = looking-piece (names_at c.args.heap.now.objects c.args.known.now.names.keys) c.args.heap.now.objects c.args.calls.now c.loop-call.call-index c.call-item.result c.loop-call-test.true c.loop-call.invariant.looking c.call-item.is

pub mentions_some-requires-clause-known : goal.mentions_some-requires-clause-known
mentions_some-requires-clause-known c = known-own c.args.heap.now.objects c.args.known.now.names.keys c.loop-call.known c.loop-call.invariant.known

pub loop-call-preserved : goal.loop-call-preserved
loop-call-preserved c =
    let os = c.args.heap.now.objects in
    let keys = c.args.known.now.names.keys in
    record {
      looking = looking-next (names_at os keys) os c.args.calls.now c.loop-call.call-index c.call-item.result c.loop-call-test.true c.loop-call.invariant.looking c.call-item.is
          (λ B n. sym (c.in_ok-mentions_some.ensures.mentions B (has-own os keys c.loop-call.known c.loop-call.invariant.known B n)) ∙ c.if-branch.false);
      known = known-before os os keys c.loop-call.known c.mentions_some.new.known c.loop-call.invariant.known c.in_ok-mentions_some.ensures.known;
    }

pub returns-then-branch-clause-known : goal.returns-then-branch-clause-known
returns-then-branch-clause-known c = known-before c.args.heap.now.objects c.args.heap.now.objects c.args.known.now.names.keys c.loop-call.known c.mentions_some.new.known c.loop-call.invariant.known c.in_ok-mentions_some.ensures.known

pub returns-then-branch-clause-nested : goal.returns-then-branch-clause-nested
returns-then-branch-clause-nested c = λ B n.
    let os = c.args.heap.now.objects in
    let keys = c.args.known.now.names.keys in
    looking-found (names_at os keys) os c.args.calls.now c.loop-call.call-index c.call-item.result c.loop-call-test.true c.loop-call.invariant.looking c.call-item.is B n
    (sym (c.in_ok-mentions_some.ensures.mentions B (has-own os keys c.loop-call.known c.loop-call.invariant.known B n)) ∙ c.if-branch.true)

pub returns-clause-nested : goal.returns-clause-nested
returns-clause-nested c = looking-end (names_at c.args.heap.now.objects c.args.known.now.names.keys) c.args.heap.now.objects c.args.calls.now c.loop-call.call-index c.loop-call-test.false c.loop-call.invariant.looking
