-- Each call is one of those found.
use Rattle.mw_term.specs.Parts.{names_at}
use Rattle.mw_define.proofs.OwedBlock.{found-at}
use Rattle.mw_define.proofs.foreseeing.looks_at_calls.Goals as goal

pub looks_at_call-requires-clause-call : goal.looks_at_call-requires-clause-call
looks_at_call-requires-clause-call c =
    let os = c.args.heap.now.objects in
    let found = found-at os (names_at os c.args.names.now.keys) c.args.calls.now c.loop-call.call-index c.call-item.result c.requires.calls c.loop-call-test.true c.call-item.is in
    (found.0, found.1)
