-- One symbol after another.
use Rattle.mw_term.specs.Parts.{names_at}
use Rattle.mw_explain.specs.Drafts.{formals_at}
use Rattle.mw_explain.proofs.VariablesPut.{symbol-at, put-next, put-end}
use Rattle.mw_explain.proofs.other_variables.put_each.Goals as goal

pub put_other-requires-clause-within : goal.put_other-requires-clause-within
put_other-requires-clause-within c = (symbol-at c.args.heap.now.objects c.args.symbols.now c.loop-x.x-index c.x-item.result c.requires.given c.loop-x-test.true c.x-item.is).0

pub put_other-requires-clause-symbol : goal.put_other-requires-clause-symbol
put_other-requires-clause-symbol c = (symbol-at c.args.heap.now.objects c.args.symbols.now c.loop-x.x-index c.x-item.result c.requires.given c.loop-x-test.true c.x-item.is).1

pub loop-x-preserved : goal.loop-x-preserved
loop-x-preserved c =
    let os = c.args.heap.now.objects in
    record {
      symbols = c.in_ok-put_other.ensures.symbols;
      put = put-next os (formals_at os c.args.formals.now) (names_at os c.args.others.now.keys) c.args.symbols.now c.loop-x.x-index c.x-item.result c.loop-x.others.keys c.put_other.new.others.keys c.loop-x-test.true c.x-item.is c.loop-x.invariant.put c.in_ok-put_other.ensures.put;
    }

pub returns-clause-put : goal.returns-clause-put
returns-clause-put c =
    let os = c.args.heap.now.objects in
    put-end os (formals_at os c.args.formals.now) (names_at os c.args.others.now.keys) c.args.symbols.now c.loop-x.x-index c.loop-x.others.keys c.loop-x-test.false c.loop-x.invariant.put
