-- A formula that is read from the object is the one that it stands for.
use Rattle.mw_heap.specs.Objects.{object_at}
use Rattle.mw_taut.proofs.Shown.{shown, some_shown}
use Rattle.mw_taut.proofs.deciding.decide.Goals as goal

pub decided-requires-clause-formula : goal.decided-requires-clause-formula
decided-requires-clause-formula c = some_shown c.args.arity.now (object_at c.args.heap.now.objects c.args.f) c.requires.formula

pub returns-in-Ok-clause-decided : goal.returns-in-Ok-clause-decided
returns-in-Ok-clause-decided c = λ F e.
    let s = shown c.args.arity.now (object_at c.args.heap.now.objects c.args.f) F e in
    c.in-Ok.ensures.decided F s.0 s.1
