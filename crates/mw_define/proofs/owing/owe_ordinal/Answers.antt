-- The measure is that of the function.
use Rattle.std.proofs.Common.{◌≡◌, ◌∷◌, [], Some, sym, ap, ◌∙◌}
use Rattle.std.proofs.lemmas.Result.{IfOk-weaker}
use Rattle.mw_model.specs.Terms.Reading.{term_of}
use Rattle.mw_model.specs.Values.Primitive.{name_of}
use Rattle.mw_model.specs.Events.Obligation.{ordinal_formula, measure_of}
use Rattle.mw_heap.specs.Objects.{object_at}
use Rattle.mw_define.specs.Blocks.{measures_at}
use Rattle.mw_define.proofs.OwedSoFar.{adds-later}
use Rattle.mw_define.proofs.OwedCalls.{ordinal-read}
use Rattle.mw_define.proofs.owing.owe_ordinal.Goals as goal

pub returns-clause-owed : goal.returns-clause-owed
returns-clause-owed c =
    let os = c.args.heap.now.objects in
    let new = c.is_ordinal.new.heap.objects in
    let m = measure_of (measures_at os c.args.block.now) (name_of (object_at os c.args.function.now.name)) in
    let read : term_of (object_at os c.args.function.now.measure) ≡ Some m = c.requires.expanded.measure ∙ ap Some (sym c.requires.measure) in
    IfOk-weaker c.add_formula.result _ _
    (λ _ adds. adds-later os new new c.args.owed.now c.add_formula.new.owed (ordinal_formula m ∷ []) c.in_ok-formula.ensures.grows
    (adds (ordinal_formula m) (c.in_ok-formula.ensures.made.1 m read) (ordinal-read (object_at os c.args.function.now.measure) m read)))
    c.add_formula.ensures
