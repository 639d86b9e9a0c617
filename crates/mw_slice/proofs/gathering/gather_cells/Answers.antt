-- All cells, or those of a theorem but for its name.
use Rattle.std.proofs.Common.{◌||◌, sym, ap, ◌∙◌}
use Rattle.std.proofs.lemmas.Result.{on_ok_weaker}
use Rattle.mw_model.specs.Terms.Object.{cdr}
use Rattle.mw_heap.specs.Objects.{object_at}
use Rattle.mw_slice.specs.declared.part.Part.TheVariants.{Cell}
use Rattle.mw_slice.specs.Supports.{notes, asks}
use Rattle.mw_slice.proofs.Entering.{cells_by_cell, cells_by_parts}
use Rattle.mw_slice.proofs.gathering.gather_cells.Goals as goal

pub returns-then-not-is_headed-clause-supports : goal.returns-then-not-is_headed-clause-supports
returns-then-not-is_headed-clause-supports c =
    let os = c.args.indexed.now.heap.now.objects in
    on_ok_weaker c.gather.result (λ noted s.
    noted s ∙ ap (λ b. notes os c.args.basis.now s || b) (cells_by_cell os c.args.indexed.now.firsts.now.entries c.args.event (sym c.is_headed.ensures ∙ c.if-not-is_headed.true) s)) c.gather.ensures.supports

pub returns-clause-supports : goal.returns-clause-supports
returns-clause-supports c =
    let os = c.args.indexed.now.heap.now.objects in
    let firsts = c.args.indexed.now.firsts.now.entries in
    on_ok_weaker c.gather-3.result (λ noted s.
    noted s
    ∙ (ap (λ b. b || asks os firsts s (Cell c.rest-others.result)) (c.in_ok-gather.ensures.supports s)
    ∙ cells_by_parts os firsts (object_at os c.args.event) c.or_nil-first.result c.rest-others.result (sym c.is_headed.ensures ∙ c.if-not-is_headed.false) (c.or_nil-first.ensures.same ∙ c.car.ensures.value) (c.rest-others.ensures.same ∙ ap cdr c.rest.ensures.same) s (notes os c.args.basis.now s))) c.gather-3.ensures.supports
