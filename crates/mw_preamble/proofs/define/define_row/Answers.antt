-- The definition of the row is added.
use Rattle.std.proofs.Common.{List, Result, Ok, Err, sym, subst}
use Rattle.std.specs.Result.{OnOk}
use Rattle.mw_model.specs.Values.Primitive.{Profile}
use Rattle.mw_model.specs.Values.Definition.{Block}
use Rattle.mw_preamble.specs.Entries.{IsBlock}
use Rattle.mw_preamble.specs.Defining.{IsNext, IsNextRow}
use Rattle.mw_preamble.proofs.define.define_row.Goals as goal

next : (c : goal.After-definition-1) (P : Profile) (D : List Block) (B : Block) → IsNextRow c.args.heap.now.objects P D B c.args.row → IsNext c.args.heap.now.objects P D B c.definition_of-definition.result
next c P D B n = record { means = c.definition_of-definition.ensures B n.row_is; made = n.made }

always : {T E P : Type 0} (r : Result T E) → P → OnOk r P
always (Ok x) p = p
always (Err e) p = tt

pub add_code-requires : goal.add_code-requires
add_code-requires c = let r = c.requires.next in (r.0, r.1, r.2, next c r.0 r.1 r.2 r.3, r.4)

pub returns-clause-entries : goal.returns-clause-entries
returns-clause-entries c D B row_is are =
    let made = c.in_ok-block.ensures.items in
    always c.add_code.result
    (c.args.entries.now, c.in_ok-block.block.items, c.in_ok-add.ensures.added, subst (λ ds. IsBlock c.args.heap.now.objects ds B) (sym made) (c.definition_of-definition.ensures B row_is), are)

pub returns-clause-table : goal.returns-clause-table
returns-clause-table c P D B n stands =
    c.add_code.ensures P D B (record { means = c.definition_of-definition.ensures B n.row_is; made = n.made }) stands
