-- One row more.
use Rattle.std.proofs.Common.{sym, subst}
use Rattle.mw_heap.specs.Objects.{object_at}
use Rattle.mw_heap.specs.Variants.{profile_of}
use Rattle.mw_heap.proofs.NoPair.{shown_no_pair}
use Rattle.mw_code.specs.Tables.{StandsFor}
use Rattle.mw_preamble.specs.Admitted.{definitions_of}
use Rattle.mw_preamble.proofs.DefineWalk.{Defines, Defines-begin, Defines-next, Defines-row, Defines-end, definitions-same}
use Rattle.mw_preamble.proofs.define.define_rows.Goals as goal

pub loop-row-init : goal.loop-row-init
loop-row-init c =
    let os = c.args.heap.now.objects in
    let P = profile_of c.args.table.now.profile in
    subst (λ es. Defines os P (definitions_of P).blocks c.args.rows es c.args.table.now) (sym c.new-entries.ensures)
    (Defines-begin P os c.args.rows c.args.table.now c.requires.within c.requires.rows c.requires.empty)

pub define_row-requires-clause-next : goal.define_row-requires-clause-next
define_row-requires-clause-next c =
    let h = c.loop-row.invariant in
    let n = Defines-next _ _ _ _ _ _ _ _ h c.in-Pair.ensures.shows.2 in
    (profile_of c.args.table.now.profile, h.done, n.block, n.is_row, h.table)

pub loop-row-preserved : goal.loop-row-preserved
loop-row-preserved c =
    let h = c.loop-row.invariant in
    let shows = c.in-Pair.ensures.shows in
    let n = Defines-next _ _ _ _ _ _ _ _ h shows.2 in
    let made = c.in_ok-define_row.ensures in
    Defines-row _ _ _ _ _ _ _ _ _ _ h n shows.1 (made.entries h.done n.block n.is_row.row_is h.entries) (made.table (profile_of c.args.table.now.profile) h.done n.block n.is_row h.table)

pub returns : goal.returns
returns c =
    let os = c.args.heap.now.objects in
    let end = Defines-end _ _ _ _ _ _ c.loop-row.invariant (shown_no_pair os c.view.result (object_at os c.loop-row.rest) c.view.ensures.shows c.in_default.not-Pair) in
    record { entries = end.0; table = subst (StandsFor os c.loop-row.table) (definitions-same (profile_of c.args.table.now.profile)) end.1 }
