-- Each body is in the heap.
use Rattle.std.proofs.Common.{sym, subst, All}
use Rattle.mw_heap.specs.Objects.{IsIn}
use Rattle.mw_code.proofs.Bodies.{body-within, cells-in}
use Rattle.mw_code.proofs.sharing.put_bodies.Goals.{in-Some+in_ok-insert, in_default}
use Rattle.mw_code.proofs.sharing.put_bodies.Goals as goal

pub loop-index-preserved : goal.loop-index-preserved
loop-index-preserved c =
    let (D, B, h) = c.requires.block in
    let os = c.args.heap.now.objects in
    let cells = c.loop-index.cells.keys in
    elim c.match-body.branch [
      | in-Some+in_ok-insert w ↦ subst (λ s. All (IsIn os) s.keys) (sym w.cells-is)
          (cells-in os cells w.insert.new.self.keys w.in-Some.body w.in_ok-insert.ensures.keys c.loop-index.invariant
          (body-within os D c.args.block.now B h c.loop-index.index c.member_at-body.result w.in-Some.body c.member_at-body.ensures w.in-Some.is))
      | in_default w ↦ subst (λ s. All (IsIn os) s.keys) (sym w.cells-is) c.loop-index.invariant
    ]
