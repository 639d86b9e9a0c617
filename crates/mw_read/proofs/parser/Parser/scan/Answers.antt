use Rattle.std.proofs.Common.{◌+◌, ◌≤◌, subst, length, drop, arith}
use Rattle.std.proofs.lemmas.List.{length-drop}
use Rattle.mw_read.specs.Machine.{State}
use Rattle.mw_read.specs.Held.{Holds}
use Rattle.mw_read.specs.Parsing.{Moves, Advances, PassesWhite}
use Rattle.mw_heap.proofs.Objects.{Grows-trans}
use Rattle.mw_read.proofs.Beginning.{rest_is}
use Rattle.mw_read.proofs.Scanning.{Scans, scan_next, scan_reaches, scan_advances}
use Rattle.mw_read.proofs.Blanks.{blank_scans}
use Rattle.mw_read.proofs.parser.Parser.scan.Goals as goal
use Rattle.mw_read.proofs.parser.Parser.scan.Goals.{In_ok-outcome}

-- what the bytes that are left did
advanced : (c : goal.In_ok-outcome) →
    Moves c.in_ok-outcome.outcome c.loop-at.self (drop c.loop-at.at c.args.piece.now) c.in_ok-outcome.n c.advance.new.self
    × ((t : State) → Holds c.loop-at.heap.objects c.loop-at.self.stack t → Advances c.advance.new.heap.objects t c.loop-at.self (drop c.loop-at.at c.args.piece.now) c.in_ok-outcome.outcome c.in_ok-outcome.n c.advance.new.self)
    × (c.in_ok-outcome.n ≤ length (drop c.loop-at.at c.args.piece.now))
advanced c =
    let left = rest_is c.loop-at.at c.args.piece.now in
    let v = c.in_ok-outcome.ensures in (
      subst (λ u. Moves c.in_ok-outcome.outcome c.loop-at.self u c.in_ok-outcome.n c.advance.new.self) left v.moves,
      λ t h. subst (λ u. Advances c.advance.new.heap.objects t c.loop-at.self u c.in_ok-outcome.outcome c.in_ok-outcome.n c.advance.new.self) left (v.advances t h),
      subst (λ u. c.in_ok-outcome.n ≤ length u) left v.taken,
    )

pub loop-at-preserved : goal.loop-at-preserved
loop-at-preserved c =
    let k = advanced (goal.at.loop-at-preserved c).In_ok-outcome in
    let os = c.args.heap.now.objects in
    let a = c.args.self.now in
    let piece = c.args.piece.now in
    let at = c.loop-at.at in
    let n = c.in_ok-outcome.n in
    let new = c.advance.new.heap.objects in
    let p = c.advance.new.self in
    let scans : Scans os a piece new p (at + n) =
    scan_next os a piece c.loop-at.heap.objects c.loop-at.self at c.loop-at.invariant new p c.in_ok-outcome.ensures.grows c.loop-at-test.true n k.2
    (subst (λ r. Moves r c.loop-at.self (drop at piece) n p) c.in-Pending.is k.0)
    (λ t h. subst (λ r. Advances new t c.loop-at.self (drop at piece) r n p) c.in-Pending.is (k.1 t h)) in
    blank_scans os a piece new p (at + n) c.pass_white-at.result c.pass_white-at.new.self scans
    (subst (λ u. PassesWhite p u c.pass_white-at.result c.pass_white-at.new.self) (rest_is (at + n) piece) c.pass_white-at.ensures)

pub returns-in_default : goal.returns-in_default
returns-in_default c =
    let k = advanced (goal.at.returns-in_default c).In_ok-outcome in
    let os = c.args.heap.now.objects in
    let a = c.args.self.now in
    let piece = c.args.piece.now in
    let at = c.loop-at.at in
    let s = c.loop-at.invariant in
    let grows = c.in_ok-outcome.ensures.grows in
    record {
      grows = Grows-trans os c.loop-at.heap.objects c.advance.new.heap.objects s.kept grows;
      taken = (let e : at + c.in_ok-outcome.n ≤ length piece = omega (arith, k.2, length-drop at piece, s.within, c.loop-at-test.true) in e);
      whole = λ e. absurd (c.in_default.not-Pending e);
      reaches = scan_reaches os a piece c.loop-at.heap.objects c.loop-at.self at s c.advance.new.heap.objects c.advance.new.self grows c.loop-at-test.true c.in_ok-outcome.outcome c.in_ok-outcome.n k.0;
      advances = scan_advances os a piece c.loop-at.heap.objects c.loop-at.self at s c.advance.new.heap.objects c.advance.new.self grows c.loop-at-test.true c.in_ok-outcome.outcome c.in_ok-outcome.n k.0 k.1;
    }
