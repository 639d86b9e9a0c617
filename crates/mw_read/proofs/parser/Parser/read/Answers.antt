use Rattle.std.proofs.Common.{◌≡◌, ◌∙◌, ◌-◌, ap, sym, subst, arith, min, length, take}
use Rattle.mw_model.specs.Texts.Grammar.{limit}
use Rattle.mw_read.specs.Machine.{State}
use Rattle.mw_read.specs.Held.{Holds}
use Rattle.mw_read.specs.Piles.{fault_of}
use Rattle.mw_read.specs.Parsing.{Advances, offset_of}
use Rattle.mw_read.specs.Standing.{Reaches, Says}
use Rattle.mw_read.specs.declared.step.Outcome.{Outcome}
use Rattle.mw_read.specs.declared.step.Outcome.TheVariants as outcomes
use Rattle.mw_read.proofs.Emptied.{gives}
use Rattle.mw_read.proofs.Telling.{part_follows, datum_after, all_says, long_says, fault_says, says_of, unended, uncut}
use Rattle.mw_read.proofs.parser.Parser.read.Goals as goal
use Rattle.mw_read.proofs.parser.Parser.read.Goals.{After-min-length, In-Ok}

-- the part of the piece that a book may have
room : (c : goal.After-min-length) → c.min-length.result ≡ min (length c.args.piece.now) (limit - offset_of c.args.self.now)
room c = c.min-length.ensures ∙ ap (λ o. min (length c.args.piece.now) (limit - o)) c.offset.ensures

-- how far the scan of that part came, by its outcome
scanned : (c : goal.In-Ok) (r : Outcome) → c.in-Ok.found.0 ≡ r →
    Reaches r c.args.self.now (take c.min-length.result c.args.piece.now) c.in-Ok.found.1 c.scan.new.self
    × ((t : State) → Holds c.args.heap.now.objects c.args.self.now.stack t → Advances c.scan.new.heap.objects t c.args.self.now (take c.min-length.result c.args.piece.now) r c.in-Ok.found.1 c.scan.new.self)
scanned c r e = (
  subst (λ o. Reaches o c.args.self.now (take c.min-length.result c.args.piece.now) c.in-Ok.found.1 c.scan.new.self) e c.in-Ok.ensures.reaches,
  λ t h. subst (λ o. Advances c.scan.new.heap.objects t c.args.self.now (take c.min-length.result c.args.piece.now) o c.in-Ok.found.1 c.scan.new.self) e (c.in-Ok.ensures.advances t h),
)

pub scan-requires-clause-follows : goal.scan-requires-clause-follows
scan-requires-clause-follows c =
    let a = c.args.self.now in
    let os = c.args.heap.now.objects in
    let s = c.requires.stands in
    part_follows os os a a s.0 s.1 s.2 c.args.piece.now c.min-length.result (room (goal.at.scan-requires-clause-follows c).After-min-length) c.requires.follows

pub returns-in-Datum-clause-says : goal.returns-in-Datum-clause-says
returns-in-Datum-clause-says c g given s =
    let k = goal.at.returns-in-Datum-clause-says c in
    let a = c.args.self.now in
    let os = c.scan.new.heap.objects in
    let mid = c.scan.new.self in
    let n = c.in-Ok.found.1 in
    let x = c.in-Datum.x in
    let q = scanned k.In-Ok (outcomes.Datum x) c.in-Datum.is in
    let d = datum_after c.args.heap.now.objects os a mid g given s c.args.piece.now c.min-length.result (room k.After-min-length) x n c.in-Ok.ensures.taken q.0 (q.1 s.state s.holds) in
    subst (λ p. Says os a g given c.args.piece.now c.datum.result n (unended p)) (sym c.datum.ensures.new)
    (says_of os a g given c.args.piece.now n (uncut mid) d.0 c.datum.result (gives os mid.stack x d.0 c.datum.result d.1 c.datum.ensures.tells) d.2)

pub returns-in-Fault-clause-says : goal.returns-in-Fault-clause-says
returns-in-Fault-clause-says c g given s =
    let k = goal.at.returns-in-Fault-clause-says c in
    let e = room k.After-min-length in
    let f = part_follows c.args.heap.now.objects c.scan.new.heap.objects c.args.self.now c.scan.new.self g given s c.args.piece.now c.min-length.result e c.requires.follows in
    fault_says c.args.heap.now.objects c.scan.new.heap.objects c.args.self.now c.scan.new.self g given s c.args.piece.now c.min-length.result e (fault_of c.in-Fault.f) f
    ((scanned k.In-Ok (outcomes.Fault c.in-Fault.f) c.in-Fault.is).1 s.state s.holds)

pub returns-then-n-piece-clause-says : goal.returns-then-n-piece-clause-says
returns-then-n-piece-clause-says c g given s =
    let k = goal.at.returns-then-n-piece-clause-says c in
    let q = scanned k.In-Ok outcomes.Pending c.in-Pending.is in
    long_says c.args.heap.now.objects c.scan.new.heap.objects c.args.self.now c.scan.new.self g given s c.args.piece.now c.min-length.result (room k.After-min-length)
    c.in-Ok.found.1 (c.in-Ok.ensures.whole c.in-Pending.is) c.if-n-piece.true q.0 (q.1 s.state s.holds)

pub returns-else-n-piece-clause-says : goal.returns-else-n-piece-clause-says
returns-else-n-piece-clause-says c g given s =
    let k = goal.at.returns-else-n-piece-clause-says c in
    let q = scanned k.In-Ok outcomes.Pending c.in-Pending.is in
    all_says c.args.heap.now.objects c.scan.new.heap.objects c.args.self.now c.scan.new.self g given s c.args.piece.now c.min-length.result (room k.After-min-length)
    c.in-Ok.found.1 (c.in-Ok.ensures.whole c.in-Pending.is) (λ h. omega (arith, h, c.if-n-piece.false)) q.0 (q.1 s.state s.holds)
