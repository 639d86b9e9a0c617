-- Datum after datum, up to the end of the piece or one that took long.
use Rattle.std.proofs.Common.{◌+◌, ◌-◌, ◌<◌, ◌^◌, ◌++◌, inl, inr, refl, sym, subst, take, drop, length, arith}
use Rattle.std.proofs.lemmas.List.{length-drop}
use Rattle.mw_read.specs.Standing.{Follows, work}
use Rattle.mw_read.proofs.Beginning.{rest_is}
use Rattle.mw_answers.specs.Answering.{HasTaken, AreFirst, AreExpectedFirst}
use Rattle.mw_answers.specs.declared.reading.Taken.TheVariants as takings
use Rattle.mw_answers.proofs.Taken.{taking_none, standing, taking_expected, taking_both, taking_fault, both_expected}
use Rattle.mw_answers.proofs.reading.take_piece.Goals as goal

pub loop-at-init : goal.loop-at-init
loop-at-init g c = record {
  taking = taking_none c.args.answering.now c.args.reader.now.parser c.args.piece.now c.requires.follows c.requires.known;
  awaits = c.requires.awaits;
  no_more = omega arith;
  less = inl refl;
}

pub take_datum-requires : goal.take_datum-requires
take_datum-requires g c =
    let t = c.loop-at.invariant.taking in
    let here = sym (rest_is c.loop-at.at c.args.piece.now) in
    record {
      stands = standing t c.requires.stands;
      awaits = c.loop-at.invariant.awaits;
      follows = subst (Follows c.loop-at.reader.parser) here t.follows;
      some = subst (λ u. 0 < length u) here (omega (arith, c.loop-at-test.true, length-drop c.loop-at.at c.args.piece.now));
      room = subst (λ u. g.A.Answering.count c.loop-at.answering + work c.loop-at.reader.parser u < 2 ^ 62) here (omega (arith, t.counted, c.requires.room));
      known = t.known;
    }

pub loop-at-preserved : goal.loop-at-preserved
loop-at-preserved g c =
    let taken =
    subst (λ u. HasTaken g.A.Answering.objects g.A.Answering.unwritten g.A.Answering.count g.A.Answering.answered (takings.Bytes c.in-Bytes.n) c.loop-at.answering c.loop-at.reader.parser u c.take_datum.new.answering c.take_datum.new.reader.parser) (rest_is c.loop-at.at c.args.piece.now)
    (subst (λ t. HasTaken g.A.Answering.objects g.A.Answering.unwritten g.A.Answering.count g.A.Answering.answered t c.loop-at.answering c.loop-at.reader.parser (take (length c.args.piece.now - c.loop-at.at) (drop c.loop-at.at c.args.piece.now)) c.take_datum.new.answering c.take_datum.new.reader.parser) c.in-Bytes.is c.in_ok-n.ensures.takes) in
    let b = taking_both c.loop-at.invariant.taking c.take_datum.new.answering c.take_datum.new.reader.parser c.in-Bytes.n taken in
    record {
      taking = b.0;
      awaits = c.in_ok-n.ensures.awaits;
      no_more = omega (arith, b.1, c.loop-at.invariant.no_more);
      less = inr (omega (arith, b.1, c.loop-at.invariant.no_more));
    }

pub returns-then-is_urgent-clause-takes : goal.returns-then-is_urgent-clause-takes
returns-then-is_urgent-clause-takes g c =
    let taken =
    subst (λ u. HasTaken g.A.Answering.objects g.A.Answering.unwritten g.A.Answering.count g.A.Answering.answered (takings.Bytes c.in-Bytes.n) c.loop-at.answering c.loop-at.reader.parser u c.take_datum.new.answering c.take_datum.new.reader.parser) (rest_is c.loop-at.at c.args.piece.now)
    (subst (λ t. HasTaken g.A.Answering.objects g.A.Answering.unwritten g.A.Answering.count g.A.Answering.answered t c.loop-at.answering c.loop-at.reader.parser (take (length c.args.piece.now - c.loop-at.at) (drop c.loop-at.at c.args.piece.now)) c.take_datum.new.answering c.take_datum.new.reader.parser) c.in-Bytes.is c.in_ok-n.ensures.takes) in
    let b = taking_both c.loop-at.invariant.taking c.take_datum.new.answering c.take_datum.new.reader.parser c.in-Bytes.n taken in
    (b.0, omega (arith, b.1, c.loop-at.invariant.no_more))

pub returns-then-is_urgent-clause-expected : goal.returns-then-is_urgent-clause-expected
returns-then-is_urgent-clause-expected g c =
    both_expected c.loop-at.invariant.taking c.take_datum.new.answering c.take_datum.new.reader.parser
    (λ h given s. subst (λ u. AreExpectedFirst g.A.Answering.unwritten g.A.Answering.answered c.loop-at.answering given (AreFirst (h ++ u)) c.take_datum.new.answering) (rest_is c.loop-at.at c.args.piece.now) (c.take_datum.ensures.expected h given s))

pub returns-in-Fault-clause-takes : goal.returns-in-Fault-clause-takes
returns-in-Fault-clause-takes g c =
    let taken =
    subst (λ u. HasTaken g.A.Answering.objects g.A.Answering.unwritten g.A.Answering.count g.A.Answering.answered (takings.Fault c.in-Fault.kind c.in-Fault.offset) c.loop-at.answering c.loop-at.reader.parser u c.take_datum.new.answering c.take_datum.new.reader.parser) (rest_is c.loop-at.at c.args.piece.now)
    (subst (λ t. HasTaken g.A.Answering.objects g.A.Answering.unwritten g.A.Answering.count g.A.Answering.answered t c.loop-at.answering c.loop-at.reader.parser (take (length c.args.piece.now - c.loop-at.at) (drop c.loop-at.at c.args.piece.now)) c.take_datum.new.answering c.take_datum.new.reader.parser) c.in-Fault.is c.in_ok-n.ensures.takes) in
    taking_fault c.loop-at.invariant.taking c.take_datum.new.answering c.take_datum.new.reader.parser c.in-Fault.kind c.in-Fault.offset taken

pub returns-in-Fault-clause-expected : goal.returns-in-Fault-clause-expected
returns-in-Fault-clause-expected g c =
    both_expected c.loop-at.invariant.taking c.take_datum.new.answering c.take_datum.new.reader.parser
    (λ h given s. subst (λ u. AreExpectedFirst g.A.Answering.unwritten g.A.Answering.answered c.loop-at.answering given (AreFirst (h ++ u)) c.take_datum.new.answering) (rest_is c.loop-at.at c.args.piece.now) (c.take_datum.ensures.expected h given s))

pub returns-in_err-n-clause-expected : goal.returns-in_err-n-clause-expected
returns-in_err-n-clause-expected g c =
    both_expected c.loop-at.invariant.taking c.take_datum.new.answering c.take_datum.new.reader.parser
    (λ h given s. subst (λ u. AreExpectedFirst g.A.Answering.unwritten g.A.Answering.answered c.loop-at.answering given (AreFirst (h ++ u)) c.take_datum.new.answering) (rest_is c.loop-at.at c.args.piece.now) (c.take_datum.ensures.expected h given s))

pub returns-after-loop-at-clause-expected : goal.returns-after-loop-at-clause-expected
returns-after-loop-at-clause-expected g c = taking_expected c.loop-at.invariant.taking
