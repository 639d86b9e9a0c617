-- Between the pieces of a book.
use Rattle.std.proofs.Common.{◌∙◌, refl, sym, subst, [], take, arith}
use Rattle.std.proofs.lemmas.List.{length-take-le}
use Rattle.std.proofs.lemmas.Result.{IfOk-weaker, on_ok_weaker, err_from_is_err_and}
use Rattle.mw_port.specs.Ports.{Gives, Rises}
use Rattle.mw_answers.specs.Checks.{BookEnds, SinkCounts}
use Rattle.mw_answers.proofs.Clauses.{IfErr-more, IfErr-two}
use Rattle.mw_answers.proofs.Rounds.{between_none, here, known_here, count_short, room_for, read_fails, whole_end, end_stops, piece_stops, whole_fault, fault_none_left, between_more, halt_reads, halt_stops}
use Rattle.mw_answers.proofs.book.read_pieces.Goals as goal

pub loop-init : goal.loop-init
loop-init g c = record {
  between = between_none c.args.answering.now c.args.reader.now.parser c.requires.answered c.requires.expected c.requires.none_left c.requires.count c.requires.stands c.requires.free;
  awaits = c.requires.awaits;
  source_steady = refl;
  size = refl;
  sink_steady = refl;
  enough = refl;
}

pub returns-in_default-clause-ends : goal.returns-in_default-clause-ends
returns-in_default-clause-ends g c = read_fails c.loop.invariant.between c.answers_promised.ensures.begun (g.S.Source.left c.read.new.self) c.in_default.ensures.kept (g.K.Sink.shortages c.args.sink.now) (g.K.Sink.shortages c.loop.sink)

pub returns-in_default-clause-stops : goal.returns-in_default-clause-stops
returns-in_default-clause-stops g c = tt

pub returns-in_default-clause-source_counts : goal.returns-in_default-clause-source_counts
returns-in_default-clause-source_counts g c = subst (λ n. Rises n (g.S.Source.faults c.read.new.self)) c.loop.invariant.source_steady c.in_default.ensures.failed

pub answer_end-requires : goal.answer_end-requires
answer_end-requires g c =
    let b = c.loop.invariant.between in
    record { stands = here b; awaits = c.loop.invariant.awaits; room = room_for b [] (omega arith); known = known_here b; none_left = b.none_left }

pub answer_piece-requires : goal.answer_piece-requires
answer_piece-requires g c =
    let b = c.loop.invariant.between in
    record {
      stands = here b;
      awaits = c.loop.invariant.awaits;
      free = b.free;
      room = room_for b (take c.in-Ok.n c.read.new.buffer) (omega (arith, length-take-le c.in-Ok.n c.read.new.buffer c.in-Ok.ensures.within, c.read.auto.buffer, c.loop.invariant.size, c.in-Ok.ensures.within));
      known = known_here b;
      none_left = b.none_left;
    }

-- ---- the end of the book

pub returns-then-n-eq0-clause-whole : goal.returns-then-n-eq0-clause-whole
returns-then-n-eq0-clause-whole g c =
    let b = c.loop.invariant.between in
    let left = g.S.Source.left c.loop.source in
    let now = g.S.Source.left c.read.new.self in
    let gives = subst (λ n. Gives left now (take n c.read.new.buffer)) c.if-n-eq0.true c.in-Ok.ensures.given in
    let ended = c.in-Ok.ensures.ended c.if-n-eq0.true (omega (arith, c.loop.invariant.size)) in
    IfOk-weaker c.answer_end.result _ _ (λ f h. whole_end b now gives ended f c.answer_end.new.answering (g.K.Sink.taken c.answer_end.new.sink) (h b.bytes b.given b.stands)) c.answer_end.ensures.ends

pub returns-then-n-eq0-clause-steady : goal.returns-then-n-eq0-clause-steady
returns-then-n-eq0-clause-steady g c = on_ok_weaker c.answer_end.result (λ e. (c.in-Ok.ensures.steady ∙ c.loop.invariant.source_steady, e ∙ c.loop.invariant.sink_steady)) c.answer_end.ensures.steady

pub returns-then-n-eq0-clause-enough : goal.returns-then-n-eq0-clause-enough
returns-then-n-eq0-clause-enough g c = on_ok_weaker c.answer_end.result (λ e. e ∙ c.loop.invariant.enough) c.answer_end.ensures.enough

pub returns-then-n-eq0-clause-stops : goal.returns-then-n-eq0-clause-stops
returns-then-n-eq0-clause-stops g c = IfErr-more c.answer_end.result (λ s h. halt_stops s h) c.answer_end.ensures.halt

pub returns-then-n-eq0-clause-ends : goal.returns-then-n-eq0-clause-ends
returns-then-n-eq0-clause-ends g c =
    let b = c.loop.invariant.between in
    let q = g.A.Answering.request c.args.answering.now in
    let left = g.S.Source.left c.loop.source in
    let now = g.S.Source.left c.read.new.self in
    let after = g.K.Sink.taken c.answer_end.new.sink in
    let count = g.K.Sink.shortages c.answer_end.new.sink in
    let gives = subst (λ n. Gives left now (take n c.read.new.buffer)) c.if-n-eq0.true c.in-Ok.ensures.given in
    let ended = c.in-Ok.ensures.ended c.if-n-eq0.true (omega (arith, c.loop.invariant.size)) in
    IfErr-two c.answer_end.result
    (λ s h k. subst (λ n. BookEnds s q (g.S.Source.left c.args.source.now) now (g.K.Sink.taken c.args.sink.now) after n count) c.loop.invariant.enough
    (end_stops b now gives ended c.answers_promised.ensures.begun s h after (g.K.Sink.shortages c.loop.sink) count k)) c.answer_end.ensures.halt c.answer_end.ensures.stops

pub returns-then-n-eq0-clause-source_counts : goal.returns-then-n-eq0-clause-source_counts
returns-then-n-eq0-clause-source_counts g c =
    IfErr-more c.answer_end.result (λ s h. halt_reads s (g.S.Source.faults c.args.source.now) (g.S.Source.faults c.read.new.self) h (c.in-Ok.ensures.steady ∙ c.loop.invariant.source_steady)) c.answer_end.ensures.halt

pub returns-then-n-eq0-clause-sink_counts : goal.returns-then-n-eq0-clause-sink_counts
returns-then-n-eq0-clause-sink_counts g c =
    IfErr-more c.answer_end.result (λ s h. subst (λ n. SinkCounts s n (g.K.Sink.faults c.answer_end.new.sink)) c.loop.invariant.sink_steady h) c.answer_end.ensures.sink_counts

-- ---- a piece of it

pub returns-then-is_some-clause-whole : goal.returns-then-is_some-clause-whole
returns-then-is_some-clause-whole g c =
    whole_fault c.loop.invariant.between (take c.in-Ok.n c.read.new.buffer) (g.S.Source.left c.read.new.self) c.in-Ok.ensures.given c.answer_piece.new.answering c.answer_piece.new.reader.parser (g.K.Sink.taken c.answer_piece.new.sink)
    c.in_ok-fault.fault (sym c.is_some.ensures ∙ c.if-is_some.true) c.in_ok-fault.ensures.written

pub returns-then-is_some-clause-none_left : goal.returns-then-is_some-clause-none_left
returns-then-is_some-clause-none_left g c =
    fault_none_left c.loop.invariant.between (take c.in-Ok.n c.read.new.buffer) (g.S.Source.left c.read.new.self) c.in-Ok.ensures.given c.answer_piece.new.answering c.answer_piece.new.reader.parser (g.K.Sink.taken c.answer_piece.new.sink)
    c.in_ok-fault.fault c.in_ok-fault.ensures.written

pub returns-in_err-fault : goal.returns-in_err-fault
returns-in_err-fault g c =
    let p = err_from_is_err_and c.from_residual.result c.from_residual.ensures.1 in
    let b = c.loop.invariant.between in
    let e = c.in_err-fault.ensures in
    let s = c.in_err-fault.field-0.0 in
    let q = g.A.Answering.request c.args.answering.now in
    let now = g.S.Source.left c.read.new.self in
    let after = g.K.Sink.taken c.answer_piece.new.sink in
    let count = g.K.Sink.shortages c.answer_piece.new.sink in
    let piece = take c.in-Ok.n c.read.new.buffer in
    rw (p.1, p.2) (record {
      whole = tt;
      none_left = tt;
      steady = tt;
      enough = tt;
      stops = halt_stops s e.halt;
      ends = subst (λ n. BookEnds s q (g.S.Source.left c.args.source.now) now (g.K.Sink.taken c.args.sink.now) after n count) c.loop.invariant.enough
          (piece_stops b piece now c.in-Ok.ensures.given c.answers_promised.ensures.begun s e.halt after (g.K.Sink.shortages c.loop.sink) count e.stops);
      source_counts = halt_reads s (g.S.Source.faults c.args.source.now) (g.S.Source.faults c.read.new.self) e.halt (c.in-Ok.ensures.steady ∙ c.loop.invariant.source_steady);
      sink_counts = subst (λ n. SinkCounts s n (g.K.Sink.faults c.answer_piece.new.sink)) c.loop.invariant.sink_steady e.sink_counts;
    })

pub loop-preserved : goal.loop-preserved
loop-preserved g c =
    let n = c.in-Ok.n in
    let piece = take n c.read.new.buffer in
    let size = length-take-le n c.read.new.buffer c.in-Ok.ensures.within in
    let e = c.in_ok-fault.ensures in
    record {
      between = between_more c.loop.invariant.between piece (g.S.Source.left c.read.new.self) c.in-Ok.ensures.given c.answer_piece.new.answering c.answer_piece.new.reader.parser (g.K.Sink.taken c.answer_piece.new.sink)
          (omega (arith, size, c.if-n-eq0.false)) c.in_ok-fault.fault (sym c.is_some.ensures ∙ c.if-is_some.false) e.written;
      awaits = e.awaits;
      source_steady = c.in-Ok.ensures.steady ∙ c.loop.invariant.source_steady;
      size = c.read.auto.buffer ∙ c.loop.invariant.size;
      sink_steady = e.steady ∙ c.loop.invariant.sink_steady;
      enough = e.enough ∙ c.loop.invariant.enough;
    }

pub unreachable-requires : goal.unreachable-requires
unreachable-requires g c =
    let s = count_short c.loop.invariant.between in
    omega (arith, s, c.loop-test.false)
