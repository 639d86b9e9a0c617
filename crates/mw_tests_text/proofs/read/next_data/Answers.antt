-- Each datum, and the answer that is none.
use Rattle.std.proofs.Common.{[], ◌∷◌, ◌++◌, subst}
use Rattle.mw_read.specs.Feeding.{Continues}
use Rattle.mw_tests_text.proofs.read.next_data.Goals as goal

pub loop-x-smaller : goal.loop-x-smaller
loop-x-smaller c =
    let s = c.loop-x.invariant.stands in
    (subst (λ t. Continues c.next.new.heap.objects c.loop-x.reader s.0 s.1 t c.next.new.self) c.in-Datum.is (c.next.ensures.continues s.0 s.1 s.2)).2.less

pub loop-x-preserved : goal.loop-x-preserved
loop-x-preserved c =
    let s = c.loop-x.invariant.stands in
    let v = subst (λ t. Continues c.next.new.heap.objects c.loop-x.reader s.0 s.1 t c.next.new.self) c.in-Datum.is (c.next.ensures.continues s.0 s.1 s.2) in
    record { stands = (s.0 ++ v.2.taken, s.1 ++ v.0 ∷ [], v.2.stands c.next.new.heap.objects); follows = v.2.follows }

pub returns-in_default : goal.returns-in_default
returns-in_default c =
    let s = c.loop-x.invariant.stands in
    record {
      more = λ e.
          let v = subst (λ t. Continues c.next.new.heap.objects c.loop-x.reader s.0 s.1 t c.next.new.self) e (c.next.ensures.continues s.0 s.1 s.2) in
          ((s.0 ++ c.loop-x.reader.unread, s.1, v.2), v.1, v.3);
    }
