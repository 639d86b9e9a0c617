-- A pair that has a label, or gets one, stands after a dot.
use Rattle.std.proofs.Common.{is_some, inl, inr, sym, ap, ◌∙◌}
use Rattle.mw_print.proofs.Writing.{OnOk-both}
use Rattle.mw_print.proofs.Waiting.{plain_tail_advances, dotted_tail_advances}
use Rattle.mw_print.proofs.labelled.write_tail.Goals as goal

pub returns-then-is_some : goal.returns-then-is_some
returns-then-is_some c =
    let shown = c.in-Pair.ensures.shows in
    let w = c.write_dot in
    OnOk-both w.result w.ensures.pieces w.ensures.dot (λ e f.
    dotted_tail_advances c.args.heap.now.objects c.order.ensures.distinct c.args.again.now.keys c.args.x c.in-Pair.first c.in-Pair.rest c.requires.within shown.0 shown.1 shown.2
    c.args.pieces.now.items w.new.pieces.items c.args.numbers.now.given.entries c.args.numbers.now.next c.args.out.now.items w.new.out.items c.requires.pieces e f (inl (ap is_some (sym c.number_of.ensures) ∙ (sym c.is_some.ensures ∙ c.if-is_some.true))))

pub returns-then-gets_label : goal.returns-then-gets_label
returns-then-gets_label c =
    let shown = c.in-Pair.ensures.shows in
    let w = c.write_dot-then-gets_label in
    OnOk-both w.result w.ensures.pieces w.ensures.dot (λ e f.
    dotted_tail_advances c.args.heap.now.objects c.order.ensures.distinct c.args.again.now.keys c.args.x c.in-Pair.first c.in-Pair.rest c.requires.within shown.0 shown.1 shown.2
    c.args.pieces.now.items w.new.pieces.items c.args.numbers.now.given.entries c.args.numbers.now.next c.args.out.now.items w.new.out.items c.requires.pieces e f (inr (ap is_some (sym c.number_of.ensures) ∙ (sym c.is_some.ensures ∙ c.if-is_some.false), sym c.gets_label.ensures ∙ c.if-gets_label.true)))

pub returns : goal.returns
returns c =
    let shown = c.in-Pair.ensures.shows in
    let w = c.write_open in
    OnOk-both w.result w.ensures.pieces w.ensures.byte (λ e f.
    plain_tail_advances c.args.heap.now.objects c.order.ensures.distinct c.args.again.now.keys c.args.x c.in-Pair.first c.in-Pair.rest c.requires.within shown.0 shown.1 shown.2
    c.args.pieces.now.items w.new.pieces.items c.args.numbers.now.given.entries c.args.numbers.now.next c.args.out.now.items w.new.out.items c.requires.pieces e f (ap is_some (sym c.number_of.ensures) ∙ (sym c.is_some.ensures ∙ c.if-is_some.false)) (sym c.gets_label.ensures ∙ c.if-gets_label.false))
