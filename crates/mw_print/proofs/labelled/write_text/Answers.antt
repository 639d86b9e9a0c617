-- A pair without a label begins, with or without a new one.
use Rattle.std.proofs.Common.{sym, ◌∙◌}
use Rattle.mw_print.proofs.Writing.{OnOk-both}
use Rattle.mw_print.proofs.Waiting.{plain_text_advances, new_text_advances}
use Rattle.mw_print.proofs.labelled.write_text.Goals as goal

pub returns-then-not-gets_label : goal.returns-then-not-gets_label
returns-then-not-gets_label c =
    let shown = c.in-Pair.ensures.shows in
    OnOk-both c.write_open.result c.write_open.ensures.pieces c.write_open.ensures.byte (λ e f.
    plain_text_advances c.args.heap.now.objects c.order.ensures.distinct c.args.again.now.keys c.args.x c.in-Pair.first c.in-Pair.rest c.requires.within shown.0 shown.1 shown.2
    c.args.pieces.now.items c.write_open.new.pieces.items c.args.numbers.now.given.entries c.args.numbers.now.next c.args.out.now.items c.write_open.new.out.items c.requires.pieces e f (sym c.in_default-number_of.is ∙ c.number_of.ensures) (sym c.gets_label.ensures ∙ c.if-not-gets_label.true))

pub returns : goal.returns
returns c =
    let shown = c.in-Pair.ensures.shows in
    let w = c.write_open-2 in
    let l = c.in_ok-write_label.ensures in
    OnOk-both w.result w.ensures.pieces w.ensures.byte (λ e f.
    new_text_advances c.args.heap.now.objects c.order.ensures.distinct c.args.again.now.keys c.args.x c.in-Pair.first c.in-Pair.rest c.requires.within shown.0 shown.1 shown.2
    c.args.pieces.now.items w.new.pieces.items c.args.numbers.now.given.entries c.args.numbers.now.next c.args.out.now.items w.new.out.items c.requires.pieces
    c.write_label.new.out.items c.write_label.new.pieces.items c.write_label.new.next l.pieces l.label l.next e f (sym c.in_default-number_of.is ∙ c.number_of.ensures) (sym c.gets_label.ensures ∙ c.if-not-gets_label.false))
