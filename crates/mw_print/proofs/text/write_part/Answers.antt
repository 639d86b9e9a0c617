use Rattle.std.proofs.Common.{ap, ◌∙◌}
use Rattle.mw_model.specs.Terms.Object.{weight}
use Rattle.mw_model.specs.Texts.Printing.{tail_text, text_of}
use Rattle.mw_print.specs.Parts.{part_text, part_weight}
use Rattle.mw_print.proofs.Writing.{OnOk-both, opens}
use Rattle.mw_print.proofs.text.write_part.Goals as goal

pub returns-in-Pair : goal.returns-in-Pair
returns-in-Pair c =
    let os = c.args.heap.now.objects in
    let shown = c.in-Pair.ensures.shows in
    OnOk-both c.write_open.result c.write_open.ensures.parts c.write_open.ensures.byte (λ e f.
    opens os c.in-Pair.first c.in-Pair.rest shown.0 shown.1 c.args.part 40 c.args.parts.now.items c.write_open.new.parts.items c.args.out.now.items c.write_open.new.out.items
    (ap (part_text os) c.in-Text.is ∙ ap text_of shown.2) (ap (part_weight os) c.in-Text.is ∙ ap weight shown.2) c.requires.parts e f)

pub returns-in-Pair-view : goal.returns-in-Pair-view
returns-in-Pair-view c =
    let os = c.args.heap.now.objects in
    let shown = c.in-Pair-view.ensures.shows in
    let w = c.write_open-in-Pair-view in
    OnOk-both w.result w.ensures.parts w.ensures.byte (λ e f.
    opens os c.in-Pair-view.first c.in-Pair-view.rest shown.0 shown.1 c.args.part 32 c.args.parts.now.items w.new.parts.items c.args.out.now.items w.new.out.items
    (ap (part_text os) c.in-Tail.is ∙ ap tail_text shown.2) (ap (part_weight os) c.in-Tail.is ∙ ap weight shown.2) c.requires.parts e f)
