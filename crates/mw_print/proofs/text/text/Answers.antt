use Rattle.std.proofs.Common.{◌++◌, Some, ap, sym, ◌∙◌}
use Rattle.std.proofs.lemmas.List.Elements.{All-pop}
use Rattle.mw_print.specs.Parts.{IsPart, parts_text}
use Rattle.mw_print.proofs.Writing.{parts_text-push, parts_weight-push}
use Rattle.mw_print.proofs.text.text.Goals as goal

pub loop-part-smaller : goal.loop-part-smaller
loop-part-smaller c =
    let os = c.args.heap.now.objects in
    rw (c.in-Some.ensures.items, parts_weight-push os c.pop.new.self.items c.in-Some.part) c.in_ok-write_part.ensures.lighter

pub loop-part-preserved : goal.loop-part-preserved
loop-part-preserved c =
    let os = c.args.heap.now.objects in (
      c.in_ok-write_part.ensures.text
          ∙ ap (λ t. c.loop-part.out.items ++ t) (sym (ap (parts_text os) c.in-Some.ensures.items ∙ parts_text-push os c.pop.new.self.items c.in-Some.part))
          ∙ c.loop-part.invariant.0,
      c.in_ok-write_part.ensures.within,
    )

pub write_part-requires-clause-part : goal.write_part-requires-clause-part
write_part-requires-clause-part c =
    (All-pop (IsPart c.args.heap.now.objects) c.loop-part.parts.items c.pop.new.self.items (Some c.in-Some.part) c.in-Some.ensures.items c.loop-part.invariant.1).1

pub write_part-requires-clause-parts : goal.write_part-requires-clause-parts
write_part-requires-clause-parts c =
    (All-pop (IsPart c.args.heap.now.objects) c.loop-part.parts.items c.pop.new.self.items (Some c.in-Some.part) c.in-Some.ensures.items c.loop-part.invariant.1).0
