use Rattle.std.proofs.Common.{◌≡◌, ◌++◌, All}
use Rattle.mw_model.specs.Texts.Printing.{text_of}
use Rattle.mw_heap.specs.Objects.{object_at}
use Rattle.mw_print.specs.Parts.{IsPart, parts_text, parts_weight}
use Rattle.mw_print.proofs.text.text.Given as goal

-- what is written and what is left make the text
abbrev pub invariant-loop-part : goal.invariant-loop-part
invariant-loop-part l =
    (l.out.items ++ parts_text l.heap.objects l.parts.items ≡ text_of (object_at l.heap.objects l.fn.x)) × All (IsPart l.heap.objects) l.parts.items

abbrev pub decreases-loop-part : goal.decreases-loop-part
decreases-loop-part l = parts_weight l.heap.objects l.parts.items
