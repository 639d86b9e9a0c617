-- What is visited within a term.
use Rattle.std.specs.Prelude.{List}
use Rattle.mw_model.specs.Terms.Object.{Object}
use Rattle.mw_heap.specs.Objects.{IsIn}
use Rattle.mw_code.specs.declared.shared.Visit.{Visit}

-- a visit of a cell of the heap
abbrev pub IsVisit : List Object → Visit → Type 0
IsVisit os v = IsIn os v.cell
