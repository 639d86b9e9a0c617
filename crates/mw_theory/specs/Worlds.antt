-- A world: what is kept of a theory, the heap that has its objects, and how much of that it needs.
use Rattle.mw_model.specs.Events.Theory.{Theory}
use Rattle.mw_theory.specs.declared.world.World.{World}
use Rattle.mw_theory.specs.Knowledge.{parts_of, meant, IsWorldOf}

abbrev pub theory_in : World → Theory
theory_in w = meant w.heap.objects (parts_of w.theory)

-- all that it keeps is right
abbrev pub IsWorld : World → Type 0
IsWorld w = IsWorldOf w.heap.objects w.needed w.theory w.marks
