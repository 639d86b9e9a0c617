-- A mark in one byte, with a bit for each test.
use Rattle.std.specs.Prelude.{ℕ, Bool, not, eqb, bit_and}
use Rattle.mw_term.specs.Marking.{ObjectMark}

abbrev pub has : ℕ → ℕ → Bool
has bits bit = not (eqb (bit_and bits bit) 0)

abbrev pub unpacked : ℕ → ObjectMark
unpacked bits = record { is_term = has bits 1; is_terms = has bits 2; is_formula = has bits 4; is_head = has bits 8 }
