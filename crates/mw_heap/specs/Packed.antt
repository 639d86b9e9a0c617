-- A cell as one number, by which it is hashed.
use Rattle.std.specs.Prelude.{ℕ, ◌+◌, ◌*◌, ◌^◌}
use Rattle.mw_heap.specs.declared.store.cell.Cell.{Cell}
use Rattle.mw_heap.specs.declared.store.cell.Cell.TheVariants.{Small, Large, Symbol as Named, Pair as Parts}

abbrev pub packed : Cell → ℕ
packed (Small n) = n + 2 * 2 ^ 62
packed (Large i) = i + 2 ^ 62
packed (Named i) = i + 3 * 2 ^ 62
packed (Parts a b) = a + b * 2 ^ 32
