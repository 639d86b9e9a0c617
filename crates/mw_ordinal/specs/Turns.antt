-- One turn of comparing two objects.
use Rattle.std.specs.Prelude.{◌≡◌, ℕ, ◌<◌, List}
use Rattle.mw_model.specs.Terms.Object.{Object}
use Rattle.mw_model.specs.Laws.Ordinal.{is_below}
use Rattle.mw_heap.specs.Objects.{object_at, IsIn}
use Rattle.mw_ordinal.specs.declared.turn.Turn.{Turn}
use Rattle.mw_ordinal.specs.declared.turn.Turn.TheVariants.{Decided, Next}

-- The turn decides whether x is below y, or names two that are so where these are, the first of them older than n.
abbrev pub Turns : List Object → ℕ → Object → Object → Turn → Type 0
Turns os n x y (Decided b) = is_below x y ≡ b
Turns os n x y (Next a b) = IsIn os a × IsIn os b × (a < n) × (is_below x y ≡ is_below (object_at os a) (object_at os b))
