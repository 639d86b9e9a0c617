-- Nodes that name earlier ones.
use Rattle.std.specs.Prelude.{ℕ, suc, ◌<◌, List, [], ◌∷◌}
use Rattle.mw_taut.specs.declared.table.Node.{Node}
use Rattle.mw_taut.specs.declared.table.Node.TheVariants.{Equation, Not, Or}

-- the node names one of these equations, or earlier parts, by their number
abbrev pub IsNode : ℕ → ℕ → Node → Type 0
IsNode equations parts (Equation k) = k < equations
IsNode equations parts (Not a) = a < parts
IsNode equations parts (Or a b) = (a < parts) × (b < parts)

abbrev pub AreNodes : ℕ → ℕ → List Node → Type 0
AreNodes equations parts [] = Unit {0}
AreNodes equations parts (n ∷ ns) = IsNode equations parts n × AreNodes equations (suc parts) ns
