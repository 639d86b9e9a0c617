-- How many subproofs the rules take.
use Rattle.std.specs.Prelude.{ℕ, Option, Some, None}
use Rattle.mw_model.specs.Proofs.Proof.{Method, Expansion, Contraction, Associativity, Cut, Instantiation, Induction}

-- the most subproofs that a method takes; nothing if it takes any number
abbrev pub most_subproofs : Method → Option ℕ
most_subproofs Induction = None
most_subproofs Cut = Some 2
most_subproofs Expansion = Some 1
most_subproofs Contraction = Some 1
most_subproofs Associativity = Some 1
most_subproofs Instantiation = Some 1
most_subproofs _ = Some 0
