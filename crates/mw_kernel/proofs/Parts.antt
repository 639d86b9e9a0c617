-- The parts of a form are in the heap, one by one.
use Rattle.std.proofs.Common.{ℕ, List, [], ◌∷◌, All}
use Rattle.std.proofs.lemmas.List.Elements.{All-nil, All-cons}
use Rattle.mw_model.specs.Terms.Object.{Object}
use Rattle.mw_heap.specs.Objects.{IsIn}

module _ (os : List Object) where
  pub AreIn-two : (a b : ℕ) → IsIn os a → IsIn os b → All (IsIn os) (a ∷ b ∷ [])
  AreIn-two a b in_a in_b = All-cons (IsIn os) a (b ∷ []) in_a (All-cons (IsIn os) b [] in_b (All-nil (IsIn os)))

  pub AreIn-three : (a b c : ℕ) → IsIn os a → IsIn os b → IsIn os c → All (IsIn os) (a ∷ b ∷ c ∷ [])
  AreIn-three a b c in_a in_b in_c = All-cons (IsIn os) a (b ∷ c ∷ []) in_a (AreIn-two b c in_b in_c)

  pub AreIn-four : (a b c d : ℕ) → IsIn os a → IsIn os b → IsIn os c → IsIn os d → All (IsIn os) (a ∷ b ∷ c ∷ d ∷ [])
  AreIn-four a b c d in_a in_b in_c in_d = All-cons (IsIn os) a (b ∷ c ∷ d ∷ []) in_a (AreIn-three b c d in_b in_c in_d)

  pub AreIn-five : (a b c d e : ℕ) → IsIn os a → IsIn os b → IsIn os c → IsIn os d → IsIn os e → All (IsIn os) (a ∷ b ∷ c ∷ d ∷ e ∷ [])
  AreIn-five a b c d e in_a in_b in_c in_d in_e = All-cons (IsIn os) a (b ∷ c ∷ d ∷ e ∷ []) in_a (AreIn-four b c d e in_b in_c in_d in_e)
