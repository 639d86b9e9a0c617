-- The proofs that a proof is made of, on every object: a proof is a pair, its subproofs the members of its third member.
use Rattle.std.specs.Prelude.{List, [], ◌∷◌, ◌++◌}
use Rattle.mw_model.specs.Terms.Object.{Object, Pair, same_object}
use Rattle.mw_model.specs.Terms.Term.{firsts}

-- the proof and all that it is made of, from left to right and as often as they occur, subproofs first; that of each proof of a list
abbrev mutual
  pub proofs_within : Object → List Object
  proofs_within (Pair m (Pair c (Pair ps x))) = each_within ps ++ Pair m (Pair c (Pair ps x)) ∷ []
  proofs_within p = p ∷ []

  pub each_within : Object → List Object
  each_within (Pair p ps) = proofs_within p ++ each_within ps
  each_within _ = []

-- without repetition, in the order in which they are complete
abbrev pub distinct_proofs : Object → List Object
distinct_proofs ps = firsts same_object (each_within ps)
