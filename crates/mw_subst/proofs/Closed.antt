-- What was made of parts was made of all that they need.
use Rattle.std.proofs.Common.{◌≡◌, ℕ, List, [], inl, inr, subst}
use Rattle.mw_model.specs.Terms.Object.{Object}
use Rattle.mw_subst.specs.declared.part.Part.{Part}
use Rattle.mw_subst.specs.declared.part.Part.TheVariants.{Term}
use Rattle.mw_subst.specs.Memo.{IsFound, Adds}
use Rattle.mw_subst.specs.Reached.{Needs, IsReached, itself, needed}
use Rattle.mw_subst.proofs.Found.{none_found_at_first, found-kept, found-before}

abbrev pub IsClosed : List Object → List (ℕ × ℕ) → List (ℕ × ℕ) → Type 0
IsClosed os terms lists = (p q : Part) → IsFound terms lists p → Needs os p q → IsFound terms lists q

pub closed-starts : (os : List Object) (terms lists : List (ℕ × ℕ)) → terms ≡ [] → lists ≡ [] → IsClosed os terms lists
closed-starts os terms lists t l p q f n = absurd (none_found_at_first p (subst (λ m. IsFound [] m p) l (subst (λ m. IsFound m lists p) t f)))

-- one more part was made
pub closed-added : (os : List Object) (terms lists more_terms more_lists : List (ℕ × ℕ)) (part : Part) (r : ℕ) → Adds terms lists more_terms more_lists part r → IsClosed os terms lists → ((q : Part) → Needs os part q → IsFound terms lists q) → IsClosed os more_terms more_lists
closed-added os terms lists mt ml part r a closed made p q f n =
    found-kept terms lists mt ml r part q a (elim (found-before terms lists mt ml r part p a f) [ inl h ↦ closed p q h n | inr e ↦ made q (subst (λ z. Needs os z q) e n) ])

-- where the term was made, all that is reached was
pub found-reached : (os : List Object) (x : ℕ) (terms lists : List (ℕ × ℕ)) → IsClosed os terms lists → IsFound terms lists (Term x) → (p : Part) → IsReached os x p → IsFound terms lists p
found-reached os x terms lists closed f p itself = f
found-reached os x terms lists closed f r (needed p q h n) = closed p q (found-reached os x terms lists closed f p h) n
