-- The last of the claims that wait is taken up, while the heap stays.
use Rattle.std.proofs.Common.{◌≡◌, ℕ, ◌<◌, Bool, true, false, List, [], ◌∷◌, ◌++◌, sym, subst}
use Rattle.mw_model.specs.Terms.Object.{Object}
use Rattle.mw_heap.specs.Objects.{AreDistinct}
use Rattle.mw_subst.specs.declared.part.Part.{Part}
use Rattle.mw_subst.specs.declared.memo.Memo.{Memo}
use Rattle.mw_subst.specs.declared.sigma.Sigma.{Sigma}
use Rattle.mw_subst.specs.Sigma.{sigma_object}
use Rattle.mw_subst.specs.Memo.{AreUnique}
use Rattle.mw_subst.specs.Instances.{IsInstance, IsClaimIn, IsTaken}
use Rattle.mw_subst.proofs.Comparing.{Claims, IsCompared, left, last_in, refused, goes_on}

module _ (os : List Object) (sigma : Sigma) (whole : Part × ℕ) (noted : Memo) (rest : Claims) (c : Part × ℕ) {waiting : Claims} {now : List Object} (i : IsCompared os (sigma_object os sigma) whole noted.terms noted.lists waiting) (last : waiting ≡ rest ++ c ∷ []) (stays : now ≡ os) where
  compared : IsCompared os (sigma_object os sigma) whole noted.terms noted.lists (rest ++ c ∷ [])
  compared = subst (IsCompared os (sigma_object os sigma) whole noted.terms noted.lists) last i

  pub claim_in : IsClaimIn now c
  claim_in = subst (λ h. IsClaimIn h c) (sym stays) (last_in os (sigma_object os sigma) whole noted.terms noted.lists rest c compared)

  module _ {more : Memo} {longer : Claims} {b : Bool} (taken : IsTaken now (sigma_object now sigma) c noted more rest longer b) where
    taken_as : (v : Bool) → b ≡ v → IsTaken os (sigma_object os sigma) c noted more rest longer v
    taken_as v e = subst (IsTaken os (sigma_object os sigma) c noted more rest longer) e (subst (λ h. IsTaken h (sigma_object h sigma) c noted more rest longer b) stays taken)

    pub refused_whole : AreDistinct os → b ≡ false → IsInstance os (sigma_object os sigma) whole → ⊥
    refused_whole distinct e = refused os (sigma_object os sigma) whole noted rest c compared more longer distinct (taken_as false e)

    pub taken_up : AreUnique more.terms more.lists → b ≡ true → IsCompared os (sigma_object os sigma) whole more.terms more.lists longer × (left os more.terms more.lists longer < left os noted.terms noted.lists waiting)
    taken_up unique e =
        let g = goes_on os (sigma_object os sigma) whole noted rest c compared more longer unique (taken_as true e) in
        (g.0, subst (λ w. left os more.terms more.lists longer < left os noted.terms noted.lists w) (sym last) g.1)
