-- What was added is cut away again: the oldest that there were are kept.
use Rattle.std.proofs.Common.{◌≡◌, ℕ, ◌-◌, ◌≤◌, List, ◌++◌, length, take, drop, ap, ◌∙◌, arith}
use Rattle.std.proofs.lemmas.Grind.{common_steps}
use Rattle.std.proofs.lemmas.List.{length-append}
use Rattle.mw_theory.specs.Adding.{EndsWith, BeginsWith}

module _ {X : Type 0} (new old : List X) (had : ℕ) (e : had ≡ length old) where
  pub ends_long : EndsWith new old → had ≤ length new
  ends_long h = omega (arith, e, ap length h.1, length-append h.0 old)

  pub begins_long : BeginsWith new old → had ≤ length new
  begins_long h = omega (arith, e, ap length h.1, length-append old h.0)

  pub ends_cut : EndsWith new old → drop (length new - had) new ≡ old
  ends_cut h = ap (λ l. drop (length l - had) l) h.1 ∙ (ap (λ k. drop k (h.0 ++ old)) (omega (arith, e, length-append h.0 old)) ∙ cut h.0)
    where
      cut : (more : List X) → drop (length more) (more ++ old) ≡ old
      cut more = grind (arith, common_steps)

  pub begins_cut : BeginsWith new old → take had new ≡ old
  begins_cut h = ap (λ l. take had l) h.1 ∙ (ap (λ k. take k (old ++ h.0)) e ∙ cut h.0)
    where
      cut : (more : List X) → take (length old) (old ++ more) ≡ old
      cut more = grind (arith, common_steps)
