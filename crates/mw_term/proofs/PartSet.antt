-- A set of parts, as parts are put into it.
use Rattle.std.proofs.Common.{◌≡◌, ℕ, ◌+◌, ◌*◌, ◌<◌, ◌≤◌, Bool, true, false, ◌||◌, not, eqb, List, [], ◌∷◌, ◌++◌, length, map, Contains, ◌⊎◌, inl, inr, refl, sym, ap, subst, eqb-true, eq-eqb, if◌then◌else◌, arith}
use Rattle.std.specs.List.{list_any, IsDistinct, AllByRecursion}
use Rattle.std.proofs.lemmas.List.Elements.{Contains-push, Contains-push_cases, Contains-append_left, Contains-append_right}
use Rattle.std.proofs.lemmas.List.{length-map}
use Rattle.std.proofs.lemmas.Map.Keys.{IsDistinct-head, IsDistinct-tail, IsDistinct-cons, IsDistinct-from_apart}
use Rattle.std.proofs.lemmas.Map.Steps.{length-le_from_distinct_below}
use Rattle.indexmap.specs.IndexSet.{insert_key}
use Rattle.indexmap.proofs.CallerLemmas.{Contains-insert_key}
use Rattle.mw_model.specs.Terms.Object.{Object}
use Rattle.mw_term.specs.declared.part.Part.{Part}
use Rattle.mw_term.specs.declared.part.Part.TheVariants.{Term, Terms}
use Rattle.mw_term.specs.contracts.part.PartPartialEq.TheImpl.{ghosts}
use Rattle.mw_term.specs.Occurrences.{IsPartIn}

pub part-eq : (p q : Part) → ghosts.eq p q ≡ true → p ≡ q
part-eq (Term r) (Term s) h = ap Term (eqb-true r s h)
part-eq (Term r) (Terms s) h = cc
part-eq (Terms r) (Term s) h = cc
part-eq (Terms r) (Terms s) h = ap Terms (eqb-true r s h)

-- what is among the parts after k was put there
pub put-cases : (ks new : List Part) (k : Part) → new ≡ insert_key ghosts.eq ks k → (p : Part) → Contains new p → Contains ks p ⊎ (p ≡ k)
put-cases ks new k e p m = go (list_any (ghosts.eq k) ks) (subst (λ l. Contains l p) e m)
  where
    go : (b : Bool) → Contains (if b then ks else ks ++ k ∷ []) p → Contains ks p ⊎ (p ≡ k)
    go true h = inl h
    go false h = elim (Contains-push_cases ks k p h) [ inl i ↦ inl i | inr q ↦ inr (sym q) ]

-- a part that was not new was there before
pub put-before : (ks : List Part) (k : Part) → not (list_any (ghosts.eq k) ks) ≡ false → Contains ks k
put-before ks k h = go (list_any (ghosts.eq k) ks) refl h
  where
    go : (b : Bool) → list_any (ghosts.eq k) ks ≡ b → not b ≡ false → Contains ks k
    go true e _ = subst (λ l. Contains l k) (ap (λ c. if c then ks else ks ++ k ∷ []) e) (Contains-insert_key ghosts.eq part-eq ks k)
    go false e n = cc

-- parts of a heap are few: two for each object
abbrev number : Part → ℕ
number (Term r) = 2 * r
number (Terms r) = 2 * r + 1

number-apart : (p q : Part) → ghosts.eq p q ≡ false → eqb (number p) (number q) ≡ false
number-apart p q h = go (eqb (number p) (number q)) refl
  where
    same : (p q : Part) → number p ≡ number q → p ≡ q
    same (Term r) (Term s) e = ap Term (omega arith)
    same (Term r) (Terms s) e = absurd (omega arith)
    same (Terms r) (Term s) e = absurd (omega arith)
    same (Terms r) (Terms s) e = ap Terms (omega arith)

    self : (p : Part) → ghosts.eq p p ≡ true
    self (Term r) = eq-eqb r r refl
    self (Terms r) = eq-eqb r r refl

    go : (b : Bool) → eqb (number p) (number q) ≡ b → b ≡ false
    go true e = let s = same p q (eqb-true (number p) (number q) e) in let t : ghosts.eq p q ≡ true = subst (λ z. ghosts.eq p z ≡ true) s (self p) in cc
    go false e = refl

all_apart : (p : Part) (ps : List Part) → AllByRecursion (λ q. ghosts.eq p q ≡ false) ps → AllByRecursion (λ n. eqb (number p) n ≡ false) (map number ps)
all_apart p [] h = h
all_apart p (q ∷ ps) h = (number-apart p q h.0, all_apart p ps h.1)

IsDistinct-numbers : (ps : List Part) → IsDistinct ghosts.eq ps → IsDistinct eqb (map number ps)
IsDistinct-numbers [] h = IsDistinct-from_apart eqb [] (λ i j d l m. absurd (omega arith))
IsDistinct-numbers (p ∷ ps) h = IsDistinct-cons eqb (number p) (map number ps) (all_apart p ps (IsDistinct-head ghosts.eq p ps h)) (IsDistinct-numbers ps (IsDistinct-tail ghosts.eq p ps h))

below_two : (os : List Object) (p : Part) → IsPartIn os p → number p < 2 * length os
below_two os (Term r) h = omega arith
below_two os (Terms r) h = omega arith

numbers_below : (os : List Object) (ps : List Part) → ((p : Part) → Contains ps p → IsPartIn os p) → (q : ℕ) → list_any (eqb q) (map number ps) ≡ true → q < 2 * length os
numbers_below os [] h q e = cc
numbers_below os (p ∷ ps) h q e = go (eqb q (number p)) refl (numbers_below os ps (λ x m. h x (Contains-append_right (p ∷ []) ps x m)) q) e
  where
    go : (b : Bool) → eqb q (number p) ≡ b → (list_any (eqb q) (map number ps) ≡ true → q < 2 * length os) → (b || list_any (eqb q) (map number ps)) ≡ true → q < 2 * length os
    go true t rest k = subst (λ n. n < 2 * length os) (sym (eqb-true q (number p) t)) (below_two os p (h p (Contains-append_left (p ∷ []) ps p (Contains-push [] p))))
    go false t rest k = rest k

pub few_parts : (os : List Object) (ps : List Part) → IsDistinct ghosts.eq ps → ((p : Part) → Contains ps p → IsPartIn os p) → length ps ≤ 2 * length os
few_parts os ps d h =
    let n = length-le_from_distinct_below (map number ps) (2 * length os) (IsDistinct-numbers ps d) (numbers_below os ps h) in
    omega (arith, n, length-map ps number)
