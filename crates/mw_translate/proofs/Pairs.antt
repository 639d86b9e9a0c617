-- New functions in front of an arity table, one after another.
use Rattle.std.proofs.Common.{◌≡◌, ℕ, zero, suc, ◌<◌, Bool, true, false, ◌||◌, not, cond, List, [], ◌∷◌, ◌++◌, length, get_or, take, Some, None, refl, sym, ap, ap₂, ◌∙◌, arith}
use Rattle.std.proofs.lemmas.Bool.{and_parts}
use Rattle.mw_model.specs.Terms.Object.{Name, Object, same_name}
use Rattle.mw_model.specs.Terms.Term.{ArityTable, arity_of, is_among, are_distinct}
use Rattle.mw_model.specs.Values.Primitive.{is_symbol, name_of}
use Rattle.mw_model.proofs.Names.{same_name-eq, same_name-refl}
use Rattle.mw_heap.specs.Objects.{object_at, IsIn}
use Rattle.mw_translate.specs.Expands.{ArePairsOfSymbols, pair_names, with_pairs}

module _ (os : List Object) where
  pub pairs-front : (ps : List (ℕ × ℕ)) (A : ArityTable) → with_pairs os ps [] ++ A ≡ with_pairs os ps A
  pairs-front ps A = go ps []
    where
      go : (ps : List (ℕ × ℕ)) (B : ArityTable) → with_pairs os ps B ++ A ≡ with_pairs os ps (B ++ A)
      go [] B = refl
      go (p ∷ ps) B = go ps ((name_of (object_at os p.0), p.1) ∷ B)

  pub pairs-push : (ps : List (ℕ × ℕ)) (p : ℕ × ℕ) (A : ArityTable) → with_pairs os (ps ++ p ∷ []) A ≡ (name_of (object_at os p.0), p.1) ∷ with_pairs os ps A
  pairs-push [] p A = refl
  pairs-push (q ∷ ps) p A = pairs-push ps p ((name_of (object_at os q.0), q.1) ∷ A)

  pub pair-at : (ps : List (ℕ × ℕ)) (i : ℕ) (d : ℕ × ℕ) → ArePairsOfSymbols os ps → i < length ps → IsIn os (get_or ps i d).0 × (is_symbol (object_at os (get_or ps i d).0) ≡ true)
  pair-at [] i d h l = absurd (omega arith)
  pair-at (p ∷ ps) zero d h l = h.0
  pair-at (p ∷ ps) (suc i) d h l = pair-at ps i d h.1 (omega arith)

  -- a name that is not among those has no arity
  unknown : (ps : List (ℕ × ℕ)) (f : Name) (A : ArityTable) → is_among f (pair_names os ps) ≡ false → arity_of (with_pairs os ps A) f ≡ arity_of A f
  unknown [] f A h = refl
  unknown (p ∷ ps) f A h =
      let first = no_first (same_name f (name_of (object_at os p.0))) refl h in
      unknown ps f ((name_of (object_at os p.0), p.1) ∷ A) first.1 ∙ ap (λ b. cond b (Some p.1) (arity_of A f)) first.0
    where
      other : (x y : Name) (b : Bool) → same_name x y ≡ false → same_name y x ≡ b → b ≡ false
      other x y true e k = let z : same_name x y ≡ true = ap (same_name x) (same_name-eq y x k) ∙ same_name-refl x in cc
      other x y false e k = refl

      no_first : (b : Bool) → same_name f (name_of (object_at os p.0)) ≡ b → (b || is_among f (pair_names os ps)) ≡ false → (same_name (name_of (object_at os p.0)) f ≡ false) × (is_among f (pair_names os ps) ≡ false)
      no_first true e k = cc
      no_first false e k = (other f (name_of (object_at os p.0)) (same_name (name_of (object_at os p.0)) f) e refl, k)

  -- each name is new
  pub absent-at : (ps : List (ℕ × ℕ)) (i : ℕ) (d : ℕ × ℕ) → are_distinct (pair_names os ps) ≡ true → i < length ps → arity_of (with_pairs os (take i ps) []) (name_of (object_at os (get_or ps i d).0)) ≡ None
  absent-at ps i d h l = unknown (take i ps) (name_of (object_at os (get_or ps i d).0)) [] (apart ps i h l)
    where
      later : (ps : List (ℕ × ℕ)) (i : ℕ) (x : Name) → i < length ps → is_among x (pair_names os ps) ≡ false → same_name (name_of (object_at os (get_or ps i d).0)) x ≡ false
      later [] i x l k = absurd (omega arith)
      later (p ∷ ps) zero x l k = first (same_name (name_of (object_at os p.0)) x) refl
        where
          first : (b : Bool) → same_name (name_of (object_at os p.0)) x ≡ b → b ≡ false
          first true e = let z : (true || is_among x (pair_names os ps)) ≡ false = ap (λ b. b || is_among x (pair_names os ps)) (sym (ap (same_name x) (same_name-eq (name_of (object_at os p.0)) x e) ∙ same_name-refl x)) ∙ k in cc
          first false e = refl
      later (p ∷ ps) (suc i) x l k = later ps i x (omega arith) (second (same_name x (name_of (object_at os p.0))) k)
        where
          second : (b : Bool) → (b || is_among x (pair_names os ps)) ≡ false → is_among x (pair_names os ps) ≡ false
          second true e = cc
          second false e = e

      negated : (b : Bool) → not b ≡ true → b ≡ false
      negated true e = cc
      negated false e = refl

      apart : (ps : List (ℕ × ℕ)) (i : ℕ) → are_distinct (pair_names os ps) ≡ true → i < length ps → is_among (name_of (object_at os (get_or ps i d).0)) (pair_names os (take i ps)) ≡ false
      apart [] i h l = absurd (omega arith)
      apart (p ∷ ps) zero h l = refl
      apart (p ∷ ps) (suc i) h l =
          let k = and_parts (not (is_among (name_of (object_at os p.0)) (pair_names os ps))) (are_distinct (pair_names os ps)) h in
          ap₂ (λ a b. a || b) (later ps i (name_of (object_at os p.0)) (omega arith) (negated (is_among (name_of (object_at os p.0)) (pair_names os ps)) k.0)) (apart ps i k.1 (omega arith))
