-- The first bad step of a proof: there is one exactly where the proof does not pass the test; it does not pass, and its subproofs do.
use Rattle.std.proofs.Common.{◌≡◌, ℕ, suc, ◌+◌, Bool, true, false, ◌⊎◌, inl, inr, cond, [], ◌∷◌, Option, Some, None, refl, sym, ap, ◌∙◌, subst}
use Rattle.std.proofs.Math.Nat.{add-zero, zero-add, add-suc, suc-add}
use Rattle.mw_model.specs.Terms.Object.{Object, Natural, Symbol, Pair, NIL, third_of, Member, first, later}
use Rattle.std.specs.Option.{option_or}
use Rattle.mw_commands.specs.Commands.ExplanationSteps.{Placed, placed, or_here, in_subproof, first_bad, first_bad_among}
use Rattle.mw_commands.specs.Explained.{member_numbered, step_at}
use Rattle.mw_model.proofs.ReadBack.{some_one}
use Rattle.mw_commands.proofs.FromNothing.{no_member}

option_or-some : {X : Type 0} (x y : Option X) (b : X) → option_or x y ≡ Some b → (x ≡ Some b) ⊎ ((x ≡ None) × (y ≡ Some b))
option_or-some None y b h = inr (refl, h)
option_or-some (Some x) y b h = inl h

option_or-none : {X : Type 0} (x y : Option X) → option_or x y ≡ None → (x ≡ None) × (y ≡ None)
option_or-none None y h = (refl, h)
option_or-none (Some x) y h = cc

in_subproof-some : (k : ℕ) (o : Option Placed) (b : Placed) → in_subproof k o ≡ Some b → (c : Placed) × (o ≡ Some c) × (placed (k ∷ c.place) c.step ≡ b)
in_subproof-some k None b h = cc
in_subproof-some k (Some c) b h = (c, refl, some_one h)

in_subproof-none : (k : ℕ) (o : Option Placed) → in_subproof k o ≡ None → o ≡ None
in_subproof-none k None h = refl
in_subproof-none k (Some c) h = cc

-- what holds of the first bad step of p; of that of one of the proofs of a list that is numbered from k on
pub record IsFirst (good : Object → Bool) (p : Object) (b : Placed) : Type 0 where
  pub fails : good b.step ≡ false
  pub subproofs : (q : Object) → Member q (third_of b.step) → good q ≡ true
  pub there : step_at b.place p ≡ b.step

record IsFirstAmong (good : Object → Bool) (k : ℕ) (ps : Object) (b : Placed) : Type 0 where
  n : ℕ
  q : Object
  c : Placed
  is_there : member_numbered (suc n) ps ≡ q
  is_first : IsFirst good q c
  is : placed ((k + n) ∷ c.place) c.step ≡ b

module _ (good : Object → Bool) where
  or_here-some : (p : Object) (inside : Option Placed) (b : Placed) → or_here good p inside ≡ Some b → (inside ≡ Some b) ⊎ ((inside ≡ None) × (good p ≡ false) × (placed [] p ≡ b))
  or_here-some p inside b h = go (good p) refl h
    where
      go : (t : Bool) → good p ≡ t → cond t None (option_or inside (Some (placed [] p))) ≡ Some b → (inside ≡ Some b) ⊎ ((inside ≡ None) × (good p ≡ false) × (placed [] p ≡ b))
      go true e k = cc
      go false e k = elim (option_or-some inside (Some (placed [] p)) b k) as (λ o. (inside ≡ Some b) ⊎ ((inside ≡ None) × (good p ≡ false) × (placed [] p ≡ b))) [ inl i ↦ inl i | inr i ↦ inr (i.0, e, some_one i.1) ]

  or_here-none : (p : Object) (inside : Option Placed) → or_here good p inside ≡ None → good p ≡ true
  or_here-none p inside h = go (good p) refl inside h
    where
      go : (t : Bool) → good p ≡ t → (inside : Option Placed) → cond t None (option_or inside (Some (placed [] p))) ≡ None → good p ≡ true
      go true e i k = e
      go false e None k = cc
      go false e (Some b) k = cc

  -- there is none exactly where the proof passes
  abbrev Decides : Object → Option Placed → Type 0
  Decides p o = (o ≡ None → good p ≡ true) × (good p ≡ true → o ≡ None)

  decides : (p : Object) (inside : Option Placed) → Decides p (or_here good p inside)
  decides p inside = (or_here-none p inside, λ h. ap (λ t. cond t None (option_or inside (Some (placed [] p)))) h)

  pub first_decides : (p : Object) → Decides p (first_bad good p)
  first_decides (Natural n) = decides (Natural n) None
  first_decides (Symbol s) = decides (Symbol s) None
  first_decides (Pair m (Natural n)) = decides (Pair m (Natural n)) None
  first_decides (Pair m (Symbol s)) = decides (Pair m (Symbol s)) None
  first_decides (Pair m (Pair c (Natural n))) = decides (Pair m (Pair c (Natural n))) None
  first_decides (Pair m (Pair c (Symbol s))) = decides (Pair m (Pair c (Symbol s))) None
  first_decides (Pair m (Pair c (Pair ps x))) = decides (Pair m (Pair c (Pair ps x))) _

  none_among : (k : ℕ) (ps : Object) → first_bad_among good k ps ≡ None → (q : Object) → Member q ps → good q ≡ true
  none_among k (Pair p ps) h _ (first _) = (first_decides p).0 (in_subproof-none k (first_bad good p) (option_or-none (in_subproof k (first_bad good p)) (first_bad_among good (suc k) ps) h).0)
  none_among k (Pair p ps) h q (later _ _ i) = none_among (suc k) ps (option_or-none (in_subproof k (first_bad good p)) (first_bad_among good (suc k) ps) h).1 q i
  none_among k (Natural _) h q i = elim i [ ]
  none_among k (Symbol _) h q i = elim i [ ]

  -- the proof itself, where it has no subproofs, or none of them is bad
  it_is : (p : Object) (b : Placed) → ((q : Object) → Member q (third_of p) → good q ≡ true) → good p ≡ false → placed [] p ≡ b → IsFirst good p b
  it_is p b f h k = subst (λ z. IsFirst good p z) k (record { fails = h; subproofs = f; there = refl })

  alone : (p : Object) (b : Placed) → third_of p ≡ NIL → or_here good p None ≡ Some b → IsFirst good p b
  alone p b e h = go None refl (or_here-some p None b h)
    where
      go : (o : Option Placed) → o ≡ None → (o ≡ Some b) ⊎ ((o ≡ None) × (good p ≡ false) × (placed [] p ≡ b)) → IsFirst good p b
      go (Some c) r i = cc
      go None r (inl i) = cc
      go None r (inr i) = it_is p b (λ q j. absurd (no_member q (subst (λ z. Member q z) e j))) i.1 i.2

  mutual
    pub first_fails : (p : Object) (b : Placed) → first_bad good p ≡ Some b → IsFirst good p b
    first_fails (Natural n) b h = alone (Natural n) b refl h
    first_fails (Symbol s) b h = alone (Symbol s) b refl h
    first_fails (Pair m (Natural n)) b h = alone (Pair m (Natural n)) b refl h
    first_fails (Pair m (Symbol s)) b h = alone (Pair m (Symbol s)) b refl h
    first_fails (Pair m (Pair c (Natural n))) b h = alone (Pair m (Pair c (Natural n))) b refl h
    first_fails (Pair m (Pair c (Symbol s))) b h = alone (Pair m (Pair c (Symbol s))) b refl h
    first_fails (Pair m (Pair c (Pair ps x))) b h = by_parts (or_here-some (Pair m (Pair c (Pair ps x))) (first_bad_among good 1 ps) b h) (λ k. first_among 1 ps b k)
      where
        by_parts : (first_bad_among good 1 ps ≡ Some b) ⊎ ((first_bad_among good 1 ps ≡ None) × (good (Pair m (Pair c (Pair ps x))) ≡ false) × (placed [] (Pair m (Pair c (Pair ps x))) ≡ b)) → (first_bad_among good 1 ps ≡ Some b → IsFirstAmong good 1 ps b) → IsFirst good (Pair m (Pair c (Pair ps x))) b
        by_parts (inr k) among = it_is (Pair m (Pair c (Pair ps x))) b (none_among 1 ps k.0) k.1 k.2
        by_parts (inl k) among =
            let f = among k in
            subst (λ z. IsFirst good (Pair m (Pair c (Pair ps x))) z) f.is
            (record { fails = f.is_first.fails; subproofs = f.is_first.subproofs; there = ap (λ j. step_at f.c.place (member_numbered j ps)) (suc-add 0 f.n ∙ ap suc (zero-add f.n)) ∙ (ap (λ z. step_at f.c.place z) f.is_there ∙ f.is_first.there) })

    first_among : (k : ℕ) (ps : Object) (b : Placed) → first_bad_among good k ps ≡ Some b → IsFirstAmong good k ps b
    first_among k (Natural n) b h = cc
    first_among k (Symbol s) b h = cc
    first_among k (Pair p ps) b h = by_parts (option_or-some (in_subproof k (first_bad good p)) (first_bad_among good (suc k) ps) b h) (λ c i. first_fails p c i) (λ i. first_among (suc k) ps b i)
      where
        by_parts : (in_subproof k (first_bad good p) ≡ Some b) ⊎ ((in_subproof k (first_bad good p) ≡ None) × (first_bad_among good (suc k) ps ≡ Some b)) → ((c : Placed) → first_bad good p ≡ Some c → IsFirst good p c) → (first_bad_among good (suc k) ps ≡ Some b → IsFirstAmong good (suc k) ps b) → IsFirstAmong good k (Pair p ps) b
        by_parts (inl i) fails among =
            let q = in_subproof-some k (first_bad good p) b i in
            record { n = 0; q = p; c = q.0; is_there = refl; is_first = fails q.0 q.1; is = ap (λ j. placed (j ∷ q.0.place) q.0.step) (add-zero k) ∙ q.2 }
        by_parts (inr i) fails among =
            let f = among i.1 in
            record { n = suc f.n; q = f.q; c = f.c; is_there = f.is_there; is_first = f.is_first; is = ap (λ j. placed (j ∷ f.c.place) f.c.step) (add-suc k f.n ∙ sym (suc-add k f.n)) ∙ f.is }
