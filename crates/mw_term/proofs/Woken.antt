-- Cells that come to wait: what is put into a set is in it, and all that was noted with a part is put into it.
use Rattle.std.proofs.Common.{◌≡◌, ℕ, zero, suc, ◌+◌, ◌<◌, ◌≤◌, ◌⊎◌, Bool, true, false, cond, nat_eq, Ordering, Less, Equal, Greater, List, [], ◌∷◌, ◌++◌, All, length, get_or, take, inl, inr, refl, sym, ap, ◌∙◌, subst, eqb-true, arith}
use Rattle.std.specs.Ordering.{nat_cmp, match_ordering, is_le}
use Rattle.std.specs.BTreeSet.{insert_key}
use Rattle.std.specs.BTreeMap.Range.{IsLtBy}
use Rattle.std.proofs.lemmas.List.{take_more}
use Rattle.std.proofs.lemmas.List.Elements.{All-head, All-tail}
use Rattle.std.proofs.lemmas.Map.Keys.{le_from_is_le}
use Rattle.std.proofs.lemmas.Map.Lookups.{exact_unsigned}
use Rattle.mw_term.specs.Marking.{ObjectMark}
use Rattle.mw_term.specs.Watching.{IsOneOf, cells_noted}
use Rattle.mw_term.specs.Settling.{Waits, IsNotedWith, WakesNoted, WakesIfChanged}
use Rattle.mw_term.specs.declared.watch.Watch.{Watch}

inserted-itself : (ks : List ℕ) (k : ℕ) → IsOneOf (insert_key nat_cmp ks k) k
inserted-itself [] k = inl refl
inserted-itself (x ∷ xs) k = go (nat_cmp k x) refl (inserted-itself xs k)
  where
    go : (r : Ordering) → nat_cmp k x ≡ r → IsOneOf (insert_key nat_cmp xs k) k → IsOneOf (match_ordering r (k ∷ x ∷ xs) (x ∷ xs) (x ∷ insert_key nat_cmp xs k)) k
    go Less e later = inl refl
    go Equal e later = inl (exact_unsigned k x e)
    go Greater e later = inr later

inserted-other : (ks : List ℕ) (k y : ℕ) → IsOneOf ks y → IsOneOf (insert_key nat_cmp ks k) y
inserted-other [] k y o = absurd o
inserted-other (x ∷ xs) k y o = go (nat_cmp k x) o (λ p. inserted-other xs k y p)
  where
    go : (r : Ordering) → IsOneOf (x ∷ xs) y → (IsOneOf xs y → IsOneOf (insert_key nat_cmp xs k) y) → IsOneOf (match_ordering r (k ∷ x ∷ xs) (x ∷ xs) (x ∷ insert_key nat_cmp xs k)) y
    go Less o later = inr o
    go Equal o later = o
    go Greater (inl e) later = inl e
    go Greater (inr p) later = inr (later p)

one-of-pushed : (xs : List ℕ) (x y : ℕ) → IsOneOf (xs ++ y ∷ []) x → IsOneOf xs x ⊎ (x ≡ y)
one-of-pushed [] x y (inl e) = inr e
one-of-pushed [] x y (inr o) = absurd o
one-of-pushed (z ∷ zs) x y (inl e) = inl (inl e)
one-of-pushed (z ∷ zs) x y (inr o) = elim (one-of-pushed zs x y o) [ inl p ↦ inl (inr p) | inr e ↦ inr e ]

one-of-taken : (xs : List ℕ) (i x y : ℕ) → i < length xs → y ≡ get_or xs i y → IsOneOf (take (i + 1) xs) x → IsOneOf (take i xs) x ⊎ (x ≡ y)
one-of-taken xs i x y l is o = one-of-pushed (take i xs) x y (subst (λ l. IsOneOf l x) (take_more xs i y l ∙ ap (λ z. take i xs ++ z ∷ []) (sym is)) o)

-- one more is put into a set
module _ (initial old new cells : List ℕ) (i x : ℕ) (below : i < length cells) (is : x ≡ get_or cells i x) (keys : new ≡ insert_key nat_cmp old x) where
  still : (y : ℕ) → IsOneOf old y → IsOneOf new y
  still y o = subst (λ ks. IsOneOf ks y) (sym keys) (inserted-other old x y o)

  pub one-added : ((y : ℕ) → IsOneOf initial y ⊎ IsOneOf (take i cells) y → IsOneOf old y) → (y : ℕ) → IsOneOf initial y ⊎ IsOneOf (take (i + 1) cells) y → IsOneOf new y
  one-added h y (inl o) = still y (h y (inl o))
  one-added h y (inr o) =
      elim (one-of-taken cells i y x below is o) [
        | inl p ↦ still y (h y (inr p))
        | inr e ↦ subst (λ ks. IsOneOf ks y) (sym keys) (subst (IsOneOf (insert_key nat_cmp old x)) (sym e) (inserted-itself old x))
      ]

-- the least of a set stands before the others
pub least-first : (ks : List ℕ) (x y : ℕ) → All (IsLtBy nat_cmp x) ks → IsOneOf ks y → x ≤ y
least-first [] x y h o = absurd o
least-first (k ∷ ks) x y h (inl e) = subst (λ z. x ≤ z) (sym e) (le_from_is_le x k (ap is_le (All-head (IsLtBy nat_cmp x) k ks h)))
least-first (k ∷ ks) x y h (inr o) = least-first ks x y (All-tail (IsLtBy nat_cmp x) k ks h) o

-- the cells that were noted with a part wait, and are noted with it no more
pub wakes-noted : (old new : Watch) (part : ℕ) (cells : List ℕ) → new.lasting ≡ old.lasting → cells ≡ cells_noted old.notes.by_part.entries part → ((w : ℕ) → cells_noted new.notes.by_part.entries w ≡ cond (nat_eq part w) [] (cells_noted old.notes.by_part.entries w))
    → ((x : ℕ) → Waits old x ⊎ IsOneOf cells x → Waits new x) → WakesNoted old new part
wakes-noted old new part cells same taken rest added = record {
  same = same;
  woken = λ x o. added x (inr (subst (λ l. IsOneOf l x) (sym taken) o));
  wait = λ x o. added x (inl o);
  kept = λ w x o. kept w x o (nat_eq part w) refl;
}
  where
    kept : (w x : ℕ) → IsNotedWith old w x → (b : Bool) → nat_eq part w ≡ b → IsNotedWith new w x ⊎ Waits new x
    kept w x o true e = inr (added x (inr (subst (λ l. IsOneOf l x) (sym taken) (subst (λ v. IsNotedWith old v x) (sym (eqb-true part w e)) o))))
    kept w x o false e = inl (subst (λ l. IsOneOf l x) (sym (rest w ∙ ap (λ b. cond b [] (cells_noted old.notes.by_part.entries w)) e)) o)

pub wakes-changed : (old new : Watch) (part : ℕ) (before after : ObjectMark) → WakesNoted old new part → WakesIfChanged old new part before after
wakes-changed old new part before after h = record { same = h.same; woken = inr h.woken; wait = h.wait; kept = h.kept }

pub wakes-none : (old : Watch) (part : ℕ) (before after : ObjectMark) → before ≡ after → WakesIfChanged old old part before after
wakes-none old part before after e = record { same = refl; woken = inl (sym e); wait = λ x o. o; kept = λ w x o. inl o }

-- within a list no default is asked for
pub any-default : {X : Type 0} (xs : List X) (i : ℕ) (d e : X) → i < length xs → get_or xs i d ≡ get_or xs i e
any-default [] i d e l = absurd (omega (arith, l))
any-default (x ∷ xs) zero d e l = refl
any-default (x ∷ xs) (suc i) d e l = any-default xs i d e (omega (arith, l))
