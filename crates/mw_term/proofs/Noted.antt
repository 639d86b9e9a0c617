-- What is noted, as cells are noted with parts and taken; what a pair is noted with; and which cells wait.
use Rattle.std.proofs.Common.{◌≡◌, ℕ, ◌<◌, ◌⊎◌, Bool, true, false, cond, nat_eq, List, [], ◌∷◌, ◌++◌, Vec, inl, inr, refl, sym, ap, ◌∙◌, subst, true≢false, eq-eqb}
use Rattle.mw_model.specs.Terms.Object.{Object, Natural, Symbol, Pair}
use Rattle.mw_model.specs.Terms.Term.{ArityTable}
use Rattle.mw_model.specs.Values.Primitive.{is_pair}
use Rattle.mw_heap.specs.Objects.{object_at, IsIn, AreDistinct, ArePartsOlder}
use Rattle.mw_term.specs.Watching.{Test, passes, right_mark, Lasts, Reason, IsOneOf, cells_noted, IsNoted, KeepsNotes, IsNotedUnless, IsLastingIn, IsEarly, IsPartWatched, AreMembersWatched}
use Rattle.mw_term.proofs.Watching.{reason-never}
use Rattle.mw_term.proofs.Reasons.{pair-reason}

pub one-pushed : (xs : List ℕ) (x : ℕ) → IsOneOf (xs ++ x ∷ []) x
one-pushed [] x = inl refl
one-pushed (y ∷ ys) x = inr (one-pushed ys x)

pub one-kept : (xs : List ℕ) (y x : ℕ) → IsOneOf xs x → IsOneOf (xs ++ y ∷ []) x
one-kept [] y x o = absurd o
one-kept (z ∷ zs) y x (inl e) = inl e
one-kept (z ∷ zs) y x (inr o) = inr (one-kept zs y x o)

module _ {S : Type 0} (old new : List (ℕ × Vec ℕ S)) (part cell : ℕ) (added : (w : ℕ) → cells_noted new w ≡ cond (nat_eq part w) (cells_noted old w ++ cell ∷ []) (cells_noted old w)) where
  pub added-noted : IsNoted new part cell
  added-noted =
      subst (λ xs. IsOneOf xs cell) (sym (added part ∙ ap (λ b. cond b (cells_noted old part ++ cell ∷ []) (cells_noted old part)) (eq-eqb part part refl))) (one-pushed (cells_noted old part) cell)

  pub added-kept : KeepsNotes old new
  added-kept w x o = go (nat_eq part w) refl
    where
      there : (b : Bool) → nat_eq part w ≡ b → cells_noted new w ≡ cond b (cells_noted old w ++ cell ∷ []) (cells_noted old w)
      there b e = added w ∙ ap (λ b. cond b (cells_noted old w ++ cell ∷ []) (cells_noted old w)) e

      go : (b : Bool) → nat_eq part w ≡ b → IsNoted new w x
      go true e = subst (λ xs. IsOneOf xs x) (sym (there true e)) (one-kept (cells_noted old w) cell x o)
      go false e = subst (λ xs. IsOneOf xs x) (sym (there false e)) o

-- the early members of a rest, by their references
module _ (os : List Object) (distinct : AreDistinct os) (rest member more : ℕ) (is : object_at os rest ≡ Pair (object_at os member) (object_at os more)) (member_in : IsIn os member) (w : ℕ) (within : IsIn os w) (early : IsEarly (object_at os w) (object_at os rest)) where
  pub early-one : is_pair (object_at os more) ≡ false → w ≡ member
  early-one none = distinct w member within member_in (go (object_at os more) refl (subst (IsEarly (object_at os w)) is early))
    where
      go : (z : Object) → object_at os more ≡ z → IsEarly (object_at os w) (Pair (object_at os member) (object_at os more)) → object_at os w ≡ object_at os member
      go (Natural n) e o = subst (λ z. IsEarly (object_at os w) (Pair (object_at os member) z)) e o
      go (Symbol s) e o = subst (λ z. IsEarly (object_at os w) (Pair (object_at os member) z)) e o
      go (Pair a b) e o = absurd (true≢false (sym (ap is_pair e) ∙ none))

  pub early-two : (second end : ℕ) → object_at os more ≡ Pair (object_at os second) (object_at os end) → IsIn os second → (w ≡ member) ⊎ (w ≡ second)
  early-two second end e second_in =
      elim (subst (λ z. IsEarly (object_at os w) (Pair (object_at os member) z)) e (subst (IsEarly (object_at os w)) is early)) [
        | inl a ↦ inl (distinct w member within member_in a)
        | inr b ↦ inr (distinct w second within second_in b)
      ]

-- by other notes
module _ (A : ArityTable) (os : List Object) (lasting some other : ℕ → Type 0) (into : (w : ℕ) → some w → other w) where
  watched-into : (w : ℕ) → lasting w ⊎ some w → lasting w ⊎ other w
  watched-into w (inl l) = inl l
  watched-into w (inr n) = inr (into w n)

  pub part-into : (first rest : ℕ) → IsPartWatched A os lasting some first rest → IsPartWatched A os lasting other first rest
  part-into first rest h = record {
    on_rest = λ denied. watched-into rest (h.on_rest denied);
    on_first = λ passed symbol. watched-into first (h.on_first passed symbol);
    on_name = λ passed f is word absent. into first (h.on_name passed f is word absent);
  }

  pub members-into : (x first rest : ℕ) → AreMembersWatched A os lasting some x first rest → AreMembersWatched A os lasting other x first rest
  members-into x first rest h = λ looks w before early. watched-into w (h looks w before early)

-- the reasons of a pair that was noted with its parts
module _ {S : Type 0} (A : ArityTable) (os : List Object) (older : ArePartsOlder os) (x first rest : ℕ) (within : IsIn os x) (before : first < x) (behind : rest < x) (at : object_at os x ≡ Pair (object_at os first) (object_at os rest)) (lasting : List Bool)
    (lasts : (w : ℕ) → w < x → IsLastingIn lasting w → Lasts A (object_at os w)) (some all : List (ℕ × Vec ℕ S)) (part_lasts members_last : Bool) (part : IsPartWatched A os (IsLastingIn lasting) (IsNotedUnless part_lasts some x) first rest)
    (members : AreMembersWatched A os (IsLastingIn lasting) (IsNotedUnless members_last all x) x first rest) where
  pub noted-reasons : KeepsNotes some all → (k : Test) → passes A (object_at os x) k ≡ false → Reason A os (right_mark A os) (IsNoted all) x k
  noted-reasons kept k denied =
      pair-reason A os x first rest before behind at (IsLastingIn lasting) lasts (IsNoted all) (part-into A os (IsLastingIn lasting) (IsNotedUnless part_lasts some x) (λ w. IsNoted all w x) (λ w n. kept w x n.1) first rest part) older within
      (members-into A os (IsLastingIn lasting) (IsNotedUnless members_last all x) (λ w. IsNoted all w x) (λ w n. n.1) x first rest members) k denied

  pub noted-lasts : part_lasts ≡ true → members_last ≡ true → Lasts A (object_at os x)
  noted-lasts p q k denied =
      reason-never A os (right_mark A os) (λ w y. ⊥) x k (λ w n. n)
      (pair-reason A os x first rest before behind at (IsLastingIn lasting) lasts (λ w y. ⊥) (part-into A os (IsLastingIn lasting) (IsNotedUnless part_lasts some x) (λ w. ⊥) (λ w n. true≢false (sym p ∙ n.0)) first rest part) older within
      (members-into A os (IsLastingIn lasting) (IsNotedUnless members_last all x) (λ w. ⊥) (λ w n. true≢false (sym q ∙ n.0)) x first rest members) k denied)
