-- The cells that were counted: those that are reached and of which something was made, or which wait on the path.
use Rattle.std.proofs.Common.{◌≡◌, ℕ, ◌+◌, ◌<◌, ◌≤◌, Bool, true, false, nat_eq, List, [], ◌∷◌, ◌++◌, length, slice_get, Option, Some, None, ◌⊎◌, inl, inr, refl, sym, ap, ◌∙◌, subst, length-append, arith}
use Rattle.std.specs.List.{list_any}
use Rattle.std.specs.Cmp.{nat_eq_equiv}
use Rattle.std.proofs.lemmas.Map.Keys.{IsDistinct-push, IsDistinct-from_apart}
use Rattle.std.proofs.lemmas.Map.Steps.{length-le_from_distinct_below}
use Rattle.std.proofs.lemmas.Option.{slice_get_within}
use Rattle.mw_model.specs.Terms.Object.{Object}
use Rattle.mw_heap.proofs.Lists.{slice_get-append, slice_get-seam, slice_get-push}
use Rattle.mw_subst.specs.declared.part.Part.{Part}
use Rattle.mw_subst.specs.declared.part.Part.TheVariants.{Term, Terms}
use Rattle.mw_subst.specs.Memo.{cell_of, other_kind, found, IsFound, Adds}
use Rattle.mw_subst.specs.Reached.{Needs, IsReached, itself, needed, IsCellReached, IsAmong, AreReached, HasAllReached}
use Rattle.mw_subst.specs.Steps.{step_for}
use Rattle.mw_subst.proofs.Found.{none_found_at_first, found-kept, found-added, found-before}
use Rattle.mw_subst.proofs.Closed.{IsClosed, found-reached}
use Rattle.mw_subst.proofs.Among.{among-one, among-itself, among-push, among-kept, among-new}

reached_cell : (os : List Object) (x : ℕ) (p : Part) → IsReached os x p → IsCellReached os x (cell_of p)
reached_cell os x (Term r) h = inl h
reached_cell os x (Terms r) h = inr h

-- the cell r waits on the path
abbrev pub Waits : List Part → ℕ → Type 0
Waits path r = (i : ℕ) × (p : Part) × (slice_get path i ≡ Some p) × (cell_of p ≡ r)

waits-append : (path more : List Part) (r : ℕ) → Waits path r → Waits (path ++ more) r
waits-append path more r w = (w.0, w.1, slice_get-append path more w.0 (slice_get_within path w.0 w.1 w.2) ∙ w.2, w.3)

-- something was made of the cell r
abbrev pub IsCellFound : List (ℕ × ℕ) → List (ℕ × ℕ) → ℕ → Type 0
IsCellFound terms lists r = IsFound terms lists (Term r) ⊎ IsFound terms lists (Terms r)

-- a part that is reached and whose cell was counted
abbrev pub IsSeen : List Object → ℕ → List ℕ → Part → Type 0
IsSeen os x seen p = (cell_of p ≤ x) × IsReached os x p × IsAmong seen (cell_of p)

seen-kept : (os : List Object) (x c : ℕ) (seen : List ℕ) (p : Part) → IsSeen os x seen p → IsSeen os x (seen ++ c ∷ []) p
seen-kept os x c seen p k = (k.0, k.1, among-kept seen c (cell_of p) k.2)

-- Of so many steps each was for another cell that is reached, and that was made or waits. All that was made or waits was counted.
pub record IsCounted (os : List Object) (x : ℕ) (terms lists : List (ℕ × ℕ)) (path : List Part) (before after : ℕ) : Type 0 where
  pub seen : List ℕ
  pub count : after ≡ before + length seen
  pub reached : AreReached os x seen
  pub known : (r : ℕ) → IsAmong seen r → IsCellFound terms lists r ⊎ Waits path r
  pub waits : (i : ℕ) (p : Part) → slice_get path i ≡ Some p → IsSeen os x seen p
  pub made : (p : Part) → IsFound terms lists p → IsAmong seen (cell_of p)

pub no_more : (os : List Object) (x : ℕ) → AreReached os x []
no_more os x = record { distinct = IsDistinct-from_apart nat_eq [] (λ i j d k l. absurd (omega arith)); each = λ r h. cc }

reached-push : (os : List Object) (x c : ℕ) (seen : List ℕ) → AreReached os x seen → list_any (nat_eq c) seen ≡ false → c ≤ x → IsCellReached os x c → AreReached os x (seen ++ c ∷ [])
reached-push os x c seen a new l h = record {
  distinct = IsDistinct-push nat_eq_equiv seen c a.distinct new;
  each = λ r k. elim (among-push seen c r k) [ inl e ↦ a.each r e | inr e ↦ subst (λ q. (q ≤ x) × IsCellReached os x q) (sym e) (l, h) ];
}

-- the term itself waits
counted-first : (os : List Object) (x before after : ℕ) → after ≡ before + 1 → IsCounted os x [] [] (Term x ∷ []) before after
counted-first os x before after e = record {
  seen = x ∷ [];
  count = e;
  reached = reached-push os x x [] (no_more os x) refl (omega arith) (inl itself);
  known = λ r h. inr (0, Term x, refl, sym (among-one x r h));
  waits = λ i p at. elim (slice_get-push [] (Term x) p i at) [ inl h ↦ absurd (omega (arith, h.0)) | inr h ↦ subst (IsSeen os x (x ∷ [])) h.1 (omega arith, itself, among-itself x) ];
  made = λ p f. absurd (none_found_at_first p f);
}

pub counted-starts : (os : List Object) (x before after : ℕ) (terms lists : List (ℕ × ℕ)) (path : List Part) → terms ≡ [] → lists ≡ [] → path ≡ Term x ∷ [] → after ≡ before + 1 → IsCounted os x terms lists path before after
counted-starts os x before after terms lists path t l p e =
    subst (λ q. IsCounted os x terms lists q before after) (sym p) (subst (λ m. IsCounted os x terms m (Term x ∷ []) before after) (sym l) (subst (λ m. IsCounted os x m [] (Term x ∷ []) before after) (sym t) (counted-first os x before after e)))

same_cell : (p : Part) → cell_of (other_kind p) ≡ cell_of p
same_cell (Term k) = refl
same_cell (Terms k) = refl

cell_found : (terms lists : List (ℕ × ℕ)) (p : Part) → IsFound terms lists p → IsCellFound terms lists (cell_of p)
cell_found terms lists (Term k) f = inl f
cell_found terms lists (Terms k) f = inr f

not_found : (o : Option ℕ) (r : ℕ) → o ≡ None → o ≡ Some r → ⊥
not_found o r n e = cc

neither_found : (terms lists : List (ℕ × ℕ)) (p : Part) → found terms lists p ≡ None → found terms lists (other_kind p) ≡ None → IsCellFound terms lists (cell_of p) → ⊥
neither_found terms lists (Term k) n m (inl f) = not_found _ f.0 n f.1
neither_found terms lists (Term k) n m (inr f) = not_found _ f.0 m f.1
neither_found terms lists (Terms k) n m (inl f) = not_found _ f.0 m f.1
neither_found terms lists (Terms k) n m (inr f) = not_found _ f.0 n f.1

module _ (os : List Object) (x : ℕ) (terms lists : List (ℕ × ℕ)) (rest : List Part) (part : Part) (before after : ℕ) (c : IsCounted os x terms lists (rest ++ part ∷ []) before after) where
  -- the last part was reached and counted
  pub last_part : IsSeen os x c.seen part
  last_part = c.waits (length rest) part (slice_get-seam rest [] part)

  -- the part was made
  pub counted-made : (mt ml : List (ℕ × ℕ)) (r : ℕ) → Adds terms lists mt ml part r → IsCounted os x mt ml rest before after
  counted-made mt ml r adds = record {
    seen = c.seen;
    count = c.count;
    reached = c.reached;
    known = λ q h. go q (c.known q h);
    waits = λ i p at. c.waits i p (slice_get-append rest (part ∷ []) i (slice_get_within rest i p at) ∙ at);
    made = λ p f. elim (found-before terms lists mt ml r part p adds f) [ inl h ↦ c.made p h | inr e ↦ subst (λ q. IsAmong c.seen (cell_of q)) (sym e) last_part.2 ];
  }
    where
      go : (q : ℕ) → IsCellFound terms lists q ⊎ Waits (rest ++ part ∷ []) q → IsCellFound mt ml q ⊎ Waits rest q
      go q (inl (inl f)) = inl (inl (found-kept terms lists mt ml r part (Term q) adds f))
      go q (inl (inr f)) = inl (inr (found-kept terms lists mt ml r part (Terms q) adds f))
      go q (inr w) =
          elim (slice_get-push rest part w.1 w.0 w.2) [
            | inl h ↦ inr (w.0, w.1, h.1, w.3)
            | inr h ↦ inl (subst (IsCellFound mt ml) (ap cell_of h.1 ∙ w.3) (cell_found mt ml part (found-added terms lists mt ml r part adds)))
          ]

  -- a smaller part that it needs is wanted first
  module _ (inner : Part) (less : cell_of inner < cell_of part) (needs : Needs os part inner) where
    inner_reached : IsReached os x inner
    inner_reached = needed part inner last_part.1 needs

    waits-more : (seen : List ℕ) → ((p : Part) → IsSeen os x c.seen p → IsSeen os x seen p) → IsAmong seen (cell_of inner) → (i : ℕ) (p : Part) → slice_get ((rest ++ part ∷ []) ++ inner ∷ []) i ≡ Some p → IsSeen os x seen p
    waits-more seen more h i p at =
        elim (slice_get-push (rest ++ part ∷ []) inner p i at) [ inl k ↦ more p (c.waits i p k.1) | inr k ↦ subst (IsSeen os x seen) k.1 (omega (arith, last_part.0, less), inner_reached, h) ]

    known-append : (r : ℕ) → IsAmong c.seen r → IsCellFound terms lists r ⊎ Waits ((rest ++ part ∷ []) ++ inner ∷ []) r
    known-append r h = elim (c.known r h) [ inl f ↦ inl f | inr w ↦ inr (waits-append (rest ++ part ∷ []) (inner ∷ []) r w) ]

    -- the cell was made as the other kind of part
    counted-again : IsFound terms lists (other_kind inner) → IsCounted os x terms lists ((rest ++ part ∷ []) ++ inner ∷ []) before after
    counted-again f = record {
      seen = c.seen;
      count = c.count;
      reached = c.reached;
      known = known-append;
      waits = waits-more c.seen (λ p h. h) (subst (IsAmong c.seen) (same_cell inner) (c.made (other_kind inner) f));
      made = c.made;
    }

    module _ (above : (i : ℕ) (p : Part) → slice_get (rest ++ part ∷ []) i ≡ Some p → cell_of part ≤ cell_of p) (none : found terms lists inner ≡ None) where
      -- nothing of the cell waits
      not_seen : found terms lists (other_kind inner) ≡ None → (b : Bool) → list_any (nat_eq (cell_of inner)) c.seen ≡ b → b ≡ false
      not_seen other false e = refl
      not_seen other true e =
          elim (c.known (cell_of inner) e) [
            | inl f ↦ absurd (neither_found terms lists inner none other f)
            | inr w ↦ absurd (omega (arith, above w.0 w.1 w.2, w.3, less))
          ]

      counted-new : found terms lists (other_kind inner) ≡ None → IsCounted os x terms lists ((rest ++ part ∷ []) ++ inner ∷ []) before (after + 1)
      counted-new other = record {
        seen = c.seen ++ cell_of inner ∷ [];
        count = omega (arith, c.count, length-append c.seen (cell_of inner ∷ []));
        reached = reached-push os x (cell_of inner) c.seen c.reached (not_seen other (list_any (nat_eq (cell_of inner)) c.seen) refl) (omega (arith, last_part.0, less)) (reached_cell os x inner inner_reached);
        known = λ r h.
            elim (among-push c.seen (cell_of inner) r h) [
              | inl e ↦ known-append r e
              | inr e ↦ inr (length (rest ++ part ∷ []), inner, slice_get-seam (rest ++ part ∷ []) [] inner, sym e)
            ];
        waits = waits-more (c.seen ++ cell_of inner ∷ []) (seen-kept os x (cell_of inner) c.seen) (among-new c.seen (cell_of inner));
        made = λ p f. among-kept c.seen (cell_of inner) (cell_of p) (c.made p f);
      }

      pub counted-wants : (later : ℕ) → later ≡ after + step_for (found terms lists (other_kind inner)) → IsCounted os x terms lists ((rest ++ part ∷ []) ++ inner ∷ []) before later
      counted-wants later e = go (found terms lists (other_kind inner)) refl e
        where
          go : (o : Option ℕ) → found terms lists (other_kind inner) ≡ o → later ≡ after + step_for o → IsCounted os x terms lists ((rest ++ part ∷ []) ++ inner ∷ []) before later
          go None other k = subst (IsCounted os x terms lists ((rest ++ part ∷ []) ++ inner ∷ []) before) (sym k) (counted-new other)
          go (Some r) other k = let same : after ≡ later = omega (arith, k) in subst (IsCounted os x terms lists ((rest ++ part ∷ []) ++ inner ∷ []) before) same (counted-again (r, other))

module _ (os : List Object) (x : ℕ) (terms lists : List (ℕ × ℕ)) (path : List Part) (before after : ℕ) (c : IsCounted os x terms lists path before after) where
  pub counted-most : after ≤ before + (x + 1)
  counted-most = omega (arith, c.count, length-le_from_distinct_below c.seen (x + 1) c.reached.distinct (λ q h. omega (arith, c.reached.each q h)))

  -- once the term was made
  pub counted-all : IsClosed os terms lists → IsFound terms lists (Term x) → (cells : List ℕ) × AreReached os x cells × HasAllReached os x cells × (after ≡ before + length cells)
  counted-all closed f = (c.seen, c.reached, (λ r h. elim h [ inl k ↦ c.made (Term r) (found-reached os x terms lists closed f (Term r) k) | inr k ↦ c.made (Terms r) (found-reached os x terms lists closed f (Terms r) k) ]), c.count)
