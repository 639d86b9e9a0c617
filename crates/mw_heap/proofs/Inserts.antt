-- What the insertion of a key does to the list of keys, and when it is undone by a cut.
use Rattle.std.proofs.Common.{◌≡◌, ℕ, suc, ◌+◌, ◌<◌, ◌≤◌, Bool, true, false, ◌||◌, not, cond, List, [], ◌∷◌, ◌++◌, length, take, refl, ap, ◌∙◌, if◌then◌else◌, arith, eqb, eq-eqb, length-append}
use Rattle.std.specs.List.{list_any, position_or_len}
use Rattle.std.proofs.lemmas.Bool.{and_from}
use Rattle.std.proofs.lemmas.List.{take_all}
use Rattle.std.proofs.Math.Seq.{take-append_seam}
use Rattle.indexmap.specs.IndexSet.{insert_key}
use Rattle.mw_heap.specs.declared.store.cell.Cell.{Cell}
use Rattle.mw_heap.specs.declared.store.cell.Cell.TheVariants.{Small, Large, Symbol, Pair}
use Rattle.mw_heap.specs.contracts.store.cell.CellPartialEq.TheImpl.{ghosts}

-- a cell is equal to itself
pub cell_eq-refl : (c : Cell) → ghosts.eq c c ≡ true
cell_eq-refl (Small n) = eq-eqb n n refl
cell_eq-refl (Large i) = eq-eqb i i refl
cell_eq-refl (Symbol i) = eq-eqb i i refl
cell_eq-refl (Pair a b) = and_from (eqb a a) (eqb b b) (eq-eqb a a refl) (eq-eqb b b refl)

module _ {X : Type 0} (eq : X → X → Bool) where
  pub position_or_len-le : (test : X → Bool) (ks : List X) → position_or_len test ks ≤ length ks
  position_or_len-le test [] = omega arith
  position_or_len-le test (k ∷ ks) = go (test k) (position_or_len-le test ks)
    where
      go : (b : Bool) → position_or_len test ks ≤ length ks → cond (not b) (1 + position_or_len test ks) 0 ≤ suc (length ks)
      go true rest = omega arith
      go false rest = omega (arith, rest)

  pub position_or_len-absent : (test : X → Bool) (ks : List X) → list_any test ks ≡ false → position_or_len test ks ≡ length ks
  position_or_len-absent test [] h = refl
  position_or_len-absent test (k ∷ ks) h = go (test k) (position_or_len-absent test ks) h
    where
      go : (b : Bool) → (list_any test ks ≡ false → position_or_len test ks ≡ length ks) → (b || list_any test ks) ≡ false → cond (not b) (1 + position_or_len test ks) 0 ≡ suc (length ks)
      go true rest e = cc
      go false rest e = omega (arith, rest e)

  pub length-insert_key : (ks : List X) (k : X) (limit : ℕ) → length ks ≤ limit → position_or_len (eq k) ks < limit → length (insert_key eq ks k) ≤ limit
  length-insert_key ks k limit few below = go (list_any (eq k) ks) refl
    where
      go : (b : Bool) → list_any (eq k) ks ≡ b → length (if b then ks else ks ++ k ∷ []) ≤ limit
      go true e = few
      go false e = omega (arith, length-append ks (k ∷ []), position_or_len-absent (eq k) ks e, below)

  -- a key past the limit goes by a cut to the limit
  pub take-insert_key : (ks : List X) (k : X) (limit : ℕ) → length ks ≤ limit → limit ≤ position_or_len (eq k) ks → take limit (insert_key eq ks k) ≡ ks
  take-insert_key ks k limit few past = ap (λ n. take n (insert_key eq ks k)) full ∙ go (list_any (eq k) ks)
    where
      full : limit ≡ length ks
      full = omega (arith, few, past, position_or_len-le (eq k) ks)

      go : (b : Bool) → take (length ks) (if b then ks else ks ++ k ∷ []) ≡ ks
      go true = take_all (length ks) ks (omega arith)
      go false = take-append_seam ks (k ∷ [])
