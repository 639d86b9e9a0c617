-- Notes of copies: what they say in a round, when one is written, and in the next round.
use Rattle.std.proofs.Common.{◌≡◌, ℕ, zero, suc, ◌<◌, ◌≤◌, Bool, true, false, cond, nat_eq, eqb, List, [], ◌∷◌, ◌++◌, length, get_or, set, replicate, All, Some, None, refl, sym, ap, ◌∙◌, arith, ltb, ltb-true, ltb-false, eqb-true, eq-eqb}
use Rattle.std.proofs.lemmas.Bool.{eqb-false}
use Rattle.std.proofs.lemmas.List.{length-map, get_or-map, map-set, get_or-set_same, get_or-set_other}
use Rattle.std.proofs.lemmas.List.Elements.{All-get_or, All-replicate}
use Rattle.mw_slice.specs.declared.copies.Note.{Note}
use Rattle.mw_slice.specs.Copies.{noted_in, noted, copy_of}

-- past the end there is none
pub past_end : {X : Type 0} (xs : List X) (i : ℕ) (d : X) → length xs ≤ i → get_or xs i d ≡ d
past_end [] i d h = refl
past_end (x ∷ xs) zero d h = absurd (omega (arith, h))
past_end (x ∷ xs) (suc i) d h = past_end xs i d (omega (arith, h))

-- a later round has none
pub none_noted : (round later : ℕ) (notes : List Note) → All (λ note. note.round ≤ round) notes → round < later → (x : ℕ) → copy_of (noted later notes) x ≡ None
none_noted round later [] h below x = refl
none_noted round later (note ∷ notes) h below x = none_at (note ∷ notes) h
  where
    none_in : (n : Note) → n.round ≤ round → noted_in later n ≡ None
    none_in n l = go (eqb n.round later) refl
      where
        go : (b : Bool) → eqb n.round later ≡ b → cond b (Some n.made) None ≡ None
        go true e = absurd (omega (arith, eqb-true n.round later e, l, below))
        go false e = refl

    none_at : (ns : List Note) → All (λ n. n.round ≤ round) ns → copy_of (noted later ns) x ≡ None
    none_at ns all = go (ltb x (length ns)) refl
      where
        go : (b : Bool) → ltb x (length ns) ≡ b → copy_of (noted later ns) x ≡ None
        go true e =
            let l = ltb-true x (length ns) e in
            get_or-map (noted_in later) ns x note None l ∙ none_in (get_or ns x note) (All-get_or (λ n. n.round ≤ round) ns x note l all)
        go false e = past_end (noted later ns) x None (omega (arith, ltb-false x (length ns) e, length-map ns (noted_in later)))

-- one is written
pub put_noted : (round : ℕ) (notes : List Note) (x made : ℕ) → x < length notes → (y : ℕ) → copy_of (noted round (set notes x (record { round = round; made = made }))) y ≡ cond (nat_eq x y) (Some made) (copy_of (noted round notes) y)
put_noted round notes x made within y = ap (λ l. get_or l y None) written ∙ go (nat_eq x y) refl
  where
    own : noted_in round (record { round = round; made = made }) ≡ Some made
    own = ap (λ b. cond b (Some made) None) (eq-eqb round round refl)

    written : noted round (set notes x (record { round = round; made = made })) ≡ set (noted round notes) x (Some made)
    written = map-set (noted_in round) notes x (record { round = round; made = made }) ∙ ap (set (noted round notes) x) own

    go : (b : Bool) → nat_eq x y ≡ b → get_or (set (noted round notes) x (Some made)) y None ≡ cond b (Some made) (copy_of (noted round notes) y)
    go true e = ap (λ z. get_or (set (noted round notes) x (Some made)) z None) (sym (eqb-true x y e)) ∙ get_or-set_same (noted round notes) x (Some made) None (omega (arith, within, length-map notes (noted_in round)))
    go false e = get_or-set_other (noted round notes) x y (Some made) None (λ k. eqb-false x y e (sym k))

-- blank notes at the end say nothing
pub blank_noted : (round : ℕ) (notes : List Note) (n made : ℕ) → 0 < round → (y : ℕ) → copy_of (noted round (notes ++ replicate n (record { round = 0; made = made }))) y ≡ copy_of (noted round notes) y
blank_noted round [] n made some y = none_noted 0 round (replicate n blank) (All-replicate (λ note. note.round ≤ 0) n blank (omega arith)) some y
  where
    blank : Note
    blank = record { round = 0; made = made }
blank_noted round (note ∷ notes) n made some zero = refl
blank_noted round (note ∷ notes) n made some (suc y) = blank_noted round notes n made some y

-- one of this round is the copy
pub noted_here : (round : ℕ) (notes : List Note) (x : ℕ) (note : Note) → x < length notes → note ≡ get_or notes x note → note.round ≡ round → Some note.made ≡ copy_of (noted round notes) x
noted_here round notes x note within is now =
    sym (get_or-map (noted_in round) notes x note None within ∙ (ap (noted_in round) (sym is) ∙ ap (λ b. cond b (Some note.made) None) (eq-eqb note.round round now)))
