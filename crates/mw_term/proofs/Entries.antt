-- The table of a map of arities as the map changes, and what is found in it.
use Rattle.std.proofs.Common.{◌≡◌, ℕ, zero, suc, ◌+◌, ◌-◌, ◌≤◌, Bool, true, false, cond, List, [], ◌∷◌, ◌++◌, length, take, drop, Vec, Option, Some, None, ◌<◌, refl, sym, ap, ◌∙◌, subst, nat_eq, arith}
use Rattle.std.specs.Map.{keys_of, lookup}
use Rattle.std.specs.List.{IsDistinct, AllByRecursion, slice_get}
use Rattle.std.specs.Cmp.Lexicographic.{pointwise}
use Rattle.std.proofs.lemmas.List.{drop-drop, take_more}
use Rattle.std.proofs.lemmas.Option.{slice_get_within, get_or_from_slice_get}
use Rattle.std.proofs.lemmas.Map.Keys.{IsDistinct-head, IsDistinct-tail}
use Rattle.std.proofs.lemmas.Slice.Eq.{bytes_eq-Decides}
use Rattle.mw_model.specs.Terms.Object.{Name, is_name, name_of_bytes}
use Rattle.mw_model.specs.Terms.Term.{ArityTable, arity_of}
use Rattle.mw_term.specs.Tables.{entries_before, table_of, AreNamed, same_key}
use Rattle.mw_term.proofs.NamedBytes.{same_name-bytes}

-- the first of two answers, where there is one
abbrev or_else : Option ℕ → Option ℕ → Option ℕ
or_else (Some n) o = Some n
or_else None o = o

or_else-none : (o : Option ℕ) → or_else o None ≡ o
or_else-none (Some n) = refl
or_else-none None = refl

module _ {A : Type 0} where
  pub length-entries_before : (es : List (Vec ℕ A × ℕ)) (older : ArityTable) → length (entries_before es older) ≡ length es + length older
  length-entries_before [] older = omega arith
  length-entries_before (e ∷ es) older = let h = length-entries_before es ((name_of_bytes e.0.items, e.1) ∷ older) in omega (arith, h)

  -- a new entry is the newest pair
  pub entries_before-append : (es : List (Vec ℕ A × ℕ)) (key : Vec ℕ A) (n : ℕ) (older : ArityTable) → entries_before (es ++ (key, n) ∷ []) older ≡ (name_of_bytes key.items, n) ∷ entries_before es older
  entries_before-append [] key n older = refl
  entries_before-append (e ∷ es) key n older = entries_before-append es key n ((name_of_bytes e.0.items, e.1) ∷ older)

  all_dropped : (es : List (Vec ℕ A × ℕ)) (older : ArityTable) → drop (length es) (entries_before es older) ≡ older
  all_dropped [] older = refl
  all_dropped (e ∷ es) older =
      let pair : Name × ℕ = (name_of_bytes e.0.items, e.1) in
      let n : suc (length es) ≡ length es + 1 = omega arith in
      ap (λ k. drop k (entries_before es (pair ∷ older))) n ∙ (sym (drop-drop 1 (length es) (entries_before es (pair ∷ older))) ∙ ap (drop 1) (all_dropped es (pair ∷ older)))

  -- the oldest entries have the oldest pairs
  pub entries_before-take : (es : List (Vec ℕ A × ℕ)) (n : ℕ) (older : ArityTable) → n ≤ length es → entries_before (take n es) older ≡ drop (length es - n) (entries_before es older)
  entries_before-take es zero older h = sym (ap (λ k. drop k (entries_before es older)) (let z : length es - 0 ≡ length es = omega arith in z) ∙ all_dropped es older)
  entries_before-take [] (suc n) older h = absurd (omega arith)
  entries_before-take (e ∷ es) (suc n) older h =
      let z : suc (length es) - suc n ≡ length es - n = omega arith in
      entries_before-take es n ((name_of_bytes e.0.items, e.1) ∷ older) (omega arith) ∙ ap (λ k. drop k (entries_before es ((name_of_bytes e.0.items, e.1) ∷ older))) (sym z)

  -- the pair at a place stands before the older ones
  pub entries_before-at : (es : List (Vec ℕ A × ℕ)) (i : ℕ) (e : Vec ℕ A × ℕ) → slice_get es i ≡ Some e → drop (length es - (i + 1)) (table_of es) ≡ (name_of_bytes e.0.items, e.1) ∷ drop (length es - i) (table_of es)
  entries_before-at es i e h =
      let l : i < length es = slice_get_within es i e h in
      sym (entries_before-take es (i + 1) [] (omega (arith, l)))
      ∙ (ap table_of (take_more es i e l ∙ ap (λ x. take i es ++ x ∷ []) (get_or_from_slice_get es i e e h))
      ∙ (entries_before-append (take i es) e.0 e.1 []
      ∙ ap (λ t. (name_of_bytes e.0.items, e.1) ∷ t) (entries_before-take es i [] (omega (arith, l)))))

  pub named-at : (es : List (Vec ℕ A × ℕ)) (i : ℕ) (e : Vec ℕ A × ℕ) → AreNamed es → slice_get es i ≡ Some e → is_name e.0.items ≡ true
  named-at [] i e h k = cc
  named-at (f ∷ es) zero e h k = cc
  named-at (f ∷ es) (suc i) e h k = named-at es i e h.1 k

  pub named-take : (es : List (Vec ℕ A × ℕ)) (n : ℕ) → AreNamed es → AreNamed (take n es)
  named-take es zero h = tt
  named-take [] (suc n) h = tt
  named-take (e ∷ es) (suc n) h = (h.0, named-take es n h.1)

  pub named-append : (es : List (Vec ℕ A × ℕ)) (key : Vec ℕ A) (n : ℕ) → AreNamed es → is_name key.items ≡ true → AreNamed (es ++ (key, n) ∷ [])
  named-append [] key n h k = (k, tt)
  named-append (e ∷ es) key n h k = (h.0, named-append es key n h.1 k)

  not_found : (key : Vec ℕ A) (q : List ℕ) (es : List (Vec ℕ A × ℕ)) → q ≡ key.items → AllByRecursion (λ k. same_key key k ≡ false) (keys_of es) → lookup (λ k. pointwise nat_eq q k.items) es ≡ None
  not_found key q [] e h = refl
  not_found key q (f ∷ es) e h =
      let d : pointwise nat_eq q f.0.items ≡ false = subst (λ l. pointwise nat_eq l f.0.items ≡ false) (sym e) h.0 in
      ap (λ b. cond b (Some f.1) (lookup (λ k. pointwise nat_eq q k.items) es)) d ∙ not_found key q es e h.1

  arity_of-entries : (q : List ℕ) (es : List (Vec ℕ A × ℕ)) (older : ArityTable) → is_name q ≡ true → AreNamed es → IsDistinct same_key (keys_of es)
      → arity_of (entries_before es older) (name_of_bytes q) ≡ or_else (lookup (λ k. pointwise nat_eq q k.items) es) (arity_of older (name_of_bytes q))
  arity_of-entries q [] older h named d = refl
  arity_of-entries q (e ∷ es) older h named d =
      arity_of-entries q es ((name_of_bytes e.0.items, e.1) ∷ older) h named.1 (IsDistinct-tail same_key e.0 (keys_of es) d)
      ∙ (ap (λ b. or_else (lookup (λ k. pointwise nat_eq q k.items) es) (cond b (Some e.1) (arity_of older (name_of_bytes q)))) (same_name-bytes e.0.items q named.0 h)
      ∙ go (pointwise nat_eq q e.0.items) refl)
    where
      go : (b : Bool) → pointwise nat_eq q e.0.items ≡ b
          → or_else (lookup (λ k. pointwise nat_eq q k.items) es) (cond b (Some e.1) (arity_of older (name_of_bytes q))) ≡ or_else (cond b (Some e.1) (lookup (λ k. pointwise nat_eq q k.items) es)) (arity_of older (name_of_bytes q))
      go true t = ap (λ o. or_else o (Some e.1)) (not_found e.0 q es ((bytes_eq-Decides q e.0.items).0 t) (IsDistinct-head same_key e.0 (keys_of es) d))
      go false t = refl

  -- the table has the arity that the map has
  pub arity_of-table_of : (q : List ℕ) (es : List (Vec ℕ A × ℕ)) → is_name q ≡ true → AreNamed es → IsDistinct same_key (keys_of es) → arity_of (table_of es) (name_of_bytes q) ≡ lookup (λ k. pointwise nat_eq q k.items) es
  arity_of-table_of q es h named d = arity_of-entries q es [] h named d ∙ or_else-none (lookup (λ k. pointwise nat_eq q k.items) es)

  -- a key whose name has no arity yet is not in the map
  pub lookup-none : (key : Vec ℕ A) (q : List ℕ) (es : List (Vec ℕ A × ℕ)) → key.items ≡ q → is_name q ≡ true → AreNamed es → IsDistinct same_key (keys_of es) → arity_of (table_of es) (name_of_bytes q) ≡ None → lookup (same_key key) es ≡ None
  lookup-none key q es e h named d none = ap (λ b. lookup (λ k. pointwise nat_eq b k.items) es) e ∙ (sym (arity_of-table_of q es h named d) ∙ none)
