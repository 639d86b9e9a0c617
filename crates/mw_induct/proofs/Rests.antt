-- Conclusions one after another.
use Rattle.std.proofs.Common.{◌≡◌, ℕ, zero, suc, ◌+◌, ◌<◌, ◌≤◌, true, false, ◌&&◌, nat_eq, All, List, [], ◌∷◌, length, take, drop, ◌-◌, get_or, Option, Some, None, refl, sym, ap, ◌∙◌, subst, arith, zero-add}
use Rattle.std.proofs.Math.Dec.{eqb-zero-suc, eqb-suc-suc}
use Rattle.std.proofs.lemmas.List.{drop_more, drop_all, length-drop}
use Rattle.std.proofs.lemmas.Bool.{and_left, and_right, and_parts}
use Rattle.std.proofs.Math.Seq.{take-length}
use Rattle.mw_model.specs.Terms.Object.{Object, Natural, Symbol, Pair, NIL, same_object}
use Rattle.mw_heap.specs.Objects.{object_at, IsIn}
use Rattle.mw_model.specs.Laws.RulesInduction.{disjunction_object, steps_object, ordinal_object, all_falls_object, premises_object}
use Rattle.mw_subst.specs.Pairs.{is_list_of_pairs}
use Rattle.mw_induct.specs.Conclusions.{conclusions_object, Takes}
use Rattle.mw_induct.specs.Pairs.{are_lists_of_pairs, IsSubstitutionIn, AreSubstitutionsIn}

-- the parts of a pair, over the heap at the start
pub same_pair : (os now : List Object) (r a b : ℕ) → now ≡ os → IsIn now a × IsIn now b × (object_at now r ≡ Pair (object_at now a) (object_at now b)) → IsIn os a × IsIn os b × (object_at os r ≡ Pair (object_at os a) (object_at os b))
same_pair os now r a b same shown = subst (λ h. IsIn h a × IsIn h b × (object_at h r ≡ Pair (object_at h a) (object_at h b))) same shown

-- the next substitution, and those after it
pub next_substitution : (os now : List Object) (ss s more : ℕ) → now ≡ os → AreSubstitutionsIn os ss → IsIn now s × IsIn now more × (object_at now ss ≡ Pair (object_at now s) (object_at now more)) → IsSubstitutionIn os s × AreSubstitutionsIn os more × (object_at os ss ≡ Pair (object_at os s) (object_at os more))
next_substitution os now ss s more same are shown =
    let m = same_pair os now ss s more same shown in
    let pairs = and_parts (is_list_of_pairs (object_at os s)) (are_lists_of_pairs (object_at os more)) (ap are_lists_of_pairs (sym m.2) ∙ are.1) in
    ((m.0, pairs.0), (m.1, pairs.1), m.2)

-- the next conclusion, and what follows it
pub next_conclusion : (os : List Object) (xs : List ℕ) (i x : ℕ) → i < length xs → x ≡ get_or xs i x → conclusions_object os (drop i xs) ≡ Pair (object_at os x) (conclusions_object os (drop (i + 1) xs))
next_conclusion os xs i x h e = ap (conclusions_object os) (drop_more xs i x h) ∙ ap (λ y. Pair (object_at os y) (conclusions_object os (drop (i + 1) xs))) (sym e)

pub conclusion_within : (os now : List Object) (xs : List ℕ) (i x : ℕ) → now ≡ os → All (IsIn os) xs → i < length xs → x ≡ get_or xs i x → IsIn now x
conclusion_within os now xs i x same all l is = subst (λ h. IsIn h x) (sym same) (subst (IsIn os) (sym is) (all i x l))

pub no_conclusion : (os : List Object) (xs : List ℕ) (i : ℕ) → length xs ≤ i → conclusions_object os (drop i xs) ≡ NIL
no_conclusion os xs i h = ap (conclusions_object os) (drop_all i xs h)

pub All-drop : (P : ℕ → Type 0) (n : ℕ) (xs : List ℕ) → All P xs → All P (drop n xs)
All-drop P zero xs h = h
All-drop P (suc n) [] h = h
All-drop P (suc n) (x ∷ xs) h = All-drop P n xs (λ k d l. h (suc k) d (omega arith))

-- no conclusion is left exactly where as many were taken
pub all_taken : (os : List Object) (xs : List ℕ) (i : ℕ) → i ≤ length xs → nat_eq i (length xs) ≡ same_object (conclusions_object os (drop i xs)) NIL
all_taken os [] zero h = refl
all_taken os [] (suc i) h = absurd (omega arith)
all_taken os (x ∷ xs) zero h = eqb-zero-suc (length xs)
all_taken os (x ∷ xs) (suc i) h = eqb-suc-suc i (length xs) ∙ all_taken os xs i (omega arith)

pub drop_after : (n m : ℕ) (xs : List ℕ) → drop m (drop n xs) ≡ drop (n + m) xs
drop_after zero m xs = ap (λ k. drop k xs) (sym (zero-add m))
drop_after (suc n) m [] = drop_all m [] (omega arith) ∙ sym (drop_all (suc n + m) [] (omega arith))
drop_after (suc n) m (x ∷ xs) =
    let e : suc (n + m) ≡ suc n + m = omega arith in
    drop_after n m xs ∙ ap (λ k. drop k (x ∷ xs)) e

-- what a count of taken conclusions says
pub takes_none : (premises : Object → Object) (os : List Object) (xs : List ℕ) (o : Option ℕ) → o ≡ None → Takes premises os xs o → Takes premises os xs None
takes_none premises os xs o e t = subst (Takes premises os xs) e t

pub takes_some : (premises : Object → Object) (os : List Object) (xs : List ℕ) (o : Option ℕ) (n : ℕ) → o ≡ Some n → Takes premises os xs o → Takes premises os xs (Some n)
takes_some premises os xs o n e t = subst (Takes premises os xs) e t

pub some_conclusion : (xs : List ℕ) → nat_eq (length xs) 0 ≡ false → 0 < length xs
some_conclusion [] h = cc
some_conclusion (x ∷ xs) h = omega arith

-- a slice from n on
pub slice_from : (n : ℕ) (xs : List ℕ) → take (length xs - n) (drop n xs) ≡ drop n xs
slice_from n xs = ap (λ k. take k (drop n xs)) (sym (length-drop n xs)) ∙ take-length (drop n xs)

pub All-from : (P : ℕ → Type 0) (n : ℕ) (xs : List ℕ) → All P xs → All P (take (length xs - n) (drop n xs))
All-from P n xs h = subst (All P) (sym (slice_from n xs)) (All-drop P n xs h)

pub Takes-from : (premises : Object → Object) (os : List Object) (n : ℕ) (xs : List ℕ) (o : Option ℕ) → Takes premises os (take (length xs - n) (drop n xs)) o → Takes premises os (drop n xs) o
Takes-from premises os n xs o t = subst (λ l. Takes premises os l o) (slice_from n xs) t

-- the first conclusion and those after it, compared with a premise and those after it
module _ (os : List Object) (xs : List ℕ) (x : ℕ) (some : false ≡ nat_eq (length xs) 0) (is : x ≡ get_or xs 0 x) (p ps : Object) where
  pub first_fits : true ≡ same_object (object_at os x) p → same_object (conclusions_object os (take (length xs - 1) (drop 1 xs))) ps ≡ same_object (conclusions_object os xs) (Pair p ps)
  first_fits e =
      ap (λ l. same_object (conclusions_object os l) ps) (slice_from 1 xs)
      ∙ (ap (λ b. b && same_object (conclusions_object os (drop 1 xs)) ps) e ∙ ap (λ y. same_object y (Pair p ps)) (sym (next_conclusion os xs 0 x (some_conclusion xs (sym some)) is)))

  pub first_fits_not : false ≡ same_object (object_at os x) p → false ≡ same_object (conclusions_object os xs) (Pair p ps)
  first_fits_not e =
      ap (λ b. b && same_object (conclusions_object os (drop 1 xs)) ps) e ∙ ap (λ y. same_object y (Pair p ps)) (sym (next_conclusion os xs 0 x (some_conclusion xs (sym some)) is))

-- there are two premises or more
steps_some : (a q s m r : Object) → same_object NIL (steps_object a q s (Pair m r)) ≡ false
steps_some a (Natural n) s m r = refl
steps_some a (Symbol n) s m r = refl
steps_some a (Pair q qs) s m r = refl

pub few_premises : (os : List Object) (xs : List ℕ) → length xs < 2 → (a m q s : Object) → same_object (conclusions_object os xs) (premises_object a m q s) ≡ false
few_premises os [] l a m q s = refl
few_premises os (x ∷ []) l a m q s = and_right (same_object (object_at os x) (disjunction_object (Pair a q))) _ (steps_some a q s (ordinal_object m) (all_falls_object m q s))
few_premises os (x ∷ y ∷ xs) l a m q s = absurd (omega arith)

pub other_premises : (os : List Object) (xs : List ℕ) (x : ℕ) (a : Object) → 2 ≤ length xs → x ≡ get_or xs 0 x → ((q : Object) → same_object (object_at os x) (disjunction_object (Pair a q)) ≡ false) → (m q s : Object) → same_object (conclusions_object os xs) (premises_object a m q s) ≡ false
other_premises os [] x a l e h m q s = absurd (omega arith)
other_premises os (y ∷ xs) x a l e h m q s =
    and_left (same_object (object_at os y) (disjunction_object (Pair a q))) (same_object (conclusions_object os xs) (steps_object a q s (Pair (ordinal_object m) (all_falls_object m q s))))
    (ap (λ z. same_object (object_at os z) (disjunction_object (Pair a q))) (sym e) ∙ h q)
