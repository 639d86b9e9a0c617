-- The built-in ORD< and ORDP have the values of the order and of the test for ordinals.
use Rattle.std.proofs.Common.{◌≡◌, Bool, true, false, cond, ◌&&◌, not, ltb, List, [], ◌∷◌, refl, sym, ap, ap₂, ◌∙◌, subst, ◌↔◌}
use Rattle.std.proofs.lemmas.Bool.{true≢false}
use Rattle.mw_model.specs.Terms.Object.{Name, Object, Natural, Symbol, Pair, same_object, named, NIL, T, truth_of, car, cdr}
use Rattle.mw_model.specs.Terms.Term.{is_among}
use Rattle.mw_model.specs.Values.Primitive.{Profile, number, is_pair, is_natural, choose}
use Rattle.mw_model.specs.Values.Definition.{Block, are_blocks}
use Rattle.mw_model.specs.Values.Value.{block_calls}
use Rattle.mw_model.specs.BuiltIns.BuiltIn.{built_in}
use Rattle.mw_model.specs.Events.Theory.{BeginsWith}
use Rattle.mw_model.specs.Laws.Ordinal.{is_below, leads_below, is_ordinal}
use Rattle.mw_model.proofs.BuiltInAnswers.{built_in_functions, built_in_value, answer, answer-body}
use Rattle.mw_model.proofs.BuiltInValue.{names}
use Rattle.mw_model.proofs.BuiltInTotal.{begun_value, begun_value-only}
use Rattle.mw_descent.proofs.Ordinals.{pairs_compare, pair_below_atom}

choose-truth : (a b c : Bool) → choose (truth_of a) (truth_of b) (truth_of c) ≡ truth_of (cond a b c)
choose-truth true b c = refl
choose-truth false b c = refl

choose-not : (a : Bool) → choose (truth_of a) NIL T ≡ truth_of (not a)
choose-not true = refl
choose-not false = refl

choose-and : (a b : Bool) → choose (truth_of a) (truth_of b) NIL ≡ truth_of (a && b)
choose-and true b = refl
choose-and false b = refl

module _ (P : Profile) where
  abbrev less : Object → Object → Object
  less x y = answer P "ORD<" (x ∷ y ∷ [])

  less_pairs : (p r q s : Object) → less (car p) (car q) ≡ truth_of (is_below (car p) (car q)) → less r s ≡ truth_of (is_below r s) → less (Pair p r) (Pair q s) ≡ truth_of (is_below (Pair p r) (Pair q s))
  less_pairs p r q s h k =
      answer-body P "ORD<" (Pair p r ∷ Pair q s ∷ [])
      ∙ (ap₂ (λ e t. choose (truth_of (same_object (car p) (car q))) (choose (truth_of (same_object (cdr p) (cdr q))) t (truth_of (ltb (number (cdr p)) (number (cdr q))))) e) h k
      ∙ (ap (λ t. choose (truth_of (same_object (car p) (car q))) t (truth_of (is_below (car p) (car q)))) (choose-truth (same_object (cdr p) (cdr q)) (is_below r s) (ltb (number (cdr p)) (number (cdr q))))
      ∙ (choose-truth (same_object (car p) (car q)) (cond (same_object (cdr p) (cdr q)) (is_below r s) (ltb (number (cdr p)) (number (cdr q)))) (is_below (car p) (car q))
      ∙ ap truth_of (sym (pairs_compare p r q s)))))

  less_atom : (x y : Object) → is_pair x ≡ false → less x y ≡ truth_of (is_below x y)
  less_atom (Natural n) (Natural m) h = answer-body P "ORD<" (Natural n ∷ Natural m ∷ [])
  less_atom (Natural n) (Symbol y) h = answer-body P "ORD<" (Natural n ∷ Symbol y ∷ [])
  less_atom (Natural n) (Pair q s) h = answer-body P "ORD<" (Natural n ∷ Pair q s ∷ [])
  less_atom (Symbol x) (Natural m) h = answer-body P "ORD<" (Symbol x ∷ Natural m ∷ [])
  less_atom (Symbol x) (Symbol y) h = answer-body P "ORD<" (Symbol x ∷ Symbol y ∷ [])
  less_atom (Symbol x) (Pair q s) h = answer-body P "ORD<" (Symbol x ∷ Pair q s ∷ [])
  less_atom (Pair p r) y h = absurd (true≢false h)

  pub less-is_below : (x y : Object) → less x y ≡ truth_of (is_below x y)
  less-is_below (Natural n) y = less_atom (Natural n) y refl
  less-is_below (Symbol x) y = less_atom (Symbol x) y refl
  less-is_below (Pair p r) (Natural m) = answer-body P "ORD<" (Pair p r ∷ Natural m ∷ []) ∙ ap truth_of (sym (pair_below_atom p r (Natural m) refl))
  less-is_below (Pair p r) (Symbol y) = answer-body P "ORD<" (Pair p r ∷ Symbol y ∷ []) ∙ ap truth_of (sym (pair_below_atom p r (Symbol y) refl))
  less-is_below (Pair (Natural n) r) (Pair q s) = less_pairs (Natural n) r q s (less_atom NIL (car q) refl) (less-is_below r s)
  less-is_below (Pair (Symbol x) r) (Pair q s) = less_pairs (Symbol x) r q s (less_atom NIL (car q) refl) (less-is_below r s)
  less-is_below (Pair (Pair e c) r) (Pair q s) = less_pairs (Pair e c) r q s (less-is_below e (car q)) (less-is_below r s)

  abbrev ord : Object → Object
  ord x = answer P "ORDP" (x ∷ [])

  leads : (r e : Object) → choose (truth_of (is_pair r)) (less (car (car r)) e) T ≡ truth_of (leads_below r e)
  leads (Natural n) e = refl
  leads (Symbol x) e = refl
  leads (Pair q s) e = less-is_below (car q) e

  -- a chain of AND
  both : {u v : Object} (a b : Bool) → u ≡ truth_of a → v ≡ truth_of b → choose u v NIL ≡ truth_of (a && b)
  both a b h k = ap₂ (λ u v. choose u v NIL) h k ∙ choose-and a b

  pub ord-is_ordinal : (x : Object) → ord x ≡ truth_of (is_ordinal x)
  ord-is_ordinal (Natural n) = answer-body P "ORDP" (Natural n ∷ [])
  ord-is_ordinal (Symbol x) = answer-body P "ORDP" (Symbol x ∷ [])
  ord-is_ordinal (Pair (Natural n) r) = answer-body P "ORDP" (Pair (Natural n) r ∷ [])
  ord-is_ordinal (Pair (Symbol x) r) = answer-body P "ORDP" (Pair (Symbol x) r ∷ [])
  ord-is_ordinal (Pair (Pair e c) r) =
      answer-body P "ORDP" (Pair (Pair e c) r ∷ [])
      ∙ both (is_ordinal e) _ (ord-is_ordinal e) (both (not (same_object e (Natural 0))) _ (choose-not (same_object e (Natural 0))) (both (is_natural c) _ refl (both (ltb 0 (number c)) _ refl (both (is_ordinal r) (leads_below r e) (ord-is_ordinal r) (leads r e)))))

-- under definitions that begin with the built-in ones
module _ (P : Profile) (D : List Block) (w : are_blocks P D ≡ true) (begun : BeginsWith (built_in P) D) where
  exact : (f : Name) → is_among f (names (built_in_functions P)) ≡ true → (vs : List Object) (u : Object) → built_in_value P f vs ≡ u → (v : Object) → block_calls P D f vs v ↔ (v ≡ u)
  exact f i vs u e v = (λ h. begun_value-only P D w begun f i vs v h ∙ e, λ q. subst (λ z. block_calls P D f vs z) (e ∙ sym q) (begun_value P D w begun f i vs))

  pub ord_less_exact : (x y v : Object) → block_calls P D (named "ORD<") (x ∷ y ∷ []) v ↔ (v ≡ truth_of (is_below x y))
  unfolding built_in_functions
  ord_less_exact x y v = exact (named "ORD<") refl (x ∷ y ∷ []) (truth_of (is_below x y)) (less-is_below P x y) v

  pub ordp_exact : (x v : Object) → block_calls P D (named "ORDP") (x ∷ []) v ↔ (v ≡ truth_of (is_ordinal x))
  unfolding built_in_functions
  ordp_exact x v = exact (named "ORDP") refl (x ∷ []) (truth_of (is_ordinal x)) (ord-is_ordinal P x) v

  -- no other value
  pub ord_less_value : (x y v : Object) → block_calls P D (named "ORD<") (x ∷ y ∷ []) v → v ≡ truth_of (is_below x y)
  ord_less_value x y v = (ord_less_exact x y v).0

  pub ordp_value : (x v : Object) → block_calls P D (named "ORDP") (x ∷ []) v → v ≡ truth_of (is_ordinal x)
  ordp_value x v = (ordp_exact x v).0
