-- The order of objects is irreflexive and transitive: how a pair is below a pair, by the place where they differ.
use Rattle.std.proofs.Common.{◌≡◌, ◌≢◌, ℕ, ◌<◌, true, false, refl, sym, ◌∙◌, subst, ◌⊎◌, inl, inr, arith, ltb-true, lt-ltb, lt_irrefl}
use Rattle.std.proofs.lemmas.Bool.{true≢false}
use Rattle.mw_model.specs.Terms.Object.{Name, Object, Natural, Symbol, Pair, same_object, car, cdr}
use Rattle.mw_model.specs.Values.Primitive.{number}
use Rattle.mw_model.specs.Laws.Ordinal.{is_atom_below}
use Rattle.mw_model.proofs.Names.{object_cases}
use Rattle.mw_descent.specs.Descending.{Below}
use Rattle.mw_descent.proofs.Ordinals.{exponents_compare, coefficients_compare, rests_compare, pair_below_atom}

-- how a pair is below a pair
pub data PairBelow (p r q s : Object) : Type 0 where
  by_exponent : car p ≢ car q → Below (car p) (car q) → PairBelow p r q s
  by_coefficient : car p ≡ car q → cdr p ≢ cdr q → number (cdr p) < number (cdr q) → PairBelow p r q s
  by_rest : car p ≡ car q → cdr p ≡ cdr q → Below r s → PairBelow p r q s

pub PairBelow-from : (p r q s : Object) → Below (Pair p r) (Pair q s) → PairBelow p r q s
PairBelow-from p r q s h = go (object_cases (car p) (car q)) (object_cases (cdr p) (cdr q))
  where
    go : ((same_object (car p) (car q) ≡ true) × (car p ≡ car q)) ⊎ ((same_object (car p) (car q) ≡ false) × (car p ≢ car q)) → ((same_object (cdr p) (cdr q) ≡ true) × (cdr p ≡ cdr q)) ⊎ ((same_object (cdr p) (cdr q) ≡ false) × (cdr p ≢ cdr q)) → PairBelow p r q s
    go (inr d) c = by_exponent d.1 (sym (exponents_compare p r q s d.1) ∙ h)
    go (inl e) (inr d) = by_coefficient e.1 d.1 (ltb-true _ _ (sym (coefficients_compare p r q s e.1 d.1) ∙ h))
    go (inl e) (inl c) = by_rest e.1 c.1 (sym (rests_compare p r q s e.1 c.1) ∙ h)

pub Below-pairs : (p r q s : Object) → PairBelow p r q s → Below (Pair p r) (Pair q s)
Below-pairs p r q s (by_exponent n l) = exponents_compare p r q s n ∙ l
Below-pairs p r q s (by_coefficient e n l) = coefficients_compare p r q s e n ∙ lt-ltb _ _ l
Below-pairs p r q s (by_rest e c l) = rests_compare p r q s e c ∙ l

-- a pair is below no non-pair
pub not_below_natural : (p r : Object) (n : ℕ) → Below (Pair p r) (Natural n) → ⊥
not_below_natural p r n h = true≢false (sym h ∙ pair_below_atom p r (Natural n) refl)

pub not_below_symbol : (p r : Object) (x : Name) → Below (Pair p r) (Symbol x) → ⊥
not_below_symbol p r x h = true≢false (sym h ∙ pair_below_atom p r (Symbol x) refl)

irreflexive_pair : (p r : Object) → (Below r r → ⊥) → PairBelow p r p r → ⊥
irreflexive_pair p r f (by_exponent n l) = n refl
irreflexive_pair p r f (by_coefficient e n l) = n refl
irreflexive_pair p r f (by_rest e g l) = f l

pub irreflexive : (x : Object) → Below x x → ⊥
irreflexive (Natural n) h = omega (arith, ltb-true n n h)
irreflexive (Symbol x) h = omega (arith, ltb-true 0 0 h)
irreflexive (Pair p r) h = irreflexive_pair p r (irreflexive r) (PairBelow-from p r p r h)

pub below_differ : (x y : Object) → Below x y → x ≢ y
below_differ x y h e = irreflexive y (subst (λ z. Below z y) e h)

transitive_atom : (n : ℕ) (y z : Object) → is_atom_below n y ≡ true → Below y z → is_atom_below n z ≡ true
transitive_atom n y (Pair u t) h k = refl
transitive_atom n (Natural a) (Natural b) h k = lt-ltb n b (omega (arith, ltb-true n a h, ltb-true a b k))
transitive_atom n (Natural a) (Symbol x) h k = lt-ltb n 0 (omega (arith, ltb-true n a h, ltb-true a 0 k))
transitive_atom n (Symbol x) (Natural b) h k = lt-ltb n b (omega (arith, ltb-true n 0 h))
transitive_atom n (Symbol x) (Symbol y) h k = h
transitive_atom n (Pair q s) (Natural b) h k = absurd (not_below_natural q s b k)
transitive_atom n (Pair q s) (Symbol x) h k = absurd (not_below_symbol q s x k)

abbrev TransitiveAt : Object → Type 0
TransitiveAt x = (y z : Object) → Below x y → Below y z → Below x z

lower_exponent : (p r u t : Object) → Below (car p) (car u) → PairBelow p r u t
lower_exponent p r u t h = by_exponent (below_differ _ _ h) h

transitive_pairs : (p r q s u t : Object) → TransitiveAt (car p) → TransitiveAt r → PairBelow p r q s → PairBelow q s u t → PairBelow p r u t
transitive_pairs p r q s u t up_e up_r (by_exponent n l) (by_exponent m k) = lower_exponent p r u t (up_e (car q) (car u) l k)
transitive_pairs p r q s u t up_e up_r (by_exponent n l) (by_coefficient e m k) = lower_exponent p r u t (subst (λ z. Below (car p) z) e l)
transitive_pairs p r q s u t up_e up_r (by_exponent n l) (by_rest e f k) = lower_exponent p r u t (subst (λ z. Below (car p) z) e l)
transitive_pairs p r q s u t up_e up_r (by_coefficient e n l) (by_exponent m k) = lower_exponent p r u t (subst (λ z. Below z (car u)) (sym e) k)
transitive_pairs p r q s u t up_e up_r (by_coefficient e n l) (by_coefficient f m k) =
    let h : number (cdr p) < number (cdr u) = omega arith in
    by_coefficient (e ∙ f) (λ g. lt_irrefl _ (subst (λ z. number (cdr p) < number z) (sym g) h)) h
transitive_pairs p r q s u t up_e up_r (by_coefficient e n l) (by_rest f g k) = by_coefficient (e ∙ f) (λ a. n (a ∙ sym g)) (subst (λ z. number (cdr p) < number z) g l)
transitive_pairs p r q s u t up_e up_r (by_rest e f l) (by_exponent m k) = lower_exponent p r u t (subst (λ z. Below z (car u)) (sym e) k)
transitive_pairs p r q s u t up_e up_r (by_rest e f l) (by_coefficient g m k) = by_coefficient (e ∙ g) (λ a. m (sym f ∙ a)) (subst (λ z. number z < number (cdr u)) (sym f) k)
transitive_pairs p r q s u t up_e up_r (by_rest e f l) (by_rest g a k) = by_rest (e ∙ g) (f ∙ a) (up_r s t l k)

transitive_pair : (p r y z : Object) → TransitiveAt (car p) → TransitiveAt r → Below (Pair p r) y → Below y z → Below (Pair p r) z
transitive_pair p r (Natural n) z up_e up_r h k = absurd (not_below_natural p r n h)
transitive_pair p r (Symbol x) z up_e up_r h k = absurd (not_below_symbol p r x h)
transitive_pair p r (Pair q s) (Natural n) up_e up_r h k = absurd (not_below_natural q s n k)
transitive_pair p r (Pair q s) (Symbol x) up_e up_r h k = absurd (not_below_symbol q s x k)
transitive_pair p r (Pair q s) (Pair u t) up_e up_r h k =
    Below-pairs p r u t (transitive_pairs p r q s u t up_e up_r (PairBelow-from p r q s h) (PairBelow-from q s u t k))

pub transitive : (x y z : Object) → Below x y → Below y z → Below x z
transitive (Natural a) y z h k = transitive_atom a y z h k
transitive (Symbol a) y z h k = transitive_atom 0 y z h k
transitive (Pair (Natural n) r) y z h k = transitive_pair (Natural n) r y z (λ u v. transitive_atom 0 u v) (λ u v. transitive r u v) h k
transitive (Pair (Symbol n) r) y z h k = transitive_pair (Symbol n) r y z (λ u v. transitive_atom 0 u v) (λ u v. transitive r u v) h k
transitive (Pair (Pair e c) r) y z h k = transitive_pair (Pair e c) r y z (λ u v. transitive e u v) (λ u v. transitive r u v) h k
