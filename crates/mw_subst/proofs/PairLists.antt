-- A substitution's object, by its pairs before a tail.
use Rattle.std.proofs.Common.{◌≡◌, ℕ, true, false, sym, List, [], ◌∷◌, ◌++◌, refl, ap}
use Rattle.std.proofs.lemmas.Bool.{and_parts}
use Rattle.mw_model.specs.Terms.Object.{Object, Natural, Symbol, Pair, NIL}
use Rattle.mw_model.specs.Values.Primitive.{is_pair}
use Rattle.mw_model.specs.Terms.Term.{ArityTable}
use Rattle.mw_model.specs.Laws.Rules.{is_substitution_object, is_variable_object, is_term_object}
use Rattle.mw_model.proofs.ReadBack.{nil_is}
use Rattle.mw_heap.specs.Objects.{object_at, IsIn}
use Rattle.mw_subst.specs.Sigma.{sigma_object, AreIn}
use Rattle.mw_subst.specs.Pairs.{is_list_of_pairs}

-- the pairs, before a tail
abbrev pub pairs_before : List Object → List (ℕ × ℕ) → Object → Object
pairs_before os [] tail = tail
pairs_before os (p ∷ s) tail = Pair (Pair (object_at os p.0) (object_at os p.1)) (pairs_before os s tail)

pub pairs_before-push : (os : List Object) (s : List (ℕ × ℕ)) (p : ℕ × ℕ) (tail : Object) → pairs_before os (s ++ p ∷ []) tail ≡ pairs_before os s (Pair (Pair (object_at os p.0) (object_at os p.1)) tail)
pairs_before-push os [] p tail = refl
pairs_before-push os (q ∷ s) p tail = ap (Pair (Pair (object_at os q.0) (object_at os q.1))) (pairs_before-push os s p tail)

pub sigma_object-before : (os : List Object) (s : List (ℕ × ℕ)) → pairs_before os s NIL ≡ sigma_object os s
sigma_object-before os [] = refl
sigma_object-before os (q ∷ s) = ap (Pair (Pair (object_at os q.0) (object_at os q.1))) (sigma_object-before os s)

pub AreIn-push : (os : List Object) (s : List (ℕ × ℕ)) (p : ℕ × ℕ) → AreIn os s → IsIn os p.0 → IsIn os p.1 → AreIn os (s ++ p ∷ [])
AreIn-push os [] p h i j = (i, j, tt)
AreIn-push os (q ∷ s) p h i j = (h.0, h.1, AreIn-push os s p h.2 i j)

-- a substitution is a proper list of pairs
pub substitution_pairs : (A : ArityTable) (x : Object) → is_substitution_object A x ≡ true → is_list_of_pairs x ≡ true
substitution_pairs A (Natural n) h = cc
substitution_pairs A (Symbol n) h = h
substitution_pairs A (Pair (Natural n) r) h = cc
substitution_pairs A (Pair (Symbol n) r) h = cc
substitution_pairs A (Pair (Pair a b) r) h =
    substitution_pairs A r (and_parts (is_term_object A b) (is_substitution_object A r) (and_parts (is_variable_object a) _ h).1).1

pub pairs_end : (x : Object) → is_list_of_pairs x ≡ true → is_pair x ≡ false → x ≡ NIL
pairs_end (Natural n) h e = cc
pairs_end (Symbol n) h e = sym (nil_is n h)
pairs_end (Pair a b) h e = cc
