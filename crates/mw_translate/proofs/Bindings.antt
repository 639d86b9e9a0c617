-- Bindings that were read from a list of names and a list of values, and those that are left.
use Rattle.std.proofs.Common.{◌≡◌, ℕ, true, false, List, [], ◌∷◌, ◌++◌, refl, sym, ap, ◌∙◌, subst}
use Rattle.std.proofs.lemmas.List.{append-nil}
use Rattle.mw_model.specs.Terms.Object.{Name, Object, Symbol, Pair}
use Rattle.mw_model.specs.Values.Primitive.{is_pair}
use Rattle.mw_model.specs.Terms.Term.{Term, names_object, term_object, terms_object}
use Rattle.mw_model.specs.Events.Expansion.{bound_names}
use Rattle.mw_heap.specs.Objects.{object_at}
use Rattle.mw_translate.specs.declared.shape.Two.{Two}
use Rattle.mw_translate.specs.Lets.{AreBindings}
use Rattle.mw_translate.specs.Meaning.{values_of}

abbrev pub two_of : ℕ → ℕ → Two
two_of a b = record { first = a; second = b }

pub record AreSplit (os : List Object) (read : List Two) (names values : Object) (ps : List (Name × Term)) : Type 0 where
  pub before : List (Name × Term)
  pub left : List (Name × Term)
  pub split : ps ≡ before ++ left
  pub are : AreBindings os read before
  pub names_left : names ≡ names_object (bound_names left)
  pub values_left : values ≡ terms_object (values_of left)

bindings-more : (os : List Object) (rs : List Two) (r : Two) (ps : List (Name × Term)) (p : Name × Term) → AreBindings os rs ps → object_at os r.first ≡ Symbol p.0 → object_at os r.second ≡ term_object p.1 → AreBindings os (rs ++ r ∷ []) (ps ++ p ∷ [])
bindings-more os [] r [] p h e f = ((e, f), tt)
bindings-more os [] r (q ∷ ps) p h e f = absurd h
bindings-more os (s ∷ rs) r [] p h e f = absurd h
bindings-more os (s ∷ rs) r (q ∷ ps) p h e f = (h.0, bindings-more os rs r ps p h.1 e f)

append-one : (xs : List (Name × Term)) (p : Name × Term) (ys : List (Name × Term)) → xs ++ p ∷ ys ≡ (xs ++ p ∷ []) ++ ys
append-one [] p ys = refl
append-one (x ∷ xs) p ys = ap (λ l. x ∷ l) (append-one xs p ys)

module _ (os : List Object) (read : List Two) (ps : List (Name × Term)) where
  pub split-more : (r : Two) (others more : Object) → AreSplit os read (Pair (object_at os r.first) others) (Pair (object_at os r.second) more) ps → AreSplit os (read ++ r ∷ []) others more ps
  split-more r others more h = go h.left h.split h.names_left h.values_left
    where
      go : (left : List (Name × Term)) → ps ≡ h.before ++ left → Pair (object_at os r.first) others ≡ names_object (bound_names left) → Pair (object_at os r.second) more ≡ terms_object (values_of left) → AreSplit os (read ++ r ∷ []) others more ps
      go [] s n v = cc
      go (p ∷ left) s n v =
          let name : object_at os r.first ≡ Symbol p.0 = cc in
          let value : object_at os r.second ≡ term_object p.1 = cc in
          record { before = h.before ++ p ∷ []; left = left; split = s ∙ append-one h.before p left; are = bindings-more os read r h.before p h.are name value; names_left = cc; values_left = cc }

  -- where the names or the values end there is nothing left
  pub split-end : (names values : Object) → is_pair names ≡ false → AreSplit os read names values ps → AreBindings os read ps
  split-end names values e h = go h.left h.split h.names_left
    where
      go : (left : List (Name × Term)) → ps ≡ h.before ++ left → names ≡ names_object (bound_names left) → AreBindings os read ps
      go [] s n = subst (AreBindings os read) (sym (s ∙ append-nil h.before)) h.are
      go (p ∷ left) s n = let z : is_pair names ≡ true = ap is_pair n in cc

  pub split-end-values : (names values : Object) → is_pair values ≡ false → AreSplit os read names values ps → AreBindings os read ps
  split-end-values names values e h = go h.left h.split h.values_left
    where
      go : (left : List (Name × Term)) → ps ≡ h.before ++ left → values ≡ terms_object (values_of left) → AreBindings os read ps
      go [] s n = subst (AreBindings os read) (sym (s ∙ append-nil h.before)) h.are
      go (p ∷ left) s n = let z : is_pair values ≡ true = ap is_pair n in cc
