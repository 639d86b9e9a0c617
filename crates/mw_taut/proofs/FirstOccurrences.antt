-- The first occurrences in a list of formulas, and the equations of a formula.
use Rattle.std.proofs.Common.{◌≡◌, Bool, true, false, ◌||◌, not, cond, filter, List, [], ◌∷◌, ◌++◌, refl, ap, ◌∙◌, subst, append_assoc}
use Rattle.std.proofs.lemmas.Bool.{and_parts}
use Rattle.mw_model.specs.Terms.Term.{Formula, Equal, Not, Or, firsts, ArityTable, is_formula}
use Rattle.mw_model.specs.Terms.Same.{same_formula}
use Rattle.mw_model.specs.Values.Truth.{Each}
use Rattle.mw_model.proofs.SameTerms.{same_formula-eq, same_formula-refl}
use Rattle.mw_commands.specs.Commands.Tautology.{all_equations}
use Rattle.mw_term.proofs.Gathered.{IsListing}
use Rattle.mw_taut.specs.Meaning.{IsEquation, AreApart, among}

-- the formulas of a list
pub formulas : IsListing same_formula among
formulas = record { equal = same_formula-eq; itself = same_formula-refl; on_none = λ x. refl; on_more = λ x y ys. refl }

each_filter : {X : Type 0} (P : X → Type 0) (p : X → Bool) (xs : List X) → Each P xs → Each P (filter p xs)
each_filter P p [] h = tt
each_filter P p (x ∷ xs) h = go (p x) (each_filter P p xs h.1)
  where
    go : (b : Bool) → Each P (filter p xs) → Each P (cond b (x ∷ filter p xs) (filter p xs))
    go true rest = (h.0, rest)
    go false rest = rest

pub each_first : (P : Formula → Type 0) (xs : List Formula) → Each P xs → Each P (firsts same_formula xs)
each_first P [] h = tt
each_first P (x ∷ xs) h = (h.0, each_filter P (λ y. not (same_formula x y)) (firsts same_formula xs) (each_first P xs h.1))

each_apart : (x : Formula) (xs : List Formula) → Each (λ y. same_formula x y ≡ false) (filter (λ y. not (same_formula x y)) xs)
each_apart x [] = tt
each_apart x (y ∷ ys) = go (same_formula x y) refl (each_apart x ys)
  where
    go : (b : Bool) → same_formula x y ≡ b → Each (λ z. same_formula x z ≡ false) (filter (λ z. not (same_formula x z)) ys) → Each (λ z. same_formula x z ≡ false) (cond (not b) (y ∷ filter (λ z. not (same_formula x z)) ys) (filter (λ z. not (same_formula x z)) ys))
    go true e rest = rest
    go false e rest = (e, rest)

filter_apart : (p : Formula → Bool) (xs : List Formula) → AreApart xs → AreApart (filter p xs)
filter_apart p [] h = tt
filter_apart p (x ∷ xs) h = go (p x) (filter_apart p xs h.1)
  where
    go : (b : Bool) → AreApart (filter p xs) → AreApart (cond b (x ∷ filter p xs) (filter p xs))
    go true rest = (each_filter (λ y. same_formula x y ≡ false) p xs h.0, rest)
    go false rest = rest

pub firsts_apart : (xs : List Formula) → AreApart (firsts same_formula xs)
firsts_apart [] = tt
firsts_apart (x ∷ xs) = (each_apart x (firsts same_formula xs), filter_apart (λ y. not (same_formula x y)) (firsts same_formula xs) (firsts_apart xs))

-- the equations of a formula
pub each_append : (P : Formula → Type 0) (xs ys : List Formula) → Each P xs → Each P ys → Each P (xs ++ ys)
each_append P [] ys h k = k
each_append P (x ∷ xs) ys h k = (h.0, each_append P xs ys h.1 k)

pub are_equations : (F : Formula) → Each IsEquation (all_equations F)
are_equations (Equal a b) = (tt, tt)
are_equations (Not F) = are_equations F
are_equations (Or F G) = each_append IsEquation (all_equations F) (all_equations G) (are_equations F) (are_equations G)

pub equations_formed : (A : ArityTable) (F : Formula) → is_formula A F ≡ true → Each (λ E. is_formula A E ≡ true) (all_equations F)
equations_formed A (Equal a b) h = (h, tt)
equations_formed A (Not F) h = equations_formed A F h
equations_formed A (Or F G) h =
    let both = and_parts (is_formula A F) (is_formula A G) h in
    each_append (λ E. is_formula A E ≡ true) (all_equations F) (all_equations G) (equations_formed A F both.0) (equations_formed A G both.1)

-- what holds of the first of equal ones holds of each
module _ (P : Formula → Type 0) where
  of_filtered : (E : Formula) (Fs : List Formula) → P E → Each P (filter (λ y. not (same_formula E y)) Fs) → Each P Fs
  of_filtered E [] p h = tt
  of_filtered E (F ∷ Fs) p h = go (same_formula E F) refl h (of_filtered E Fs p)
    where
      go : (b : Bool) → same_formula E F ≡ b → Each P (cond (not b) (F ∷ filter (λ y. not (same_formula E y)) Fs) (filter (λ y. not (same_formula E y)) Fs)) → (Each P (filter (λ y. not (same_formula E y)) Fs) → Each P Fs) → P F × Each P Fs
      go true e k ih = (subst P (same_formula-eq E F e) p, ih k)
      go false e k ih = (k.0, ih k.1)

  pub of_first : (Fs : List Formula) → Each P (firsts same_formula Fs) → Each P Fs
  of_first [] h = tt
  of_first (F ∷ Fs) h = (h.0, of_first Fs (of_filtered F (firsts same_formula Fs) h.0 h.1))

-- ---- what is on a list

or_true : (b : Bool) → (b || true) ≡ true
or_true true = refl
or_true false = refl

in_the_middle : (before : List Formula) (E : Formula) (after : List Formula) → among E (before ++ E ∷ after) ≡ true
in_the_middle [] E after = ap (λ b. b || among E after) (same_formula-refl E)
in_the_middle (G ∷ before) E after = ap (λ b. same_formula E G || b) (in_the_middle before E after) ∙ or_true (same_formula E G)

pub all_among : (before after : List Formula) → Each (λ E. among E (before ++ after) ≡ true) after
all_among before [] = tt
all_among before (E ∷ after) = (in_the_middle before E after, subst (λ l. Each (λ G. among G l ≡ true) after) (append_assoc before (E ∷ []) after) (all_among (before ++ E ∷ []) after))
