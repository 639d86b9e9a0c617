-- The choices of a formula's equations decide whether it is a tautology, and the first that makes it false is found.
use Rattle.std.proofs.Common.{◌≡◌, Bool, true, false, ◌||◌, not, cond, List, [], ◌∷◌, ◌++◌, map, filter, Some, None, refl, sym, ap, ap₂, ◌∙◌, subst, ◌↔◌}
use Rattle.mw_model.specs.Terms.Term.{Formula, Equal, Not, Or, firsts}
use Rattle.mw_model.specs.Terms.Same.{same_formula}
use Rattle.mw_model.specs.Values.Truth.{Each}
use Rattle.mw_model.proofs.ReadBack.{some_one}
use Rattle.mw_model.proofs.SameTerms.{same_formula-eq, same_formula-refl}
use Rattle.mw_commands.specs.Commands.Tautology.{value_by, IsTautology, all_equations, equations, Choice, choosing, choices, chosen, value_under, first_against, falsifying}

-- ---- what holds of each member of a list

module _ {X : Type 0} (P : X → Type 0) where
  pub each_left : (xs ys : List X) → Each P (xs ++ ys) → Each P xs
  each_left [] ys h = tt
  each_left (x ∷ xs) ys h = (h.0, each_left xs ys h.1)

  each_right : (xs ys : List X) → Each P (xs ++ ys) → Each P ys
  each_right [] ys h = h
  each_right (x ∷ xs) ys h = each_right xs ys h.1

  each_both : (xs ys : List X) → Each P xs → Each P ys → Each P (xs ++ ys)
  each_both [] ys h k = k
  each_both (x ∷ xs) ys h k = (h.0, each_both xs ys h.1 k)

each_weaker : {X : Type 0} (P Q : X → Type 0) → ((x : X) → P x → Q x) → (xs : List X) → Each P xs → Each Q xs
each_weaker P Q f [] h = tt
each_weaker P Q f (x ∷ xs) h = (f x h.0, each_weaker P Q f xs h.1)

each_map : {X Y : Type 0} (P : Y → Type 0) (f : X → Y) (xs : List X) → Each P (map f xs) → Each (λ x. P (f x)) xs
each_map P f [] h = tt
each_map P f (x ∷ xs) h = (h.0, each_map P f xs h.1)

each_mapped : {X Y : Type 0} (P : Y → Type 0) (f : X → Y) (xs : List X) → Each (λ x. P (f x)) xs → Each P (map f xs)
each_mapped P f [] h = tt
each_mapped P f (x ∷ xs) h = (h.0, each_mapped P f xs h.1)

-- what holds of the first of equal ones holds of each
each_filtered : (P : Formula → Type 0) (E : Formula) (Fs : List Formula) → P E → Each P (filter (λ y. not (same_formula E y)) Fs) → Each P Fs
each_filtered P E [] p h = tt
each_filtered P E (F ∷ Fs) p h = go (same_formula E F) refl h (each_filtered P E Fs p)
  where
    go : (b : Bool) → same_formula E F ≡ b → Each P (cond (not b) (F ∷ filter (λ y. not (same_formula E y)) Fs) (filter (λ y. not (same_formula E y)) Fs)) → (Each P (filter (λ y. not (same_formula E y)) Fs) → Each P Fs) → P F × Each P Fs
    go true e k ih = (subst P (same_formula-eq E F e) p, ih k)
    go false e k ih = (k.0, ih k.1)

each_first : (P : Formula → Type 0) (Fs : List Formula) → Each P (firsts same_formula Fs) → Each P Fs
each_first P [] h = tt
each_first P (F ∷ Fs) h = (h.0, each_first P Fs (each_filtered P F (firsts same_formula Fs) h.0 h.1))

-- ---- the choice that a valuation makes

choice_of : (Formula → Bool) → List Formula → Choice
choice_of v Es = map (λ E. (E, v E)) Es

-- what holds of each choice holds of that one
module _ (v : Formula → Bool) where
  at_choice : (Es : List Formula) (P : Choice → Type 0) → Each P (choices Es) → P (choice_of v Es)
  unfolding choice_of
  at_choice [] P h = h.0
  at_choice (E ∷ Es) P h = go (λ b k. at_choice Es (λ c. P ((E, b) ∷ c)) (each_map P (λ c. (E, b) ∷ c) (choices Es) k)) (v E) refl
    where
      go : ((b : Bool) → Each P (choosing E b (choices Es)) → P ((E, b) ∷ choice_of v Es)) → (b : Bool) → v E ≡ b → P ((E, v E) ∷ choice_of v Es)
      go ends true e = subst (λ b. P ((E, b) ∷ choice_of v Es)) (sym e) (ends true (each_right P (choosing E false (choices Es)) (choosing E true (choices Es)) h))
      go ends false e = subst (λ b. P ((E, b) ∷ choice_of v Es)) (sym e) (ends false (each_left P (choosing E false (choices Es)) (choosing E true (choices Es)) h))

  chosen_as : (Es : List Formula) → Each (λ E. chosen (choice_of v Es) E ≡ v E) Es
  unfolding choice_of
  chosen_as [] = tt
  chosen_as (E ∷ Es) = (ap (λ b. cond b (v E) (chosen (choice_of v Es) E)) (same_formula-refl E), each_weaker (λ F. chosen (choice_of v Es) F ≡ v F) (λ F. chosen ((E, v E) ∷ choice_of v Es) F ≡ v F) later Es (chosen_as Es))
    where
      later : (F : Formula) → chosen (choice_of v Es) F ≡ v F → cond (same_formula E F) (v E) (chosen (choice_of v Es) F) ≡ v F
      later F h = go (same_formula E F) refl
        where
          go : (b : Bool) → same_formula E F ≡ b → cond b (v E) (chosen (choice_of v Es) F) ≡ v F
          go true e = ap v (same_formula-eq E F e)
          go false e = h

same_value : (v w : Formula → Bool) (F : Formula) → Each (λ E. w E ≡ v E) (all_equations F) → value_by w F ≡ value_by v F
same_value v w (Equal a b) h = h.0
same_value v w (Not F) h = ap not (same_value v w F h)
same_value v w (Or F G) h = ap₂ ◌||◌ (same_value v w F (each_left (λ E. w E ≡ v E) (all_equations F) (all_equations G) h)) (same_value v w G (each_right (λ E. w E ≡ v E) (all_equations F) (all_equations G) h))

value_as : (v : Formula → Bool) (F : Formula) → value_under (choice_of v (equations F)) F ≡ value_by v F
value_as v F = same_value v (chosen (choice_of v (equations F))) F (each_first (λ E. chosen (choice_of v (equations F)) E ≡ v E) (all_equations F) (chosen_as v (equations F)))

-- ---- the search

none_against : (cs : List Choice) (F : Formula) → first_against cs F ≡ None → Each (λ c. value_under c F ≡ true) cs
none_against [] F h = tt
none_against (c ∷ cs) F h = go (value_under c F) refl h (none_against cs F)
  where
    go : (b : Bool) → value_under c F ≡ b → cond b (first_against cs F) (Some c) ≡ None → (first_against cs F ≡ None → Each (λ d. value_under d F ≡ true) cs) → (value_under c F ≡ true) × Each (λ d. value_under d F ≡ true) cs
    go true e k ih = (e, ih k)
    go false e k ih = cc

none_found : (cs : List Choice) (F : Formula) → Each (λ c. value_under c F ≡ true) cs → first_against cs F ≡ None
none_found [] F h = refl
none_found (c ∷ cs) F h = ap (λ b. cond b (first_against cs F) (Some c)) h.0 ∙ none_found cs F h.1

-- no choice makes it false exactly where no valuation does
pub tautology_exact : (F : Formula) → (falsifying F ≡ None) ↔ IsTautology F
tautology_exact F = (always, never)
  where
    always : falsifying F ≡ None → IsTautology F
    always h v = sym (value_as v F) ∙ at_choice v (equations F) (λ c. value_under c F ≡ true) (none_against (choices (equations F)) F h)

    each_choice : (cs : List Choice) → IsTautology F → Each (λ c. value_under c F ≡ true) cs
    each_choice [] t = tt
    each_choice (c ∷ cs) t = (t (chosen c), each_choice cs t)

    never : IsTautology F → falsifying F ≡ None
    never t = none_found (choices (equations F)) F (each_choice (choices (equations F)) t)

-- The choice found makes the formula false, and those before it do not.
pub record IsFirstAgainst (F : Formula) (cs : List Choice) (c : Choice) : Type 0 where
  pub earlier : List Choice
  pub later : List Choice
  pub place : cs ≡ earlier ++ c ∷ later
  pub false_under : value_under c F ≡ false
  pub true_before : Each (λ d. value_under d F ≡ true) earlier

pub first_is : (F : Formula) (cs : List Choice) (c : Choice) → first_against cs F ≡ Some c → IsFirstAgainst F cs c
first_is F [] c h = cc
first_is F (d ∷ cs) c h = go (value_under d F) refl h (first_is F cs c)
  where
    go : (b : Bool) → value_under d F ≡ b → cond b (first_against cs F) (Some d) ≡ Some c → (first_against cs F ≡ Some c → IsFirstAgainst F cs c) → IsFirstAgainst F (d ∷ cs) c
    go true e k ih = let r = ih k in record { earlier = d ∷ r.earlier; later = r.later; place = ap (λ x. d ∷ x) r.place; false_under = r.false_under; true_before = (e, r.true_before) }
    go false e k ih =
        let q : d ≡ c = some_one k in
        subst (λ x. IsFirstAgainst F (d ∷ cs) x) q (record { earlier = []; later = cs; place = refl; false_under = e; true_before = tt })

-- each choice is one of just these equations, in their order
abbrev pub equations_of : Choice → List Formula
equations_of c = map (λ p. p.0) c

pub choices_whole : (Es : List Formula) → Each (λ c. equations_of c ≡ Es) (choices Es)
choices_whole [] = (refl, tt)
choices_whole (E ∷ Es) = each_both (λ c. equations_of c ≡ E ∷ Es) (choosing E false (choices Es)) (choosing E true (choices Es)) (part (choices_whole Es) false) (part (choices_whole Es) true)
  where
    part : Each (λ c. equations_of c ≡ Es) (choices Es) → (b : Bool) → Each (λ c. equations_of c ≡ E ∷ Es) (choosing E b (choices Es))
    part ih b = each_mapped (λ c. equations_of c ≡ E ∷ Es) (λ c. (E, b) ∷ c) (choices Es) (each_weaker (λ c. equations_of c ≡ Es) (λ c. equations_of ((E, b) ∷ c) ≡ E ∷ Es) (λ c h. ap (λ x. E ∷ x) h) (choices Es) ih)
