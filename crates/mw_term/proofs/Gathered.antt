-- Things gathered one by one are the first occurrences, whatever test tells which are the same.
use Rattle.std.proofs.Common.{◌≡◌, Bool, true, false, ◌||◌, not, cond, filter, List, [], ◌∷◌, ◌++◌, ◌⊎◌, inl, inr, refl, sym, ap, ◌∙◌, subst, append_assoc}
use Rattle.std.proofs.lemmas.List.{append-nil}
use Rattle.std.proofs.lemmas.Bool.{or_left, or_right, both_ways}
use Rattle.mw_model.specs.Terms.Object.{same_name}
use Rattle.mw_model.specs.Terms.Term.{is_among, firsts}
use Rattle.mw_model.proofs.Names.{same_name-eq, same_name-refl}
use Rattle.mw_term.specs.Occurrences.{gather}

-- one test tells which are the same, and another, by it, which are on a list
pub record IsListing {X : Type 0} (same : X → X → Bool) (among : X → List X → Bool) : Type 0 where
  pub equal : (x y : X) → same x y ≡ true → x ≡ y
  pub itself : (x : X) → same x x ≡ true
  pub on_none : (x : X) → among x [] ≡ false
  pub on_more : (x y : X) (ys : List X) → among x (y ∷ ys) ≡ (same x y || among x ys)

-- the names of a list
pub names : IsListing same_name is_among
names = record { equal = same_name-eq; itself = same_name-refl; on_none = λ x. refl; on_more = λ x y ys. refl }

or_cases : (a b : Bool) → (a || b) ≡ true → (a ≡ true) ⊎ (b ≡ true)
or_cases true b h = inl refl
or_cases false b h = inr h

or_assoc : (a b c : Bool) → (a || (b || c)) ≡ ((a || b) || c)
or_assoc true b c = refl
or_assoc false b c = refl

or_true : (a : Bool) → (a || true) ≡ true
or_true true = refl
or_true false = refl

or_false : (a : Bool) → (a || false) ≡ a
or_false true = refl
or_false false = refl

module _ {X : Type 0} {same : X → X → Bool} {among : X → List X → Bool} (l : IsListing same among) where
  same_from : (x y : X) → x ≡ y → same x y ≡ true
  same_from x y e = subst (λ z. same x z ≡ true) e (l.itself x)

  pub differ-sym : (x y : X) → same y x ≡ false → same x y ≡ false
  differ-sym x y h = go (same x y) refl
    where
      go : (b : Bool) → same x y ≡ b → b ≡ false
      go true e = absurd (both_ways (same y x) h (same_from y x (sym (l.equal x y e))))
      go false e = refl

  pub among-append : (z : X) (xs ys : List X) → among z (xs ++ ys) ≡ (among z xs || among z ys)
  among-append z [] ys = ap (λ b. b || among z ys) (sym (l.on_none z))
  among-append z (x ∷ xs) ys =
      l.on_more z x (xs ++ ys)
      ∙ (ap (λ b. same z x || b) (among-append z xs ys)
      ∙ (or_assoc (same z x) (among z xs) (among z ys) ∙ ap (λ b. b || among z ys) (sym (l.on_more z x xs))))

  pub among_left : (z : X) (xs ys : List X) → among z xs ≡ true → among z (xs ++ ys) ≡ true
  among_left z xs ys h = among-append z xs ys ∙ or_left (among z xs) (among z ys) h

  pub among_right : (z : X) (xs ys : List X) → among z ys ≡ true → among z (xs ++ ys) ≡ true
  among_right z xs ys h = among-append z xs ys ∙ or_right (among z xs) (among z ys) h

  pub among_cases : (z : X) (xs ys : List X) → among z (xs ++ ys) ≡ true → (among z xs ≡ true) ⊎ (among z ys ≡ true)
  among_cases z xs ys h = or_cases (among z xs) (among z ys) (sym (among-append z xs ys) ∙ h)

  among_first : (y : X) (ys : List X) → among y (y ∷ ys) ≡ true
  among_first y ys = l.on_more y y ys ∙ or_left (same y y) (among y ys) (l.itself y)

  among_one : (z y : X) → among z (y ∷ []) ≡ same z y
  among_one z y = l.on_more z y [] ∙ (ap (λ b. same z y || b) (l.on_none z) ∙ or_false (same z y))

  pub gather-append : (found xs ys : List X) → gather among found (xs ++ ys) ≡ gather among (gather among found xs) ys
  gather-append found [] ys = refl
  gather-append found (x ∷ xs) ys = gather-append (cond (among x found) found (found ++ x ∷ [])) xs ys

  pub gather-keeps : (found ys : List X) (z : X) → among z found ≡ true → among z (gather among found ys) ≡ true
  gather-keeps found [] z h = h
  gather-keeps found (y ∷ ys) z h = gather-keeps (cond (among y found) found (found ++ y ∷ [])) ys z (step (among y found))
    where
      step : (b : Bool) → among z (cond b found (found ++ y ∷ [])) ≡ true
      step true = h
      step false = among_left z found (y ∷ []) h

  pub gather-has : (found ys : List X) (z : X) → among z ys ≡ true → among z (gather among found ys) ≡ true
  gather-has found [] z h = absurd (both_ways (among z []) (l.on_none z) h)
  gather-has found (y ∷ ys) z h =
      elim (or_cases (same z y) (among z ys) (sym (l.on_more z y ys) ∙ h)) [
        | inl e ↦ gather-keeps (cond (among y found) found (found ++ y ∷ [])) ys z (subst (λ x. among x (cond (among y found) found (found ++ y ∷ [])) ≡ true) (sym (l.equal z y e)) (step (among y found) refl))
        | inr k ↦ gather-has (cond (among y found) found (found ++ y ∷ [])) ys z k
      ]
    where
      step : (b : Bool) → among y found ≡ b → among y (cond b found (found ++ y ∷ [])) ≡ true
      step true e = e
      step false e = among_right y found (y ∷ []) (among_first y [])

  -- what was found before adds nothing
  pub gather-known : (found ys : List X) → ((z : X) → among z ys ≡ true → among z found ≡ true) → gather among found ys ≡ found
  gather-known found [] h = refl
  gather-known found (y ∷ ys) h =
      ap (λ b. gather among (cond b found (found ++ y ∷ [])) ys) (h y (among_first y ys))
      ∙ gather-known found ys (λ z k. h z (l.on_more z y ys ∙ or_right (same z y) (among z ys) k))

  -- those of ys that were not found
  abbrev without : List X → List X → List X
  without found ys = filter (λ z. not (among z found)) ys

  abbrev others : X → List X → List X
  others y ys = filter (λ z. not (same y z)) ys

  without-known : (found : List X) (y : X) (ys : List X) → among y found ≡ true → without found (others y ys) ≡ without found ys
  without-known found y [] h = refl
  without-known found y (z ∷ zs) h = go (same y z) refl (without-known found y zs h)
    where
      go : (b : Bool) → same y z ≡ b → without found (others y zs) ≡ without found zs → without found (cond (not b) (z ∷ others y zs) (others y zs)) ≡ without found (z ∷ zs)
      go true e rest = rest ∙ sym (ap (λ b. cond (not b) (z ∷ without found zs) (without found zs)) (subst (λ x. among x found ≡ true) (l.equal y z e) h))
      go false e rest = ap (λ k. cond (not (among z found)) (z ∷ k) k) rest

  without-push : (found : List X) (y : X) (ys : List X) → without (found ++ y ∷ []) ys ≡ without found (others y ys)
  without-push found y [] = refl
  without-push found y (z ∷ zs) =
      ap (λ b. cond (not b) (z ∷ without (found ++ y ∷ []) zs) (without (found ++ y ∷ []) zs)) (among-append z found (y ∷ []) ∙ ap (λ b. among z found || b) (among_one z y))
      ∙ (ap (λ k. cond (not (among z found || same z y)) (z ∷ k) k) (without-push found y zs)
      ∙ go (same y z) refl)
    where
      go : (b : Bool) → same y z ≡ b → cond (not (among z found || same z y)) (z ∷ without found (others y zs)) (without found (others y zs)) ≡ without found (cond (not b) (z ∷ others y zs) (others y zs))
      go true e =
          ap (λ b. cond (not (among z found || b)) (z ∷ without found (others y zs)) (without found (others y zs))) (same_from z y (sym (l.equal y z e)))
          ∙ ap (λ b. cond (not b) (z ∷ without found (others y zs)) (without found (others y zs))) (or_true (among z found))
      go false e =
          ap (λ b. cond (not (among z found || b)) (z ∷ without found (others y zs)) (without found (others y zs))) (differ-sym z y e)
          ∙ ap (λ b. cond (not b) (z ∷ without found (others y zs)) (without found (others y zs))) (or_false (among z found))

  gather-firsts : (found ys : List X) → gather among found ys ≡ found ++ without found (firsts same ys)
  gather-firsts found [] = sym (append-nil found)
  gather-firsts found (y ∷ ys) = go (among y found) (λ f. gather-firsts f ys) refl
    where
      go : (b : Bool) → ((f : List X) → gather among f ys ≡ f ++ without f (firsts same ys)) → among y found ≡ b → gather among (cond b found (found ++ y ∷ [])) ys ≡ found ++ cond (not b) (y ∷ without found (others y (firsts same ys))) (without found (others y (firsts same ys)))
      go true rest e = rest found ∙ ap (λ k. found ++ k) (sym (without-known found y (firsts same ys) e))
      go false rest e =
          rest (found ++ y ∷ [])
          ∙ (append_assoc found (y ∷ []) (without (found ++ y ∷ []) (firsts same ys))
          ∙ ap (λ k. found ++ y ∷ k) (without-push found y (firsts same ys)))

  without-none : (ys : List X) → without [] ys ≡ ys
  without-none [] = refl
  without-none (y ∷ ys) = ap (λ b. cond (not b) (y ∷ without [] ys) (without [] ys)) (l.on_none y) ∙ ap (λ k. y ∷ k) (without-none ys)

  pub gather-all : (ys : List X) → gather among [] ys ≡ firsts same ys
  gather-all ys = gather-firsts [] ys ∙ without-none (firsts same ys)
