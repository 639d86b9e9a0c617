-- Names that are put behind others are, in the end, the first occurrences of those that are not left out.
use Rattle.std.proofs.Common.{◌≡◌, Bool, true, false, ◌||◌, not, cond, List, [], ◌∷◌, ◌++◌, filter, refl, sym, ap, ◌∙◌, subst, append_assoc}
use Rattle.std.proofs.lemmas.List.{append-nil}
use Rattle.mw_model.specs.Terms.Object.{Name, same_name}
use Rattle.mw_model.specs.Terms.Term.{is_among, firsts}
use Rattle.mw_model.specs.Events.Expansion.{without}
use Rattle.mw_model.proofs.Names.{same_name-eq, same_name-refl}
use Rattle.mw_explain.specs.OtherVariables.{is_settled, put_name, put_others}

or-true : (a : Bool) → (a || true) ≡ true
or-true true = refl
or-true false = refl

or-none : (a : Bool) → (a || false) ≡ a
or-none true = refl
or-none false = refl

or-assoc : (a b c : Bool) → ((a || b) || c) ≡ (a || (b || c))
or-assoc true b c = refl
or-assoc false b c = refl

among-push : (x : Name) (ys : List Name) (y : Name) → is_among x (ys ++ y ∷ []) ≡ (is_among x ys || same_name x y)
among-push x [] y = or-none (same_name x y)
among-push x (z ∷ ys) y = ap (λ b. same_name x z || b) (among-push x ys y) ∙ sym (or-assoc (same_name x z) (is_among x ys) (same_name x y))

module _ (out : List Name) where
  abbrev settled : List Name → Name → Bool
  settled there y = is_settled out there y

  abbrev put : List Name → List Name → List Name
  put there ys = put_others out there ys

  abbrev others : Name → List Name → List Name
  others y ys = filter (λ z. not (same_name y z)) ys

  abbrev rest : List Name → List Name → List Name
  rest there ys = filter (λ z. not (settled there z)) ys

  settled-push : (there : List Name) (z y : Name) → settled (there ++ z ∷ []) y ≡ (settled there y || same_name y z)
  settled-push there z y = ap (λ b. is_among y out || b) (among-push y there z) ∙ sym (or-assoc (is_among y out) (is_among y there) (same_name y z))

  -- what is settled stays so, and what was put is settled
  stays : (there : List Name) (z y : Name) → settled there y ≡ true → settled (put_name out there z) y ≡ true
  stays there z y h = go (settled there z)
    where
      go : (b : Bool) → settled (cond b there (there ++ z ∷ [])) y ≡ true
      go true = h
      go false = settled-push there z y ∙ ap (λ b. b || same_name y z) h

  now : (there : List Name) (y : Name) → settled (put_name out there y) y ≡ true
  now there y = go (settled there y) refl
    where
      go : (b : Bool) → settled there y ≡ b → settled (cond b there (there ++ y ∷ [])) y ≡ true
      go true e = e
      go false e = settled-push there y y ∙ (ap (λ b. settled there y || b) (same_name-refl y) ∙ or-true (settled there y))

  -- what is settled need not be put
  put-settled : (there : List Name) (y : Name) (ys : List Name) → settled there y ≡ true → put there (others y ys) ≡ put there ys
  put-settled there y [] h = refl
  put-settled there y (z ∷ ys) h = go (same_name y z) refl (λ t k. put-settled t y ys k)
    where
      go : (b : Bool) → same_name y z ≡ b → ((t : List Name) → settled t y ≡ true → put t (others y ys) ≡ put t ys) → put there (cond (not b) (z ∷ others y ys) (others y ys)) ≡ put there (z ∷ ys)
      go true e more =
          more there h
          ∙ sym (ap (λ b. put (cond b there (there ++ z ∷ [])) ys) (subst (λ x. settled there x ≡ true) (same_name-eq y z e) h))
      go false e more = more (put_name out there z) (stays there z y h)

  put-firsts : (there ys : List Name) → put there (firsts same_name ys) ≡ put there ys
  put-firsts there [] = refl
  put-firsts there (y ∷ ys) = put-settled (put_name out there y) y (firsts same_name ys) (now there y) ∙ put-firsts (put_name out there y) ys

  pub put-append : (there xs ys : List Name) → put there (xs ++ ys) ≡ put (put there xs) ys
  put-append there [] ys = refl
  put-append there (x ∷ xs) ys = put-append (put_name out there x) xs ys

  -- what is left of names
  rest-settled : (there : List Name) (y : Name) (ys : List Name) → settled there y ≡ true → rest there (others y ys) ≡ rest there ys
  rest-settled there y [] h = refl
  rest-settled there y (z ∷ ys) h = go (same_name y z) refl (rest-settled there y ys h)
    where
      go : (b : Bool) → same_name y z ≡ b → rest there (others y ys) ≡ rest there ys → rest there (cond (not b) (z ∷ others y ys) (others y ys)) ≡ rest there (z ∷ ys)
      go true e more =
          more
          ∙ sym (ap (λ b. cond (not b) (z ∷ rest there ys) (rest there ys)) (subst (λ x. settled there x ≡ true) (same_name-eq y z e) h))
      go false e more = ap (λ l. cond (not (settled there z)) (z ∷ l) l) more

  same-sym : (x y : Name) → same_name x y ≡ same_name y x
  same-sym x y = go (same_name x y) (same_name y x) refl refl
    where
      go : (a b : Bool) → same_name x y ≡ a → same_name y x ≡ b → a ≡ b
      go true true p q = refl
      go false false p q = refl
      go true false p q = sym (same_name-refl x) ∙ (ap (λ z. same_name z x) (same_name-eq x y p) ∙ q)
      go false true p q = sym p ∙ (ap (λ z. same_name z y) (sym (same_name-eq y x q)) ∙ same_name-refl y)

  rest-push : (there : List Name) (y : Name) (ys : List Name) → rest (there ++ y ∷ []) ys ≡ rest there (others y ys)
  rest-push there y [] = refl
  rest-push there y (z ∷ ys) =
      ap (λ b. cond (not b) (z ∷ rest (there ++ y ∷ []) ys) (rest (there ++ y ∷ []) ys)) (settled-push there y z ∙ ap (λ b. settled there z || b) (same-sym z y))
      ∙ (ap (λ l. cond (not (settled there z || same_name y z)) (z ∷ l) l) (rest-push there y ys) ∙ go (same_name y z))
    where
      go : (b : Bool) → cond (not (settled there z || b)) (z ∷ rest there (others y ys)) (rest there (others y ys)) ≡ rest there (cond (not b) (z ∷ others y ys) (others y ys))
      go true = ap (λ b. cond (not b) (z ∷ rest there (others y ys)) (rest there (others y ys))) (or-true (settled there z))
      go false = ap (λ b. cond (not b) (z ∷ rest there (others y ys)) (rest there (others y ys))) (or-none (settled there z))

  put-all : (there ys : List Name) → put there ys ≡ there ++ rest there (firsts same_name ys)
  put-all there [] = sym (append-nil there)
  put-all there (y ∷ ys) = go (settled there y) refl (λ t. put-all t ys)
    where
      go : (b : Bool) → settled there y ≡ b → ((t : List Name) → put t ys ≡ t ++ rest t (firsts same_name ys)) → put (cond b there (there ++ y ∷ [])) ys ≡ there ++ cond (not b) (y ∷ rest there (others y (firsts same_name ys))) (rest there (others y (firsts same_name ys)))
      go true e more = more there ∙ ap (λ l. there ++ l) (sym (rest-settled there y (firsts same_name ys) e))
      go false e more =
          more (there ++ y ∷ [])
          ∙ (append_assoc there (y ∷ []) (rest (there ++ y ∷ []) (firsts same_name ys)) ∙ ap (λ l. there ++ y ∷ l) (rest-push there y (firsts same_name ys)))

  rest-none : (ys : List Name) → rest [] ys ≡ without ys out
  rest-none [] = refl
  rest-none (y ∷ ys) = ap (λ b. cond (not b) (y ∷ rest [] ys) (rest [] ys)) (or-none (is_among y out)) ∙ (ap (λ l. cond (not (is_among y out)) (y ∷ l) l) (rest-none ys) ∙ go (is_among y out))
    where
      go : (b : Bool) → cond (not b) (y ∷ without ys out) (without ys out) ≡ cond b (without ys out) (y ∷ without ys out)
      go true = refl
      go false = refl

  pub put-both : (xs ys there more : List Name) → there ≡ put [] (firsts same_name xs) → more ≡ put there (firsts same_name ys) → more ≡ without (firsts same_name (xs ++ ys)) out
  put-both xs ys there more p q =
      q
      ∙ (ap (λ l. put l (firsts same_name ys)) (p ∙ put-firsts [] xs)
      ∙ (put-firsts (put [] xs) ys
      ∙ (sym (put-append [] xs ys)
      ∙ (put-all [] (xs ++ ys) ∙ rest-none (firsts same_name (xs ++ ys))))))
