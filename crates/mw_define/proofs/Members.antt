-- Two lists member by member, and what some function gives of each member.
use Rattle.std.proofs.Common.{◌≡◌, ℕ, zero, suc, ◌+◌, ◌<◌, ◌≤◌, List, [], ◌∷◌, ◌++◌, length, get_or, take, take_all, drop, map, Option, Some, None, refl, sym, ap, ap₂, ◌∙◌, subst, arith}
use Rattle.std.proofs.lemmas.List.{take-append-drop, take_more, drop_more}
use Rattle.mw_model.specs.Terms.Reading.{and_more}
use Rattle.mw_model.specs.Events.Admission.{all_of}
use Rattle.mw_model.proofs.ReadBack.{some_one, and_more-back}
use Rattle.mw_define.specs.Blocks.{Each2}

pub each2-push : {X Y : Type 0} (R : X → Y → Type 0) (xs : List X) (ys : List Y) (x : X) (y : Y) → Each2 R xs ys → R x y → Each2 R (xs ++ x ∷ []) (ys ++ y ∷ [])
each2-push R [] [] x y h r = (r, tt)
each2-push R (a ∷ xs) (b ∷ ys) x y h r = (h.0, each2-push R xs ys x y h.1 r)
each2-push R [] (b ∷ ys) x y h r = absurd h
each2-push R (a ∷ xs) [] x y h r = absurd h

-- one member of each more
pub each2-next : {X Y : Type 0} (R : X → Y → Type 0) (xs : List X) (i : ℕ) (x : X) (y : Y) (ys more : List Y) → i < length xs → x ≡ get_or xs i x → Each2 R (take i xs) ys → R x y → more ≡ ys ++ y ∷ [] → Each2 R (take (i + 1) xs) more
each2-next R xs i x y ys more l is h r e =
    subst (λ zs. Each2 R zs more) (sym (take_more xs i x l ∙ ap (λ z. take i xs ++ z ∷ []) (sym is)))
    (subst (Each2 R (take i xs ++ x ∷ [])) (sym e) (each2-push R (take i xs) ys x y h r))

pub each2-end : {X Y : Type 0} (R : X → Y → Type 0) (xs : List X) (i : ℕ) (ys : List Y) → length xs ≤ i → Each2 R (take i xs) ys → Each2 R xs ys
each2-end R xs i ys l h = subst (λ zs. Each2 R zs ys) (take_all i xs l) h

pub each2-weaker : {X Y : Type 0} (R S : X → Y → Type 0) → ((x : X) (y : Y) → R x y → S x y) → (xs : List X) (ys : List Y) → Each2 R xs ys → Each2 S xs ys
each2-weaker R S f [] [] h = tt
each2-weaker R S f (a ∷ xs) (b ∷ ys) h = (f a b h.0, each2-weaker R S f xs ys h.1)
each2-weaker R S f [] (b ∷ ys) h = absurd h
each2-weaker R S f (a ∷ xs) [] h = absurd h

no-more : {Y : Type 0} (o : Option Y) → and_more o None ≡ None
no-more None = refl
no-more (Some y) = refl

-- nothing is given of some member
pub all_of-fails : {X Y : Type 0} (f : X → Option Y) (xs : List X) (i : ℕ) (d : X) → i < length xs → f (get_or xs i d) ≡ None → all_of f xs ≡ None
all_of-fails f [] i d l h = absurd (omega arith)
all_of-fails f (x ∷ xs) zero d l h = ap (λ o. and_more o (all_of f xs)) h
all_of-fails f (x ∷ xs) (suc i) d l h = ap (and_more (f x)) (all_of-fails f xs i d (omega arith) h) ∙ no-more (f x)

pub all_of-push : {X Y : Type 0} (f : X → Option Y) (xs : List X) (ys : List Y) (x : X) (y : Y) → all_of f xs ≡ Some ys → f x ≡ Some y → all_of f (xs ++ x ∷ []) ≡ Some (ys ++ y ∷ [])
all_of-push f [] ys x y h e = ap (λ o. and_more o (Some [])) e ∙ ap (λ l. Some (l ++ y ∷ [])) (some_one h)
all_of-push f (z ∷ zs) ys x y h e =
    let p = and_more-back (f z) (all_of f zs) ys h in
    ap₂ and_more p.2 (all_of-push f zs p.1 x y p.3 e) ∙ ap (λ l. Some (l ++ y ∷ [])) (sym p.4)

-- what is given of the members up to some one begins what is given of all
pub all_of-split : {X Y : Type 0} (f : X → Option Y) (xs : List X) (x : X) (zs : List X) (ys : List Y) (y : Y) (ws : List Y) → all_of f (xs ++ x ∷ zs) ≡ Some ws → all_of f xs ≡ Some ys → f x ≡ Some y → (vs : List Y) × (ws ≡ ys ++ y ∷ vs)
all_of-split f [] x zs ys y ws h k e =
    let p = and_more-back (f x) (all_of f zs) ws h in
    (p.1, p.4 ∙ ap₂ (λ a l. l ++ a ∷ p.1) (some_one (sym p.2 ∙ e)) (some_one k))
all_of-split f (a ∷ xs) x zs ys y ws h k e =
    let p = and_more-back (f a) (all_of f (xs ++ x ∷ zs)) ws h in
    let q = and_more-back (f a) (all_of f xs) ys k in
    let r = all_of-split f xs x zs q.1 y p.1 p.3 q.3 e in
    (r.0, p.4 ∙ (ap₂ (λ b l. b ∷ l) (some_one (sym p.2 ∙ q.2)) r.1 ∙ ap (λ l. l ++ y ∷ r.0) (sym q.4)))

-- what is given of each of two lists, member by member
pub all_of-each2 : {X Y Z : Type 0} (f : X → Option Z) (g : Y → Z) (xs : List X) (ys : List Y) → Each2 (λ x y. f x ≡ Some (g y)) xs ys → all_of f xs ≡ Some (map g ys)
all_of-each2 f g [] [] h = refl
all_of-each2 f g (x ∷ xs) (y ∷ ys) h = ap₂ and_more h.0 (all_of-each2 f g xs ys h.1)
all_of-each2 f g [] (y ∷ ys) h = absurd h
all_of-each2 f g (x ∷ xs) [] h = absurd h

pub all_of-map : {X Y Z : Type 0} (f : Y → Option Z) (g : X → Y) (xs : List X) → all_of f (map g xs) ≡ all_of (λ x. f (g x)) xs
all_of-map f g [] = refl
all_of-map f g (x ∷ xs) = ap (and_more (f (g x))) (all_of-map f g xs)

pub split-at : {X : Type 0} (xs : List X) (i : ℕ) (x : X) → i < length xs → x ≡ get_or xs i x → xs ≡ take i xs ++ x ∷ drop (i + 1) xs
split-at xs i x l e = sym (take-append-drop i xs) ∙ ap (λ t. take i xs ++ t) (drop_more xs i x l ∙ ap (λ y. y ∷ drop (i + 1) xs) (sym e))
