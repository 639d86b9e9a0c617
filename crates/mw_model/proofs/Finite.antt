-- Each object has finitely many before it: all objects up to a weight can be listed.
use Rattle.std.proofs.Common.{◌≡◌, ℕ, zero, suc, ◌≤◌, ◌<◌, Bool, true, false, ◌&&◌, ◌||◌, ◌⊎◌, inl, inr, List, [], ◌∷◌, ◌++◌, map, sym, subst, arith, ltb-true}
use Rattle.std.specs.List.{Contains}
use Rattle.std.proofs.lemmas.List.Elements.{Contains-append_left, Contains-append_right, Contains-append_cases, Contains-push, Contains-push_cases}
use Rattle.std.proofs.lemmas.Bool.{cases_order}
use Rattle.mw_model.specs.Terms.Object.{Object, Natural, Symbol, Pair, name_of_bytes, bytes_weight, weight, is_before_bytes, is_before, by_weight, same_object}
use Rattle.mw_model.proofs.Order.{lex_cases}
use Rattle.mw_model.proofs.Lexing.{name_of_bytes-bytes}

-- each of the first with each of the second
abbrev pairs : {X Y Z : Type 0} → (X → Y → Z) → List X → List Y → List Z
pairs f [] ys = []
pairs f (x ∷ xs) ys = map (f x) ys ++ pairs f xs ys

abbrev up_to : ℕ → List ℕ
up_to zero = 0 ∷ []
up_to (suc n) = suc n ∷ up_to n

-- the byte lists of at most this weight
abbrev bytes_up_to : ℕ → List (List ℕ)
bytes_up_to zero = [] ∷ []
bytes_up_to (suc n) = [] ∷ pairs (λ b bs. b ∷ bs) (up_to n) (bytes_up_to n)

abbrev symbol_of : List ℕ → Object
symbol_of bytes = Symbol (name_of_bytes bytes)

abbrev objects_up_to : ℕ → List Object
objects_up_to zero = []
objects_up_to (suc n) = map Natural (up_to n) ++ (map symbol_of (bytes_up_to n) ++ pairs Pair (objects_up_to n) (objects_up_to n))

first_in : {X : Type 0} (x : X) (xs : List X) → Contains (x ∷ xs) x
first_in x xs = Contains-append_left (x ∷ []) xs x (Contains-push [] x)

later_in : {X : Type 0} (x : X) (xs : List X) (y : X) → Contains xs y → Contains (x ∷ xs) y
later_in x xs y h = Contains-append_right (x ∷ []) xs y h

none_in : {X : Type 0} (x : X) → Contains [] x → ⊥
none_in x h = absurd (omega (arith, h.1))

-- an element of a list is the first one, or among the others
in_cases : {X : Type 0} (x : X) (xs : List X) (y : X) → Contains (x ∷ xs) y → (x ≡ y) ⊎ Contains xs y
in_cases x xs y h = go (Contains-append_cases (x ∷ []) xs y h)
  where
    go : Contains (x ∷ []) y ⊎ Contains xs y → (x ≡ y) ⊎ Contains xs y
    go (inr k) = inr k
    go (inl k) = alone (Contains-push_cases [] x y k)
      where
        alone : Contains [] y ⊎ (x ≡ y) → (x ≡ y) ⊎ Contains xs y
        alone (inl n) = absurd (none_in y n)
        alone (inr e) = inl e

map_in : {X Y : Type 0} (f : X → Y) (xs : List X) (x : X) → Contains xs x → Contains (map f xs) (f x)
map_in f [] x h = absurd (none_in x h)
map_in f (z ∷ xs) x h = go (in_cases z xs x h) (map_in f xs x)
  where
    go : (z ≡ x) ⊎ Contains xs x → (Contains xs x → Contains (map f xs) (f x)) → Contains (f z ∷ map f xs) (f x)
    go (inl e) rest = subst (λ w. Contains (f z ∷ map f xs) (f w)) e (first_in (f z) (map f xs))
    go (inr k) rest = later_in (f z) (map f xs) (f x) (rest k)

pair_in : {X Y Z : Type 0} (f : X → Y → Z) (xs : List X) (ys : List Y) (x : X) (y : Y) → Contains xs x → Contains ys y → Contains (pairs f xs ys) (f x y)
pair_in f [] ys x y h k = absurd (none_in x h)
pair_in f (z ∷ xs) ys x y h k = go (in_cases z xs x h) (λ l. pair_in f xs ys x y l k)
  where
    go : (z ≡ x) ⊎ Contains xs x → (Contains xs x → Contains (pairs f xs ys) (f x y)) → Contains (map (f z) ys ++ pairs f xs ys) (f x y)
    go (inl e) rest = Contains-append_left (map (f z) ys) (pairs f xs ys) (f x y) (subst (λ w. Contains (map (f z) ys) (f w y)) e (map_in (f z) ys y k))
    go (inr l) rest = Contains-append_right (map (f z) ys) (pairs f xs ys) (f x y) (rest l)

up_to-has : (n m : ℕ) → m ≤ n → Contains (up_to n) m
up_to-has zero m l = let e : 0 ≡ m = omega arith in subst (λ k. Contains (0 ∷ []) k) e (first_in 0 [])
up_to-has (suc n) m l = go (cases_order m (suc n)) (up_to-has n m)
  where
    go : (m ≡ suc n) ⊎ ((m < suc n) ⊎ (suc n < m)) → (m ≤ n → Contains (up_to n) m) → Contains (suc n ∷ up_to n) m
    go (inl e) rest = subst (λ k. Contains (suc n ∷ up_to n) k) (sym e) (first_in (suc n) (up_to n))
    go (inr (inl s)) rest = later_in (suc n) (up_to n) m (rest (omega arith))
    go (inr (inr s)) rest = absurd (omega arith)

bytes_up_to-has : (n : ℕ) (bs : List ℕ) → bytes_weight bs ≤ n → Contains (bytes_up_to n) bs
bytes_up_to-has zero [] l = first_in [] []
bytes_up_to-has zero (b ∷ bs) l = absurd (omega arith)
bytes_up_to-has (suc n) [] l = first_in [] (pairs (λ b bs. b ∷ bs) (up_to n) (bytes_up_to n))
bytes_up_to-has (suc n) (b ∷ bs) l =
    later_in [] (pairs (λ b bs. b ∷ bs) (up_to n) (bytes_up_to n)) (b ∷ bs)
    (pair_in (λ b bs. b ∷ bs) (up_to n) (bytes_up_to n) b bs (up_to-has n b (omega arith)) (bytes_up_to-has n bs (omega arith)))

weight_some : (x : Object) → 0 < weight x
weight_some (Natural n) = omega arith
weight_some (Symbol s) = omega arith
weight_some (Pair a b) = omega arith

objects_up_to-has : (n : ℕ) (x : Object) → weight x ≤ n → Contains (objects_up_to n) x
objects_up_to-has zero x l = absurd (omega (arith, weight_some x))
objects_up_to-has (suc n) (Natural m) l =
    Contains-append_left (map Natural (up_to n)) (map symbol_of (bytes_up_to n) ++ pairs Pair (objects_up_to n) (objects_up_to n)) (Natural m) (map_in Natural (up_to n) m (up_to-has n m (omega arith)))
objects_up_to-has (suc n) (Symbol s) l =
    let more = pairs Pair (objects_up_to n) (objects_up_to n) in
    Contains-append_right (map Natural (up_to n)) (map symbol_of (bytes_up_to n) ++ more) (Symbol s)
    (Contains-append_left (map symbol_of (bytes_up_to n)) more (Symbol s)
    (subst (λ y. Contains (map symbol_of (bytes_up_to n)) (Symbol y)) (name_of_bytes-bytes s) (map_in symbol_of (bytes_up_to n) s.bytes (bytes_up_to-has n s.bytes (omega arith)))))
objects_up_to-has (suc n) (Pair a b) l =
    let more = pairs Pair (objects_up_to n) (objects_up_to n) in
    Contains-append_right (map Natural (up_to n)) (map symbol_of (bytes_up_to n) ++ more) (Pair a b)
    (Contains-append_right (map symbol_of (bytes_up_to n)) more (Pair a b)
    (pair_in Pair (objects_up_to n) (objects_up_to n) a b (objects_up_to-has n a (omega arith)) (objects_up_to-has n b (omega arith))))

-- what is before is no heavier
by_weight-le : (a b : Object) (test : Bool) → by_weight a b test ≡ true → weight a ≤ weight b
by_weight-le a b test h = go (lex_cases (weight a) (weight b) test h)
  where
    go : (weight a < weight b) ⊎ ((weight a ≡ weight b) × (test ≡ true)) → weight a ≤ weight b
    go (inl l) = omega arith
    go (inr e) = omega (arith, e.0)

is_before-weight : (x y : Object) → is_before x y ≡ true → weight x ≤ weight y
is_before-weight (Natural m) (Natural n) h = let l : m < n = ltb-true m n h in omega arith
is_before-weight (Natural m) (Symbol y) h = by_weight-le (Natural m) (Symbol y) true h
is_before-weight (Natural m) (Pair c d) h = by_weight-le (Natural m) (Pair c d) true h
is_before-weight (Symbol x) (Natural n) h = by_weight-le (Symbol x) (Natural n) false h
is_before-weight (Symbol x) (Symbol y) h = by_weight-le (Symbol x) (Symbol y) (is_before_bytes x.bytes y.bytes) h
is_before-weight (Symbol x) (Pair c d) h = by_weight-le (Symbol x) (Pair c d) true h
is_before-weight (Pair a b) (Natural n) h = by_weight-le (Pair a b) (Natural n) false h
is_before-weight (Pair a b) (Symbol y) h = by_weight-le (Pair a b) (Symbol y) false h
is_before-weight (Pair a b) (Pair c d) h = by_weight-le (Pair a b) (Pair c d) (is_before a c || (same_object a c && is_before b d)) h

pub finitely_many : (x : Object) → (ys : List Object) × ((y : Object) → is_before y x ≡ true → Contains ys y)
finitely_many x = (objects_up_to (weight x), λ y h. objects_up_to-has (weight x) y (is_before-weight y x h))
