-- The lengths of naturals, symbols and pairs, and what they tell.
use Rattle.std.proofs.Common.{◌≡◌, ℕ, ◌+◌, ◌-◌, ◌≤◌, ◌<◌, Bool, true, false, cond, ltb, min, List, [], ◌∷◌, ◌++◌, ◌⊎◌, inl, inr, length, refl, sym, ap, ◌∙◌, if◌then◌else◌, ◌/◌, ◌%◌, IsTrue, arith, length-append, ltb-true, ltb-false, lt-ltb}
use Rattle.mw_model.specs.Terms.Object.{Object, Natural, Symbol, Pair, Name, nil_name, same_name, is_name}
use Rattle.mw_model.proofs.Names.{same_name-eq}
use Rattle.mw_model.specs.Texts.Printing.{text_of, tail_text, end_text, name_text, is_bare, numeral, numeral_from}
use Rattle.mw_heap.specs.declared.store.lengths.Length.TheVariants.{Nil, Atom, Pair as Joined, Long}
use Rattle.mw_heap.specs.Lengths.{text_length, tail_length, text_told, tail_told, atom_length, pair_length, length_of}

-- a number is past a bound or not
past_or_not : (bound n : ℕ) → ((ltb bound n ≡ true) × (bound < n)) ⊎ ((ltb bound n ≡ false) × (n ≤ bound))
past_or_not bound n = go (ltb bound n) refl
  where
    go : (b : Bool) → ltb bound n ≡ b → ((ltb bound n ≡ true) × (bound < n)) ⊎ ((ltb bound n ≡ false) × (n ≤ bound))
    go true e = inl (e, ltb-true bound n e)
    go false e = inr (e, ltb-false bound n e)

-- ---- no text is empty

pub some-numeral : (n : ℕ) → 0 < length (numeral n)
some-numeral n = go (ltb n 10)
  where
    go : (b : Bool) → 0 < length (if b then (48 + n) ∷ [] else (numeral_from n (n / 10) ++ (48 + n % 10) ∷ []))
    go true = omega arith
    go false = omega (arith, length-append (numeral_from n (n / 10)) ((48 + n % 10) ∷ []))

pub length-name_text : (s : Name) → length (name_text s) ≡ length s.bytes + (if is_bare s then 0 else 2)
length-name_text s = go (is_bare s)
  where
    go : (b : Bool) → length (if b then s.bytes else 124 ∷ (s.bytes ++ 124 ∷ [])) ≡ length s.bytes + (if b then 0 else 2)
    go true = omega arith
    go false = omega (arith, length-append s.bytes (124 ∷ []))

some_bytes : (bytes : List ℕ) → IsTrue (is_name bytes) → 0 < length bytes
some_bytes [] h = cc
some_bytes (b ∷ bs) h = omega arith

pub some-name_text : (s : Name) → 0 < length (name_text s)
some-name_text s = let some = some_bytes s.bytes s.valid in omega (arith, some, length-name_text s)

some-text : (x : Object) → 0 < length (text_of x)
some-text (Natural n) = some-numeral n
some-text (Symbol s) = some-name_text s
some-text (Pair a d) = omega arith

-- a text as the tail of a list has its closing parenthesis
pub some-tail_text : (x : Object) → 0 < length (tail_text x)
some-tail_text (Natural n) = omega arith
some-tail_text (Symbol s) = go (same_name s nil_name)
  where
    go : (b : Bool) → 0 < length (end_text b (name_text s))
    go true = omega arith
    go false = omega arith
some-tail_text (Pair a d) = omega arith

length-pair_text : (a d : Object) → length (text_of (Pair a d)) ≡ length (text_of a) + length (tail_text d) + 1
length-pair_text a d = omega (arith, length-append (text_of a) (tail_text d))

some_pair-text : (a d : Object) → 2 ≤ length (text_of (Pair a d))
some_pair-text a d = omega (arith, length-pair_text a d, some-text a)

-- ---- what is told of a text

atom-text : (n : ℕ) → 0 < n → text_told (atom_length n) ≡ min n 65537
atom-text n some = elim (past_or_not 65536 n) [
  | inl h ↦ ap (λ b. text_told (cond b Long (Atom (n - 1)))) h.0 ∙ omega (arith, h.1)
  | inr h ↦ ap (λ b. text_told (cond b Long (Atom (n - 1)))) h.0 ∙ omega (arith, h.1)
]

pair-text : (n : ℕ) → 2 ≤ n → text_told (pair_length n) ≡ min n 65537
pair-text n some = elim (past_or_not 65537 n) [
  | inl h ↦ ap (λ b. text_told (cond b Long (Joined (n - 2)))) h.0 ∙ omega (arith, h.1)
  | inr h ↦ ap (λ b. text_told (cond b Long (Joined (n - 2)))) h.0 ∙ omega (arith, h.1)
]

pub tells_text : (x : Object) → text_told (length_of x) ≡ text_length x
tells_text (Natural n) = atom-text (length (text_of (Natural n))) (some-text (Natural n))
tells_text (Pair a d) = pair-text (length (text_of (Pair a d))) (some_pair-text a d)
tells_text (Symbol s) = go (same_name s nil_name) refl
  where
    go : (b : Bool) → same_name s nil_name ≡ b → text_told (cond b Nil (atom_length (length (text_of (Symbol s))))) ≡ text_length (Symbol s)
    go true e = ap (λ t. text_length (Symbol t)) (sym (same_name-eq s nil_name e))
    go false e = atom-text (length (text_of (Symbol s))) (some-text (Symbol s))

-- ---- what is told of a text as the tail of a list

length-end_text : (t : List ℕ) → length (end_text false t) ≡ length t + 4
length-end_text t = omega (arith, length-append t (41 ∷ []))

atom-tail : (n : ℕ) → 0 < n → tail_told (atom_length n) ≡ min (n + 4 - 1) 65537
atom-tail n some = elim (past_or_not 65536 n) [
  | inl h ↦ ap (λ b. tail_told (cond b Long (Atom (n - 1)))) h.0 ∙ omega (arith, h.1)
  | inr h ↦ ap (λ b. tail_told (cond b Long (Atom (n - 1)))) h.0 ∙ omega (arith, h.1, some)
]

pair-tail : (n : ℕ) → 2 ≤ n → tail_told (pair_length n) ≡ min (n - 1) 65537
pair-tail n some = elim (past_or_not 65537 n) [
  | inl h ↦ ap (λ b. tail_told (cond b Long (Joined (n - 2)))) h.0 ∙ omega (arith, h.1)
  | inr h ↦ ap (λ b. tail_told (cond b Long (Joined (n - 2)))) h.0 ∙ omega (arith, h.1, some)
]

length-pair_tail : (a d : Object) → length (tail_text (Pair a d)) ≡ length (text_of (Pair a d))
length-pair_tail a d = omega (arith, length-append (text_of a) (tail_text d))

pub tells_tail : (x : Object) → tail_told (length_of x) ≡ tail_length x
tells_tail (Natural n) = atom-tail (length (numeral n)) (some-numeral n) ∙ ap (λ l. min (l - 1) 65537) (sym (length-end_text (numeral n)))
tells_tail (Pair a d) = pair-tail (length (text_of (Pair a d))) (some_pair-text a d) ∙ ap (λ l. min (l - 1) 65537) (sym (length-pair_tail a d))
tells_tail (Symbol s) = go (same_name s nil_name)
  where
    go : (b : Bool) → tail_told (cond b Nil (atom_length (length (name_text s)))) ≡ min (length (end_text b (name_text s)) - 1) 65537
    go true = refl
    go false = atom-tail (length (name_text s)) (some-text (Symbol s)) ∙ ap (λ l. min (l - 1) 65537) (sym (length-end_text (name_text s)))

-- ---- a pair, by what is told of its parts

pair_length-same : (m n : ℕ) → (m ≡ n) ⊎ ((65537 < m) × (65537 < n)) → pair_length m ≡ pair_length n
pair_length-same m n (inl e) = ap pair_length e
pair_length-same m n (inr l) = ap (λ b. cond b Long (Joined (m - 2))) (lt-ltb 65537 m l.0) ∙ sym (ap (λ b. cond b Long (Joined (n - 2))) (lt-ltb 65537 n l.1))

-- what is told of the parts comes to the whole, or both are past what counts
sums-or-past : (text tail whole first rest : ℕ) → first ≡ min text 65537 → rest ≡ min (tail - 1) 65537 → 0 < tail → whole ≡ text + tail + 1
    → (first + rest + 2 ≡ whole) ⊎ ((65537 < first + rest + 2) × (65537 < whole))
sums-or-past text tail whole first rest e f some w = elim (past_or_not 65537 text) [
  | inl h ↦ inr (omega (arith, e, h.1), omega (arith, w, h.1))
  | inr h ↦ elim (past_or_not 65537 (tail - 1)) [
    | inl k ↦ inr (omega (arith, f, k.1), omega (arith, w, k.1))
    | inr k ↦ inl (omega (arith, e, f, w, h.1, k.1, some))
  ]
]

pub pair_length-parts : (a d : Object) → pair_length (text_told (length_of a) + tail_told (length_of d) + 2) ≡ length_of (Pair a d)
pair_length-parts a d =
    pair_length-same (text_told (length_of a) + tail_told (length_of d) + 2) (length (text_of (Pair a d)))
    (sums-or-past (length (text_of a)) (length (tail_text d)) (length (text_of (Pair a d))) (text_told (length_of a)) (tail_told (length_of d)) (tells_text a) (tells_tail d) (some-tail_text d) (length-pair_text a d))

-- the length of an atom by what a conversion to 16 bits comes to
pub short_atom : (n less : ℕ) → less ≡ n - 1 → less < 65536 → 0 < n → Atom less ≡ atom_length n
short_atom n less e l some = elim (past_or_not 65536 n) [
  | inl h ↦ absurd (omega (arith, e, l, h.1))
  | inr h ↦ ap Atom e ∙ sym (ap (λ b. cond b Long (Atom (n - 1))) h.0)
]

pub long_atom : (n : ℕ) → 65535 < n - 1 → Long ≡ atom_length n
long_atom n l = sym (ap (λ b. cond b Long (Atom (n - 1))) (lt-ltb 65536 n (omega (arith, l))))

pub short_pair : (n less : ℕ) → less + 2 ≡ n → less < 65536 → Joined less ≡ pair_length n
short_pair n less e l = elim (past_or_not 65537 n) [
  | inl h ↦ absurd (omega (arith, e, l, h.1))
  | inr h ↦ ap Joined (omega (arith, e)) ∙ sym (ap (λ b. cond b Long (Joined (n - 2))) h.0)
]

pub long_pair : (n : ℕ) → 65537 < n → Long ≡ pair_length n
long_pair n l = sym (ap (λ b. cond b Long (Joined (n - 2))) (lt-ltb 65537 n l))
