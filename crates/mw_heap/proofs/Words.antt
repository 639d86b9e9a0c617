-- Where the words stand.
use Rattle.std.proofs.Common.{◌≡◌, ℕ, ◌+◌, ◌<◌, ◌≤◌, Bool, true, false, eqb, Option, Some, None, MatchOption, List, take, length, get_or, refl, sym, ap, ◌∙◌, arith, ◌⊎◌, inl, inr, map, subst}
use Rattle.std.specs.List.{range_with_len}
use Rattle.std.proofs.lemmas.Bool.{ne_eqb}
use Rattle.std.proofs.lemmas.List.{get_or-map}
use Rattle.std.proofs.lemmas.List.FromFn.{get_or-range_with_len}
use Rattle.std.proofs.Math.Nat.{eq-or-lt_of_le}
use Rattle.mw_model.specs.Terms.Object.{Object, same_object, NIL}
use Rattle.mw_heap.specs.Objects.{object_at, IsIn, Grows}
use Rattle.mw_heap.specs.declared.vocabulary.word.Word.{Word}
use Rattle.mw_heap.specs.declared.vocabulary.word.Word.TheVariants as word
use Rattle.mw_heap.specs.declared.vocabulary.word.TheConstants.{WORDS}
use Rattle.mw_heap.specs.Words.{word_object, place_of, word_count, KeepsWords}
use Rattle.mw_heap.proofs.Objects.{IsIn-Grows, object_at-Grows, IsIn-take, object_at-take}

pub place_of-below : (w : Word) → place_of w < word_count
place_of-below word.Nil = omega arith
place_of-below word.T = omega arith
place_of-below word.Quote = omega arith
place_of-below word.Lambda = omega arith
place_of-below word.If = omega arith
place_of-below word.Pequal = omega arith
place_of-below word.Pnot = omega arith
place_of-below word.Por = omega arith
place_of-below word.And = omega arith
place_of-below word.Or = omega arith
place_of-below word.Cond = omega arith
place_of-below word.List = omega arith
place_of-below word.Let = omega arith
place_of-below word.LetStar = omega arith
place_of-below word.First = omega arith
place_of-below word.Second = omega arith
place_of-below word.Third = omega arith
place_of-below word.Fourth = omega arith
place_of-below word.Fifth = omega arith
place_of-below word.Verify = omega arith
place_of-below word.Define = omega arith
place_of-below word.DefineAll = omega arith
place_of-below word.Skolem = omega arith
place_of-below word.Switch = omega arith
place_of-below word.Eval = omega arith
place_of-below word.Print = omega arith
place_of-below word.Profile = omega arith
place_of-below word.Axiom = omega arith
place_of-below word.Theorem = omega arith
place_of-below word.PropositionalSchema = omega arith
place_of-below word.FunctionalEquality = omega arith
place_of-below word.BetaReduction = omega arith
place_of-below word.BaseEval = omega arith
place_of-below word.Expansion = omega arith
place_of-below word.Contraction = omega arith
place_of-below word.Associativity = omega arith
place_of-below word.Cut = omega arith
place_of-below word.Instantiation = omega arith
place_of-below word.Induction = omega arith
place_of-below word.Ordp = omega arith
place_of-below word.OrdLess = omega arith
place_of-below word.Step = omega arith
place_of-below word.CommuteOr = omega arith
place_of-below word.ModusPonens = omega arith
place_of-below word.Symmetry = omega arith
place_of-below word.Transitivity = omega arith
place_of-below word.Replace = omega arith
place_of-below word.Car = omega arith
place_of-below word.Cdr = omega arith
place_of-below word.Cons = omega arith

-- the list of all words has each in its place
pub word_in_place : (d w : Word) → get_or WORDS (place_of w) d ≡ w
word_in_place d word.Nil = refl
word_in_place d word.T = refl
word_in_place d word.Quote = refl
word_in_place d word.Lambda = refl
word_in_place d word.If = refl
word_in_place d word.Pequal = refl
word_in_place d word.Pnot = refl
word_in_place d word.Por = refl
word_in_place d word.And = refl
word_in_place d word.Or = refl
word_in_place d word.Cond = refl
word_in_place d word.List = refl
word_in_place d word.Let = refl
word_in_place d word.LetStar = refl
word_in_place d word.First = refl
word_in_place d word.Second = refl
word_in_place d word.Third = refl
word_in_place d word.Fourth = refl
word_in_place d word.Fifth = refl
word_in_place d word.Verify = refl
word_in_place d word.Define = refl
word_in_place d word.DefineAll = refl
word_in_place d word.Skolem = refl
word_in_place d word.Switch = refl
word_in_place d word.Eval = refl
word_in_place d word.Print = refl
word_in_place d word.Profile = refl
word_in_place d word.Axiom = refl
word_in_place d word.Theorem = refl
word_in_place d word.PropositionalSchema = refl
word_in_place d word.FunctionalEquality = refl
word_in_place d word.BetaReduction = refl
word_in_place d word.BaseEval = refl
word_in_place d word.Expansion = refl
word_in_place d word.Contraction = refl
word_in_place d word.Associativity = refl
word_in_place d word.Cut = refl
word_in_place d word.Instantiation = refl
word_in_place d word.Induction = refl
word_in_place d word.Ordp = refl
word_in_place d word.OrdLess = refl
word_in_place d word.Step = refl
word_in_place d word.CommuteOr = refl
word_in_place d word.ModusPonens = refl
word_in_place d word.Symmetry = refl
word_in_place d word.Transitivity = refl
word_in_place d word.Replace = refl
word_in_place d word.Car = refl
word_in_place d word.Cdr = refl
word_in_place d word.Cons = refl

-- and the place of each is its index there
pub place_in_list : (i : ℕ) (d : Word) → i < word_count → place_of (get_or WORDS i d) ≡ i
place_in_list i d within =
    let at : place_of (get_or WORDS i d) ≡ 0 + i = sym (get_or-map place_of WORDS i d 0 within) ∙ (ap (λ l. get_or l i 0) places ∙ get_or-range_with_len 0 word_count i 0 within) in
    omega (arith, at)
  where
    places : map place_of WORDS ≡ range_with_len 0 word_count
    places = refl

-- each fact about the words in the list is one about all words
pub all_words : (P : Word → Type 0) (d : Word) → ((i : ℕ) → i < word_count → P (get_or WORDS i d)) → (w : Word) → P w
all_words P d each w = subst P (word_in_place d w) (each (place_of w) (place_of-below w))

-- a fact about each number below n and about n
pub one_below_more : (P : ℕ → Type 0) (n : ℕ) → ((i : ℕ) → i < n → P i) → P n → (i : ℕ) → i < n + 1 → P i
one_below_more P n before here i below = go (eq-or-lt_of_le (omega (arith, below)))
  where
    go : (i ≡ n) ⊎ (i < n) → P i
    go (inl e) = subst P (sym e) here
    go (inr l) = before i l

-- where the words stand in their places, and equal objects in one, the place of an object tells its word
pub word_told : (os : List Object) (x : ℕ) → ((w : Word) → IsIn os (place_of w) × (object_at os (place_of w) ≡ word_object w)) → ((y : ℕ) → IsIn os y → eqb x y ≡ same_object (object_at os x) (object_at os y)) → (r : Option Word) → MatchOption r (word_count ≤ x) (λ w. place_of w ≡ x) → MatchOption r ((w : Word) → same_object (object_at os x) (word_object w) ≡ false) (λ w. object_at os x ≡ word_object w)
word_told os x keeps same (Some w) at = ap (object_at os) (sym at) ∙ (keeps w).1
word_told os x keeps same None after = differs
  where
    differs : (w : Word) → same_object (object_at os x) (word_object w) ≡ false
    differs w =
        let h = keeps w in
        let apart : x ≡ place_of w → ⊥ = λ e. omega (arith, e, after, place_of-below w) in
        ap (same_object (object_at os x)) (sym h.1) ∙ (sym (same (place_of w) h.0) ∙ ne_eqb x (place_of w) apart)

-- NIL stands first
pub nil_is_first : (w : Word) → eqb (place_of w) 0 ≡ same_object NIL (word_object w)
nil_is_first word.Nil = refl
nil_is_first word.T = refl
nil_is_first word.Quote = refl
nil_is_first word.Lambda = refl
nil_is_first word.If = refl
nil_is_first word.Pequal = refl
nil_is_first word.Pnot = refl
nil_is_first word.Por = refl
nil_is_first word.And = refl
nil_is_first word.Or = refl
nil_is_first word.Cond = refl
nil_is_first word.List = refl
nil_is_first word.Let = refl
nil_is_first word.LetStar = refl
nil_is_first word.First = refl
nil_is_first word.Second = refl
nil_is_first word.Third = refl
nil_is_first word.Fourth = refl
nil_is_first word.Fifth = refl
nil_is_first word.Verify = refl
nil_is_first word.Define = refl
nil_is_first word.DefineAll = refl
nil_is_first word.Skolem = refl
nil_is_first word.Switch = refl
nil_is_first word.Eval = refl
nil_is_first word.Print = refl
nil_is_first word.Profile = refl
nil_is_first word.Axiom = refl
nil_is_first word.Theorem = refl
nil_is_first word.PropositionalSchema = refl
nil_is_first word.FunctionalEquality = refl
nil_is_first word.BetaReduction = refl
nil_is_first word.BaseEval = refl
nil_is_first word.Expansion = refl
nil_is_first word.Contraction = refl
nil_is_first word.Associativity = refl
nil_is_first word.Cut = refl
nil_is_first word.Instantiation = refl
nil_is_first word.Induction = refl
nil_is_first word.Ordp = refl
nil_is_first word.OrdLess = refl
nil_is_first word.Step = refl
nil_is_first word.CommuteOr = refl
nil_is_first word.ModusPonens = refl
nil_is_first word.Symmetry = refl
nil_is_first word.Transitivity = refl
nil_is_first word.Replace = refl
nil_is_first word.Car = refl
nil_is_first word.Cdr = refl
nil_is_first word.Cons = refl

-- growth keeps the words
pub KeepsWords-Grows : (known : Bool) (inside old new : List Object) → inside ≡ old → Grows old new → KeepsWords known inside → KeepsWords known new
KeepsWords-Grows known inside old new e g keeps k w =
    let h = keeps k w in
    let within : IsIn old (place_of w) = omega (arith, h.0, ap length e) in
    (IsIn-Grows old new g (place_of w) within, object_at-Grows old new g (place_of w) within ∙ (ap (λ os. object_at os (place_of w)) (sym e) ∙ h.1))

-- and so does a cut after them
pub KeepsWords-cut : (known : Bool) (os cut : List Object) (n : ℕ) → cut ≡ take n os → word_count ≤ n → n ≤ length os → known ≡ true → KeepsWords known os → (w : Word) → IsIn cut (place_of w) × (object_at cut (place_of w) ≡ word_object w)
KeepsWords-cut known os cut n e after within k keeps w =
    let h = keeps k w in
    let below : place_of w < n = omega (arith, place_of-below w, after) in
    let is_in : IsIn (take n os) (place_of w) = IsIn-take n os (place_of w) below within in
    (omega (arith, is_in, ap length e), ap (λ l. object_at l (place_of w)) e ∙ (object_at-take n os (place_of w) below ∙ h.1))

-- each word before the i-th stands in its place
abbrev pub StandBefore : ℕ → List Object → Type 0
StandBefore i os = (w : Word) → place_of w < i → IsIn os (place_of w) × (object_at os (place_of w) ≡ word_object w)

-- one word more
pub one_word_more : (os new : List Object) (i : ℕ) (d : Word) → Grows os new → StandBefore i os → (r : ℕ) → IsIn new r → object_at new r ≡ word_object (get_or WORDS i d) → r ≡ place_of (get_or WORDS i d) → StandBefore (i + 1) new
one_word_more os new i d g before r is_in made placed w below = go (eq-or-lt_of_le (omega (arith, below)))
  where
    go : (place_of w ≡ i) ⊎ (place_of w < i) → IsIn new (place_of w) × (object_at new (place_of w) ≡ word_object w)
    go (inl e) =
        let is : get_or WORDS i d ≡ w = ap (λ k. get_or WORDS k d) (sym e) ∙ word_in_place d w in
        let at : r ≡ place_of w = placed ∙ ap place_of is in
        (omega (arith, at, is_in), ap (object_at new) (sym at) ∙ (made ∙ ap word_object is))
    go (inr l) = let h = before w l in (IsIn-Grows os new g (place_of w) h.0, object_at-Grows os new g (place_of w) h.0 ∙ h.1)
