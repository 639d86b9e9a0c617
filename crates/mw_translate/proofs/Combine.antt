-- Meanings from the meanings of parts, which are there where those are.
use Rattle.std.proofs.Common.{◌≡◌, ℕ, ◌<◌, ◌≤◌, arith, Bool, true, false, cond, List, [], ◌∷◌, Option, Some, None, Result, Ok, Err, IfOk, ◌⊎◌, inl, inr, refl, sym, ap, ap₂, ◌∙◌, subst}
use Rattle.std.proofs.Common.{eqb, eqb-true, eq-eqb, rules}
use denote.Enum.Bare.{same_true}
use Rattle.mw_translate.specs.contracts.part.Kind.{the_type}
use Rattle.std.proofs.lemmas.Bool.{and_parts, and_from}
use Rattle.mw_model.specs.Terms.Object.{Object}
use Rattle.mw_model.specs.Terms.Term.{Term, ArityTable, is_term, term_object}
use Rattle.mw_model.specs.Terms.Reading.{that, when}
use Rattle.mw_model.specs.Events.Expansion.{expand, expanded}
use Rattle.mw_model.proofs.ReadBack.{some_one}
use Rattle.mw_heap.specs.Objects.{object_at, IsIn}
use Rattle.mw_translate.specs.declared.part.Part.{Part}
use Rattle.mw_translate.specs.declared.part.Kind.{Kind}
use Rattle.mw_translate.specs.declared.part.Kind.TheVariants as kind
use Rattle.mw_translate.specs.declared.made.Made.{Made}
use Rattle.mw_translate.specs.contracts.part.PartPartialEq.TheImpl.{ghosts}
use Rattle.mw_translate.specs.contracts.part.KindPartialEq.TheImpl as kinds
use Rattle.mw_translate.specs.Meaning.{Meaning, meaning, of_term}
use Rattle.mw_translate.specs.declared.progress.Progress.{Progress}
use Rattle.mw_translate.specs.declared.progress.Progress.TheVariants as progress
use Rattle.mw_translate.specs.Parts.{part_at}
use Rattle.mw_translate.specs.Memo.{Entries, found, meaning_at, AreMade, IsForward, IsStep}
use Rattle.mw_translate.specs.Checked.{IsMade}

abbrev pub combine1 : (Meaning → Option Meaning) → Option Meaning → Option Meaning
combine1 f (Some a) = f a
combine1 f None = None

abbrev pub combine2 : (Meaning → Meaning → Option Meaning) → Option Meaning → Option Meaning → Option Meaning
combine2 f (Some a) o = combine1 (f a) o
combine2 f None o = None

abbrev pub combine3 : (Meaning → Meaning → Meaning → Option Meaning) → Option Meaning → Option Meaning → Option Meaning → Option Meaning
combine3 f (Some a) o p = combine2 (f a) o p
combine3 f None o p = None

pub combine2-none : (f : Meaning → Meaning → Option Meaning) (o : Option Meaning) → combine2 f o None ≡ None
combine2-none f None = refl
combine2-none f (Some a) = refl

-- where the parts are there under a test
pub combine1-cond : (f : Meaning → Option Meaning) (b : Bool) (m : Meaning) → combine1 f (cond b (Some m) None) ≡ cond b (f m) None
combine1-cond f true m = refl
combine1-cond f false m = refl

pub combine2-cond : (f : Meaning → Meaning → Option Meaning) (b c : Bool) (m n : Meaning) → combine2 f (cond b (Some m) None) (cond c (Some n) None) ≡ cond b (cond c (f m n) None) None
combine2-cond f true true m n = refl
combine2-cond f true false m n = refl
combine2-cond f false c m n = refl

pub combine3-second : (f : Meaning → Meaning → Meaning → Option Meaning) (o p : Option Meaning) → combine3 f o None p ≡ None
combine3-second f None p = refl
combine3-second f (Some a) p = refl

pub combine3-third : (f : Meaning → Meaning → Meaning → Option Meaning) (o p : Option Meaning) → combine3 f o p None ≡ None
combine3-third f None p = refl
combine3-third f (Some a) None = refl
combine3-third f (Some a) (Some b) = refl

kind-eq : (j k : Kind) → kinds.ghosts.eq j k ≡ true → j ≡ k
kind-eq j k h = same_true the_type (search rules) j k h

kind-same : (k : Kind) → kinds.ghosts.eq k k ≡ true
kind-same kind.Term = refl
kind-same kind.Terms = refl
kind-same kind.And = refl
kind-same kind.Or = refl
kind-same kind.List = refl
kind-same kind.Cond = refl
kind-same kind.Names = refl
kind-same kind.Values = refl
kind-same kind.Head = refl

pub part-same : (p : Part) → ghosts.eq p p ≡ true
part-same p = and_from (kinds.ghosts.eq p.kind p.kind) (eqb p.cell p.cell) (kind-same p.kind) (eq-eqb p.cell p.cell refl)

pub part-eq : (p q : Part) → ghosts.eq p q ≡ true → p ≡ q
part-eq p q h =
    let e = and_parts (kinds.ghosts.eq p.kind q.kind) (eqb p.cell q.cell) h in
    ap₂ part_at (kind-eq p.kind q.kind e.0) (eqb-true p.cell q.cell e.1)

-- what was made of a part
module _ (A : ArityTable) (os : List Object) where
  pub record Means (p : Part) (m : Made) : Type 0 where
    pub cell_in : IsIn os p.cell
    pub object_in : IsIn os m.object
    pub is : meaning_at A os p ≡ Some (object_at os m.object, m.count)

  pub made_found : (es : Entries) (p : Part) (m : Made) → AreMade A os es → found es p ≡ Some m → Means p m
  made_found [] p m h e = cc
  made_found (f ∷ es) p m h e = go (ghosts.eq p f.0) refl e (made_found es p m h.3)
    where
      go : (b : Bool) → ghosts.eq p f.0 ≡ b → cond b (Some f.1) (found es p) ≡ Some m → (found es p ≡ Some m → Means p m) → Means p m
      go true t k rest =
          let same = part-eq p f.0 t in
          let value = some_one k in
          subst (λ q. Means q m) (sym same) (subst (λ n. Means f.0 n) value (record { cell_in = h.0; object_in = h.1; is = h.2 }))
      go false t k rest = rest k

-- a part that is wanted is before the cell, was not made, and without it there is no meaning
abbrev pub IsWanted : ArityTable → List Object → Entries → Option Meaning → ℕ → Part → Type 0
IsWanted A os es goal cell w = (w.cell < cell) × (found es w ≡ None) × (meaning_at A os w ≡ None → goal ≡ None)

module _ (A : ArityTable) (os : List Object) (es : Entries) (goal : Option Meaning) (cell : ℕ) where
  pub one-needed : {k : Kind} {x : ℕ} {w : Part} → w ≡ part_at k x → x < cell → found es w ≡ None → (meaning A k (object_at os x) ≡ None → goal ≡ None) → IsWanted A os es goal cell w
  one-needed i less none needed = (subst (λ p. p.cell < cell) (sym i) less, none, λ n. needed (sym (ap (meaning_at A os) i) ∙ n))

  pub one-wanted : {k : Kind} {x : ℕ} {p : Part} (f : Meaning → Option Meaning) → p ≡ part_at k x → goal ≡ combine1 f (meaning A k (object_at os x)) → x < cell → found es p ≡ None → IsWanted A os es goal cell p
  one-wanted f i e less none = one-needed i less none (λ n. e ∙ ap (combine1 f) n)

  pub both-wanted : {j k : Kind} {x y : ℕ} {p q w : Part} (f : Meaning → Meaning → Option Meaning) → p ≡ part_at j x → q ≡ part_at k y → goal ≡ combine2 f (meaning A j (object_at os x)) (meaning A k (object_at os y)) → x < cell → y < cell → (found es w ≡ None) × ((w ≡ p) ⊎ (w ≡ q)) → IsWanted A os es goal cell w
  both-wanted {j} {k} {x} {y} f a b e first second h =
      elim h.1 [
        | inl i ↦ one-needed (i ∙ a) first h.0 (λ n. e ∙ ap (λ o. combine2 f o (meaning A k (object_at os y))) n)
        | inr i ↦ one-needed (i ∙ b) second h.0 (λ n. e ∙ (ap (combine2 f (meaning A j (object_at os x))) n ∙ combine2-none f (meaning A j (object_at os x))))
      ]

  -- one of three parts is wanted, without each of which there is no meaning
  pub one-of-three : {i j k : Kind} {x y z : ℕ} {p q r w : Part} → p ≡ part_at i x → q ≡ part_at j y → r ≡ part_at k z → x < cell → y < cell → z < cell → (meaning A i (object_at os x) ≡ None → goal ≡ None) → (meaning A j (object_at os y) ≡ None → goal ≡ None) → (meaning A k (object_at os z) ≡ None → goal ≡ None) → (found es w ≡ None) × ((w ≡ p) ⊎ ((w ≡ q) ⊎ (w ≡ r))) → IsWanted A os es goal cell w
  one-of-three a b c first second third f g h wanted =
      elim wanted.1 [
        | inl e ↦ one-needed (e ∙ a) first wanted.0 f
        | inr d ↦ elim d [ inl e ↦ one-needed (e ∙ b) second wanted.0 g | inr e ↦ one-needed (e ∙ c) third wanted.0 h ]
      ]

  pub three-wanted : {i j k : Kind} {x y z : ℕ} {p q r w : Part} (f : Meaning → Meaning → Meaning → Option Meaning) → p ≡ part_at i x → q ≡ part_at j y → r ≡ part_at k z → goal ≡ combine3 f (meaning A i (object_at os x)) (meaning A j (object_at os y)) (meaning A k (object_at os z)) → x < cell → y < cell → z < cell → (found es w ≡ None) × ((w ≡ p) ⊎ ((w ≡ q) ⊎ (w ≡ r))) → IsWanted A os es goal cell w
  three-wanted {i} {j} {k} {x} {y} {z} f a b c e first second third h =
      let o = meaning A i (object_at os x) in
      let p = meaning A j (object_at os y) in
      let q = meaning A k (object_at os z) in
      one-of-three a b c first second third
      (λ n. e ∙ ap (λ m. combine3 f m p q) n)
      (λ n. e ∙ (ap (λ m. combine3 f o m q) n ∙ combine3-second f o q))
      (λ n. e ∙ (ap (combine3 f o p) n ∙ combine3-third f o p)) h

  module _ (made : AreMade A os es) where
    pub made-at : {k : Kind} {x : ℕ} {p : Part} {m : Made} → p ≡ part_at k x → found es p ≡ Some m → meaning A k (object_at os x) ≡ Some (object_at os m.object, m.count)
    made-at {k} {x} {p} {m} i h = sym (ap (meaning_at A os) i) ∙ (made_found A os es p m made h).is

    pub one-made : {k : Kind} {x : ℕ} {p : Part} {a : Made} (f : Meaning → Option Meaning) → p ≡ part_at k x → goal ≡ combine1 f (meaning A k (object_at os x)) → found es p ≡ Some a → goal ≡ f (object_at os a.object, a.count)
    one-made f i e h = e ∙ ap (combine1 f) (made-at i h)

    pub both-made : {j k : Kind} {x y : ℕ} {p q : Part} {a b : Made} (f : Meaning → Meaning → Option Meaning) → p ≡ part_at j x → q ≡ part_at k y → goal ≡ combine2 f (meaning A j (object_at os x)) (meaning A k (object_at os y)) → found es p ≡ Some a → found es q ≡ Some b → goal ≡ f (object_at os a.object, a.count) (object_at os b.object, b.count)
    both-made f i j e h k = e ∙ ap₂ (combine2 f) (made-at i h) (made-at j k)

    pub three-made : {i j k : Kind} {x y z : ℕ} {p q r : Part} {a b c : Made} (f : Meaning → Meaning → Meaning → Option Meaning) → p ≡ part_at i x → q ≡ part_at j y → r ≡ part_at k z → goal ≡ combine3 f (meaning A i (object_at os x)) (meaning A j (object_at os y)) (meaning A k (object_at os z)) → found es p ≡ Some a → found es q ≡ Some b → found es r ≡ Some c → goal ≡ f (object_at os a.object, a.count) (object_at os b.object, b.count) (object_at os c.object, c.count)
    three-made {k = k} {z = z} {a = a} {b = b} f s t u e g h l =
        e ∙ (ap₂ (λ m n. combine3 f m n (meaning A k (object_at os z))) (made-at s g) (made-at t h)
        ∙ ap (combine1 (f (object_at os a.object, a.count) (object_at os b.object, b.count))) (made-at u l))

-- what was made of an equal meaning, and what goes on as a part of this meaning
module _ (A : ArityTable) (old new : List Object) (es : Entries) where
  pub step_made : (goal made : Option Meaning) (cell : ℕ) (s : Progress) → goal ≡ made → IsMade new made s → IsStep A old new es goal cell s
  step_made goal made cell (progress.Made m) e h = (h.0, e ∙ h.1)
  step_made goal made cell (progress.Wants p) e h = absurd h
  step_made goal made cell progress.Fails e h = e ∙ h

  pub result_made : {E : Type 0} (goal made : Option Meaning) (cell : ℕ) (r : Result Progress E) → goal ≡ made → IfOk r (IsMade new made) → IfOk r (IsStep A old new es goal cell)
  result_made goal made cell (Ok s) e h = step_made goal made cell s e h
  result_made goal made cell (Err x) e h = h

  -- the same step towards an equal meaning, of a later cell
  pub step_same : (goal same : Option Meaning) (cell later : ℕ) (s : Progress) → goal ≡ same → cell ≤ later → IsStep A old new es same cell s → IsStep A old new es goal later s
  step_same goal same cell later (progress.Made m) e l h = (h.0, e ∙ h.1)
  step_same goal same cell later (progress.Wants p) e l h = (omega (arith, h.0, l), h.1, λ n. e ∙ h.2 n)
  step_same goal same cell later progress.Fails e l h = e ∙ h

  pub result_same : {E : Type 0} (goal same : Option Meaning) (cell later : ℕ) (r : Result Progress E) → goal ≡ same → cell ≤ later → IfOk r (IsStep A old new es same cell) → IfOk r (IsStep A old new es goal later)
  result_same goal same cell later (Ok s) e l h = step_same goal same cell later s e l h
  result_same goal same cell later (Err x) e l h = h

pub forward-step : (A : ArityTable) (os : List Object) (es : Entries) (goal : Option Meaning) (cell : ℕ) {k : Kind} {x : ℕ} {p : Part} → p ≡ part_at k x → (s : Progress) → AreMade A os es → goal ≡ meaning A k (object_at os x) → x < cell → IsForward es p s → IsStep A os os es goal cell s
forward-step A os es goal cell {p = p} i (progress.Made m) made e less h = let f = made_found A os es p m made h in (f.object_in, e ∙ (sym (ap (meaning_at A os) i) ∙ f.is))
forward-step A os es goal cell i (progress.Wants q) made e less h = subst (IsWanted A os es goal cell) (sym (h.1 ∙ i)) (less, subst (λ p. found es p ≡ None) i h.0, λ n. e ∙ n)
forward-step A os es goal cell i progress.Fails made e less h = absurd h

-- no meaning and a meaning, as an expansion
pub expand-none : (A : ArityTable) (x : Object) → meaning A kind.Term x ≡ None → expand A x ≡ None
expand-none A x h = go (expanded x) h
  where
    go : (o : Option Term) → of_term A o ≡ None → that (is_term A) o ≡ None
    go None k = refl
    go (Some t) k = by (is_term A t) k
      where
        by : (b : Bool) → cond {A = Option Meaning} b (Some (term_object t, 0)) None ≡ None → when b (Some t) ≡ None
        by true e = cc
        by false e = refl

pub expand-some : (A : ArityTable) (x : Object) (t : Term) → expanded x ≡ Some t → is_term A t ≡ true → expand A x ≡ Some t
expand-some A x t e h = ap (that (is_term A)) e ∙ ap (λ b. when b (Some t)) h
