-- Pieces one after another, and what may stand in them.
use Rattle.std.proofs.Common.{◌≡◌, ℕ, suc, ◌+◌, ◌≤◌, Bool, true, false, ltb, cond, List, [], ◌∷◌, ◌++◌, length, refl, sym, ap, ◌∙◌, subst, arith, append_assoc, lt-ltb}
use Rattle.std.proofs.lemmas.Bool.{true≢false}
use Rattle.mw_model.specs.Terms.Object.{Object}
use Rattle.mw_model.specs.Events.Fate.{longest}
use Rattle.mw_model.specs.Values.Primitive.{is_pair}
use Rattle.mw_model.specs.Values.Value.{pick}
use Rattle.mw_model.specs.Texts.Printing.{text_of}
use Rattle.mw_model.specs.Texts.Written.{IsCompact, IsLabelled, IsWritten}
use Rattle.mw_model.specs.Texts.Pieces.{InOrder, numbered, how_many}
use Rattle.mw_print.specs.Labelling.{labelled_text, labelled_next}
use Rattle.mw_print.specs.Repeats.{stands}

pub in_order_both : {X : Type 0} (P : X → List ℕ → Type 0) (xs ys : List X) (text more : List ℕ) → InOrder P xs text → InOrder P ys more → InOrder P (xs ++ ys) (text ++ more)
in_order_both P [] ys text more h k = subst (λ t. InOrder P ys (t ++ more)) (sym h) k
in_order_both P (x ∷ xs) ys text more h k = (h.0, h.1 ++ more, ap (λ t. t ++ more) h.2 ∙ append_assoc h.0 h.1 more, h.3, in_order_both P xs ys h.1 more h.4 k)

-- where each member may have a piece, the list may have a text
pub all_in_order : {X : Type 0} (P : X → List ℕ → Type 0) → ((x : X) → (piece : List ℕ) × P x piece) → (xs : List X) → (text : List ℕ) × InOrder P xs text
all_in_order P may [] = ([], refl)
all_in_order P may (x ∷ xs) =
    let p = may x in
    let r = all_in_order P may xs in
    (p.0 ++ r.0, (p.0, r.0, refl, p.1, r.1))

pub numbered-append : {X : Type 0} (k : ℕ) (xs ys : List X) → numbered k (xs ++ ys) ≡ numbered k xs ++ numbered (k + length xs) ys
numbered-append k [] ys = ap (λ n. numbered n ys) (let e : k ≡ k + 0 = omega arith in e)
numbered-append k (x ∷ xs) ys = ap (λ l. (k, x) ∷ l) (numbered-append (suc k) xs ys ∙ ap (λ n. numbered (suc k) xs ++ numbered n ys) (let e : suc k + length xs ≡ k + suc (length xs) = omega arith in e))

pub how_many-append : {X : Type 0} (test : X → Bool) (xs : List X) (y : X) → how_many test (xs ++ y ∷ []) ≡ how_many test xs + cond (test y) 1 0
how_many-append test [] y = let e : cond (test y) 1 0 + 0 ≡ 0 + cond (test y) 1 0 = omega arith in e
how_many-append test (x ∷ xs) y = let h = how_many-append test xs y in let e : cond (test x) 1 0 + how_many test (xs ++ y ∷ []) ≡ (cond (test x) 1 0 + how_many test xs) + cond (test y) 1 0 = omega (arith, h) in e

-- that what a printer writes with labels is such a text, and compact where all pairs that repeat have labels
abbrev pub LabelledTexts : Type 0
LabelledTexts =
    ((has_label : Object → Bool) (x : Object) (first : ℕ) → IsLabelled x first (labelled_text has_label x first) (labelled_next has_label x first))
    × ((has_label : Object → Bool) (x : Object) (first : ℕ) → ((p : Object) → is_pair p ≡ true → has_label p ≡ false → stands p x ≤ 1) → IsCompact x first (labelled_text has_label x first))

-- each object may be written
pub may_be_written : LabelledTexts → (x : Object) → (text : List ℕ) × (next : ℕ) × IsWritten x 1 text next
may_be_written labelled x = go (ltb longest (length (text_of x))) refl
  where
    all : Object → Bool
    all y = true

    go : (b : Bool) → ltb longest (length (text_of x)) ≡ b → (text : List ℕ) × (next : ℕ) × (pick b (IsLabelled x 1 text next) ((text ≡ text_of x) × (next ≡ 1)) × IsCompact x 1 text)
    go true e = (labelled_text all x 1, labelled_next all x 1, (labelled.0 all x 1, labelled.1 all x 1 (λ p pair h. cc)))
    go false e = (text_of x, 1, ((refl, refl), λ long few. absurd (true≢false (sym (lt-ltb longest (length (text_of x)) long) ∙ e))))
