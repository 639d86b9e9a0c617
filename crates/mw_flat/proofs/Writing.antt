-- Members one after another, and steps one after another.
use Rattle.std.proofs.Common.{◌≡◌, ℕ, suc, ◌+◌, ◌<◌, List, [], ◌∷◌, ◌++◌, length, map, take, get_or, append-nil, append_assoc, refl, sym, ap, ◌∙◌, subst, arith}
use Rattle.std.proofs.lemmas.List.{map-append, length-map, take_more, length-take-le}
use Rattle.mw_model.specs.Terms.Object.{Object}
use Rattle.mw_model.specs.Texts.Printing.{text_of}
use Rattle.mw_model.specs.Texts.Written.{IsCompact}
use Rattle.mw_model.specs.Texts.Pieces.{InOrder, numbered}
use Rattle.mw_commands.proofs.TextWritten.{text_is_written}
use Rattle.mw_flat.specs.Members.{WritesMember, WritesMembers}

pub writes_none : (first : ℕ) (old : List ℕ) → WritesMembers [] first old old
writes_none first old = ([], sym (append-nil old), refl)

pub writes_more : (x : Object) (xs : List Object) (first next : ℕ) (a b c : List ℕ) → WritesMember x first a b next → WritesMembers xs next b c → WritesMembers (x ∷ xs) first a c
writes_more x xs first next a b c m r = (32 ∷ (m.0 ++ r.0), r.1 ∙ (ap (λ t. t ++ r.0) m.1 ∙ append_assoc a (32 ∷ m.0) r.0), (m.0, r.0, next, refl, m.2, r.2))

-- a compact text may stand for its object, however long
pub writes_text : (x : Object) (first : ℕ) (old new : List ℕ) → IsCompact x first (text_of x) → new ≡ old ++ 32 ∷ text_of x → WritesMember x first old new first
writes_text x first old new compact e = (text_of x, e, text_is_written x first compact)

-- one more step
numbered_push : {X : Type 0} (P : ℕ × X → List ℕ → Type 0) (k : ℕ) (xs : List X) (x : X) (text line : List ℕ) → InOrder P (numbered k xs) text → P (k + length xs, x) line → InOrder P (numbered k (xs ++ x ∷ [])) (text ++ line)
numbered_push P k [] x text line h p = (line, [], ap (λ t. t ++ line) h ∙ sym (append-nil line), subst (λ n. P (n, x) line) (let e : k + 0 ≡ k = omega arith in e) p, refl)
numbered_push P k (y ∷ ys) x text line h p =
    (h.0, h.1 ++ line, ap (λ t. t ++ line) h.2 ∙ append_assoc h.0 h.1 line, h.3, numbered_push P (suc k) ys x h.1 line h.4 (subst (λ n. P (n, x) line) (let e : k + suc (length ys) ≡ suc k + length ys = omega arith in e) p))

pub one_more : {X : Type 0} (P : ℕ × X → List ℕ → Type 0) (f : ℕ → X) (keys : List ℕ) (i : ℕ) (l : i < length keys) (text line : List ℕ) → InOrder P (numbered 1 (map f (take i keys))) text → P (i + 1, f (get_or keys i 0)) line → InOrder P (numbered 1 (map f (take (i + 1) keys))) (text ++ line)
one_more P f keys i l text line h p =
    let count : i + 1 ≡ 1 + length (map f (take i keys)) = omega (arith, length-map (take i keys) f, length-take-le i keys (omega arith)) in
    subst (λ xs. InOrder P (numbered 1 xs) (text ++ line)) (sym (map-append f (take i keys) (get_or keys i 0 ∷ [])) ∙ ap (map f) (sym (take_more keys i 0 l)))
    (numbered_push P 1 (map f (take i keys)) (f (get_or keys i 0)) text line h (subst (λ n. P (n, f (get_or keys i 0)) line) count p))
