-- Lists in the heap from references, as the heap grows and as one list comes after another.
use Rattle.std.proofs.Common.{◌≡◌, ℕ, suc, arith, All, Bool, true, false, cond, map, Option, Some, None, List, [], ◌∷◌, ◌++◌, refl, sym, ap, ap₂, ◌∙◌}
use Rattle.mw_model.specs.Terms.Object.{Name, Object, Natural, Symbol, Pair, NIL, symbol, list3}
use Rattle.mw_model.specs.Terms.Term.{Term, Terms, NoTerms, More, is_among, variables, are_formals, names_object, terms_object, term_object}
use Rattle.mw_model.specs.Values.Primitive.{name_of}
use Rattle.mw_model.specs.Values.Definition.{variable_terms}
use Rattle.mw_model.specs.Events.Expansion.{without}
use Rattle.mw_heap.specs.Objects.{object_at, IsIn, Grows}
use Rattle.mw_heap.specs.Lists.{list_object, proper_list}
use Rattle.mw_heap.proofs.Objects.{object_at-Grows, IsIn-Grows}
use Rattle.mw_term.specs.Parts.{names_at, AreSymbols}
use Rattle.mw_term.proofs.Symbols.{symbol_is}
use Rattle.mw_model.proofs.Readable.{names_read}
use Rattle.mw_model.proofs.ReadBack.{some_one}
use Rattle.mw_term.specs.Parts.{if_formals, formals_of}
use Rattle.mw_translate.specs.Lets.{append_object, append_terms, prepend, AreAllIn, extended_object, let_lambda}

pub prepend-push : (os : List Object) (rs : List ℕ) (r : ℕ) (y : Object) → prepend os (rs ++ r ∷ []) y ≡ prepend os rs (Pair (object_at os r) y)
prepend-push os [] r y = refl
prepend-push os (q ∷ rs) r y = ap (Pair (object_at os q)) (prepend-push os rs r y)

pub all_in-push : (os : List Object) (rs : List ℕ) (r : ℕ) → AreAllIn os rs → IsIn os r → AreAllIn os (rs ++ r ∷ [])
all_in-push os [] r h i = (i, tt)
all_in-push os (q ∷ rs) r h i = (h.0, all_in-push os rs r h.1 i)

pub all_in-from : (os : List Object) (rs : List ℕ) → All (IsIn os) rs → AreAllIn os rs
all_in-from os [] h = tt
all_in-from os (r ∷ rs) h = (h 0 r (omega arith), all_in-from os rs (λ k d within. h (suc k) d (omega (arith, within))))

pub all_in-front : (os : List Object) (rs : List ℕ) (r : ℕ) → AreAllIn os (rs ++ r ∷ []) → AreAllIn os rs × IsIn os r
all_in-front os [] r h = (tt, h.0)
all_in-front os (q ∷ rs) r h = let k = all_in-front os rs r h.1 in ((h.0, k.0), k.1)

pub all_in-Grows : (old new : List Object) (rs : List ℕ) → Grows old new → AreAllIn old rs → AreAllIn new rs
all_in-Grows old new [] g h = tt
all_in-Grows old new (r ∷ rs) g h = (IsIn-Grows old new g r h.0, all_in-Grows old new rs g h.1)

pub prepend-Grows : (old new : List Object) (rs : List ℕ) (y : Object) → Grows old new → AreAllIn old rs → prepend new rs y ≡ prepend old rs y
prepend-Grows old new [] y g h = refl
prepend-Grows old new (r ∷ rs) y g h = ap₂ Pair (object_at-Grows old new g r h.0) (prepend-Grows old new rs y g h.1)

append-proper : (x y : Object) → append_object x y ≡ append_object (proper_list x) y
append-proper (Natural n) y = refl
append-proper (Symbol s) y = refl
append-proper (Pair a r) y = ap (Pair a) (append-proper r y)

append-listed : (os : List Object) (rs : List ℕ) (y : Object) → append_object (list_object os rs) y ≡ prepend os rs y
append-listed os [] y = refl
append-listed os (r ∷ rs) y = ap (Pair (object_at os r)) (append-listed os rs y)

-- the members of a list before another one
pub members_before : (os : List Object) (rs : List ℕ) (x y : Object) → list_object os rs ≡ proper_list x → append_object x y ≡ prepend os rs y
members_before os rs x y listed = append-proper x y ∙ (ap (λ l. append_object l y) (sym listed) ∙ append-listed os rs y)

pub symbols-in : (os : List Object) (rs : List ℕ) → AreSymbols os rs → AreAllIn os rs
symbols-in os [] h = tt
symbols-in os (r ∷ rs) h = (h.0, symbols-in os rs h.2)

pub prepend-names : (os : List Object) (rs : List ℕ) → AreSymbols os rs → prepend os rs NIL ≡ names_object (names_at os rs)
prepend-names os [] h = refl
prepend-names os (r ∷ rs) h = ap₂ Pair (symbol_is (object_at os r) h.1) (prepend-names os rs h.2)

pub append-names : (xs ys : List Name) → append_object (names_object xs) (names_object ys) ≡ names_object (xs ++ ys)
append-names [] ys = refl
append-names (x ∷ xs) ys = ap (Pair (Symbol x)) (append-names xs ys)

variables-object : (ys : List Name) → terms_object (variable_terms ys) ≡ names_object ys
variables-object [] = refl
variables-object (y ∷ ys) = ap (Pair (Symbol y)) (variables-object ys)

pub append-terms : (ts : Terms) (ys : List Name) → append_object (terms_object ts) (names_object ys) ≡ terms_object (append_terms ts (variable_terms ys))
append-terms NoTerms ys = sym (variables-object ys)
append-terms (More t ts) ys = ap (Pair (term_object t)) (append-terms ts ys)

pub without-push : (ys xs : List Name) (y : Name) → without (ys ++ y ∷ []) xs ≡ cond (is_among y xs) (without ys xs) (without ys xs ++ y ∷ [])
without-push [] xs y = refl
without-push (z ∷ ys) xs y = go (is_among z xs) (is_among y xs) (without-push ys xs y)
  where
    go : (a b : Bool) → without (ys ++ y ∷ []) xs ≡ cond b (without ys xs) (without ys xs ++ y ∷ []) → cond a (without (ys ++ y ∷ []) xs) (z ∷ without (ys ++ y ∷ []) xs) ≡ cond b (cond a (without ys xs) (z ∷ without ys xs)) (cond a (without ys xs) (z ∷ without ys xs) ++ y ∷ [])
    go true b h = h
    go false true h = ap (λ l. z ∷ l) h
    go false false h = ap (λ l. z ∷ l) h

pub names_at-symbols : (os : List Object) (rs : List ℕ) (xs : List Name) → map (object_at os) rs ≡ map Symbol xs → names_at os rs ≡ xs
names_at-symbols os [] [] h = refl
names_at-symbols os [] (x ∷ xs) h = cc
names_at-symbols os (r ∷ rs) [] h = cc
names_at-symbols os (r ∷ rs) (x ∷ xs) h =
    let first : object_at os r ≡ Symbol x = cc in
    let rest : map (object_at os) rs ≡ map Symbol xs = cc in
    ap₂ (λ y ys. y ∷ ys) (ap name_of first) (names_at-symbols os rs xs rest)

-- what names are as formals
abbrev pub AreRead : List Name → Option (List Name) → Type 0
AreRead xs None = are_formals xs ≡ false
AreRead xs (Some ys) = (are_formals xs ≡ true) × (ys ≡ xs)

pub formals_of-names : (xs : List Name) (o : Option (List Name)) → formals_of (names_object xs) ≡ o → AreRead xs o
formals_of-names xs o h = go (are_formals xs) refl o (sym (ap if_formals (names_read xs)) ∙ h)
  where
    go : (b : Bool) → are_formals xs ≡ b → (o : Option (List Name)) → cond (are_formals xs) (Some xs) None ≡ o → AreRead xs o
    go true e None k = let z : Some xs ≡ None = sym (ap (λ t. cond t (Some xs) None) e) ∙ k in cc
    go true e (Some ys) k = let z : Some xs ≡ Some ys = sym (ap (λ t. cond t (Some xs) None) e) ∙ k in (e, sym (some_one z))
    go false e None k = e
    go false e (Some ys) k = let z : None ≡ Some ys = sym (ap (λ t. cond t (Some xs) None) e) ∙ k in cc

pub let_object : (xs : List Name) (ts : Terms) (b : Term) → extended_object (names_object xs) (terms_object ts) (names_object (without (variables b) xs)) (term_object b) ≡ term_object (let_lambda xs ts b)
let_object xs ts b = ap₂ (λ n v. Pair (list3 (symbol "LAMBDA") n (term_object b)) v) (append-names xs (without (variables b) xs)) (append-terms ts (without (variables b) xs))
