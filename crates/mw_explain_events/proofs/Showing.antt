-- What references show.
use Rattle.std.proofs.Common.{◌≡◌, ℕ, ◌<◌, ◌≤◌, List, [], ◌∷◌, length, map, Option, Some, None, IfSome, Result, Ok, Err, IfOk, arith, refl, sym, ap, ap₂, ◌∙◌, subst, All}
use Rattle.std.proofs.lemmas.List.Elements.{All-nil, All-cons, All-head, All-tail}
use Rattle.mw_model.specs.Terms.Object.{Object, Natural, Symbol, Pair}
use Rattle.mw_model.specs.Terms.Term.{Formula, formula_object}
use Rattle.mw_model.specs.Laws.RulesInduction.{formulas_object}
use Rattle.mw_heap.specs.Objects.{object_at, IsIn, Grows}
use Rattle.mw_heap.specs.Lists.{list_object, proper_list}
use Rattle.mw_heap.proofs.Objects.{IsIn-Grows, object_at-Grows}
use Rattle.mw_bad_steps.specs.Shown.{Shows}

pub Shows-none : (os : List Object) → Shows os [] []
Shows-none os = (All-nil (IsIn os), refl)

-- where there are none, and nothing is to be shown
pub Shows-empty : (os : List Object) (xs : List ℕ) (ys : List Object) → xs ≡ [] → [] ≡ ys → Shows os xs ys
Shows-empty os xs ys none nothing = subst (Shows os xs) nothing (subst (λ zs. Shows os zs []) (sym none) (Shows-none os))

pub Shows-more : (os : List Object) (x : ℕ) (y : Object) (xs : List ℕ) (ys : List Object) → IsIn os x → object_at os x ≡ y → Shows os xs ys → Shows os (x ∷ xs) (y ∷ ys)
Shows-more os x y xs ys x_in is h = (All-cons (IsIn os) x xs x_in h.0, ap₂ ◌∷◌ is h.1)

pub Shows-one : (os : List Object) (x : ℕ) (y : Object) → IsIn os x → object_at os x ≡ y → Shows os (x ∷ []) (y ∷ [])
Shows-one os x y x_in is = Shows-more os x y [] [] x_in is (Shows-none os)

-- what they show as the heap grows
pub Shows-grown : (old new : List Object) → Grows old new → (xs : List ℕ) → All (IsIn old) xs → Shows new xs (map (object_at old) xs)
Shows-grown old new g [] h = Shows-none new
Shows-grown old new g (x ∷ xs) h =
    Shows-more new x (object_at old x) xs (map (object_at old) xs) (IsIn-Grows old new g x (All-head (IsIn old) x xs h)) (object_at-Grows old new g x (All-head (IsIn old) x xs h)) (Shows-grown old new g xs (All-tail (IsIn old) x xs h))

-- the members of a list of formulas
abbrev members_in : Object → List Object
members_in (Pair x r) = x ∷ members_in r
members_in _ = []

members_listed : (os : List Object) (xs : List ℕ) → members_in (list_object os xs) ≡ map (object_at os) xs
members_listed os [] = refl
members_listed os (x ∷ xs) = ap (λ ys. object_at os x ∷ ys) (members_listed os xs)

members_proper : (x : Object) → members_in (proper_list x) ≡ members_in x
members_proper (Pair x r) = ap (λ ys. x ∷ ys) (members_proper r)
members_proper (Natural n) = refl
members_proper (Symbol s) = refl

members_formulas : (Fs : List Formula) → members_in (formulas_object Fs) ≡ map formula_object Fs
members_formulas [] = refl
members_formulas (F ∷ Fs) = ap (λ ys. formula_object F ∷ ys) (members_formulas Fs)

pub formulas-shown : (os : List Object) (xs : List ℕ) (x : Object) (Fs : List Formula) → list_object os xs ≡ proper_list x → x ≡ formulas_object Fs → map (object_at os) xs ≡ map formula_object Fs
formulas-shown os xs x Fs is owed = sym (members_listed os xs) ∙ (ap members_in is ∙ (members_proper x ∙ (ap members_in owed ∙ members_formulas Fs)))

-- what the members of a list show, where it is the list of formulas for which something holds
pub members-shown-by : (os : List Object) {V E : Type 0} (items : V → List ℕ) (r : Result V E) (x : Object) (P : List Formula → Type 0) → IfOk r (λ v. All (IsIn os) (items v)) → IfOk r (λ v. list_object os (items v) ≡ proper_list x) → ((Fs : List Formula) → P Fs → x ≡ formulas_object Fs) → IfOk r (λ v. (Fs : List Formula) → P Fs → Shows os (items v) (map formula_object Fs))
members-shown-by os items (Ok v) x P within members owed = λ Fs p. (within, formulas-shown os (items v) x Fs members (owed Fs p))
members-shown-by os items (Err e) x P within members owed = tt

-- what is within as many marks as there are objects is in the heap
pub part-within : (os : List Object) (n : ℕ) (o : Option ℕ) → n ≤ length os → IfSome o (λ p. p < n) → IfSome o (IsIn os)
part-within os n None l h = tt
part-within os n (Some p) l h = omega (arith, l, h)
