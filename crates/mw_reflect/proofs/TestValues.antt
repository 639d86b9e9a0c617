-- Tests as the values of terms, and what holds of tests.
use Rattle.std.proofs.Common.{◌≡◌, ℕ, zero, suc, ◌+◌, Bool, true, false, ◌&&◌, ◌||◌, not, eqb, refl, sym, ap, ◌∙◌, arith, eqb-true, eq-eqb}
use Rattle.std.specs.Cmp.{both_ways as same_test}
use Rattle.std.proofs.lemmas.Bool.{ne_eqb}
use Rattle.mw_model.specs.Terms.Object.{Name, Object, Natural, Symbol, Pair, same_name, same_object, nil_name, NIL, T, truth_of, has_members}
use Rattle.mw_model.specs.Values.Primitive.{choose}
use Rattle.mw_model.specs.Laws.RulesInduction.{is_list_object, length_object}
pub use Rattle.mw_model.proofs.RulesExact.{passes, that-present}
use Rattle.mw_model.proofs.Names.{same_name-eq, same_name-from}

-- tests as values
pub and_value : (a b : Bool) → choose (truth_of a) (truth_of b) NIL ≡ truth_of (a && b)
and_value true b = refl
and_value false b = refl

pub or_value : (a b : Bool) → choose (truth_of a) T (truth_of b) ≡ truth_of (a || b)
or_value true b = refl
or_value false b = refl

pub not_value : (a : Bool) → choose (truth_of a) NIL T ≡ truth_of (not a)
not_value true = refl
not_value false = refl

pub not_and_value : (a b : Bool) → choose (truth_of a) NIL (truth_of b) ≡ truth_of (not a && b)
not_and_value true b = refl
not_and_value false b = refl

-- the second part is needed only where the first holds
pub and_then : {u v : Object} (a b : Bool) → u ≡ truth_of a → (a ≡ true → v ≡ truth_of b) → choose u v NIL ≡ truth_of (a && b)
and_then {u} {v} a b p q = go a p q
  where
    go : (a : Bool) → u ≡ truth_of a → (a ≡ true → v ≡ truth_of b) → choose u v NIL ≡ truth_of (a && b)
    go true p q = ap (λ w. choose w v NIL) p ∙ q refl
    go false p q = ap (λ w. choose w v NIL) p

pub same_name-swap : (x y : Name) → same_name x y ≡ same_name y x
same_name-swap x y =
    same_test (same_name x y) (same_name y x) (λ h. same_name-from y x (sym (same_name-eq x y h))) (λ h. same_name-from x y (sym (same_name-eq y x h)))

-- a proper list of n members
abbrev pub has_length : Object → ℕ → Bool
has_length x n = is_list_object x && eqb (length_object x) n

-- the second part of a test whose first part fails is not looked at
pub choose-nil : (u v : Object) → u ≡ NIL → choose u v NIL ≡ NIL
choose-nil u v e = ap (λ w. choose w v NIL) e

pub and_true : (a : Bool) → a && true ≡ a
and_true true = refl
and_true false = refl

pub and_false : (a : Bool) → a && false ≡ false
and_false true = refl
and_false false = refl

pub and_assoc : (a b c : Bool) → a && (b && c) ≡ (a && b) && c
and_assoc true b c = refl
and_assoc false b c = refl

pub eqb-swap : (a b : ℕ) → eqb a b ≡ eqb b a
eqb-swap a b = same_test (eqb a b) (eqb b a) (λ h. eq-eqb b a (sym (eqb-true a b h))) (λ h. eq-eqb a b (sym (eqb-true b a h)))

-- has_length is has_members
one_less : (m n : ℕ) → eqb (1 + m) (suc n) ≡ eqb m n
one_less m n = same_test (eqb (1 + m) (suc n)) (eqb m n) (λ h. let e = eqb-true (1 + m) (suc n) h in eq-eqb m n (omega arith)) (λ h. let e = eqb-true m n h in eq-eqb (1 + m) (suc n) (omega arith))

pub has_length-members : (n : ℕ) (x : Object) → has_length x n ≡ has_members n x
has_length-members zero (Natural n) = refl
has_length-members zero (Symbol s) = and_true (same_name s nil_name)
has_length-members zero (Pair a r) = ap (λ t. is_list_object r && t) (ne_eqb (1 + length_object r) 0 (λ e. omega (arith, e))) ∙ and_false (is_list_object r)
has_length-members (suc n) (Natural m) = refl
has_length-members (suc n) (Symbol s) = ap (λ t. same_name s nil_name && t) (ne_eqb 0 (suc n) (λ e. omega (arith, e))) ∙ and_false (same_name s nil_name)
has_length-members (suc n) (Pair a r) = ap (λ t. is_list_object r && t) (one_less (length_object r) n) ∙ has_length-members n r

pub has_length-three : (a b c z : Object) → has_length (Pair a (Pair b (Pair c z))) 3 ≡ same_object z NIL
has_length-three a b c z = has_length-members 3 (Pair a (Pair b (Pair c z)))

pub has_length-two : (a b z : Object) → has_length (Pair a (Pair b z)) 2 ≡ same_object z NIL
has_length-two a b z = has_length-members 2 (Pair a (Pair b z))

pub has_length-not_two : (a b c z : Object) → has_length (Pair a (Pair b (Pair c z))) 2 ≡ false
has_length-not_two a b c z = has_length-members 2 (Pair a (Pair b (Pair c z)))
