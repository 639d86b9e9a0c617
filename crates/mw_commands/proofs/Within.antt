-- What occurs in one object occurs in another: so it is for the parts of a pair, and for the members of a proper list.
use Rattle.std.proofs.Common.{◌≡◌, ℕ, zero, suc, true, sym, subst}
use Rattle.std.proofs.lemmas.Bool.{or_left, or_right}
use Rattle.mw_model.specs.Terms.Object.{Object, Natural, Symbol, Pair, NIL, car, cdr, second_of, third_of, fourth_of, fifth_of, has_members, list1}
use Rattle.mw_model.proofs.Names.{same_object-eq}
use Rattle.mw_commands.specs.Commands.Slice.{occurs}

-- what occurs in x occurs in y
abbrev pub Within : Object → Object → Type 0
Within x y = (a : Object) → occurs a x ≡ true → occurs a y ≡ true

pub first_within : (a b : Object) → Within a (Pair a b)
first_within a b x h = or_left (occurs x a) (occurs x b) h

pub rest_within : (a b : Object) → Within b (Pair a b)
rest_within a b x h = or_right (occurs x a) (occurs x b) h

pub within_trans : (x y z : Object) → Within x y → Within y z → Within x z
within_trans x y z f g a h = g a (f a h)

-- ---- members of proper lists

pub members_first : (n : ℕ) (x : Object) → has_members (suc n) x ≡ true → Within (car x) x
members_first n (Pair a r) h = first_within a r
members_first n (Natural m) h = cc
members_first n (Symbol s) h = cc

pub members_rest : (n : ℕ) (x : Object) → has_members (suc n) x ≡ true → Within (cdr x) x
members_rest n (Pair a r) h = rest_within a r
members_rest n (Natural m) h = cc
members_rest n (Symbol s) h = cc

pub members_after : (n : ℕ) (x : Object) → has_members (suc n) x ≡ true → has_members n (cdr x) ≡ true
members_after n (Pair a r) h = h
members_after n (Natural m) h = cc
members_after n (Symbol s) h = cc

pub end_within : (n : ℕ) (x : Object) → has_members n x ≡ true → Within NIL x
end_within zero x h = subst (Within NIL) (sym (same_object-eq x NIL h)) (λ a k. k)
end_within (suc n) x h = within_trans NIL (cdr x) x (end_within n (cdr x) (members_after n x h)) (members_rest n x h)

pub one_member : (x : Object) → has_members 1 x ≡ true → Within (list1 (car x)) x
one_member (Pair a r) h = subst (λ z. Within (list1 a) (Pair a z)) (sym (same_object-eq r NIL h)) (λ b k. k)
one_member (Natural m) h = cc
one_member (Symbol s) h = cc

-- the members after the first of a list of some length
pub second_there : (n : ℕ) (x : Object) → has_members (suc (suc n)) x ≡ true → Within (second_of x) x
second_there n x h = within_trans (second_of x) (cdr x) x (members_first n (cdr x) (members_after (suc n) x h)) (members_rest (suc n) x h)

pub third_there : (n : ℕ) (x : Object) → has_members (suc (suc (suc n))) x ≡ true → Within (third_of x) x
third_there n x h = within_trans (third_of x) (cdr x) x (second_there n (cdr x) (members_after (suc (suc n)) x h)) (members_rest (suc (suc n)) x h)

pub fourth_there : (n : ℕ) (x : Object) → has_members (suc (suc (suc (suc n)))) x ≡ true → Within (fourth_of x) x
fourth_there n x h = within_trans (fourth_of x) (cdr x) x (third_there n (cdr x) (members_after (suc (suc (suc n))) x h)) (members_rest (suc (suc (suc n))) x h)

pub fifth_there : (n : ℕ) (x : Object) → has_members (suc (suc (suc (suc (suc n))))) x ≡ true → Within (fifth_of x) x
fifth_there n x h = within_trans (fifth_of x) (cdr x) x (fourth_there n (cdr x) (members_after (suc (suc (suc (suc n)))) x h)) (members_rest (suc (suc (suc (suc n)))) x h)
