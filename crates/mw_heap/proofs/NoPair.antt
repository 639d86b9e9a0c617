-- What is no pair: such a view shows none, and its parts are NIL.
use Rattle.std.proofs.Common.{◌≡◌, ℕ, true, false, List, refl, ap}
use Rattle.mw_model.specs.Terms.Object.{Object, Natural, Symbol, Pair, car, cdr, NIL}
use Rattle.mw_model.specs.Values.Primitive.{is_pair, is_symbol}
use Rattle.mw_heap.specs.declared.store.view.View.{View}
use Rattle.mw_heap.specs.declared.store.view.View.TheVariants.{Nat, Symbol as Named, Pair as Parts}
use Rattle.mw_heap.specs.Objects.{Shows}

symbol_no_pair : (x : Object) → is_symbol x ≡ true → is_pair x ≡ false
symbol_no_pair (Natural n) h = refl
symbol_no_pair (Symbol s) h = refl
symbol_no_pair (Pair a b) h = cc

pub shown_no_pair : (os : List Object) (v : View) (x : Object) → Shows os v x → ((a b : ℕ) → v ≡ Parts a b → ⊥) → is_pair x ≡ false
shown_no_pair os (Nat n) x h other = ap is_pair h
shown_no_pair os Named x h other = symbol_no_pair x h
shown_no_pair os (Parts a b) x h other = absurd (other a b refl)

-- what callers of pair_of use where there is no pair
pub no_pair-car : (x : Object) → is_pair x ≡ false → car x ≡ NIL
no_pair-car (Natural n) h = refl
no_pair-car (Symbol s) h = refl
no_pair-car (Pair a b) h = cc

pub no_pair-cdr : (x : Object) → is_pair x ≡ false → cdr x ≡ NIL
no_pair-cdr (Natural n) h = refl
no_pair-cdr (Symbol s) h = refl
no_pair-cdr (Pair a b) h = cc
