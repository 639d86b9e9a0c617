-- A pair is an ordinal where its leading term passes each test and its rest is one.
use Rattle.std.proofs.Common.{◌≡◌, ℕ, Bool, true, false, ◌&&◌, not, ltb, List, refl, sym, ap, ap₂, ◌∙◌}
use Rattle.mw_model.specs.Terms.Object.{Object, Natural, Symbol, Pair, same_object}
use Rattle.mw_model.specs.Values.Primitive.{number, is_natural, is_pair}
use Rattle.mw_model.specs.Laws.Ordinal.{is_ordinal, leads_below}
use Rattle.mw_ordinal.specs.Leading.{may_lead}
use Rattle.mw_heap.specs.declared.store.view.View.{View}
use Rattle.mw_heap.specs.declared.store.view.View.TheVariants.{Nat, Symbol as Name, Pair as Parts}
use Rattle.mw_heap.specs.Objects.{Shows}

-- the test of the rest goes last
regroup : (a z n p r l : Bool) → (a && (z && (n && (p && (r && l))))) ≡ (a && ((z && ((n && p) && l)) && r))
regroup false z n p r l = refl
regroup true false n p r l = refl
regroup true true false p r l = refl
regroup true true true false r l = refl
regroup true true true true true true = refl
regroup true true true true true false = refl
regroup true true true true false true = refl
regroup true true true true false false = refl

module _ (x t r e c : Object) (is_x : x ≡ Pair t r) (is_t : t ≡ Pair e c) where
  by_parts : is_ordinal x ≡ (is_ordinal e && (may_lead e c r && is_ordinal r))
  by_parts = ap is_ordinal (is_x ∙ ap (λ u. Pair u r) is_t) ∙ regroup (is_ordinal e) (not (same_object e (Natural 0))) (is_natural c) (ltb 0 (number c)) (is_ordinal r) (leads_below r e)

  pub without_exponent : is_ordinal e ≡ false → false ≡ is_ordinal x
  without_exponent h = sym (by_parts ∙ ap (λ b. b && (may_lead e c r && is_ordinal r)) h)

  pub without_leading : is_ordinal e ≡ true → may_lead e c r ≡ false → false ≡ is_ordinal x
  without_leading h l = sym (by_parts ∙ ap₂ (λ a b. a && (b && is_ordinal r)) h l)

  pub passes : is_ordinal e ≡ true → may_lead e c r ≡ true → is_ordinal r ≡ is_ordinal x
  passes h l = sym (by_parts ∙ ap₂ (λ a b. a && (b && is_ordinal r)) h l)

-- what a view that is no pair, or no natural, shows
pub is_pair-shown : (os : List Object) (v : View) (x : Object) → Shows os v x → ((a b : ℕ) → v ≡ Parts a b → ⊥) → is_pair x ≡ false
is_pair-shown os (Nat n) x h other = ap is_pair h
is_pair-shown os Name (Symbol s) h other = refl
is_pair-shown os Name (Natural n) h other = cc
is_pair-shown os Name (Pair a b) h other = cc
is_pair-shown os (Parts a b) x h other = absurd (other a b refl)

pub is_natural-shown : (os : List Object) (v : View) (x : Object) → Shows os v x → ((n : ℕ) → v ≡ Nat n → ⊥) → is_natural x ≡ false
is_natural-shown os (Nat n) x h other = absurd (other n refl)
is_natural-shown os Name (Symbol s) h other = refl
is_natural-shown os Name (Natural n) h other = cc
is_natural-shown os Name (Pair a b) h other = cc
is_natural-shown os (Parts a b) x h other = ap is_natural h.2

pub without_term : (x t r : Object) → x ≡ Pair t r → is_pair t ≡ false → false ≡ is_ordinal x
without_term x t r e h = go t h ∙ ap is_ordinal (sym e)
  where
    go : (u : Object) → is_pair u ≡ false → false ≡ is_ordinal (Pair u r)
    go (Natural n) k = refl
    go (Symbol s) k = refl
    go (Pair a b) k = cc

pub of_no_kind : (x : Object) → is_pair x ≡ false → is_natural x ≡ false → false ≡ is_ordinal x
of_no_kind (Natural n) h k = cc
of_no_kind (Symbol s) h k = refl
of_no_kind (Pair a b) h k = cc
