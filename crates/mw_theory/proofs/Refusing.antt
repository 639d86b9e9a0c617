-- The tests of a VERIFY, one after another, and what its fate and the next theory are by them.
use Rattle.std.proofs.Common.{◌≡◌, Bool, true, false, [], Option, Some, None, IfSome, option_map, is_some, refl}
use Rattle.mw_model.specs.Terms.Object.{Object}
use Rattle.mw_model.specs.Events.Theory.{Theory}
use Rattle.mw_model.specs.Events.Refusal.{Refusal, NAME, FORMULA, Accepted}
use Rattle.mw_heap.specs.declared.vocabulary.refusal.Refusal.{Refusal as Reason}
use Rattle.mw_heap.specs.Variants.{refusal_of}
use Rattle.mw_theory.specs.Settling.{refusal_by, by_refusal, fate_by}

pub refused_name : (n f : Bool) (r : Option Refusal) → n ≡ false → Some NAME ≡ refusal_by n f r
refused_name false f r h = refl
refused_name true f r h = cc

pub refused_formula : (n f : Bool) (r : Option Refusal) → n ≡ true → f ≡ false → Some FORMULA ≡ refusal_by n f r
refused_formula true false r h k = refl
refused_formula true true r h k = cc
refused_formula false f r h k = cc

pub proof_refused : (n f : Bool) (r : Option Refusal) → n ≡ true → f ≡ true → r ≡ refusal_by n f r
proof_refused true true r h k = refl
proof_refused true false r h k = cc
proof_refused false f r h k = cc

-- where there is a reason, and where there is none
pub fate_refused : (t : Theory) (x : Object) (r : Option Reason) → is_some r ≡ true → (fate_by (option_map refusal_of r) ≡ (by_refusal t x (option_map refusal_of r)).0) × (t ≡ (by_refusal t x (option_map refusal_of r)).1)
fate_refused t x None h = cc
fate_refused t x (Some q) h = (refl, refl)

pub none_of : (r : Option Reason) → is_some r ≡ false → option_map refusal_of r ≡ None
none_of None h = refl
none_of (Some q) h = cc

-- what is accepted has no reason
pub accepted_none : (P : Type 0) (r : Option Reason) → fate_by (option_map refusal_of r) ≡ Accepted [] → IfSome r (λ q. P)
accepted_none P None h = tt
accepted_none P (Some q) h = cc

-- what holds whether or not there is a reason
pub where_some : (P : Type 0) (r : Option Reason) → P → IfSome r (λ q. P)
where_some P None h = tt
where_some P (Some q) h = h
