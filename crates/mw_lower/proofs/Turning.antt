-- What a derivation becomes in a heap is what it turns to.
use Rattle.std.proofs.Common.{◌≡◌, false, None, sym, ap, ◌∙◌, is_some}
use Rattle.mw_model.specs.Terms.Object.{Object}
use Rattle.mw_model.specs.Events.Fate.{is_out_of_range}
use Rattle.mw_model.proofs.Judging.{good_judge}
use Rattle.mw_commands.specs.Commands.Derivation.{Turns}
use Rattle.mw_commands.proofs.Deriving.{derive_good, good_derive}
use Rattle.mw_proof.specs.Judging.{Basis}
use Rattle.mw_lower.specs.Turned.{derived_on, Becomes}

pub becomes_turns : (b : Basis) (p q : Object) → Becomes b p q → is_out_of_range q ≡ false → Turns b.axioms b.theorems b.table b.profile p q
becomes_turns b p q h r = record {
  formula = h.formula;
  derived = derive_good b.axioms b.theorems b.table b.profile p h.formula h.derived;
  proved = h.proved;
  stays = λ k. h.stays (ap is_some (good_judge b.axioms b.theorems b.table b.profile p h.formula k).1);
  in_range = λ k. r;
}

pub none_turns : (b : Basis) (p q : Object) → derived_on b p ≡ None → Turns b.axioms b.theorems b.table b.profile p q → ⊥
none_turns b p q e t = absurd (cc (sym e ∙ (good_derive b.axioms b.theorems b.table b.profile p t.formula t.derived).1))
