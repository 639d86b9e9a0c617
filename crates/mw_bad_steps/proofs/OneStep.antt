-- A proof, and an object of which all holds that must hold of one but that its subproofs are proofs.
use Rattle.std.proofs.Common.{◌≡◌, Bool, true, ◌&&◌, sym, ◌∙◌}
use Rattle.std.proofs.lemmas.Bool.{and_parts, and_from}
use Rattle.mw_model.specs.Terms.Object.{Object, second_of}
use Rattle.mw_model.specs.Laws.Rules.{is_formula_object}
use Rattle.mw_proof.specs.Step.{has_proof_shape, subproofs_of, step_holds}
use Rattle.mw_proof.specs.Judging.{Basis, is_proof_on, are_proofs_on, have_conclusions, is_step_on}
use Rattle.mw_proof.proofs.StepExact.{is_proof-step}
use Rattle.mw_proof.proofs.Holding.{proofs_conclude}

module _ (b : Basis) (p : Object) where
  abbrev shape : Bool
  shape = has_proof_shape p

  abbrev formed : Bool
  formed = is_formula_object b.table (second_of p)

  abbrev rule : Bool
  rule = step_holds b.axioms b.theorems b.table b.profile p

  parts : (s : Bool) → (shape && (formed && (s && rule))) ≡ true → (shape ≡ true) × (formed ≡ true) × (s ≡ true) × (rule ≡ true)
  parts s h =
      let a = and_parts shape (formed && (s && rule)) h in
      let f = and_parts formed (s && rule) a.1 in
      let r = and_parts s rule f.1 in
      (a.0, f.0, r.0, r.1)

  together : (s : Bool) → shape ≡ true → formed ≡ true → s ≡ true → rule ≡ true → (shape && (formed && (s && rule))) ≡ true
  together s a f t r = and_from shape (formed && (s && rule)) a (and_from formed (s && rule) f (and_from s rule t r))

  by_parts : is_proof_on b p ≡ (shape && (formed && (are_proofs_on b (subproofs_of p) && rule)))
  by_parts = is_proof-step b.axioms b.theorems b.table b.profile p

  pub subproofs_hold : is_proof_on b p ≡ true → are_proofs_on b (subproofs_of p) ≡ true
  subproofs_hold h = (parts (are_proofs_on b (subproofs_of p)) (sym by_parts ∙ h)).2

  pub proof_holds : is_proof_on b p ≡ true → is_step_on b p ≡ true
  proof_holds h =
      let r = parts (are_proofs_on b (subproofs_of p)) (sym by_parts ∙ h) in
      together (have_conclusions b.table (subproofs_of p)) r.0 r.1 (proofs_conclude b (subproofs_of p) r.2) r.3

  pub step_concludes : is_step_on b p ≡ true → have_conclusions b.table (subproofs_of p) ≡ true
  step_concludes h = (parts (have_conclusions b.table (subproofs_of p)) h).2

  pub proof_by_step : is_step_on b p ≡ true → are_proofs_on b (subproofs_of p) ≡ true → is_proof_on b p ≡ true
  proof_by_step h k =
      let r = parts (have_conclusions b.table (subproofs_of p)) h in
      by_parts ∙ together (are_proofs_on b (subproofs_of p)) r.0 r.1 k r.3
