-- Reasons of the program, and what is wrong with a proof by them.
use Rattle.std.proofs.Common.{◌≡◌, [], refl, sym, ap, ◌∙◌}
use Rattle.mw_model.specs.Terms.Object.{Object}
use Rattle.mw_model.specs.Events.Theory.{Theory}
use Rattle.mw_model.specs.Events.Refusal.{Refusal, RANGE, EVENT, NAME, FORMALS, TERM, FORMULA, VARIABLES, NESTED, COUNT, CONCLUSION, PROOF, NILVALUE, STEPS, OVERFLOW, WITNESS, CLAIM, CHECKER, LONG, PROFILE}
use Rattle.mw_heap.specs.declared.vocabulary.refusal.Refusal.{Refusal as Reason}
use Rattle.mw_heap.specs.declared.vocabulary.refusal.Refusal.TheVariants as reason
use Rattle.mw_heap.specs.Variants.{refusal_of}
use Rattle.mw_commands.specs.Commands.Explanation.{wrong_proof}

-- for another reason than these two nothing is shown
pub nothing-wrong : (t : Theory) (p : Object) (q : Reason) → (q ≡ reason.Conclusion → ⊥) → (q ≡ reason.Proof → ⊥) → [] ≡ wrong_proof t (refusal_of q) p
nothing-wrong t p reason.Conclusion n m = absurd (n refl)
nothing-wrong t p reason.Proof n m = absurd (m refl)
nothing-wrong t p _ n m = refl

-- a reason by its word
abbrev reason_meant : Refusal → Reason
reason_meant RANGE = reason.Range
reason_meant EVENT = reason.Event
reason_meant NAME = reason.Name
reason_meant FORMALS = reason.Formals
reason_meant TERM = reason.Term
reason_meant FORMULA = reason.Formula
reason_meant VARIABLES = reason.Variables
reason_meant NESTED = reason.Nested
reason_meant COUNT = reason.Count
reason_meant CONCLUSION = reason.Conclusion
reason_meant PROOF = reason.Proof
reason_meant NILVALUE = reason.Nil
reason_meant STEPS = reason.Steps
reason_meant OVERFLOW = reason.Overflow
reason_meant WITNESS = reason.Witness
reason_meant CLAIM = reason.Claim
reason_meant CHECKER = reason.Checker
reason_meant LONG = reason.Long
reason_meant PROFILE = reason.Profile

meant_back : (q : Reason) → reason_meant (refusal_of q) ≡ q
meant_back reason.Range = refl
meant_back _ = refl

pub same-meant : (q p : Reason) → refusal_of q ≡ refusal_of p → q ≡ p
same-meant q p e = sym (meant_back q) ∙ (ap reason_meant e ∙ meant_back p)
