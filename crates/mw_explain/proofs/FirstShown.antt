-- What is shown of the first bad step of a proof.
use Rattle.std.proofs.Common.{◌≡◌, List, [], ◌∷◌, map, Option, Some, None, sym, ap, ◌∙◌, subst}
use Rattle.mw_model.specs.Terms.Object.{Object, Natural}
use Rattle.mw_model.specs.Terms.Term.{ArityTable}
use Rattle.mw_model.specs.Values.Primitive.{Profile}
use Rattle.mw_model.specs.Values.Definition.{arity_table}
use Rattle.mw_model.specs.Events.Theory.{Theory}
use Rattle.mw_heap.specs.Objects.{object_at}
use Rattle.mw_proof.specs.Step.{is_proof}
use Rattle.mw_commands.specs.Commands.ExplanationSteps.{listed, placed, placed_step, first_bad, is_proof_at, wrong_step, bad_step_shown}
use Rattle.mw_bad_steps.specs.declared.bad_step.BadStep.{BadStep}
use Rattle.mw_bad_steps.specs.BadStep.{placed_in}

module _ (t : Theory) (os : List Object) (y : Object) (o : Option BadStep) where
  abbrev pub Found : Object → Object → ArityTable → Profile → Type 0
  Found ax th A P = first_bad (is_proof ax th A P) y ≡ placed_in os o

  module _ (ax th : Object) (A : ArityTable) (P : Profile) (e : t.axioms ≡ ax) (f : t.theorems ≡ th) (g : arity_table t.definitions ≡ A) (h : t.definitions.profile ≡ P) (found : Found ax th A P) where
    pub found_at : first_bad (is_proof_at t) y ≡ placed_in os o
    found_at =
        subst (λ z. Found z t.theorems (arity_table t.definitions) t.definitions.profile) (sym e)
        (subst (λ z. Found ax z (arity_table t.definitions) t.definitions.profile) (sym f) (subst (λ z. Found ax th z t.definitions.profile) (sym g) (subst (λ z. Found ax th A z) (sym h) found)))

    pub nothing_shown : o ≡ None → bad_step_shown t y ≡ []
    nothing_shown n = ap (placed_step t) (found_at ∙ ap (placed_in os) n)

    pub one_found : (b : BadStep) → o ≡ Some b → first_bad (is_proof_at t) y ≡ Some (placed b.place.items (object_at os b.step))
    one_found b s = found_at ∙ ap (placed_in os) s

    pub step_follows_place : (b : BadStep) → o ≡ Some b → bad_step_shown t y ≡ listed (map Natural b.place.items) ∷ wrong_step t (object_at os b.step)
    step_follows_place b s = ap (placed_step t) (one_found b s)
