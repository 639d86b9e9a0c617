-- A step is put with those that were collected, or memory runs out, while the heap and the theory stay.
use Rattle.std.proofs.Common.{◌≡◌, ℕ, ◌+◌, true, false, List, [], ◌∷◌, ◌++◌, map, Option, Some, None, refl, sym, ap, ap₂, ◌∙◌, subst}
use Rattle.std.proofs.lemmas.Bool.{false≢true}
use Rattle.std.proofs.lemmas.List.Elements.{All-push}
use Rattle.mw_model.specs.Terms.Object.{Object}
use Rattle.mw_model.specs.Terms.Term.{Formula, formula_object, IsFormula}
use Rattle.mw_model.specs.Values.Truth.{Each}
use Rattle.mw_model.specs.Values.Definition.{arity_table}
use Rattle.mw_model.specs.Laws.Rules.{is_formula_object}
use Rattle.mw_commands.specs.Commands.Log.{conclusion}
use Rattle.mw_heap.specs.Objects.{object_at, IsIn}
use Rattle.mw_theory.specs.declared.world.World.{World}
use Rattle.mw_theory.specs.Knowledge.{parts_of, meant}
use Rattle.mw_theory.specs.Worlds.{theory_in, IsWorld}
use Rattle.mw_theory.proofs.CallerLemmas.{held}
use Rattle.mw_flat.specs.declared.collected.Collected.{Collected}
use Rattle.mw_flat.specs.Collecting.{AreFormulasIn}
use Rattle.mw_flat.specs.Steps.{IsConclusion}
use Rattle.mw_flat.specs.Going.{Going, theory_of, HasCollected, IsGoing, going_of, IsNoted}
use Rattle.mw_flat.proofs.OneMore.{IsJudged, same-collected, after-bad, with-bad, with-good}

-- whatever steps were collected, x is put with them
abbrev pub Notes : Going → Going → Object → Type 0
Notes old new x = (steps : List Object) → HasCollected old steps → IsNoted old new steps x None

module _ (w : World) (c : Collected) (i : IsGoing w c) where
  -- after steps that are not all good
  pub notes-after-bad : (d : Collected) (x : Object) → c.good ≡ false → d.good ≡ false → d.count ≡ c.count + 1 → Notes (going_of w c) (going_of w d) x
  notes-after-bad d x was bad counted steps h = record { answer = refl; theory = refl; collected = after-bad (going_of w c) (going_of w d) steps x refl counted h was bad }

  -- what is said of a step after the conclusions rs is said of it after those that were collected
  pub judged-by : (rs : List ℕ) (x : Object) (o p : Option ℕ) → rs ≡ c.conclusions.items → o ≡ p → ((Fs : List Formula) → Each (IsFormula w.theory.arity) Fs → map (object_at w.heap.objects) rs ≡ map formula_object Fs → let t = theory_in w in IsConclusion w.heap.objects o (conclusion t.axioms t.theorems (arity_table t.definitions) t.definitions.profile Fs x)) → IsJudged (going_of w c) x p
  judged-by rs x o p rs_are o_is h Fs formulas same =
      let t = theory_in w in
      subst (λ q. IsConclusion w.heap.objects q (conclusion t.axioms t.theorems (arity_table t.definitions) t.definitions.profile Fs x)) o_is
      (h Fs (subst (λ A. Each (IsFormula A) Fs) (sym (held _ _ _ _ i.world).arities) formulas) (ap (map (object_at w.heap.objects)) rs_are ∙ same))

  module _ (new : World) (right : IsWorld new) (objects : new.heap.objects ≡ w.heap.objects) (kept : new.theory ≡ w.theory) (d : Collected) where
    pub same_theory : theory_of (going_of new d) ≡ theory_of (going_of w c)
    same_theory = ap₂ (λ os t. meant os (parts_of t)) objects kept

    formulas-stay : (rs : List ℕ) → AreFormulasIn w.heap.objects w.theory.arity rs → AreFormulasIn new.heap.objects new.theory.arity rs
    formulas-stay rs h = subst (λ os. AreFormulasIn os new.theory.arity rs) (sym objects) (subst (λ t. AreFormulasIn w.heap.objects t.arity rs) (sym kept) h)

    -- nothing was put there
    pub goes-on : d.conclusions.items ≡ c.conclusions.items → d.good ≡ c.good → d.count ≡ c.count → IsGoing new d
    goes-on same good count = record {
      world = right;
      built_in = ap (λ t. t.checker) kept ∙ i.built_in;
      formulas = subst (AreFormulasIn new.heap.objects new.theory.arity) (sym same) (formulas-stay c.conclusions.items i.formulas);
      known = λ g. let k = i.known (sym good ∙ g) in (k.0, same-collected (going_of w c) (going_of new d) k.0 objects same_theory same good count k.1);
    }

    -- a step that is not good
    pub goes-on-bad : d.conclusions.items ≡ c.conclusions.items → d.good ≡ false → IsGoing new d
    goes-on-bad same bad = record {
      world = right;
      built_in = ap (λ t. t.checker) kept ∙ i.built_in;
      formulas = subst (AreFormulasIn new.heap.objects new.theory.arity) (sym same) (formulas-stay c.conclusions.items i.formulas);
      known = λ g. absurd (false≢true (sym bad ∙ g));
    }

    pub notes-bad : (x : Object) → IsJudged (going_of w c) x None → d.good ≡ false → d.count ≡ c.count + 1 → Notes (going_of w c) (going_of new d) x
    notes-bad x judged bad counted steps h = record { answer = refl; theory = same_theory; collected = with-bad (going_of w c) (going_of new d) steps x same_theory counted h judged bad }

    -- a good step with the conclusion r
    module _ (x : Object) (r : ℕ) (judged : IsJudged (going_of w c) x (Some r)) (added : d.conclusions.items ≡ c.conclusions.items ++ r ∷ []) (good : d.good ≡ c.good) (counted : d.count ≡ c.count + 1) where
      pub notes-good : Notes (going_of w c) (going_of new d) x
      notes-good steps h = record { answer = refl; theory = same_theory; collected = with-good (going_of w c) (going_of new d) steps x same_theory counted h r judged objects good added }

      pub goes-on-good : IsIn w.heap.objects r × (is_formula_object w.theory.arity (object_at w.heap.objects r) ≡ true) → c.good ≡ true → IsGoing new d
      goes-on-good formula was = record {
        world = right;
        built_in = ap (λ t. t.checker) kept ∙ i.built_in;
        formulas =
            subst (AreFormulasIn new.heap.objects new.theory.arity) (sym added)
            (formulas-stay (c.conclusions.items ++ r ∷ []) (All-push (λ q. IsIn w.heap.objects q × (is_formula_object w.theory.arity (object_at w.heap.objects q) ≡ true)) c.conclusions.items r i.formulas formula));
        known = λ g. let k = i.known was in (k.0 ++ x ∷ [], (notes-good k.0 k.1).collected);
      }
