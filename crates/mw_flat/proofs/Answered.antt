-- A datum with a natural past the range, a step that is not good, and an event of no form.
use Rattle.std.proofs.Common.{◌≡◌, ℕ, ◌+◌, Bool, true, false, ◌&&◌, not, List, [], ◌∷◌, ◌++◌, length, map, Option, Some, None, option_map, refl, sym, ap, ◌∙◌, subst, arith, length-append, is_some}
use Rattle.std.proofs.lemmas.Bool.{false≢true}
use Rattle.mw_model.specs.Terms.Object.{Object, Natural, Symbol, Pair, symbol, car, same_object, second_of, has_members}
use Rattle.mw_model.specs.Terms.Term.{Formula, ArityTable}
use Rattle.mw_model.specs.Terms.Reading.{when}
use Rattle.mw_model.specs.Values.Primitive.{Profile}
use Rattle.mw_model.specs.Values.Definition.{arity_table}
use Rattle.mw_model.specs.Events.Theory.{Theory}
use Rattle.mw_model.specs.Events.Fate.{is_out_of_range, event_word}
use Rattle.mw_commands.specs.Commands.Log.{SHAPE, STEP, No, Entry, conclusion, conclusions, entry_by, entry_of, answer_to_steps, answer_to_entry, logged, is_step}
use Rattle.mw_heap.specs.Objects.{object_at}
use Rattle.mw_theory.specs.declared.world.World.{World}
use Rattle.mw_theory.specs.Worlds.{IsWorld}
use Rattle.mw_flat.specs.declared.collected.Collected.{Collected}
use Rattle.mw_flat.specs.Collecting.{AreConclusions, AreFormulasIn}
use Rattle.mw_flat.specs.Going.{Going, theory_of, HasCollected, IsGoing, going_of}
use Rattle.mw_flat.proofs.Goings.{no_formulas}
use Rattle.mw_flat.proofs.Conclusions.{with_step, conclusions-more}

never : (a o s : Bool) → o ≡ true → (a && (not o && s)) ≡ false
never true true s h = refl
never false true s h = refl
never a false s h = cc

when-not : {X : Type 0} (b : Bool) (o : Option X) → b ≡ false → when b o ≡ None
when-not false o h = refl
when-not true o h = cc

module _ (ax th : Object) (A : ArityTable) (P : Profile) (x : Object) (large : is_out_of_range x ≡ true) where
  not-good : (Fs : List Formula) → conclusion ax th A P Fs x ≡ None
  not-good Fs = when-not (has_members 6 x && (not (is_out_of_range x) && same_object (second_of x) (Natural (length Fs + 1)))) _ (never (has_members 6 x) (is_out_of_range x) (same_object (second_of x) (Natural (length Fs + 1))) large)

  pub none-with-large : (o : Option (List Formula)) → with_step ax th A P o x ≡ None
  none-with-large None = refl
  none-with-large (Some Fs) = ap (option_map (λ F. Fs ++ F ∷ [])) (not-good Fs)

-- no step is good any more
pub large-collected : (old new : Going) (steps : List Object) (x : Object) → is_out_of_range x ≡ true → theory_of new ≡ theory_of old → new.good ≡ false → new.count ≡ old.count + 1 → HasCollected old steps → HasCollected new (steps ++ x ∷ [])
large-collected old new steps x large theory bad counted h =
    let t = theory_of old in
    let A = arity_table t.definitions in
    let P = t.definitions.profile in
    record {
      count = omega (arith, counted, h.count, length-append steps (x ∷ []));
      conclusions =
          subst (λ u. AreConclusions new.objects new.good new.conclusions (conclusions u.axioms u.theorems (arity_table u.definitions) u.definitions.profile (steps ++ x ∷ []))) (sym theory)
          (subst (AreConclusions new.objects new.good new.conclusions) (sym (conclusions-more t.axioms t.theorems A P steps x ∙ none-with-large t.axioms t.theorems A P x large (conclusions t.axioms t.theorems A P steps))) bad);
    }

-- an event of no form
pub large-entry : (x : Object) → is_out_of_range x ≡ true → entry_of x ≡ None
large-entry x large = ap (λ b. when (not b) (entry_by (event_word x) x)) large

pub no-form : (t : Theory) (steps : List Object) (x : Object) → entry_of x ≡ None → logged t steps x ≡ (No SHAPE, t)
no-form t steps x none = ap (answer_to_entry t steps x) none

-- a datum with the word of no event
pub wordless : (x : Object) → event_word x ≡ None → entry_of x ≡ None
wordless x h = ap (λ w. when (not (is_out_of_range x)) (entry_by w x)) h ∙ nothing (not (is_out_of_range x))
  where
    nothing : (b : Bool) → when b (entry_by None x) ≡ None
    nothing true = refl
    nothing false = refl

pub absent : {X : Type 0} (o : Option X) → is_some o ≡ false → o ≡ None
absent None h = refl
absent (Some x) h = cc

-- an event after steps that are not all good
pub no-step : (t : Theory) (steps : List Object) (x : Object) (os : List Object) (good : Bool) (rs : List ℕ) → good ≡ false → is_some (entry_of x) ≡ true →
    AreConclusions os good rs (conclusions t.axioms t.theorems (arity_table t.definitions) t.definitions.profile steps) → logged t steps x ≡ (No STEP, t)
no-step t steps x os good rs bad there h = by_entry (entry_of x) there
  where
    by_steps : (entry : Entry) (o : Option (List Formula)) → AreConclusions os good rs o → answer_to_steps t x entry o ≡ (No STEP, t)
    by_steps entry None k = refl
    by_steps entry (Some Fs) k = absurd (false≢true (sym bad ∙ k.0))

    by_entry : (o : Option Entry) → is_some o ≡ true → answer_to_entry t steps x o ≡ (No STEP, t)
    by_entry None k = cc
    by_entry (Some entry) k = by_steps entry (conclusions t.axioms t.theorems (arity_table t.definitions) t.definitions.profile steps) h

-- no steps
pub none-collected : (g : Going) → g.count ≡ 0 → g.good ≡ true → g.conclusions ≡ [] → HasCollected g []
none-collected g count good none = record { count = count; conclusions = (good, ap (map (object_at g.objects)) none) }

-- no steps are collected any more
pub forgotten : (w : World) (c : Collected) → IsWorld w → w.theory.checker ≡ None → c.conclusions.items ≡ [] → c.good ≡ true → c.count ≡ 0 → IsGoing w c
forgotten w c right built_in none good count = record {
  world = right;
  built_in = built_in;
  formulas = subst (AreFormulasIn w.heap.objects w.theory.arity) (sym none) (no_formulas w.heap.objects w.theory.arity);
  known = λ g. ([], none-collected (going_of w c) count good none);
}

-- a datum is a step by its first member
pub step-headed : (x : Object) → same_object (car x) (symbol "STEP") ≡ is_step x
step-headed (Pair a b) = refl
step-headed (Natural n) = refl
step-headed (Symbol s) = refl
