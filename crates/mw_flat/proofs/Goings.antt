-- What going through a log holds, as the heap grows.
use Rattle.std.proofs.Common.{◌≡◌, ℕ, Bool, true, List, [], ◌∷◌, map, Option, Some, None, refl, sym, ap, ap₂, ◌∙◌, subst, arith}
use Rattle.std.proofs.lemmas.List.Elements.{All-head, All-tail}
use Rattle.mw_model.specs.Terms.Object.{Object}
use Rattle.mw_model.specs.Terms.Term.{Formula, ArityTable}
use Rattle.mw_model.specs.Values.Definition.{arity_table}
use Rattle.mw_model.specs.Laws.Rules.{is_formula_object}
use Rattle.mw_commands.specs.Commands.Log.{conclusions}
use Rattle.mw_heap.specs.Objects.{object_at, IsIn, Grows}
use Rattle.mw_heap.proofs.Objects.{IsIn-Grows, object_at-Grows}
use Rattle.mw_heap.specs.Contents.{Contents}
use Rattle.mw_theory.specs.declared.world.World.{World}
use Rattle.mw_theory.specs.Knowledge.{parts_of, name_read}
use Rattle.mw_theory.proofs.CallerLemmas.{grown_theory, grown}
use Rattle.mw_flat.specs.declared.collected.Collected.{Collected}
use Rattle.mw_flat.specs.Collecting.{AreConclusions, AreFormulasIn}
use Rattle.mw_flat.specs.Going.{Going, theory_of, HasCollected, IsGoing, going_of}

-- a checker without a name is the built-in one
pub unnamed : (os : List Object) (c : Option ℕ) → name_read os c ≡ None → c ≡ None
unnamed os None h = refl
unnamed os (Some r) h = cc

pub no_formulas : (os : List Object) (A : ArityTable) → AreFormulasIn os A []
no_formulas os A = λ k d l. absurd (omega (arith, l))

module _ (old new : List Object) (grows : Grows old new) where
  map-grows : (A : ArityTable) (rs : List ℕ) → AreFormulasIn old A rs → map (object_at new) rs ≡ map (object_at old) rs
  map-grows A [] h = refl
  map-grows A (r ∷ rs) h =
      ap₂ ◌∷◌ (object_at-Grows old new grows r (All-head (λ q. IsIn old q × (is_formula_object A (object_at old q) ≡ true)) r rs h).0)
      (map-grows A rs (All-tail (λ q. IsIn old q × (is_formula_object A (object_at old q) ≡ true)) r rs h))

  pub conclusions-grow : (A : ArityTable) (good : Bool) (rs : List ℕ) (o : Option (List Formula)) → AreFormulasIn old A rs → AreConclusions old good rs o → AreConclusions new good rs o
  conclusions-grow A good rs None w h = h
  conclusions-grow A good rs (Some Fs) w h = (h.0, map-grows A rs w ∙ h.1)

-- the steps that were collected, where the heap alone has grown
module _ (w : World) (c : Collected) (i : IsGoing w c) (new : List Object) (grows : Grows w.heap.objects new) where
  abbrev with_objects : Going
  with_objects = record { objects = new; needed = w.needed; parts = parts_of w.theory; conclusions = c.conclusions.items; good = c.good; count = c.count }

  pub theory-grows : theory_of with_objects ≡ theory_of (going_of w c)
  theory-grows = grown_theory _ _ _ _ i.world new grows

  pub collected-grows : (steps : List Object) → HasCollected (going_of w c) steps → HasCollected with_objects steps
  collected-grows steps h = record {
    count = h.count;
    conclusions =
        subst (λ t. AreConclusions new c.good c.conclusions.items (conclusions t.axioms t.theorems (arity_table t.definitions) t.definitions.profile steps)) (sym theory-grows)
        (conclusions-grow w.heap.objects new grows w.theory.arity c.good c.conclusions.items _ i.formulas h.conclusions);
  }

  formulas-grow : AreFormulasIn new w.theory.arity c.conclusions.items
  formulas-grow = λ k d l. let h = i.formulas k d l in (IsIn-Grows w.heap.objects new grows _ h.0, ap (is_formula_object w.theory.arity) (object_at-Grows w.heap.objects new grows _ h.0) ∙ h.1)

-- what going through a log holds stays right
pub going-grows : (w : World) (c : Collected) (i : IsGoing w c) (heap : Contents) → Grows w.heap.objects heap.objects → IsGoing (record w { heap = heap }) c
going-grows w c i heap grows = record {
  world = grown _ _ _ _ i.world heap.objects grows;
  built_in = i.built_in;
  formulas = formulas-grow w c i heap.objects grows;
  known = λ good. let k = i.known good in (k.0, collected-grows w c i heap.objects grows k.0 k.1);
}

-- the heap may be another one with the same objects
pub going-same : (old new : World) (c : Collected) → new.heap.objects ≡ old.heap.objects → new ≡ record old { heap = new.heap } → going_of new c ≡ going_of old c
going-same old new c objects rest =
    ap (λ w. going_of w c) rest
    ∙ ap (λ os. record { objects = os; needed = old.needed; parts = parts_of old.theory; conclusions = c.conclusions.items; good = c.good; count = c.count }) objects
