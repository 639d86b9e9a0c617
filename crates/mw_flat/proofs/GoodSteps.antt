-- An entry of a log after good steps: what a judge by their numbers has it come to is what the log answers, and sound.
use Rattle.std.proofs.Common.{◌≡◌, ℕ, true, List, Option, Some, None, refl, sym, ap, ◌∙◌, subst, true≢false, is_some}
use Rattle.mw_model.specs.Terms.Object.{Object}
use Rattle.mw_model.specs.Terms.Term.{Formula}
use Rattle.mw_model.specs.Values.Definition.{arity_table}
use Rattle.mw_model.specs.Events.Theory.{Theory, IsSound}
use Rattle.mw_commands.specs.Commands.Log.{entry_of, conclusions, logged}
use Rattle.mw_commands.specs.Logged.{LoggedKeeps}
use Rattle.mw_heap.specs.Objects.{object_at}
use Rattle.mw_theory.specs.declared.world.World.{World}
use Rattle.mw_theory.specs.declared.event.Event.{Event}
use Rattle.mw_theory.specs.Knowledge.{name_read}
use Rattle.mw_theory.specs.Settled.{settles}
use Rattle.mw_theory.specs.Words.{IsEvent}
use Rattle.mw_theory.specs.Worlds.{theory_in}
use Rattle.mw_theory.proofs.CallerLemmas.{held}
use Rattle.mw_flat.specs.declared.collected.Collected.{Collected}
use Rattle.mw_flat.specs.Collecting.{AreConclusions, judged_by_number}
use Rattle.mw_flat.specs.Going.{HasCollected, IsGoing, going_of}
use Rattle.mw_flat.proofs.Conclusions.{conclusions-formulas}
use Rattle.mw_flat.proofs.ReadableConclusions.{formulas-readable}
use Rattle.mw_flat.proofs.Settled.{answered}
use Rattle.mw_flat.proofs.EntryAnswered.{event-answered}

-- each event of a log keeps a sound theory
abbrev pub LogsKeep : Type 0
LogsKeep = (t : Theory) (steps : List Object) (e : Object) → IsSound t → t.checker ≡ None → LoggedKeeps t steps e

module _ (w : World) (c : Collected) (i : IsGoing w c) (good : c.good ≡ true) (x : ℕ) (e : Event) (is : IsEvent w.heap.objects x e) (there : is_some (entry_of (object_at w.heap.objects x)) ≡ true) where
  abbrev os : List Object
  os = w.heap.objects

  abbrev comes : Theory → Type 0
  comes t = t ≡ (settles (judged_by_number os c.conclusions.items) os (theory_in w) e).1

  pub logged-settles : (steps : List Object) → HasCollected (going_of w c) steps → logged (theory_in w) steps (object_at os x) ≡ answered (settles (judged_by_number os c.conclusions.items) os (theory_in w) e)
  logged-settles steps h = go (conclusions t.axioms t.theorems (arity_table t.definitions) t.definitions.profile steps) refl h.conclusions
    where
      t : Theory
      t = theory_in w

      go : (o : Option (List Formula)) → conclusions t.axioms t.theorems (arity_table t.definitions) t.definitions.profile steps ≡ o → AreConclusions os c.good c.conclusions.items o → logged t steps (object_at os x) ≡ answered (settles (judged_by_number os c.conclusions.items) os t e)
      go None s k = absurd (true≢false (sym good ∙ k))
      go (Some Fs) s k =
          let A = arity_table t.definitions in
          ap (logged t steps) is.0
          ∙ event-answered os t c.conclusions.items Fs k.1 (formulas-readable A Fs (conclusions-formulas t.axioms t.theorems A t.definitions.profile steps Fs s)) steps s e (sym (ap (λ y. is_some (entry_of y)) is.0) ∙ there)

  module _ (keep : LogsKeep) where
    keeps : (steps : List Object) → LoggedKeeps (theory_in w) steps (object_at os x)
    keeps steps = keep (theory_in w) steps (object_at os x) (held _ _ _ _ i.world).sound (ap (name_read os) i.built_in)

    pub settles-sound : IsSound (settles (judged_by_number os c.conclusions.items) os (theory_in w) e).1
    settles-sound = let k = i.known good in subst IsSound (ap (λ p. p.1) (logged-settles k.0 k.1)) (keeps k.0).sound

    pub settles-built_in : (settles (judged_by_number os c.conclusions.items) os (theory_in w) e).1.checker ≡ None
    settles-built_in = let k = i.known good in sym (ap (λ p. p.1.checker) (logged-settles k.0 k.1)) ∙ (keeps k.0).built_in
