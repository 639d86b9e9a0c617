-- What a kernel comes to, by the result of a step.
use Rattle.std.proofs.Common.{◌≡◌, ℕ, [], Result, Ok, Err, IfOk, Option, option_map, ◌∙◌, subst}
use Rattle.std.specs.Result.{IsErr}
use Rattle.mw_model.specs.Events.Theory.{Theory}
use Rattle.mw_model.specs.Events.Refusal.{Fate, Accepted}
use Rattle.mw_heap.specs.Objects.{Grows}
use Rattle.mw_heap.specs.declared.budget.memory.Memory.{Memory}
use Rattle.mw_heap.specs.declared.vocabulary.refusal.Refusal.{Refusal as Reason}
use Rattle.mw_theory.specs.declared.world.World.{World}
use Rattle.mw_theory.specs.Settled.{Settles}
use Rattle.mw_theory.specs.Settling.{fate_by}
use Rattle.mw_heap.specs.Variants.{refusal_of}
use Rattle.mw_theory.proofs.CallerLemmas.{OnOk-from, OnErr-from}
use Rattle.mw_kernel.specs.declared.fate.Fate.{Fate as Outcome}
use Rattle.mw_kernel.specs.Fates.{fate_of, KeepsRoom, KeepsObjects, Comes}
use Rattle.mw_kernel.specs.Knowledge.{Knowledge, theory_of}
use Rattle.mw_kernel.proofs.KeptObjects.{keeps-result, keeps-accepted, room-result, room-accepted}
use Rattle.mw_kernel.proofs.Told.{held-by}

-- the theory stays, and the heap grows
pub comes-grown : (r : Result Outcome Memory) (old new : Knowledge) (expected : Fate × Theory) → new.steps ≡ old.steps → new.needed ≡ old.needed → Grows old.objects new.objects → theory_of new ≡ theory_of old → theory_of old ≡ expected.1 → IfOk r (λ f. fate_of f ≡ expected.0) → Comes r old new expected
comes-grown r old new expected steps needed grows stays theory fate = record {
  fate = fate;
  theory = OnOk-from r _ (stays ∙ theory);
  err = OnErr-from r _ stays;
  steps = steps;
  kept = room-result old.needed new.needed r needed;
  objects = keeps-result old.objects new.objects r grows;
}

-- an error, by which the theory stays
pub comes-failed : (r : Result Outcome Memory) (old new : Knowledge) (expected : Fate × Theory) → IsErr r → new.steps ≡ old.steps → theory_of new ≡ theory_of old → Comes r old new expected
comes-failed (Err e) old new expected failed steps stays = record { fate = tt; theory = tt; err = stays; steps = steps; kept = tt; objects = tt }
comes-failed (Ok f) old new expected failed steps stays = cc

-- it shows nothing
pub comes-accepted : (f : Outcome) (old new : Knowledge) (expected : Fate × Theory) → new.steps ≡ old.steps → fate_of f ≡ Accepted [] → Accepted [] ≡ expected.0 → theory_of new ≡ expected.1 → Comes (Ok f) old new expected
comes-accepted f old new expected steps accepted fate theory = record {
  fate = accepted ∙ fate;
  theory = theory;
  err = tt;
  steps = steps;
  kept = room-accepted old.needed new.needed f accepted;
  objects = keeps-accepted old.objects new.objects f accepted;
}

-- what a kernel comes to by what its world settles
module _ (w new : World) (N M : ℕ) (same : M ≡ N) (old : Knowledge) (is : held-by w N ≡ old) (expected : Knowledge → Fate × Theory) where
  pub comes-settled : (o : Option Reason) (f : Outcome) → Settles (Ok o) w new (expected (held-by w N)) → (fate_of f ≡ fate_by (option_map refusal_of o)) → KeepsRoom f w.needed new.needed → KeepsObjects f w.heap.objects new.heap.objects → Comes (Ok f) old (held-by new M) (expected old)
  comes-settled o f s fate kept objects =
      subst (λ v. Comes (Ok f) v (held-by new M) (expected v)) is
      (record { fate = fate ∙ s.fate; theory = s.theory; err = tt; steps = same; kept = kept; objects = objects })

  pub comes-unsettled : (r : Result Outcome Memory) → IsErr r → (e : Memory) → Settles (Err e) w new (expected (held-by w N)) → Comes r old (held-by new M) (expected old)
  comes-unsettled r failed e s = subst (λ v. Comes r v (held-by new M) (expected v)) is (comes-failed r (held-by w N) (held-by new M) (expected (held-by w N)) failed same s.err)
