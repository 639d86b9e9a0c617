-- What a world settles, by the result of a step.
use Rattle.std.proofs.Common.{◌≡◌, [], Result, Ok, Err, Option, None, option_map, sym, ◌∙◌, subst}
use Rattle.std.specs.Result.{IsErr}
use Rattle.mw_model.specs.Events.Theory.{Theory, IsSound}
use Rattle.mw_model.specs.Events.Refusal.{Fate, Accepted}
use Rattle.mw_heap.specs.Objects.{Grows}
use Rattle.mw_heap.specs.declared.budget.memory.Memory.{Memory}
use Rattle.mw_heap.specs.declared.vocabulary.refusal.Refusal.{Refusal as Reason}
use Rattle.mw_heap.specs.Variants.{refusal_of}
use Rattle.mw_theory.specs.declared.event.Event.{Event}
use Rattle.mw_theory.specs.declared.world.World.{World}
use Rattle.mw_theory.specs.Proofs.{Judge}
use Rattle.mw_theory.specs.Settling.{fate_by}
use Rattle.mw_theory.specs.Settled.{settles, Settles}
use Rattle.mw_theory.specs.Worlds.{theory_in, IsWorld}
use Rattle.mw_theory.proofs.Refusing.{accepted_none, where_some}

module _ (old new : World) (expected : Fate × Theory) (world : IsWorld new) where
  -- the theory stays, and the heap grows
  pub settles-stays : (r : Option Reason) → new.needed ≡ old.needed → Grows old.heap.objects new.heap.objects → theory_in new ≡ theory_in old → fate_by (option_map refusal_of r) ≡ expected.0 → theory_in old ≡ expected.1 → Settles (Ok r) old new expected
  settles-stays r needed grows same fate theory = record {
    world = world;
    fate = fate;
    theory = same ∙ theory;
    err = tt;
    kept = where_some _ r needed;
    grows = where_some _ r grows;
  }

  -- an error, by which the theory stays
  pub settles-failed : (r : Result (Option Reason) Memory) → IsErr r → theory_in new ≡ theory_in old → Settles r old new expected
  settles-failed (Err e) failed same = record { world = world; fate = tt; theory = tt; err = same; kept = tt; grows = tt }
  settles-failed (Ok o) failed same = cc

  pub settles-accepted : Accepted [] ≡ expected.0 → theory_in new ≡ expected.1 → Settles (Ok None) old new expected
  settles-accepted fate theory = record { world = world; fate = fate; theory = theory; err = tt; kept = tt; grows = tt }

-- an event that is known by its members
module _ (J : Judge) (old : World) (e d : Event) (is : e ≡ d) where
  pub sound-as : IsSound (settles J old.heap.objects (theory_in old) e).1 → IsSound (settles J old.heap.objects (theory_in old) d).1
  sound-as h = subst (λ v. IsSound (settles J old.heap.objects (theory_in old) v).1) is h

  pub settles-as : (r : Result (Option Reason) Memory) (new : World) → Settles r old new (settles J old.heap.objects (theory_in old) d) → Settles r old new (settles J old.heap.objects (theory_in old) e)
  settles-as r new h = subst (λ v. Settles r old new (settles J old.heap.objects (theory_in old) v)) (sym is) h

-- What is accepted is settled from any world of the same theory.
pub settles-from : (r : Result (Option Reason) Memory) (old mid new : World) (expected : Fate × Theory) → theory_in mid ≡ theory_in old → expected.0 ≡ Accepted [] → Settles r mid new expected → Settles r old new expected
settles-from (Ok o) old mid new expected same accepted s = record {
  world = s.world;
  fate = s.fate;
  theory = s.theory;
  err = tt;
  kept = accepted_none _ o (s.fate ∙ accepted);
  grows = accepted_none _ o (s.fate ∙ accepted);
}
settles-from (Err e) old mid new expected same accepted s = record { world = s.world; fate = tt; theory = tt; err = s.err ∙ same; kept = tt; grows = tt }
