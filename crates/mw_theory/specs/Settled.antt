-- What an event comes to by a judge of its proofs, and what a world answers to it.
use Rattle.std.specs.Prelude.{◌≡◌, List, Option, Result, option_map, IfOk, IfSome, OnOk, OnErr}
use Rattle.mw_model.specs.Terms.Object.{Object}
use Rattle.mw_model.specs.Events.Theory.{Theory}
use Rattle.mw_model.specs.Events.Refusal.{EVENT, Fate, refuse}
use Rattle.mw_model.specs.Events.Fate.{profile}
use Rattle.mw_heap.specs.Objects.{object_at, Grows}
use Rattle.mw_heap.specs.declared.budget.memory.Memory.{Memory}
use Rattle.mw_heap.specs.declared.vocabulary.refusal.Refusal.{Refusal as Reason}
use Rattle.mw_heap.specs.Variants.{refusal_of}
use Rattle.mw_theory.specs.declared.world.World.{World}
use Rattle.mw_theory.specs.declared.event.Event.{Event}
use Rattle.mw_theory.specs.declared.event.Event.TheVariants.{Verify, Define, Skolem, DefineAll, Profile}
use Rattle.mw_theory.specs.declared.admitting.Drafts.TheVariants.{One, All}
use Rattle.mw_theory.specs.Admitting.{drafts_given}
use Rattle.mw_theory.specs.Proofs.{Judge}
use Rattle.mw_theory.specs.Settling.{verified, defined, skolem_at, fate_by}
use Rattle.mw_theory.specs.Words.{profile_event}
use Rattle.mw_theory.specs.Worlds.{theory_in, IsWorld}

-- An event with proofs or without. One of another kind is refused.
abbrev pub settles : Judge → List Object → Theory → Event → Fate × Theory
settles J os t (Verify name formula proof) = verified J t (object_at os name) (object_at os formula) (object_at os proof)
settles J os t (Define name formals body measure proofs) = defined J t (drafts_given os (One (record { name = name; formals = formals; body = body; measure = measure }))) (object_at os proofs)
settles J os t (DefineAll definitions proofs) = defined J t (drafts_given os (All definitions)) (object_at os proofs)
settles J os t (Skolem name bound free body) = skolem_at os t name bound free body
settles J os t (Profile n) = profile t (profile_event (object_at os n))
settles J os t _ = refuse t EVENT

-- The result says why the event is refused, if it is. After a refusal the heap has all that it had, and the theory needs as much of it.
pub record Settles (result : Result (Option Reason) Memory) (old new : World) (expected : Fate × Theory) : Type 0 where
  pub world : IsWorld new
  pub fate : IfOk result (λ r. fate_by (option_map refusal_of r) ≡ expected.0)
  pub theory : OnOk result (theory_in new ≡ expected.1)
  pub err : OnErr result (theory_in new ≡ theory_in old)
  pub kept : IfOk result (λ r. IfSome r (λ q. new.needed ≡ old.needed))
  pub grows : IfOk result (λ r. IfSome r (λ q. Grows old.heap.objects new.heap.objects))
