-- The objects that there were, by the fate of an event.
use Rattle.std.proofs.Common.{◌≡◌, ℕ, List, [], length, Result, Ok, Err, IfOk, OnOk, sym, ap, subst, arith}
use Rattle.mw_model.specs.Terms.Object.{Object}
use Rattle.mw_model.specs.Events.Refusal.{Refusal, Fate, Accepted, Refused}
use Rattle.mw_heap.specs.Objects.{Grows}
use Rattle.mw_kernel.specs.declared.fate.Fate.{Fate as Outcome}
use Rattle.mw_kernel.specs.declared.fate.Fate.TheVariants as outcome
use Rattle.mw_model.specs.Events.Theory.{Theory}
use Rattle.mw_commands.specs.Commands.Explanation.{why}
use Rattle.mw_kernel.specs.Explained.{PutsLine, PutsWhy}
use Rattle.mw_kernel.specs.Fates.{fate_of, KeepsRoom, KeepsObjects}

module _ (old new : List Object) where
  pub keeps-grown : (f : Outcome) → Grows old new → KeepsObjects f old new
  keeps-grown (outcome.Refused r) g = g
  keeps-grown (outcome.Accepted text) g = tt

  pub keeps-accepted : (f : Outcome) → fate_of f ≡ Accepted [] → KeepsObjects f old new
  keeps-accepted (outcome.Refused r) e = cc
  keeps-accepted (outcome.Accepted text) e = tt

  pub keeps-result : {E : Type 0} (r : Result Outcome E) → Grows old new → IfOk r (λ f. KeepsObjects f old new)
  keeps-result (Ok f) g = keeps-grown f g
  keeps-result (Err e) g = tt

-- the room, where no more is needed
module _ (old new : ℕ) where
  pub room-accepted : (f : Outcome) → fate_of f ≡ Accepted [] → KeepsRoom f old new
  room-accepted (outcome.Refused r) e = cc
  room-accepted (outcome.Accepted text) e = λ some. absurd (omega (arith, ap shown e, some))
    where
      shown : Fate → ℕ
      shown (Accepted text) = length text
      shown (Refused r) = 0

  room-kept : (f : Outcome) → new ≡ old → KeepsRoom f old new
  room-kept (outcome.Refused r) same = same
  room-kept (outcome.Accepted text) same = λ some. same

  pub room-result : {E : Type 0} (r : Result Outcome E) → new ≡ old → IfOk r (λ f. KeepsRoom f old new)
  room-result (Ok f) same = room-kept f same
  room-result (Err e) same = tt

-- the line of what is refused is what is put for its fate
pub puts-refused : {E : Type 0} (r : Result Outcome E) (q : Refusal) (k : ℕ) (t : Theory) (N : ℕ) (e : Object) (old new : List ℕ) → IfOk r (λ f. fate_of f ≡ Refused q) → OnOk r (PutsLine (why k q t N e) old new) → IfOk r (λ f. PutsWhy k (fate_of f) t N e old new)
puts-refused (Ok f) q k t N e old new is put = subst (λ x. PutsWhy k x t N e old new) (sym is) put
puts-refused (Err x) q k t N e old new is put = tt
