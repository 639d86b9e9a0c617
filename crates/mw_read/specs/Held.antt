-- What a stack holds: a state, with its naturals cut.
use Rattle.std.specs.Prelude.{◌≡◌, ℕ, true, List, []}
use Rattle.mw_model.specs.Terms.Object.{Object}
use Rattle.mw_model.specs.Events.Fate.{is_out_of_range}
use Rattle.mw_heap.specs.Objects.{object_at, IsIn}
use Rattle.mw_read.specs.Machine.{State, Idle, Broken, Turn, quiet, event, labels_of}
use Rattle.mw_lex.specs.Tokens.{clamp}
use Rattle.mw_read.specs.Clamp.{clamp_state, state_big, labels_big}
use Rattle.mw_read.specs.Piles.{fault_of}
use Rattle.mw_read.specs.Stacks.{IsStack, Means}
use Rattle.mw_read.specs.declared.stack.Stack.{Stack}
use Rattle.mw_read.specs.declared.step.Outcome.{Outcome}
use Rattle.mw_read.specs.declared.step.Outcome.TheVariants as outcomes

pub record Holds (os : List Object) (s : Stack) (t : State) : Type 0 where
  pub stack : IsStack os s
  pub means : Means os s (clamp_state t)
  pub big : s.big ≡ state_big t
  -- what a label names is a part of what is open
  pub covered : labels_big (labels_of t) ≡ true → s.big ≡ true

-- the reference is that of the datum, and the flag says whether it was cut
pub record Completes (os : List Object) (s : Stack) (r : ℕ) (x : Object) : Type 0 where
  pub within : IsIn os r
  pub object : object_at os r ≡ clamp x
  pub big : s.big ≡ is_out_of_range x
  pub stack : IsStack os s
  pub means : Means os s Idle

-- the outcome of a turn
abbrev pub Took : List Object → Stack → Outcome → Turn → Type 0
Took os s outcomes.Pending w = (w.events ≡ []) × Holds os s w.state
Took os s (outcomes.Datum r) w = (x : Object) × (w ≡ event x) × Completes os s r x
Took os s (outcomes.Fault f) w = w ≡ quiet (Broken (fault_of f))
