-- A stack as a state.
use Rattle.std.specs.Prelude.{List, length}
use Rattle.mw_model.specs.Terms.Object.{Object}
use Rattle.mw_read.specs.Machine.{State}
use Rattle.mw_read.specs.Named.{IsListed}
use Rattle.mw_read.specs.Piles.{IsPile, pile_of, Shows}
use Rattle.mw_read.specs.declared.stack.Stack.{Stack}

-- its layers lie as they may, and its references are of the heap
pub record IsStack (os : List Object) (s : Stack) : Type 0 where
  pub pile : IsPile os s.layers.items
  pub listed : IsListed (length os) s.labels.entries

-- it stands for the state
abbrev pub Means : List Object → Stack → State → Type 0
Means os s t = Shows os (pile_of os s.layers.items) s.labels.entries t
