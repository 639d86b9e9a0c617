-- Descent through the ordinals: what passes up to each ordinal from all those below it, and where each way down ends.
use Rattle.std.specs.Prelude.{◌≡◌, true}
use Rattle.mw_model.specs.Terms.Object.{Object}
use Rattle.mw_model.specs.Laws.Ordinal.{is_ordinal, is_below}

abbrev pub Ordinal : Object → Type 0
Ordinal x = is_ordinal x ≡ true

abbrev pub Below : Object → Object → Type 0
Below x y = is_below x y ≡ true

-- G passes from all ordinals below a to a, at each ordinal a
abbrev pub Passes : (Object → Type 0) → Type 0
Passes G = (a : Object) → Ordinal a → ((b : Object) → Ordinal b → Below b a → G b) → G a

-- each way down from x through ordinals ends
pub data Ends : Object → Type 0 where
  ends : {x : Object} → ((y : Object) → Ordinal y → Below y x → Ends y) → Ends x
