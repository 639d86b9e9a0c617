-- Which events are entries of a log.
use Rattle.std.proofs.Common.{◌≡◌, ℕ, false, not, List, Option, Some, None, refl, ap, ◌∙◌, is_some}
use Rattle.mw_model.specs.Terms.Object.{Object}
use Rattle.mw_model.specs.Terms.Reading.{when}
use Rattle.mw_model.specs.Events.Fate.{EventWord, event_word, is_out_of_range}
use Rattle.mw_commands.specs.Commands.Log.{one_number, numbers_of, entry_with, entry_by, entry_of}

pub one-present : (o : Option ℕ) → is_some (one_number o) ≡ is_some o
one-present None = refl
one-present (Some n) = refl

with-present : (w : EventWord) (o : Option (List ℕ)) → is_some (entry_with w o) ≡ is_some o
with-present w None = refl
with-present w (Some ns) = refl

-- an event within the range is an entry, where its word has numbers
pub entry-is : (x e : Object) (w : EventWord) → is_out_of_range x ≡ false → x ≡ e → event_word e ≡ Some w → is_some (entry_of x) ≡ is_some (numbers_of w e)
entry-is x e w in_range is word =
    ap (λ b. is_some (when (not b) (entry_by (event_word x) x))) in_range
    ∙ (ap (λ y. is_some (entry_by (event_word y) y)) is ∙ (ap (λ o. is_some (entry_by o e)) word ∙ with-present w (numbers_of w e)))
