-- An event with a natural past the range is refused for that.
use Rattle.std.proofs.Common.{◌≡◌, ℕ, true, not, Some, ap}
use Rattle.mw_model.specs.Terms.Object.{Object}
use Rattle.mw_model.specs.Events.Theory.{Theory}
use Rattle.mw_model.specs.Events.Refusal.{RANGE, EVENT, Refused, need, refuse}
use Rattle.mw_model.specs.Terms.Reading.{when}
use Rattle.mw_model.specs.Events.Fate.{event_word, is_out_of_range, happens, happens_by, fate, next}

happens-large : (t : Theory) (e : Object) (N : ℕ) → is_out_of_range e ≡ true → happens t N e ≡ refuse t RANGE
unfolding need
happens-large t e N h = ap (λ b. need t RANGE (when (not b) (Some e)) (λ x. need t EVENT (event_word x) (λ w. happens_by w t N x))) h

pub fate-large : (t : Theory) (e : Object) (N : ℕ) → is_out_of_range e ≡ true → fate t e N ≡ Refused RANGE
fate-large t e N h = ap (λ p. p.0) (happens-large t e N h)

pub next-large : (t : Theory) (e : Object) (N : ℕ) → is_out_of_range e ≡ true → next t e N ≡ t
next-large t e N h = ap (λ p. p.1) (happens-large t e N h)
