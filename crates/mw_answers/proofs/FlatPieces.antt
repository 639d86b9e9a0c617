-- The events of a log go on from the first ones.
use Rattle.std.proofs.Common.{◌≡◌, ◌≤◌, Bool, true, false, ◌&&◌, ◌||◌, cond, List, [], ◌∷◌, ◌++◌, length, refl, ap, arith}
use Rattle.mw_model.specs.Terms.Object.{Object}
use Rattle.mw_model.specs.Events.Fate.{event_word}
use Rattle.mw_commands.specs.Commands.Transition.{Transition, is_acceptance}
use Rattle.mw_commands.specs.Commands.Slice.{some_passes}
use Rattle.mw_commands.specs.Commands.Flattening.{flat_events, is_logged_word, is_switch}

abbrev pub is_flat : Transition → Bool
is_flat s = is_acceptance s && is_logged_word (event_word s.event)

-- the event, where it is one of the log; that depends on whether a switch came before it
abbrev pub flat_one : Bool → Transition → List Object
flat_one switched s = cond switched [] (cond (is_switch s) [] (cond (is_flat s) (s.event ∷ []) []))

-- ---- one event more

one_alone : (s : Transition) → flat_events (s ∷ []) ≡ flat_one false s
one_alone s = go (is_switch s) (is_flat s) refl refl
  where
    go : (b c : Bool) → is_switch s ≡ b → is_flat s ≡ c → flat_events (s ∷ []) ≡ flat_one false s
    go true c e f = rw e refl
    go false true e f = rw (e, f) refl
    go false false e f = rw (e, f) refl

pub flat_more : (ss : List Transition) (s : Transition) → flat_events (ss ++ s ∷ []) ≡ flat_events ss ++ flat_one (some_passes is_switch ss) s
flat_more [] s = one_alone s
flat_more (r ∷ ss) s = go (is_switch r) (is_flat r) refl refl (flat_more ss s)
  where
    go : (b c : Bool) → is_switch r ≡ b → is_flat r ≡ c → flat_events (ss ++ s ∷ []) ≡ flat_events ss ++ flat_one (some_passes is_switch ss) s → flat_events ((r ∷ ss) ++ s ∷ []) ≡ flat_events (r ∷ ss) ++ flat_one (some_passes is_switch (r ∷ ss)) s
    go true c e f h = rw e refl
    go false true e f h = rw (e, f) (ap (λ es. r.event ∷ es) h)
    go false false e f h = rw (e, f) h

pub some_more : {X : Type 0} (test : X → Bool) (xs : List X) (y : X) → some_passes test (xs ++ y ∷ []) ≡ (some_passes test xs || test y)
some_more test [] y = go (test y)
  where
    go : (b : Bool) → (b || false) ≡ b
    go true = refl
    go false = refl
some_more test (x ∷ xs) y = go (test x) (some_more test xs y)
  where
    go : (b : Bool) → some_passes test (xs ++ y ∷ []) ≡ (some_passes test xs || test y) → (b || some_passes test (xs ++ y ∷ [])) ≡ ((b || some_passes test xs) || test y)
    go true h = refl
    go false h = h

-- ---- more events

pub flat_goes_on : (ss more : List Transition) → (es : List Object) × (flat_events (ss ++ more) ≡ flat_events ss ++ es)
flat_goes_on [] more = (flat_events more, refl)
flat_goes_on (r ∷ ss) more = go (is_switch r) (is_flat r) refl refl (flat_goes_on ss more)
  where
    go : (b c : Bool) → is_switch r ≡ b → is_flat r ≡ c → (es : List Object) × (flat_events (ss ++ more) ≡ flat_events ss ++ es) → (es : List Object) × (flat_events ((r ∷ ss) ++ more) ≡ flat_events (r ∷ ss) ++ es)
    go true c e f h = rw e ([], refl)
    go false true e f h = rw (e, f) (h.0, ap (λ es. r.event ∷ es) h.1)
    go false false e f h = rw (e, f) h

pub few_flat : (ss : List Transition) → length (flat_events ss) ≤ length ss
few_flat [] = omega arith
few_flat (r ∷ ss) = go (is_switch r) (is_flat r) refl refl (few_flat ss)
  where
    go : (b c : Bool) → is_switch r ≡ b → is_flat r ≡ c → length (flat_events ss) ≤ length ss → length (flat_events (r ∷ ss)) ≤ length (r ∷ ss)
    go true c e f h = rw e (omega arith)
    go false true e f h = rw (e, f) (omega (arith, h))
    go false false e f h = rw (e, f) (omega (arith, h))
