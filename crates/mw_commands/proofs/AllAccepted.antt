-- Lists of events that are all accepted, one after another: the accepted events of any list, alone, are such a list.
use Rattle.std.proofs.Common.{◌≡◌, ℕ, suc, ◌+◌, true, cond, List, [], ◌∷◌, length, map, filter, refl, sym, ap, ◌∙◌, subst, arith}
use Rattle.mw_model.specs.Terms.Object.{Object}
use Rattle.mw_model.specs.Events.Theory.{Theory}
use Rattle.mw_model.specs.Events.Refusal.{Fate, Accepted, Refused}
use Rattle.mw_model.specs.Events.Fate.{happens}
use Rattle.mw_model.specs.Reports.Report.{is_accepted, accepted_among, refused_among}
use Rattle.mw_model.proofs.Unchanged.{unchanged}
use Rattle.mw_commands.specs.Commands.Transition.{Transition, course_from, is_acceptance}

-- each event is accepted, one after another
abbrev pub AllAccepted : ℕ → Theory → List Object → Type 0
AllAccepted N t [] = Unit {0}
AllAccepted N t (e ∷ es) = (is_accepted (happens t N e).0 ≡ true) × AllAccepted N (happens t N e).1 es

module _ (N : ℕ) where
  abbrev accepted_from : ℕ → Theory → List Object → List Object
  accepted_from k t es = map (λ s. s.event) (filter is_acceptance (course_from (λ u e. happens u N e) k t es))

  one_alone : (t : Theory) (e : Object) (f : Fate) (s : Transition) (rest : List Transition) → (happens t N e).0 ≡ f → s.event ≡ e → AllAccepted N (happens t N e).1 (map (λ s. s.event) rest) → AllAccepted N t (map (λ s. s.event) (cond (is_accepted f) (s ∷ rest) rest))
  one_alone t e (Accepted value) s rest h is more = subst (λ z. AllAccepted N t (z ∷ map (λ s. s.event) rest)) (sym is) (ap is_accepted h, more)
  one_alone t e (Refused r) s rest h is more = subst (λ u. AllAccepted N u (map (λ s. s.event) rest)) (unchanged t N e r h) more

  -- without those refused each of the others meets the theory that it met
  pub alone_accepted : (k : ℕ) (t : Theory) (es : List Object) → AllAccepted N t (accepted_from k t es)
  alone_accepted k t [] = tt
  alone_accepted k t (e ∷ es) =
      let h = happens t N e in
      one_alone t e h.0 (record { number = k; before = t; event = e; fate = h.0; next = h.1 }) (filter is_acceptance (course_from (λ u e. happens u N e) (suc k) h.1 es)) refl refl (alone_accepted (suc k) h.1 es)

  pub all_counted : (t : Theory) (es : List Object) → AllAccepted N t es → accepted_among t es N ≡ length es
  all_counted t [] h = refl
  all_counted t (e ∷ es) h =
      ap (λ b. cond b 1 0 + accepted_among (happens t N e).1 es N) h.0 ∙ (let more = all_counted (happens t N e).1 es h.1 in omega (arith, more))

  pub none_refused : (t : Theory) (es : List Object) → AllAccepted N t es → refused_among t es N ≡ 0
  none_refused t [] h = refl
  none_refused t (e ∷ es) h =
      ap (λ b. cond b 0 1 + refused_among (happens t N e).1 es N) h.0 ∙ (let more = none_refused (happens t N e).1 es h.1 in omega (arith, more))
