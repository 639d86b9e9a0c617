-- What is asked for by its place, by its profile or as a proof, and what by a name that it adds.
use Rattle.std.proofs.Common.{◌≡◌, Bool, false, ◌||◌, eqb, eq-eqb, sym, ap, ap₂, ◌∙◌}
use Rattle.std.proofs.lemmas.Bool.{ne_eqb, or_left, or_right}
use Rattle.std.proofs.lemmas.Result.{IfOk-weaker}
use Rattle.mw_commands.specs.Commands.Slice.{sets_profile, some_passes, names_added}
use Rattle.mw_slice.specs.Candidates.{event_of}
use Rattle.mw_slice.specs.Supports.{Named, Proved, notes, is_asked_for}
use Rattle.mw_slice.proofs.Entering.{or_false}
use Rattle.mw_slice.proofs.picking.is_asked_for.Goals.{then-place-goal-via-then-place-goal, then-place-goal-via-else-place-goal+then-sets_profile, then-place-goal-via-else-place-goal+else-sets_profile+then-contains}
use Rattle.mw_slice.proofs.picking.is_asked_for.Goals as goal

pub returns-then-place-goal-clause-asked : goal.returns-then-place-goal-clause-asked
returns-then-place-goal-clause-asked c =
    let os = c.args.to.now.objects in
    let basis = c.args.basis.now in
    let e = event_of c.args.candidate.now in
    let place = c.args.candidate.now.place in
    let is_goal = eqb place c.args.goal in
    let has_name = some_passes (λ f. notes os basis (Named f)) (names_added e) in
    let is_first = notes os basis (Proved place) in
    elim c.then-place-goal.branch [
      | then-place-goal-via-then-place-goal w ↦ sym (or_left is_goal (sets_profile 2 e || (has_name || is_first)) (eq-eqb place c.args.goal w.if-place-goal.true))
      | then-place-goal-via-else-place-goal+then-sets_profile w ↦
          sym (or_right is_goal (sets_profile 2 e || (has_name || is_first)) (or_left (sets_profile 2 e) (has_name || is_first) (sym w.sets_profile.ensures ∙ w.if-sets_profile.true)))
      | then-place-goal-via-else-place-goal+else-sets_profile+then-contains w ↦
          sym (or_right is_goal (sets_profile 2 e || (has_name || is_first)) (or_right (sets_profile 2 e) (has_name || is_first) (or_right has_name is_first (sym w.contains.ensures ∙ w.if-contains.true))))
    ]

by_names : (is_goal is_profile has_name is_first : Bool) → is_goal ≡ false → is_profile ≡ false → is_first ≡ false → has_name ≡ (is_goal || (is_profile || (has_name || is_first)))
by_names is_goal is_profile has_name is_first g p f = sym (ap₂ (λ x y. x || (y || (has_name || is_first))) g p ∙ (ap (λ z. has_name || z) f ∙ or_false has_name))

pub returns-clause-asked : goal.returns-clause-asked
returns-clause-asked c =
    let os = c.adds_met.new.to.objects in
    let basis = c.args.basis.now in
    let e = event_of c.args.candidate.now in
    let place = c.args.candidate.now.place in
    IfOk-weaker c.adds_met.result _ (λ b. b ≡ is_asked_for os basis c.args.goal e place)
    (λ b met. met ∙ by_names (eqb place c.args.goal) (sets_profile 2 e) (some_passes (λ f. notes os basis (Named f)) (names_added e)) (notes os basis (Proved place))
    (ne_eqb place c.args.goal c.if-place-goal.false) (sym c.sets_profile.ensures ∙ c.if-sets_profile.false) (sym c.contains.ensures ∙ c.if-contains.false)) c.adds_met.ensures.met
