-- As many as the word wants.
use Rattle.std.proofs.Common.{◌≡◌, ℕ, [], ◌∷◌, option_map, sym, ap, ◌∙◌, subst}
use Rattle.mw_model.specs.Events.Fate.{member_count}
use Rattle.mw_model.specs.Events.Theory.{Theory}
use Rattle.mw_model.specs.Events.Refusal.{EVENT}
use Rattle.mw_commands.specs.Commands.Explanation.{shown, word_of}
use Rattle.mw_heap.specs.Objects.{object_at}
use Rattle.mw_bad_steps.specs.Shown.{Shows}
use Rattle.mw_theory.proofs.CallerLemmas.{IfOk-map}
use Rattle.mw_explain_events.proofs.EventReasons.{wanted_shown, members-shown}
use Rattle.mw_explain_events.proofs.ExplainedEvents.{begun-is}
use Rattle.mw_explain_events.proofs.Showing.{Shows-empty}
use Rattle.mw_explain_events.proofs.event_parts.members_shown.Goals as goal
use Rattle.mw_explain_events.proofs.event_parts.members_shown.Goals.{After-members_wanted}

-- what is wanted of the word
wanted : (c : After-members_wanted) (t : Theory) (N : ℕ) → wanted_shown c.members_wanted.result ≡ shown EVENT (word_of (object_at c.args.heap.now.objects c.args.event)) t N (object_at c.args.heap.now.objects c.args.event)
wanted c t N =
    let e = object_at c.args.heap.now.objects c.args.event in
    ap wanted_shown (c.members_wanted.ensures ∙ ap (option_map member_count) (begun-is e)) ∙ members-shown t N e c.requires.none

pub returns-in_default-clause-shown : goal.returns-in_default-clause-shown
returns-in_default-clause-shown c = λ t N.
    let is = wanted (goal.at.returns-in_default-clause-shown c).After-members_wanted t N in
    Shows-empty c.args.heap.now.objects _ _ c.new.ensures.items (ap wanted_shown (sym c.in_default.is) ∙ is)

pub just-requires : goal.just-requires
just-requires c = c.in_ok-number.ensures.made.0

pub returns-clause-shown : goal.returns-clause-shown
returns-clause-shown c =
    let new = c.nat.new.self.objects in
    IfOk-map c.just.result _ _ (λ v h t N. subst (Shows new v.items) (ap wanted_shown (sym c.in-Some.is) ∙ wanted (goal.at.returns-clause-shown c).After-members_wanted t N) (subst (λ x. Shows new v.items (x ∷ [])) c.in_ok-number.ensures.made.1 h)) c.just.ensures
