-- By the reason: the definitions, all that is owed, or the first proof that is refused.
use Rattle.std.proofs.Common.{◌≡◌, true, false, List, map, sym, ap, ap₂, ◌∙◌, subst}
use Rattle.mw_model.specs.Terms.Object.{Object}
use Rattle.mw_model.specs.Terms.Term.{Formula, formula_object}
use Rattle.mw_model.specs.Events.Theory.{Theory}
use Rattle.mw_heap.specs.Objects.{object_at, Grows}
use Rattle.mw_heap.specs.declared.vocabulary.refusal.Refusal.TheVariants as reason
use Rattle.mw_heap.specs.Variants.{refusal_of}
use Rattle.mw_heap.proofs.Objects.{Grows-refl, object_at-Grows}
use Rattle.mw_theory.specs.Admitting.{drafts_given}
use Rattle.mw_theory.specs.Knowledge.{parts_of, meant}
use Rattle.mw_theory.proofs.CallerLemmas.{IfOk-map, held-grows, meant-grows}
use Rattle.mw_term.proofs.CallerLemmas.{AreMarks-grows}
use Rattle.mw_commands.specs.Commands.Explanation.{proof_shown}
use Rattle.mw_bad_steps.specs.Shown.{Shows}
use Rattle.mw_explain_events.specs.Reasons.{is_of_definitions, AreRefused}
use Rattle.mw_explain_events.specs.Defining.{Owe, block_shown, definitions_shown}
use Rattle.mw_explain_events.proofs.DefinitionReasons.{Refuses, refused-definitions}
use Rattle.mw_explain_events.proofs.RefusedDefinitions.{fails-told, block-told, count-told, proofs-told}
use Rattle.mw_explain_events.proofs.ReasonsMeant.{same-meant}
use Rattle.mw_explain_events.proofs.Showing.{Shows-empty}
use Rattle.mw_explain_events.proofs.definitions.definitions_shown.Goals as goal
use Rattle.mw_explain_events.proofs.definitions.definitions_shown.Goals.{Start}

refuses : (s : Start) → Refuses s.args.checker.now.steps (meant s.args.heap.now.objects (parts_of s.args.theory.now)) (drafts_given s.args.heap.now.objects s.args.drafts) (object_at s.args.heap.now.objects s.args.proofs) (refusal_of s.args.reason)
refuses s = refused-definitions _ _ _ _ _ s.requires.refused

-- what is to be shown
abbrev wanted : Start → List Object
wanted s = definitions_shown (refusal_of s.args.reason) (meant s.args.heap.now.objects (parts_of s.args.theory.now)) s.args.checker.now.steps (drafts_given s.args.heap.now.objects s.args.drafts) (object_at s.args.heap.now.objects s.args.proofs)

block_is : (s : Start) → is_of_definitions (refusal_of s.args.reason) ≡ true → block_shown (refusal_of s.args.reason) s.args.theory.now.arity (drafts_given s.args.heap.now.objects s.args.drafts) ≡ wanted s
block_is s = block-told _ _ _ _ _ s.requires.stands.held.arities _

abbrev IsOwed : Start → List Formula → Type 0
IsOwed s = Owe s.args.theory.now.arity (drafts_given s.args.heap.now.objects s.args.drafts)

all_owed : (s : Start) → s.args.reason ≡ reason.Count → (Fs : List Formula) × IsOwed s Fs × (map formula_object Fs ≡ wanted s)
all_owed s is = count-told _ _ _ _ _ s.requires.stands.held.arities _ (refuses s) (ap refusal_of is)

-- what is owed and the proofs, where there are as many, at a later heap
module _ (s : Start) (passes : is_of_definitions (refusal_of s.args.reason) ≡ false) (not_event : s.args.reason ≡ reason.Event → ⊥) (not_count : s.args.reason ≡ reason.Count → ⊥) (new : List Object) (g : Grows s.args.heap.now.objects new) where
  abbrev later : Theory
  later = meant new (parts_of s.args.theory.now)

  abbrev proofs_later : Object
  proofs_later = object_at new s.args.proofs

  proved : (Fs : List Formula) × IsOwed s Fs × AreRefused (refusal_of s.args.reason) later s.args.checker.now.steps Fs proofs_later × (proof_shown later s.args.checker.now.steps 1 Fs proofs_later ≡ wanted s)
  proved =
      let r = refusal_of s.args.reason in
      let N = s.args.checker.now.steps in
      let h = proofs-told _ _ _ _ _ s.requires.stands.held.arities _ (refuses s) passes (λ e. not_event (same-meant s.args.reason reason.Event e)) (λ e. not_count (same-meant s.args.reason reason.Count e)) in
      let same_theory = meant-grows s.args.heap.now.objects new g s.args.theory.now s.requires.stands.held in
      let same_proofs = object_at-Grows s.args.heap.now.objects new g s.args.proofs s.requires.proofs in
      (h.0, h.1, subst (λ X. X) (sym (ap₂ (λ u p. AreRefused r u N h.0 p) same_theory same_proofs)) h.2, ap₂ (λ u p. proof_shown u N 1 h.0 p) same_theory same_proofs ∙ h.3)

pub block_shown-requires-clause-fails : goal.block_shown-requires-clause-fails
block_shown-requires-clause-fails c =
    fails-told _ _ _ _ _ c.requires.stands.held.arities _ (refuses (goal.at.block_shown-requires-clause-fails c).Start) (sym c.is_of_definitions.ensures ∙ c.if-is_of_definitions.true)

pub returns-then-is_of_definitions-clause-shown : goal.returns-then-is_of_definitions-clause-shown
returns-then-is_of_definitions-clause-shown c =
    let same = block_is (goal.at.returns-then-is_of_definitions-clause-shown c).Start (sym c.is_of_definitions.ensures ∙ c.if-is_of_definitions.true) in
    IfOk-map c.block_shown.result _ _ (λ v h. subst (Shows c.block_shown.new.heap.objects v.items) same h) c.block_shown.ensures.shown

pub returns-in-Event-clause-shown : goal.returns-in-Event-clause-shown
returns-in-Event-clause-shown c =
    let os = c.args.heap.now.objects in
    let t = meant os (parts_of c.args.theory.now) in
    let given = drafts_given os c.args.drafts in
    Shows-empty os _ _ c.new.ensures.items (ap (λ q. definitions_shown (refusal_of q) t c.args.checker.now.steps given (object_at os c.args.proofs)) (sym c.in-Event.is))

pub obligations_shown-requires-clause-owe : goal.obligations_shown-requires-clause-owe
obligations_shown-requires-clause-owe c = let owed = all_owed (goal.at.obligations_shown-requires-clause-owe c).Start c.in-Count.is in (owed.0, owed.1)

pub returns-in-Count-clause-shown : goal.returns-in-Count-clause-shown
returns-in-Count-clause-shown c =
    let owed = all_owed (goal.at.returns-in-Count-clause-shown c).Start c.in-Count.is in
    IfOk-map c.obligations_shown.result _ _ (λ v told. subst (Shows c.obligations_shown.new.heap.objects v.items) owed.2 (told owed.0 owed.1)) c.obligations_shown.ensures.shown

pub obligations-requires-clause-owe : goal.obligations-requires-clause-owe
obligations-requires-clause-owe c =
    let owed = proved (goal.at.obligations-requires-clause-owe c).Start (sym c.is_of_definitions.ensures ∙ c.if-is_of_definitions.false) c.in_default.not-Event c.in_default.not-Count _ (Grows-refl _) in
    (owed.0, owed.1)

pub first_refused_shown-requires-clause-formulas : goal.first_refused_shown-requires-clause-formulas
first_refused_shown-requires-clause-formulas c = c.in_ok-owed-in_default.ensures.within

pub first_refused_shown-requires-clause-stands : goal.first_refused_shown-requires-clause-stands
first_refused_shown-requires-clause-stands c =
    let g = c.in_ok-owed-in_default.ensures.grows in
    record { held = held-grows _ _ g _ c.requires.stands.held; marked = AreMarks-grows _ _ _ _ g c.requires.stands.marked }

pub first_refused_shown-requires-clause-refused : goal.first_refused_shown-requires-clause-refused
first_refused_shown-requires-clause-refused c =
    let owed = proved (goal.at.first_refused_shown-requires-clause-refused c).Start (sym c.is_of_definitions.ensures ∙ c.if-is_of_definitions.false) c.in_default.not-Event c.in_default.not-Count _ c.in_ok-owed-in_default.ensures.grows in
    (owed.0, c.in_ok-owed-in_default.ensures.owed owed.0 owed.1, owed.2)

pub returns-in_ok-owed-in_default-clause-shown : goal.returns-in_ok-owed-in_default-clause-shown
returns-in_ok-owed-in_default-clause-shown c =
    let owed = proved (goal.at.returns-in_ok-owed-in_default-clause-shown c).Start (sym c.is_of_definitions.ensures ∙ c.if-is_of_definitions.false) c.in_default.not-Event c.in_default.not-Count _ c.in_ok-owed-in_default.ensures.grows in
    IfOk-map c.first_refused_shown.result _ _ (λ v told. subst (Shows c.first_refused_shown.new.heap.objects v.items) owed.3 (told owed.0 (c.in_ok-owed-in_default.ensures.owed owed.0 owed.1))) c.first_refused_shown.ensures.shown
