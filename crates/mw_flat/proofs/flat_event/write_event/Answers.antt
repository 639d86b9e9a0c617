-- By the form of the event. One without proofs is written as it stands.
use Rattle.std.proofs.Common.{◌≡◌, ℕ, List, [], ◌∷◌, ◌++◌, refl, sym, ap, ◌∙◌, subst, inl, inr}
use Rattle.mw_model.specs.Terms.Object.{Object}
use Rattle.mw_model.specs.Texts.Written.{IsWritten, IsDatumLine}
use Rattle.mw_model.specs.Events.Fate.{event_word}
use Rattle.mw_commands.specs.Commands.Slice.{proofs_by_word}
use Rattle.mw_commands.specs.Commands.Flattening.{is_logged_word, flat_event, StepsWritten, OwesFlat}
use Rattle.mw_heap.specs.Objects.{object_at}
use Rattle.mw_theory.specs.declared.event.Event.{Event}
use Rattle.mw_theory.specs.Words.{IsEvent, skolem_event, profile_event}
use Rattle.mw_flat.proofs.flat_event.write_event.Goals as goal

-- the members of an event say what the event is
module _ (os : List Object) (event : ℕ) (given members : Event) (is : given ≡ members) (of : IsEvent os event given) (x : Object) (said : IsEvent os event members → object_at os event ≡ x) where
  event_is : object_at os event ≡ x
  event_is = said (subst (IsEvent os event) is of)

  logged : is_logged_word (event_word x) ≡ is_logged_word (event_word (object_at os event))
  logged = sym (ap (λ e. is_logged_word (event_word e)) event_is)

  owed : (text : List ℕ) → OwesFlat x text → OwesFlat (object_at os event) text
  owed text owes = subst (λ e. OwesFlat e text) (sym event_is) owes

pub returns-in_ok-write_theorem-in-Verify-clause-word : goal.returns-in_ok-write_theorem-in-Verify-clause-word
returns-in_ok-write_theorem-in-Verify-clause-word c = logged c.args.heap.now.objects c.args.event _ _ c.in-Verify.is c.requires.event _ (λ e. e.0)

pub returns-in_ok-write_theorem-in-Verify-clause-written : goal.returns-in_ok-write_theorem-in-Verify-clause-written
returns-in_ok-write_theorem-in-Verify-clause-written c = λ b. owed c.args.heap.now.objects c.args.event _ _ c.in-Verify.is c.requires.event _ (λ e. e.0) c.write_theorem.new.piece.items c.in_ok-write_theorem-in-Verify.ensures

pub returns-in_ok-write_definitions-in-Define-clause-word : goal.returns-in_ok-write_definitions-in-Define-clause-word
returns-in_ok-write_definitions-in-Define-clause-word c = logged c.args.heap.now.objects c.args.event _ _ c.in-Define.is c.requires.event _ (λ e. e.0)

pub returns-in_ok-write_definitions-in-Define-clause-written : goal.returns-in_ok-write_definitions-in-Define-clause-written
returns-in_ok-write_definitions-in-Define-clause-written c = λ b. owed c.args.heap.now.objects c.args.event _ _ c.in-Define.is c.requires.event _ (λ e. e.0) c.write_definitions.new.piece.items c.in_ok-write_definitions-in-Define.ensures

pub returns-in_ok-write_definitions-in-DefineAll-clause-word : goal.returns-in_ok-write_definitions-in-DefineAll-clause-word
returns-in_ok-write_definitions-in-DefineAll-clause-word c = logged c.args.heap.now.objects c.args.event _ _ c.in-DefineAll.is c.requires.event _ (λ e. e.0)

pub returns-in_ok-write_definitions-in-DefineAll-clause-written : goal.returns-in_ok-write_definitions-in-DefineAll-clause-written
returns-in_ok-write_definitions-in-DefineAll-clause-written c = λ b. owed c.args.heap.now.objects c.args.event _ _ c.in-DefineAll.is c.requires.event _ (λ e. e.0) c.write_definitions-in-DefineAll.new.piece.items c.in_ok-write_definitions-in-DefineAll.ensures

line_owed : (e x : Object) (text : List ℕ) (next : ℕ) (old new : List ℕ) → e ≡ x → flat_event x ≡ x → StepsWritten (proofs_by_word (event_word x) x) [] → IsWritten e 1 text next → old ≡ [] → new ≡ old ++ (text ++ 10 ∷ []) → OwesFlat e new
line_owed e x text next old new is same none w empty put =
    subst (λ y. OwesFlat y new) (sym is)
    ([], text ++ 10 ∷ [], put ∙ ap (λ o. o ++ (text ++ 10 ∷ [])) empty, none, subst (λ y. IsDatumLine y (text ++ 10 ∷ [])) (sym same) (text, next, subst (λ y. IsWritten y 1 text next) is w, refl))

pub returns-in_ok-write_line-in-Skolem-clause-written : goal.returns-in_ok-write_line-in-Skolem-clause-written
returns-in_ok-write_line-in-Skolem-clause-written c = λ b.
    let os = c.args.heap.now.objects in
    let e = object_at os c.args.event in
    let w = c.in_ok-write_line-in-Skolem.ensures in
    let old = c.args.piece.now.items in
    let new = c.write_line.new.lines.items in
    elim c.in-Skolem.is [
      | inl s ↦ let x = skolem_event (object_at os s.0) (object_at os s.1) (object_at os s.2) (object_at os s.3) in line_owed e x w.0 w.1 old new (subst (IsEvent os c.args.event) s.4 c.requires.event).0 refl refl w.2 c.requires.empty w.3
      | inr s ↦ let x = profile_event (object_at os s.0) in line_owed e x w.0 w.1 old new (subst (IsEvent os c.args.event) s.1 c.requires.event).0 refl refl w.2 c.requires.empty w.3
    ]
