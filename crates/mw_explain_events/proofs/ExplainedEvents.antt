-- What is shown of an event that is refused, by its members.
use Rattle.std.proofs.Common.{◌≡◌, ℕ, false, List, [], ◌∷◌, Some, None, refl, sym, ap, ◌∙◌}
use Rattle.mw_model.specs.Terms.Object.{Object, Natural, Symbol, Pair}
use Rattle.mw_model.specs.Events.Theory.{Theory}
use Rattle.mw_model.specs.Events.Refusal.{Refusal, EVENT, NESTED, Refused}
use Rattle.mw_model.specs.Events.Admission.{some_drafts}
use Rattle.mw_model.specs.Events.Fate.{event_word, is_out_of_range, fate, happens_by}
use Rattle.mw_model.specs.Texts.Printing.{text_of}
use Rattle.mw_heap.specs.Objects.{object_at}
use Rattle.mw_theory.specs.EventWords.{word_begun}
use Rattle.mw_theory.specs.Words.{event_object, IsEvent}
use Rattle.mw_theory.specs.declared.event.Event.{Event}
use Rattle.mw_theory.specs.declared.event.Event.TheVariants.{Verify, Define, Skolem, Switch, Eval, Print, DefineAll, Profile}
use Rattle.mw_theory.proofs.CallerLemmas.{none_happens, word_happens}
use Rattle.mw_commands.specs.Commands.Explanation.{shown, shown_by, word_of}
use Rattle.mw_kernel.proofs.CallerLemmas.{word_of_event, word-is, comes_to, comes-by}
use Rattle.mw_explain_events.specs.Defining.{definitions_shown}
use Rattle.mw_explain_events.proofs.DefinitionReasons.{same_reason}
use Rattle.mw_explain_events.proofs.EventReasons.{print-shown, profile-shown, skolem-not-nested, eval-not-nested}
use Rattle.mw_explain_events.proofs.RefusedDefinitions.{defining-reason, shown-define, shown-define-all}

-- what is shown of the event at x
abbrev pub shown_at : List Object → Theory → ℕ → ℕ → Refusal → List Object
shown_at os t N x r = shown r (word_of (object_at os x)) t N (object_at os x)

-- The event at x is refused by what its members come to, and what is shown of it is by its word.
pub record IsTold (os : List Object) (t : Theory) (N : ℕ) (x : ℕ) (r : Refusal) (e : Event) : Type 0 where
  pub refused : (comes_to os t N e).0 ≡ Refused r
  pub shown : shown_by r (word_of_event e) t N (event_object os e) ≡ shown_at os t N x r

module _ (os : List Object) (t : Theory) (N : ℕ) (x : ℕ) (r : Refusal) (in_range : is_out_of_range (object_at os x) ≡ false) (refused : fate t (object_at os x) N ≡ Refused r) where
  -- what is no event is refused for EVENT
  pub no-event-reason : event_word (object_at os x) ≡ None → r ≡ EVENT
  no-event-reason none = sym (same_reason EVENT r (ap (λ f. f.0) (none_happens t N (object_at os x) in_range none) ∙ refused))

  begins : (d : Event) → word_of (event_object os d) ≡ Some (word_of_event d)
  begins (Verify name formula proof) = refl
  begins (Define name formals body measure proofs) = refl
  begins (Skolem name bound free body) = refl
  begins (Switch name) = refl
  begins (Eval term) = refl
  begins (Print y) = refl
  begins (DefineAll definitions proofs) = refl
  begins (Profile n) = refl

  pub event-told : (e : Event) → IsEvent os x e → IsTold os t N x r e
  event-told e event = record {
    refused =
        ap (λ f. f.0)
        (comes-by os t N e
        ∙ (ap (happens_by (word_of_event e) t N) (sym event.0) ∙ word_happens t N (object_at os x) in_range (word_of_event e) (ap event_word event.0 ∙ word-is os e)))
        ∙ refused;
    shown = ap (λ o. shown r o t N (event_object os e)) (sym (begins e)) ∙ ap (λ y. shown r (word_of y) t N y) (sym event.0);
  }

-- what is told of a refused event, by its members
module _ {os : List Object} {t : Theory} {N x : ℕ} {r : Refusal} where
  pub define-told : {n f b m ps : ℕ} → IsTold os t N x r (Define n f b m ps) → definitions_shown r t N (Some (record { name = object_at os n; formals = object_at os f; body = object_at os b; measure = object_at os m } ∷ [])) (object_at os ps) ≡ shown_at os t N x r
  define-told {n} {f} {b} {m} {ps} e = shown-define r t N (object_at os n) (object_at os f) (object_at os b) (object_at os m) (object_at os ps) (defining-reason N t _ (object_at os ps) r e.refused) ∙ e.shown

  pub define-all-told : {ds ps : ℕ} → IsTold os t N x r (DefineAll ds ps) → definitions_shown r t N (some_drafts (object_at os ds)) (object_at os ps) ≡ shown_at os t N x r
  define-all-told {ds} {ps} e = shown-define-all r t N (object_at os ds) (object_at os ps) (defining-reason N t _ (object_at os ps) r e.refused) ∙ e.shown

  pub print-told : {y : ℕ} → IsTold os t N x r (Print y) → [] ≡ shown_at os t N x r
  print-told {y} e = print-shown t N r (object_at os y) (text_of (object_at os y)) e.refused ∙ e.shown

  pub profile-told : {y : ℕ} → IsTold os t N x r (Profile y) → [] ≡ shown_at os t N x r
  profile-told {y} e = profile-shown t N r (object_at os y) e.refused ∙ e.shown

  -- a witness and a term are not refused for nested calls
  pub witness-not-nested : {n b f y : ℕ} → IsTold os t N x r (Skolem n b f y) → r ≡ NESTED → ⊥
  witness-not-nested {n} {b} {f} {y} e = skolem-not-nested t N r (object_at os n) (object_at os b) (object_at os f) (object_at os y) e.refused

  pub term-not-nested : {y : ℕ} → IsTold os t N x r (Eval y) → r ≡ NESTED → ⊥
  term-not-nested {y} e = eval-not-nested t N r (object_at os y) e.refused

-- the word that an object begins with
pub begun-is : (e : Object) → word_begun e ≡ word_of e
begun-is (Natural n) = refl
begun-is (Symbol s) = refl
begun-is (Pair (Natural n) x) = refl
begun-is (Pair (Symbol s) x) = refl
begun-is (Pair (Pair a b) x) = refl
