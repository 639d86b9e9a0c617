-- What reading more, and judging one event more, makes of where the slicing stands.
use Rattle.std.proofs.Common.{◌≡◌, ℕ, ◌+◌, Bool, true, false, cond, List, [], ◌∷◌, ◌++◌, length, map, refl, sym, ap, ap₂, ◌∙◌}
use Rattle.std.specs.Prelude.{filter}
use Rattle.std.proofs.lemmas.List.{length_push, map-append, append-nil}
use Rattle.std.proofs.lemmas.List.Elements.{filter-append}
use Rattle.mw_model.specs.Terms.Object.{Name, Object}
use Rattle.mw_model.specs.Values.Primitive.{One}
use Rattle.mw_model.specs.Reports.Request.{Request, Slice}
use Rattle.mw_model.specs.Events.Theory.{initial}
use Rattle.mw_model.specs.Events.Fate.{is_out_of_range, happens, fate, next, after}
use Rattle.mw_model.specs.Reports.Report.{is_accepted}
use Rattle.mw_commands.specs.Commands.Transition.{Transition, course, last_theory, is_acceptance}
use Rattle.mw_commands.specs.Commands.Slicing.{accepted_events}
use Rattle.mw_kernel.specs.Knowledge.{Knowledge, theory_of}
use Rattle.mw_slice.specs.Slices.{events_of}
use Rattle.mw_answers.specs.Writing.{Puts}
use Rattle.mw_book.specs.Sliced.{Sliced, SlicedFor, name_asked}
use Rattle.mw_book.specs.declared.slice.Slicing.{Slicing}
use Rattle.mw_book.proofs.AnsweredBy.{writes_by}
use Rattle.mw_book.proofs.Appending.{after-append}
use Rattle.mw_answers.specs.Effects.{plain}
use Rattle.mw_answers.proofs.CallerLemmas.{course-append, course_leads}
use Rattle.mw_book.proofs.Showing.{fate-large, next-large}

-- ---- the events that are accepted

-- the event, where it is accepted
abbrev pub where_accepted : Bool → Object → List Object
where_accepted b y = cond b (y ∷ []) []

one_event : (s : Transition) → map (λ (r : Transition). r.event) (filter is_acceptance (s ∷ [])) ≡ where_accepted (is_acceptance s) s.event
one_event s = go (is_acceptance s) refl
  where
    go : (b : Bool) → is_acceptance s ≡ b → map (λ (r : Transition). r.event) (filter is_acceptance (s ∷ [])) ≡ where_accepted (is_acceptance s) s.event
    go true e = rw e refl
    go false e = rw e refl

pub accepted_more : (N : ℕ) (given : List Object) (y : Object) → accepted_events (given ++ y ∷ []) N ≡ accepted_events given N ++ where_accepted (is_accepted (fate (after (initial One) given N) y N)) y
accepted_more N given y =
    let t = initial One in
    let ss = course (plain N) given in
    let u = last_theory ss in
    let h = happens u N y in
    let s : Transition = record { number = 1 + length given; before = u; event = y; fate = h.0; next = h.1 } in
    let events : List Transition → List Object = λ rs. map (λ r. r.event) rs in
    ap (λ rs. events (filter is_acceptance rs)) (course-append (plain N) 1 t given (y ∷ []))
    ∙ ap events (filter-append is_acceptance ss (s ∷ []))
    ∙ map-append (λ (r : Transition). r.event) (filter is_acceptance ss) (filter is_acceptance (s ∷ []))
    ∙ ap (λ l. events (filter is_acceptance ss) ++ l) (one_event s ∙ ap (λ v. where_accepted (is_accepted (fate v y N)) y) (course_leads N 1 t given))

-- ---- one event more

-- a request, by its name and its step limit
abbrev pub slice_request : Name × ℕ → Request
slice_request p = Slice p.0 p.1

-- what was judged, by a command and a kernel
abbrev pub IsSliced : Slicing × Knowledge → Name × ℕ → List Object → Type 0
IsSliced a p given = Sliced a.0 a.1 p.0 p.1 given

pub sliced_one : (old new : Slicing) (k l : Knowledge) (y : Object) (piece : List ℕ) →
    theory_of l ≡ next (theory_of k) y k.steps →
    l.steps ≡ k.steps →
    events_of new.slicer ≡ events_of old.slicer ++ where_accepted (is_accepted (fate (theory_of k) y k.steps)) y →
    new.events ≡ old.events + 1 →
    name_asked new ≡ name_asked old →
    piece ≡ [] →
    (given : List Object) → Puts SlicedFor old k given new l (given ++ y ∷ []) piece
sliced_one old new k l y piece goes steps kept counted named none given =
    writes_by slice_request IsSliced (old, k) (new, l) given (given ++ y ∷ []) piece
    (λ p h.
    let N = p.1 in
    let t = after (initial One) given N in
    record {
      named = named ∙ h.named;
      theory = goes ∙ ap (λ u. next u y k.steps) h.theory ∙ ap (λ n. next t y n) h.steps ∙ sym (after-append (initial One) given y N);
      steps = steps ∙ h.steps;
      counted = counted ∙ ap (λ n. n + 1) h.counted ∙ sym (length_push given y);
      accepted =
          kept
          ∙ ap₂ (λ es b. es ++ where_accepted b y) h.accepted (ap (λ u. is_accepted (fate u y k.steps)) h.theory ∙ ap (λ n. is_accepted (fate t y n)) h.steps)
          ∙ sym (accepted_more N given y);
    })
    (λ p h written expected. ap (λ l. written ++ l) none ∙ append-nil written ∙ expected)

-- the same where the event has a natural past the range
pub sliced_large : (old : Slicing) (k : Knowledge) (y : Object) (piece : List ℕ) → is_out_of_range y ≡ true → piece ≡ [] →
    (given : List Object) → Puts SlicedFor old k given (record old { events = old.events + 1 }) k (given ++ y ∷ []) piece
sliced_large old k y piece large none =
    let t = theory_of k in
    let n = k.steps in
    sliced_one old (record old { events = old.events + 1 }) k k y piece
    (sym (next-large t y n large)) refl
    (sym (ap (λ f. events_of old.slicer ++ where_accepted (is_accepted f) y) (fate-large t y n large) ∙ append-nil (events_of old.slicer)))
    refl refl none
