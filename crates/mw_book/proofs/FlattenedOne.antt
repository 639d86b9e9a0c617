-- What reading more, and judging one event more, makes of where the turning of a book to a log stands.
use Rattle.std.proofs.Common.{◌≡◌, ℕ, ◌+◌, ◌≤◌, Bool, true, false, ◌&&◌, ◌||◌, not, cond, nat_lt, List, [], ◌∷◌, ◌++◌, length, Result, Ok, Err, IfOk, IsOk, refl, sym, ap, ap₂, ◌∙◌, subst, arith, append-nil, length-append, true≢false}
use Rattle.std.proofs.lemmas.Bool.{lt-ltb}
use Rattle.std.proofs.lemmas.List.{length_push}
use Rattle.mw_model.specs.Terms.Object.{Object}
use Rattle.mw_model.specs.Values.Primitive.{One}
use Rattle.mw_model.specs.Reports.Request.{Flat}
use Rattle.mw_model.specs.Events.Theory.{initial}
use Rattle.mw_model.specs.Events.Refusal.{Fate}
use Rattle.mw_model.specs.Events.Fate.{event_word, fate, happens, is_out_of_range, next}
use Rattle.mw_model.specs.Reports.Report.{is_accepted}
use Rattle.mw_model.specs.Texts.Pieces.{InOrder, how_many}
use Rattle.mw_commands.specs.Commands.Transition.{Transition, is_acceptance, last_theory}
use Rattle.mw_commands.specs.Commands.Slice.{begins_with, some_passes}
use Rattle.mw_commands.specs.Commands.Flattening.{OwesFlat, flat_events, flat_summary, is_logged_word, is_switch, plain_course}
use Rattle.mw_kernel.specs.Knowledge.{Knowledge, theory_of}
use Rattle.mw_book.specs.Lines.{flat_line}
use Rattle.mw_answers.specs.Answering.{HasAnswered}
use Rattle.mw_answers.specs.Writing.{Puts}
use Rattle.mw_book.specs.Flattened.{Flattened, FlattenedFor, HasEndedEvent, has_no_place, is_known_logged}
use Rattle.mw_book.specs.declared.flat.Flattening.{Flattening}
use Rattle.mw_book.proofs.AnsweredBy.{writes_by}
use Rattle.mw_answers.specs.Effects.{plain}
use Rattle.mw_answers.proofs.CallerLemmas.{event_after, course_more, last-append, length-course, few_flat, flat_more, flat_one, some_more, in_order_both, how_many-append}
use Rattle.mw_book.proofs.Showing.{fate-large, next-large}

length_one : (b : Bool) (y : Object) → length (cond b (y ∷ []) []) ≡ cond b 1 0
length_one true y = refl
length_one false y = refl

piece_one : (b : Bool) (y : Object) (piece : List ℕ) → (b ≡ true → OwesFlat y piece) → InOrder OwesFlat (cond b (y ∷ []) []) (cond b piece [])
piece_one true y piece h = (piece, [], sym (append-nil piece), h refl, refl)
piece_one false y piece h = refl

or_true : (b : Bool) → (b || true) ≡ true
or_true true = refl
or_true false = refl

or_false : (b : Bool) → (b || false) ≡ b
or_false true = refl
or_false false = refl

-- some are counted, where some were or this one is
some_counted : (n : ℕ) (b : Bool) → nat_lt 0 (n + cond b 1 0) ≡ (nat_lt 0 n || b)
some_counted n true = lt-ltb 0 (n + 1) (omega arith) ∙ sym (or_true (nat_lt 0 n))
some_counted n false = ap (nat_lt 0) (let e : n + 0 ≡ n = omega arith in e) ∙ sym (or_false (nat_lt 0 n))

-- ---- one event more

-- What is known of one event more: the theory after it, unless a switch was accepted; whether it is written, with this piece; whether it has no place in
-- a log, and whether it is an accepted switch.
record EventMore (old new : Flattening) (l : Knowledge) (s : Transition) (piece : List ℕ) : Type 0 where
  theory : new.switched ≡ false → theory_of l ≡ s.next
  put : Bool
  one : flat_one old.switched s ≡ cond put (s.event ∷ []) []
  written : new.written ≡ old.written + cond put 1 0
  line : piece ≡ cond put piece []
  owed : put ≡ true → OwesFlat s.event piece
  other : (new.refused || new.switched) ≡ ((old.refused || old.switched) || has_no_place s)
  switched : new.switched ≡ (old.switched || is_switch s)

-- what was judged, by a command and a kernel
abbrev IsFlattened : Flattening × Knowledge → ℕ → List Object → Type 0
IsFlattened a N given = Flattened a.0 a.1 N given

event_more : (old new : Flattening) (k l : Knowledge) (y : Object) (piece : List ℕ) → l.steps ≡ k.steps → new.events ≡ old.events + 1 →
    ((N : ℕ) (given : List Object) → Flattened old k N given → EventMore old new l (event_after (plain N) given y) piece) →
    (given : List Object) → Puts FlattenedFor old k given new l (given ++ y ∷ []) piece
event_more old new k l y piece steps counted one given =
    writes_by Flat IsFlattened (old, k) (new, l) given (given ++ y ∷ []) piece
    (λ N h.
    let m = one N given h in
    let ss = plain_course given N in
    let s = event_after (plain N) given y in
    let goes_on = sym (course_more (plain N) given y) in
    record {
      theory = λ e. m.theory e ∙ sym (last-append (initial One) ss s) ∙ ap last_theory goes_on;
      steps = steps ∙ h.steps;
      counted = counted ∙ ap (λ n. n + 1) h.counted ∙ sym (length_push given y);
      written_counted =
          m.written
          ∙ ap₂ (λ n k. n + k) h.written_counted (sym (length_one m.put y))
          ∙ sym (length-append (flat_events ss) (cond m.put (y ∷ []) []))
          ∙ ap (λ es. length es) (sym (events_are N h));
      some_other =
          m.other
          ∙ ap (λ b. b || has_no_place s) h.some_other
          ∙ sym (some_counted (how_many has_no_place ss) (has_no_place s))
          ∙ ap (nat_lt 0) (sym (how_many-append has_no_place ss s) ∙ ap (how_many has_no_place) goes_on);
      switched = m.switched ∙ ap (λ b. b || is_switch s) h.switched ∙ sym (some_more is_switch ss s) ∙ ap (some_passes is_switch) goes_on;
    })
    (λ N h text expected.
    let m = one N given h in
    let ss = plain_course given N in
    subst (λ u. InOrder OwesFlat (flat_events (plain_course (given ++ y ∷ []) N)) (text ++ u)) (sym m.line)
    (subst (λ es. InOrder OwesFlat es (text ++ cond m.put piece [])) (sym (events_are N h))
    (in_order_both OwesFlat (flat_events ss) (cond m.put (y ∷ []) []) text (cond m.put piece []) expected (piece_one m.put y piece m.owed))))
  where
    events_are : (N : ℕ) (h : Flattened old k N given) → flat_events (plain_course (given ++ y ∷ []) N) ≡ flat_events (plain_course given N) ++ cond (one N given h).put (y ∷ []) []
    events_are N h =
        let ss = plain_course given N in
        let s = event_after (plain N) given y in
        ap flat_events (course_more (plain N) given y) ∙ flat_more ss s ∙ ap (λ es. flat_events ss ++ es) (ap (λ w. flat_one w s) (sym h.switched) ∙ (one N given h).one)

-- ---- an event that is judged

module _ {E : Type 0} where
  put_one : (accepted switch : Bool) (logged : Result Bool E) (word : Bool) (y : Object) → ((accepted && not switch) ≡ true → IsOk logged) → IfOk logged (λ b. b ≡ word) →
      cond (accepted && switch) [] (cond (accepted && word) (y ∷ []) []) ≡ cond (accepted && (not switch && is_known_logged logged)) (y ∷ []) []
  put_one false switch logged word y c h = refl
  put_one true true logged word y c h = refl
  put_one true false (Ok b) word y c h = ap (λ v. cond v (y ∷ []) []) (sym h)
  put_one true false (Err e) word y c h = absurd (true≢false (sym (c refl)))

  put_owed : (accepted switch : Bool) (logged : Result Bool E) (P : Type 0) → IfOk logged (λ b. b ≡ true → P) → (accepted && (not switch && is_known_logged logged)) ≡ true → P
  put_owed false switch logged P h e = absurd (true≢false (sym e))
  put_owed true true logged P h e = absurd (true≢false (sym e))
  put_owed true false (Ok b) P h e = h e
  put_owed true false (Err x) P h e = absurd (true≢false (sym e))

other_one : (refused switched accepted switch : Bool) → ((refused || not accepted) || (switched || (accepted && switch))) ≡ ((refused || switched) || not (accepted && not (accepted && switch)))
other_one true switched accepted switch = refl
other_one false true true switch = refl
other_one false true false switch = refl
other_one false false true true = refl
other_one false false true false = refl
other_one false false false switch = refl

-- what is left of a piece is the whole of it or nothing
left_of : (b : Bool) (text piece : List ℕ) → piece ≡ cond b text [] → piece ≡ cond b piece []
left_of true text piece e = refl
left_of false text piece e = e

-- The event was judged before any switch; the text of it is left where it is one of the log.
pub judged_flat : {E : Type 0} (old mid ended new : Flattening) (k l : Knowledge) (y : Object) (f : Fate) (logged : Result Bool E) (switch put : Bool) (text piece : List ℕ) →
    old.switched ≡ false →
    f ≡ fate (theory_of k) y k.steps →
    theory_of l ≡ next (theory_of k) y k.steps →
    l.steps ≡ k.steps →
    mid ≡ record old { copies = mid.copies } →
    switch ≡ begins_with "SWITCH" y →
    IfOk logged (λ b. b ≡ is_logged_word (event_word y)) →
    IfOk logged (λ b. b ≡ true → OwesFlat y text) →
    HasEndedEvent mid ended (is_accepted f) logged switch put →
    new ≡ record ended { written = new.written } →
    new.written ≡ ended.written + cond put 1 0 →
    piece ≡ cond put text [] →
    (given : List Object) → Puts FlattenedFor old k given new l (given ++ y ∷ []) piece
judged_flat old mid ended new k l y f logged switch put text piece unswitched comes goes steps rest is_here word owed e last count left =
    event_more old new k l y piece steps (ap (λ m. m.events) last ∙ e.counted ∙ ap (λ m. m.events + 1) rest)
    (λ N given h.
    let ss = plain_course given N in
    let s = event_after (plain N) given y in
    let here = h.theory unswitched in
    let same : happens (theory_of k) k.steps y ≡ happens (last_theory ss) N y = ap (λ t. happens t k.steps y) here ∙ ap (λ n. happens (last_theory ss) n y) h.steps in
    let accepted : is_accepted f ≡ is_acceptance s = ap is_accepted (comes ∙ ap (λ p. p.0) same) in
    let switches : is_switch s ≡ (is_accepted f && switch) = ap₂ (λ a b. a && b) (sym accepted) (sym is_here) in
    record {
      theory = λ n. goes ∙ ap (λ p. p.1) same;
      put = put;
      one =
          ap (λ w. flat_one w s) unswitched
          ∙ ap₂ (λ w a. cond w [] (cond (a && is_logged_word (event_word y)) (y ∷ []) [])) switches (sym accepted)
          ∙ put_one (is_accepted f) switch logged (is_logged_word (event_word y)) y e.certain word
          ∙ ap (λ b. cond b (y ∷ []) []) (sym e.put_is);
      written = count ∙ ap (λ n. n + cond put 1 0) (e.written ∙ ap (λ m. m.written) rest);
      line = left_of put text piece left;
      owed = λ p. subst (OwesFlat y) (sym (left ∙ ap (λ b. cond b text []) p)) (put_owed (is_accepted f) switch logged (OwesFlat y text) owed (sym e.put_is ∙ p));
      other =
          ap (λ m. m.refused || m.switched) last
          ∙ ap₂ (λ r w. r || w) (e.refused ∙ ap (λ m. m.refused || not (is_accepted f)) rest) (e.switched ∙ ap (λ m. m.switched || (is_accepted f && switch)) rest)
          ∙ other_one old.refused old.switched (is_accepted f) switch
          ∙ ap₂ (λ a w. (old.refused || old.switched) || not (a && not w)) accepted (sym switches);
      switched = ap (λ m. m.switched) last ∙ e.switched ∙ ap (λ m. m.switched || (is_accepted f && switch)) rest ∙ ap (λ w. old.switched || w) (sym switches);
    })

-- ---- an event that is only counted

-- after a switch
pub counted_flat : (old : Flattening) (k l : Knowledge) (y : Object) (piece : List ℕ) → old.switched ≡ true → l.steps ≡ k.steps → piece ≡ [] →
    (given : List Object) → Puts FlattenedFor old k given (record old { events = old.events + 1 }) l (given ++ y ∷ []) piece
counted_flat old k l y piece after steps none =
    event_more old (record old { events = old.events + 1 }) k l y piece steps refl
    (λ N given h.
    let s = event_after (plain N) given y in
    record {
      theory = λ n. absurd (true≢false (sym after ∙ n));
      put = false;
      one = ap (λ w. flat_one w s) after;
      written = (let e : old.written ≡ old.written + 0 = omega arith in e);
      line = none;
      owed = λ e. absurd (true≢false (sym e));
      other = ap (λ w. old.refused || w) after ∙ or_true old.refused ∙ sym (ap (λ b. b || has_no_place s) (ap (λ w. old.refused || w) after ∙ or_true old.refused));
      switched = after ∙ sym (ap (λ w. w || is_switch s) after);
    })

-- with a natural past the range, so that it is refused
pub large_flat : (old : Flattening) (k : Knowledge) (y : Object) (piece : List ℕ) → is_out_of_range y ≡ true → piece ≡ [] →
    (given : List Object) → Puts FlattenedFor old k given (record old { refused = true; events = old.events + 1 }) k (given ++ y ∷ []) piece
large_flat old k y piece large none =
    event_more old (record old { refused = true; events = old.events + 1 }) k k y piece refl refl
    (λ N given h.
    let t = last_theory (plain_course given N) in
    let s = event_after (plain N) given y in
    let refused : is_acceptance s ≡ false = ap is_accepted (fate-large t y N large) in
    let no_switch : is_switch s ≡ false = ap (λ a. a && begins_with "SWITCH" y) refused in
    record {
      theory = λ n. h.theory n ∙ sym (next-large t y N large);
      put = false;
      one = ap₂ (λ w a. cond old.switched [] (cond w [] (cond (a && is_logged_word (event_word y)) (y ∷ []) []))) no_switch refused ∙ no_events old.switched [];
      written = (let e : old.written ≡ old.written + 0 = omega arith in e);
      line = none;
      owed = λ e. absurd (true≢false (sym e));
      other = sym (ap₂ (λ a w. (old.refused || old.switched) || not (a && not w)) refused no_switch ∙ or_true (old.refused || old.switched));
      switched = sym (ap (λ w. old.switched || w) no_switch ∙ or_false old.switched);
    })
  where
    no_events : (w : Bool) (es : List Object) → cond w es es ≡ es
    no_events true es = refl
    no_events false es = refl

-- ---- the counts

-- no more are written than there are
pub flattened_few : (f : Flattening) (k : Knowledge) → HasAnswered (FlattenedFor f) k → f.written ≤ f.events
flattened_few f k h =
    let p = h.2.2 in
    let ss = plain_course h.1 h.2.0 in
    omega (arith, few_flat ss, length-course (plain h.2.0) 1 (initial One) h.1, p.counted, p.written_counted)

pub flat_summary_is : (f : Flattening) (k : Knowledge) (N : ℕ) (given : List Object) → Flattened f k N given → flat_line f.events f.written ≡ flat_summary (plain_course given N) ++ 10 ∷ []
flat_summary_is f k N given h = ap₂ flat_line (h.counted ∙ sym (length-course (plain N) 1 (initial One) given)) h.written_counted
