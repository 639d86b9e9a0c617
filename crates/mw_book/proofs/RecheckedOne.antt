-- What reading more, and answering one datum more, makes of where the judging of a log stands.
use Rattle.std.proofs.Common.{◌≡◌, ℕ, ◌+◌, ◌-◌, ◌≤◌, Bool, true, false, not, cond, List, [], ◌∷◌, ◌++◌, length, Option, Some, None, IfSome, option_map, codes, refl, sym, ap, ap₂, ◌∙◌, subst, arith, append-nil, add-zero}
use Rattle.std.proofs.lemmas.List.{length_push}
use Rattle.mw_model.specs.Terms.Object.{Object, Natural, Symbol, Pair, symbol, same_object, car}
use Rattle.mw_model.specs.Values.Primitive.{One}
use Rattle.mw_model.specs.Reports.Request.{Recheck}
use Rattle.mw_model.specs.Events.Theory.{initial}
use Rattle.mw_model.specs.Texts.Printing.{numeral}
use Rattle.mw_model.specs.Reports.Report.{spaced, word_text, label_text}
use Rattle.mw_model.specs.Texts.Pieces.{how_many}
use Rattle.mw_commands.specs.Commands.Log.{Answer, Yes, No, is_step, logged}
use Rattle.mw_commands.specs.Commands.LogReport.{Entered, Log, answer_text, denied, is_yes, last_logged, log_lines, log_of, log_summary}
use Rattle.mw_heap.specs.Objects.{object_at, IsIn}
use Rattle.mw_read.specs.Shown.{IsShown, ShowsEvent, first_symbol}
use Rattle.mw_flat.specs.Going.{Going, theory_of, HasCollected, IsNoted, IsAnswered, ComesBy, Comes, is_step_word}
use Rattle.mw_flat.specs.Verdicts.{answer_of}
use Rattle.mw_flat.specs.declared.verdict.Verdict.{Verdict}
use Rattle.mw_book.specs.Lines.{answers_line, line_begun}
use Rattle.mw_answers.specs.Answering.{HasAnswered}
use Rattle.mw_answers.specs.Writing.{Puts}
use Rattle.mw_book.specs.Rechecked.{HasCounted, Rechecked, RecheckedFor, denied_said, events_said, said_text}
use Rattle.mw_book.specs.declared.recheck.Rechecking.{Rechecking}
use Rattle.mw_book.proofs.AnsweredBy.{writes_by}
use Rattle.mw_answers.proofs.CallerLemmas.{all_answered, event_more, few_entered, last_entered, log_lines-append, step_more, theory_after-last, with_last_event, with_last_step, how_many-append}
use Rattle.mw_book.proofs.OneMore.{joined, two_parts}

-- ---- what is headed by STEP is a step

pub is_step-car : (x : Object) → same_object (car x) (symbol "STEP") ≡ is_step x
is_step-car (Natural n) = refl
is_step-car (Symbol s) = refl
is_step-car (Pair h r) = refl

abbrev is_step_symbol : Option Object → Bool
is_step_symbol None = false
is_step_symbol (Some x) = same_object x (symbol "STEP")

is_step-first : (x : Object) → is_step x ≡ is_step_symbol (first_symbol x)
is_step-first (Natural n) = refl
is_step-first (Symbol s) = refl
is_step-first (Pair (Natural n) r) = refl
is_step-first (Pair (Symbol s) r) = refl
is_step-first (Pair (Pair a b) r) = refl

is_step_symbol-word : (os : List Object) (word : Option ℕ) → is_step_symbol (option_map (object_at os) word) ≡ is_step_word os word
is_step_symbol-word os None = refl
is_step_symbol-word os (Some r) = refl

-- the word that is shown tells which it is
pub is_step-shown : (os : List Object) (word label : Option ℕ) (x : Object) → ShowsEvent os word label x → is_step x ≡ is_step_word os word
is_step-shown os word label x h = is_step-first x ∙ ap is_step_symbol (sym h.word_first) ∙ is_step_symbol-word os word

-- what is shown stands in the heap
pub shown_in : (os : List Object) (word : Option ℕ) → IsShown os word → IfSome word (IsIn os)
shown_in os None h = tt
shown_in os (Some r) h = h.0

-- ---- one datum more

-- the line of an event, in two parts
line-parts : (k : ℕ) (x : Object) (a : Answer) → line_begun k x ++ (answer_text a ++ 10 ∷ []) ≡ spaced (numeral k) (spaced (word_text x) (spaced (label_text x) (answer_text a))) ++ 10 ∷ []
line-parts k x a = joined (numeral k) (word_text x) (label_text x) (answer_text a)

denied_one : (a : Answer) → denied_said (Some a) ≡ cond (not (elim a [ Yes ↦ true | No o ↦ false ])) 1 0
denied_one Yes = refl
denied_one (No o) = refl

module _ (old new : Rechecking) (f g : Going) (x : Object) (said : Option Answer)
    (counted : new.taken ≡ old.taken + 1)
    (events_counted : new.events ≡ old.events + events_said said)
    (denied_counted : new.denied ≡ old.denied + denied_said said)
    (given : List Object)
    (h : Rechecked old f given)
  where
    abbrev log : Log
    log = log_of given

    data_more : new.taken ≡ length (given ++ x ∷ [])
    data_more = counted ∙ ap (λ k. k + 1) h.counted ∙ sym (length_push given x)

    -- a step
    module _ (step : is_step x ≡ true) (noted : IsNoted f g log.left x said) where
      one_step : log_of (given ++ x ∷ []) ≡ with_last_step log x
      one_step = step_more given x step

      step_rechecked : Rechecked new g (given ++ x ∷ [])
      step_rechecked = record {
        theory = noted.theory ∙ h.theory ∙ ap last_logged (sym one_step);
        collected = subst (λ l. HasCollected g l.left) (sym one_step) noted.collected;
        counted = data_more;
        events_counted = events_counted ∙ ap₂ (λ k s. k + events_said s) h.events_counted noted.answer ∙ add-zero (length log.entered) ∙ ap (λ l. length l.entered) (sym one_step);
        denied_counted = denied_counted ∙ ap₂ (λ k s. k + denied_said s) h.denied_counted noted.answer ∙ add-zero (denied log) ∙ ap denied (sym one_step);
      }

      step_expected : (written piece : List ℕ) → written ≡ log_lines log.entered → piece ≡ said_text said → written ++ piece ≡ log_lines (log_of (given ++ x ∷ [])).entered
      step_expected written piece expected line = ap (λ l. written ++ l) (line ∙ ap said_text noted.answer) ∙ append-nil written ∙ expected ∙ ap (λ l. log_lines l.entered) (sym one_step)

    -- an event
    module _ (event : is_step x ≡ false) (answered : IsAnswered f g log.left x said) where
      abbrev here : Entered
      here = last_entered (1 + length log.entered) (initial One) log x

      one_event : log_of (given ++ x ∷ []) ≡ with_last_event (1 + length log.entered) (initial One) log x
      one_event = event_more given x event

      same : logged (theory_of f) log.left x ≡ logged (last_logged log) log.left x
      same = ap (λ t. logged t log.left x) h.theory

      said_is : said ≡ Some here.answer
      said_is = answered.answer ∙ ap (λ p. Some p.0) same

      event_rechecked : Rechecked new g (given ++ x ∷ [])
      event_rechecked = record {
        theory = answered.theory ∙ ap (λ p. p.1) same ∙ sym (theory_after-last (initial One) log.entered here) ∙ ap last_logged (sym one_event);
        collected = subst (λ l. HasCollected g l.left) (sym one_event) answered.collected;
        counted = data_more;
        events_counted = events_counted ∙ ap₂ (λ k s. k + events_said s) h.events_counted said_is ∙ sym (length_push log.entered here) ∙ ap (λ l. length l.entered) (sym one_event);
        denied_counted =
            denied_counted
            ∙ ap₂ (λ k s. k + denied_said s) h.denied_counted said_is
            ∙ ap (λ k. denied log + k) (denied_one here.answer)
            ∙ sym (how_many-append (λ s. not (is_yes s)) log.entered here)
            ∙ ap denied (sym one_event);
      }

      event_expected : (written piece : List ℕ) → written ≡ log_lines log.entered → piece ≡ line_begun (old.events + 1) x ++ said_text said → written ++ piece ≡ log_lines (log_of (given ++ x ∷ [])).entered
      event_expected written piece expected line =
          let number : old.events + 1 ≡ 1 + length log.entered = omega (arith, h.events_counted) in
          ap (λ l. written ++ l) (line
          ∙ ap (λ s. line_begun (old.events + 1) x ++ said_text s) said_is
          ∙ ap (λ n. line_begun n x ++ (answer_text here.answer ++ 10 ∷ [])) number
          ∙ line-parts (1 + length log.entered) x here.answer)
          ∙ ap (λ l. l ++ log_lines (here ∷ [])) expected
          ∙ sym (log_lines-append log.entered (here ∷ []))
          ∙ ap (λ l. log_lines l.entered) (sym one_event)

-- what was answered, by a command and what has read the log
abbrev IsRechecked : Rechecking × Going → Unit {0} → List Object → Type 0
IsRechecked a u given = Rechecked a.0 a.1 given

pub rechecked_one : (old new : Rechecking) (f g : Going) (x : Object) (said : Option Answer) (piece : List ℕ) →
    ((steps : List Object) → HasCollected f steps → ComesBy (is_step x) f g steps x said) →
    HasCounted old new said →
    piece ≡ cond (is_step x) [] (line_begun (old.events + 1) x) ++ said_text said →
    (given : List Object) → Puts RecheckedFor old f given new g (given ++ x ∷ []) piece
rechecked_one old new f g x said piece comes e line given = go (is_step x) refl comes line
  where
    go : (b : Bool) → is_step x ≡ b → ((steps : List Object) → HasCollected f steps → ComesBy b f g steps x said) →
        piece ≡ cond b [] (line_begun (old.events + 1) x) ++ said_text said → Puts RecheckedFor old f given new g (given ++ x ∷ []) piece
    go true is noted l =
        writes_by {P = Unit {0}} (λ u. Recheck) IsRechecked (old, f) (new, g) given (given ++ x ∷ []) piece
        (λ u h. step_rechecked old new f g x said e.counted e.events_counted e.denied_counted given h is (noted (log_of given).left h.collected))
        (λ u h written expected. step_expected old new f g x said e.counted e.events_counted e.denied_counted given h is (noted (log_of given).left h.collected) written piece expected l)
    go false is answered l =
        writes_by {P = Unit {0}} (λ u. Recheck) IsRechecked (old, f) (new, g) given (given ++ x ∷ []) piece
        (λ u h. event_rechecked old new f g x said e.counted e.events_counted e.denied_counted given h is (answered (log_of given).left h.collected))
        (λ u h written expected. event_expected old new f g x said e.counted e.events_counted e.denied_counted given h is (answered (log_of given).left h.collected) written piece expected l)

-- The line of a datum was begun, if it is an event; then it was answered, and the line ended.
pub ended_one : (old new : Rechecking) (f g : Going) (x : Object) (b : Bool) (v : Verdict) (none begun piece : List ℕ) →
    b ≡ is_step x →
    none ≡ [] →
    begun ≡ none ++ cond b [] (line_begun (old.events + 1) x) →
    piece ≡ begun ++ said_text (answer_of v) →
    ((steps : List Object) → HasCollected f steps → Comes v f g steps x) →
    HasCounted old new (answer_of v) →
    (given : List Object) → Puts RecheckedFor old f given new g (given ++ x ∷ []) piece
ended_one old new f g x b v none begun piece is empty first line comes e =
    rechecked_one old new f g x (answer_of v) piece comes e
    (two_parts none begun (cond (is_step x) [] (line_begun (old.events + 1) x)) (said_text (answer_of v)) piece empty (first ∙ ap (λ s. none ++ cond s [] (line_begun (old.events + 1) x)) is) line)

-- ---- the counts

-- no more events got a no than were answered, and those with the steps that wait are no more than the data
pub rechecked_few : (r : Rechecking) (g : Going) → HasAnswered (RecheckedFor r) g → (r.denied ≤ r.events) × (r.events + g.count ≤ r.taken)
rechecked_few r g h =
    let k = h.2.2 in
    let denials : r.denied ≤ r.events = let all = all_answered (log_of h.1).entered in omega (arith, all, k.events_counted, k.denied_counted) in
    let all_data : r.events + g.count ≤ r.taken = let few = few_entered h.1 in omega (arith, few, k.counted, k.events_counted, k.collected.count) in
    (denials, all_data)

abbrev text_with : (events passed denials left : ℕ) → List ℕ
text_with events passed denials left = spaced (codes "events") (spaced (numeral events) (spaced (codes "yes") (spaced (numeral passed) (spaced (codes "no") (spaced (numeral denials) (spaced (codes "left") (numeral left))))))) ++ 10 ∷ []

pub log_summary_is : (r : Rechecking) (g : Going) (given : List Object) → Rechecked r g given → answers_line r.events r.denied g.count ≡ log_summary (log_of given) ++ 10 ∷ []
log_summary_is r g given h =
    let ss = (log_of given).entered in
    let passed : r.events - r.denied ≡ how_many is_yes ss = let all = all_answered ss in omega (arith, all, h.events_counted, h.denied_counted) in
    ap₂ (λ e y. text_with e y r.denied g.count) h.events_counted passed ∙ ap₂ (λ d l. text_with (length ss) (how_many is_yes ss) d l) h.denied_counted h.collected.count
