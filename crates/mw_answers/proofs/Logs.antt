-- What a log is with one datum more, and with more data; and what its lines and its numbers then are.
use Rattle.std.proofs.Common.{◌≡◌, ℕ, suc, ◌+◌, ◌≤◌, Bool, true, false, not, cond, List, [], ◌∷◌, ◌++◌, length, refl, sym, ap, ◌∙◌, arith, append_assoc}
use Rattle.std.proofs.lemmas.List.{length_push}
use Rattle.mw_model.specs.Terms.Object.{Object}
use Rattle.mw_model.specs.Values.Primitive.{One}
use Rattle.mw_model.specs.Events.Theory.{Theory, initial}
use Rattle.mw_model.specs.Texts.Printing.{numeral}
use Rattle.mw_model.specs.Reports.Report.{spaced, word_text, label_text}
use Rattle.mw_model.specs.Texts.Pieces.{how_many}
use Rattle.mw_commands.specs.Commands.Log.{is_step, logged}
use Rattle.mw_commands.specs.Commands.LogReport.{Entered, Log, answer_text, is_yes, log_from, log_lines, log_of, theory_after, with_event}

-- the log with this step more
abbrev pub with_last_step : Log → Object → Log
with_last_step log x = record { entered = log.entered; left = log.left ++ x ∷ [] }

-- event number k after this log, which began at the theory t
abbrev pub last_entered : ℕ → Theory → Log → Object → Entered
last_entered k t log x = let u = theory_after t log.entered in let a = logged u log.left x in record { number = k; before = u; steps = log.left; event = x; answer = a.0; next = a.1 }

-- the log with that event more
abbrev pub with_last_event : ℕ → Theory → Log → Object → Log
with_last_event k t log x = record { entered = log.entered ++ last_entered k t log x ∷ []; left = [] }

-- A datum y stands first: it is a step or an event, and the data ys come after it.
abbrev by_kind : Bool → Log → Log → Log
by_kind b step event = elim b [ true ↦ step | false ↦ event ]

module _ (k : ℕ) (t : Theory) (steps : List Object) (y : Object) where
  abbrev after_step : List Object → Log
  after_step ys = log_from k t (steps ++ y ∷ []) ys

  abbrev after_event : List Object → Log
  after_event ys = log_from (suc k) (logged t steps y).1 [] ys

  abbrev event_first : Log → Log
  event_first log = with_event k t steps y (logged t steps y) log

  abbrev either : Bool → List Object → Log
  either b ys = by_kind b (after_step ys) (event_first (after_event ys))

-- ---- one datum more

module _ (k : ℕ) (t : Theory) (steps : List Object) (y : Object) (xs : List Object) (x : Object) where
  step_either : (b : Bool) → after_step k t steps y (xs ++ x ∷ []) ≡ with_last_step (after_step k t steps y xs) x →
      after_event k t steps y (xs ++ x ∷ []) ≡ with_last_step (after_event k t steps y xs) x →
      either k t steps y b (xs ++ x ∷ []) ≡ with_last_step (either k t steps y b xs) x
  step_either true e f = e
  step_either false e f = ap (λ log. event_first k t steps y log) f

  event_either : (b : Bool) → after_step k t steps y (xs ++ x ∷ []) ≡ with_last_event (k + length (after_step k t steps y xs).entered) t (after_step k t steps y xs) x →
      after_event k t steps y (xs ++ x ∷ []) ≡ with_last_event (suc k + length (after_event k t steps y xs).entered) (logged t steps y).1 (after_event k t steps y xs) x →
      either k t steps y b (xs ++ x ∷ []) ≡ with_last_event (k + length (either k t steps y b xs).entered) t (either k t steps y b xs) x
  event_either true e f = e
  event_either false e f =
      let log = after_event k t steps y xs in
      let number : suc k + length log.entered ≡ k + suc (length log.entered) = omega arith in
      ap (λ l. event_first k t steps y l) (f ∙ ap (λ n. with_last_event n (logged t steps y).1 log x) number)

step_from : (k : ℕ) (t : Theory) (steps xs : List Object) (x : Object) → is_step x ≡ true → log_from k t steps (xs ++ x ∷ []) ≡ with_last_step (log_from k t steps xs) x
step_from k t steps [] x h = ap (λ b. either k t steps x b []) h
step_from k t steps (y ∷ xs) x h = step_either k t steps y xs x (is_step y) (step_from k t (steps ++ y ∷ []) xs x h) (step_from (suc k) (logged t steps y).1 [] xs x h)

event_from : (k : ℕ) (t : Theory) (steps xs : List Object) (x : Object) → is_step x ≡ false → log_from k t steps (xs ++ x ∷ []) ≡ with_last_event (k + length (log_from k t steps xs).entered) t (log_from k t steps xs) x
event_from k t steps [] x h = ap (λ b. either k t steps x b []) h ∙ ap (λ n. with_last_event n t (record { entered = []; left = steps }) x) (let e : k ≡ k + 0 = omega arith in e)
event_from k t steps (y ∷ xs) x h = event_either k t steps y xs x (is_step y) (event_from k t (steps ++ y ∷ []) xs x h) (event_from (suc k) (logged t steps y).1 [] xs x h)

pub step_more : (given : List Object) (x : Object) → is_step x ≡ true → log_of (given ++ x ∷ []) ≡ with_last_step (log_of given) x
step_more given x h = step_from 1 (initial One) [] given x h

pub event_more : (given : List Object) (x : Object) → is_step x ≡ false → log_of (given ++ x ∷ []) ≡ with_last_event (1 + length (log_of given).entered) (initial One) (log_of given) x
event_more given x h = event_from 1 (initial One) [] given x h

-- ---- more data

-- the entered go on
abbrev GoesOn : Log → Log → Type 0
GoesOn whole first = (rest : List Entered) × (whole.entered ≡ first.entered ++ rest)

goes_on_either : (k : ℕ) (t : Theory) (steps : List Object) (y : Object) (given more : List Object) (b : Bool) → GoesOn (after_step k t steps y (given ++ more)) (after_step k t steps y given) → GoesOn (after_event k t steps y (given ++ more)) (after_event k t steps y given) →
    GoesOn (either k t steps y b (given ++ more)) (either k t steps y b given)
goes_on_either k t steps y given more true e f = e
goes_on_either k t steps y given more false e f = (f.0, ap (λ ss. (event_first k t steps y (record { entered = ss; left = [] })).entered) f.1)

goes_on_from : (k : ℕ) (t : Theory) (steps given more : List Object) → GoesOn (log_from k t steps (given ++ more)) (log_from k t steps given)
goes_on_from k t steps [] more = ((log_from k t steps more).entered, refl)
goes_on_from k t steps (y ∷ given) more = goes_on_either k t steps y given more (is_step y) (goes_on_from k t (steps ++ y ∷ []) given more) (goes_on_from (suc k) (logged t steps y).1 [] given more)

pub log_goes_on : (given more : List Object) → (rest : List Entered) × ((log_of (given ++ more)).entered ≡ (log_of given).entered ++ rest)
log_goes_on given more = goes_on_from 1 (initial One) [] given more

-- ---- the theory and the lines

pub theory_after-last : (t : Theory) (ss : List Entered) (s : Entered) → theory_after t (ss ++ s ∷ []) ≡ s.next
theory_after-last t [] s = refl
theory_after-last t (r ∷ ss) s = theory_after-last r.next ss s

pub log_lines-append : (ss more : List Entered) → log_lines (ss ++ more) ≡ log_lines ss ++ log_lines more
log_lines-append [] more = refl
log_lines-append (s ∷ ss) more =
    let here = spaced (numeral s.number) (spaced (word_text s.event) (spaced (label_text s.event) (answer_text s.answer))) in
    ap (λ u. here ++ 10 ∷ u) (log_lines-append ss more) ∙ sym (append_assoc here (10 ∷ log_lines ss) (log_lines more))

-- ---- the numbers

-- a log has no more events and steps left over than data
abbrev size_of : Log → ℕ
size_of log = length log.entered + length log.left

few_either : (k : ℕ) (t : Theory) (steps : List Object) (y : Object) (xs : List Object) (b : Bool) → size_of (after_step k t steps y xs) ≤ length (steps ++ y ∷ []) + length xs → size_of (after_event k t steps y xs) ≤ 0 + length xs →
    size_of (either k t steps y b xs) ≤ length steps + suc (length xs)
few_either k t steps y xs true e f = let push = length_push steps y in omega (arith, e, push)
few_either k t steps y xs false e f = omega (arith, f)

few_from : (k : ℕ) (t : Theory) (steps xs : List Object) → size_of (log_from k t steps xs) ≤ length steps + length xs
few_from k t steps [] = omega arith
few_from k t steps (y ∷ xs) = few_either k t steps y xs (is_step y) (few_from k t (steps ++ y ∷ []) xs) (few_from (suc k) (logged t steps y).1 [] xs)

pub few_entered : (given : List Object) → length (log_of given).entered + length (log_of given).left ≤ length given
few_entered given = let few = few_from 1 (initial One) [] given in omega (arith, few)

-- each event of a log gets a yes or a no
pub all_answered : (ss : List Entered) → how_many is_yes ss + how_many (λ s. not (is_yes s)) ss ≡ length ss
all_answered [] = refl
all_answered (s ∷ ss) = go (is_yes s) (all_answered ss)
  where
    go : (b : Bool) → how_many is_yes ss + how_many (λ r. not (is_yes r)) ss ≡ length ss → (cond b 1 0 + how_many is_yes ss) + (cond (not b) 1 0 + how_many (λ r. not (is_yes r)) ss) ≡ suc (length ss)
    go true h = omega (arith, h)
    go false h = omega (arith, h)
