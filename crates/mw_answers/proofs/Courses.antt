-- Courses of books go on from their first events.
use Rattle.std.proofs.Common.{◌≡◌, ℕ, suc, ◌+◌, List, [], ◌∷◌, ◌++◌, length, refl, ap, ◌∙◌, arith}
use Rattle.mw_model.specs.Terms.Object.{Object}
use Rattle.mw_model.specs.Values.Primitive.{One}
use Rattle.mw_model.specs.Events.Theory.{Theory, initial}
use Rattle.mw_model.specs.Events.Fate.{next, after}
use Rattle.mw_answers.specs.Effects.{plain}
use Rattle.mw_commands.specs.Commands.Transition.{Effect, Transition, course, course_from, last_theory, last_theory_from}

pub course-append : (effect : Effect) (k : ℕ) (t : Theory) (es more : List Object) → course_from effect k t (es ++ more) ≡ course_from effect k t es ++ course_from effect (k + length es) (last_theory_from t (course_from effect k t es)) more
course-append effect k t [] more = ap (λ n. course_from effect n t more) (let e : k ≡ k + 0 = omega arith in e)
course-append effect k t (e ∷ es) more =
    let h = effect t e in
    let s : Transition = record { number = k; before = t; event = e; fate = h.0; next = h.1 } in
    ap (λ ss. s ∷ ss) (course-append effect (suc k) h.1 es more ∙ ap (λ n. course_from effect (suc k) h.1 es ++ course_from effect n (last_theory_from h.1 (course_from effect (suc k) h.1 es)) more) (let e : suc k + length es ≡ k + suc (length es) = omega arith in e))

pub last-append : (t : Theory) (ss : List Transition) (s : Transition) → last_theory_from t (ss ++ s ∷ []) ≡ s.next
last-append t [] s = refl
last-append t (r ∷ ss) s = last-append r.next ss s

pub length-course : (effect : Effect) (k : ℕ) (t : Theory) (es : List Object) → length (course_from effect k t es) ≡ length es
length-course effect k t [] = refl
length-course effect k t (e ∷ es) = ap suc (length-course effect (suc k) (effect t e).1 es)

-- the event after these
abbrev pub event_after : Effect → List Object → Object → Transition
event_after effect given y = let t = last_theory (course effect given) in let h = effect t y in record { number = 1 + length given; before = t; event = y; fate = h.0; next = h.1 }

pub course_more : (effect : Effect) (given : List Object) (y : Object) → course effect (given ++ y ∷ []) ≡ course effect given ++ event_after effect given y ∷ []
course_more effect given y = course-append effect 1 (initial One) given (y ∷ [])

pub course_leads : (N k : ℕ) (t : Theory) (es : List Object) → last_theory_from t (course_from (plain N) k t es) ≡ after t es N
course_leads N k t [] = refl
course_leads N k t (e ∷ es) = course_leads N (suc k) (next t e N) es
