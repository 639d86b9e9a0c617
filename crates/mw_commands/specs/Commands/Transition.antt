-- The course of a book: from theory to theory, event by event.
use Rattle.std.specs.Prelude.{ℕ, suc, Bool, List, [], ◌∷◌}
use Rattle.mw_model.specs.Terms.Object.{Object}
use Rattle.mw_model.specs.Values.Primitive.{One}
use Rattle.mw_model.specs.Events.Theory.{Theory, initial}
use Rattle.mw_model.specs.Events.Refusal.{Fate}
use Rattle.mw_model.specs.Reports.Report.{is_accepted}

-- event number k, the theory that it meets and the one that it leads to
pub record Transition : Type 0 where
  pub number : ℕ
  pub before : Theory
  pub event : Object
  pub fate : Fate
  pub next : Theory

-- what an event comes to at a theory
abbrev pub Effect : Type 0
Effect = Theory → Object → Fate × Theory

abbrev pub course_from : Effect → ℕ → Theory → List Object → List Transition
course_from effect k t [] = []
course_from effect k t (e ∷ es) = let h = effect t e in record { number = k; before = t; event = e; fate = h.0; next = h.1 } ∷ course_from effect (suc k) h.1 es

abbrev pub course : Effect → List Object → List Transition
course effect es = course_from effect 1 (initial One) es

-- the theory at the end
abbrev pub last_theory_from : Theory → List Transition → Theory
last_theory_from t [] = t
last_theory_from t (s ∷ r) = last_theory_from s.next r

abbrev pub last_theory : List Transition → Theory
last_theory ss = last_theory_from (initial One) ss

abbrev pub is_acceptance : Transition → Bool
is_acceptance s = is_accepted s.fate
