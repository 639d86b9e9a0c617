-- Where a command stands that judges a book event by event, and what it tells of the next one.
use Rattle.std.specs.Prelude.{◌≡◌, ℕ, ◌+◌, List, [], ◌∷◌, ◌++◌, length}
use Rattle.std.proofs.Common.{◌∙◌}
use Rattle.mw_model.specs.Terms.Object.{Object}
use Rattle.mw_model.specs.Events.Refusal.{Fate}
use Rattle.mw_model.specs.Reports.Request.{Request}
use Rattle.mw_commands.specs.Commands.Transition.{Effect, course, last_theory}
use Rattle.mw_commands.specs.Commands.Lowering.{refused_in}
use Rattle.mw_kernel.specs.Knowledge.{Knowledge, theory_of}
use Rattle.mw_answers.specs.Answering.{AnsweredBy}
use Rattle.mw_book.specs.Keeping.{KeepsTheory}
use Rattle.mw_answers.specs.Statuses.{AreAnswers}
use Rattle.mw_book.specs.declared.tally.Tally.{Tally}

-- These data were judged: the kernel has the theory that they lead to, and the numbers count them.
pub record Judged (effect : ℕ → Effect) (t : Tally) (k : Knowledge) (N : ℕ) (given : List Object) : Type 0 where
  pub theory : theory_of k ≡ last_theory (course (effect N) given)
  pub steps : k.steps ≡ N
  pub counted : t.events ≡ length given
  pub refused_counted : t.refused ≡ refused_in (course (effect N) given)

-- the request is one of these, and these data were judged
abbrev pub JudgedFor : (ℕ → Request) → (ℕ → Effect) → Tally → Knowledge → Request → List Object → Type 0
JudgedFor request effect t k = AnsweredBy request (Judged effect t k)

-- a kernel that has read more has the same theory
pub judged_still : (request : ℕ → Request) (effect : ℕ → Effect) (t : Tally) (old new : Knowledge) → KeepsTheory old new → (q : Request) (given : List Object) → JudgedFor request effect t old q given → JudgedFor request effect t new q given
judged_still request effect t old new kept q given h =
    let k = h.2 in (
      h.0,
      h.1,
      record {
        theory = kept.0 ∙ k.theory;
        steps = kept.1 ∙ k.steps;
        counted = k.counted;
        refused_counted = k.refused_counted;
      },
    )

-- An event after these data has this fate and leads to the theory of the kernel, and its piece after the answers to the data makes those to all.
pub record Told (request : ℕ → Request) (effect : ℕ → Effect) (N : ℕ) (given : List Object) (y : Object) (f : Fate) (new : Knowledge) (piece : List ℕ) : Type 0 where
  pub fate : f ≡ (effect N (last_theory (course (effect N) given)) y).0
  pub theory : theory_of new ≡ (effect N (last_theory (course (effect N) given)) y).1
  pub steps : new.steps ≡ N
  pub expected : (written : List ℕ) → AreAnswers (request N) given written → AreAnswers (request N) (given ++ y ∷ []) (written ++ piece)

-- the same after any data that lead to the theory of the kernel, of which this is the number of the next
abbrev pub Tells : (ℕ → Request) → (ℕ → Effect) → Knowledge → ℕ → Object → Fate → Knowledge → List ℕ → Type 0
Tells request effect old number y f new piece =
    (N : ℕ) (given : List Object) → theory_of old ≡ last_theory (course (effect N) given) → old.steps ≡ N → number ≡ 1 + length given → Told request effect N given y f new piece
