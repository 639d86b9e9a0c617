-- What judging one event more makes of where a command stands that judges a book, and the last line of the book.
use Rattle.std.proofs.Common.{◌≡◌, ℕ, ◌+◌, ◌≤◌, cond, List, [], ◌∷◌, ◌++◌, Some, None, sym, ap, ◌∙◌, subst, arith}
use Rattle.std.proofs.lemmas.List.{length_push}
use Rattle.mw_model.specs.Terms.Object.{Object}
use Rattle.mw_model.specs.Events.Refusal.{Fate}
use Rattle.mw_model.specs.Reports.Report.{is_accepted}
use Rattle.mw_model.specs.Reports.Request.{Request}
use Rattle.mw_commands.specs.Commands.Transition.{Effect, course}
use Rattle.mw_commands.specs.Commands.Lowering.{course_summary, refused_in}
use Rattle.mw_kernel.specs.Knowledge.{Knowledge, theory_of}
use Rattle.mw_read.specs.Kinds.{kind_of}
use Rattle.mw_read.specs.declared.step.SyntaxKind.{SyntaxKind}
use Rattle.mw_answers.specs.Answering.{HasAnswered, fault_of}
use Rattle.mw_book.specs.Judged.{Judged, JudgedFor, Tells, Told}
use Rattle.mw_answers.specs.LastTexts.{IsLastText, refused_for}
use Rattle.mw_book.specs.Lines.{fault_line, summary_of}
use Rattle.mw_answers.specs.Writing.{Puts}
use Rattle.mw_book.specs.declared.tally.Tally.{Tally}
use Rattle.mw_book.proofs.AnsweredBy.{last_by, refused_by, writes_by}
use Rattle.mw_book.proofs.OneEvent.{course_summary_is, refused_few, refused_more, theory_more}

-- what was judged, by a command with a tally and a kernel
abbrev pub IsJudged : {A : Type 0} → (ℕ → Effect) → (A → Tally) → A × Knowledge → ℕ → List Object → Type 0
IsJudged effect tally a N given = Judged effect (tally a.0) a.1 N given

module _ (request : ℕ → Request) (effect : ℕ → Effect) where
  pub judged_one : {A : Type 0} (tally : A → Tally) (old new : A) (k l : Knowledge) (y : Object) (f : Fate) (piece : List ℕ) →
      Tells request effect k ((tally old).events + 1) y f l piece →
      (tally new).events ≡ (tally old).events + 1 →
      (tally new).refused ≡ (tally old).refused + cond (is_accepted f) 0 1 →
      (given : List Object) → Puts (λ a. JudgedFor request effect (tally a)) old k given new l (given ++ y ∷ []) piece
  judged_one {A} tally old new k l y f piece tells counted refused given =
      writes_by request (IsJudged effect tally) (old, k) (new, l) given (given ++ y ∷ []) piece
      (λ N h.
      let t = told N h in
      record {
        theory = theory_more (effect N) given y (theory_of l) t.theory;
        steps = t.steps;
        counted = counted ∙ ap (λ n. n + 1) h.counted ∙ sym (length_push given y);
        refused_counted = refused_more (effect N) given y f (tally old).refused (tally new).refused t.fate h.refused_counted refused;
      })
      (λ N h. (told N h).expected)
    where
      told : (N : ℕ) → Judged effect (tally old) k N given → Told request effect N given y f l piece
      told N h = tells N given h.theory h.steps (let c = h.counted in omega (arith, c))

  module _ (t : Tally) (k : Knowledge) where
    -- no more are refused than were judged
    pub judged_few : HasAnswered (JudgedFor request effect t) k → t.refused ≤ t.events
    judged_few h = let p = h.2 in refused_few (effect p.0) h.1 t.events t.refused p.2.counted p.2.refused_counted

    module _ (q : Request) (given : List Object) (h : JudgedFor request effect t k q given) where
      pub judged_refused : ((N : ℕ) (given : List Object) → refused_in (course (effect N) given) ≡ refused_for (request N) given) → t.refused ≡ refused_for q given
      judged_refused same = refused_by request (Judged effect t k) q given h t.refused (λ N i. i.refused_counted ∙ same N given)

      pub judged_fault : (mark : List ℕ) (kind : SyntaxKind) (offset : ℕ) → ((N : ℕ) (given : List Object) → IsLastText (request N) given (fault_of (Some (kind, offset))) (mark ++ fault_line (kind_of kind) offset)) → IsLastText q given (fault_of (Some (kind, offset))) (mark ++ fault_line (kind_of kind) offset)
      judged_fault mark kind offset last = last_by request (Judged effect t k) q given h (fault_of (Some (kind, offset))) (mark ++ fault_line (kind_of kind) offset) (λ N i. last N given)

      pub judged_summary : (mark : List ℕ) (level : ℕ) → level ≡ (theory_of k).level → ((N : ℕ) (given : List Object) → IsLastText (request N) given None (mark ++ (course_summary (course (effect N) given) ++ 10 ∷ []))) → IsLastText q given None (mark ++ summary_of t.events t.refused level)
      judged_summary mark level at last =
          last_by request (Judged effect t k) q given h None (mark ++ summary_of t.events t.refused level)
          (λ N i. subst (λ text. IsLastText (request N) given None (mark ++ text)) (sym (course_summary_is (effect N) given t.events t.refused i.counted i.refused_counted level (at ∙ ap (λ t. t.level) i.theory))) (last N given))
