-- The last line of the report on the trial book, and what cannot stop its judging.
use Rattle.std.proofs.Common.{◌≡◌, ◌∙◌, ℕ, List, [], Option, Some, None, inl, inr, refl, sym, ap, subst, arith}
use Rattle.mw_model.specs.Texts.Grammar.{Book, book, trees}
use Rattle.mw_model.specs.Reports.Report.{Status, Done, SomeRefused, Syntax, report_of, last_line}
use Rattle.mw_model.specs.Reports.Trial.{trial_book}
use Rattle.mw_port.specs.Memories.{no_faults}
use Rattle.mw_port.specs.Ports.{Rises, Takes}
use Rattle.mw_read.specs.Kinds.{kind_of}
use Rattle.mw_read.specs.declared.step.SyntaxKind.{SyntaxKind}
use Rattle.mw_reflect.specs.Laws.{EventsKeep}
use Rattle.mw_answers.specs.Statuses.{Has, TakesSome}
use Rattle.mw_model.specs.Terms.Object.{Object}
use Rattle.mw_model.specs.Reports.Request.{Request, Check}
use Rattle.mw_answers.specs.Answering.{fault_of, ReadWhole}
use Rattle.mw_answers.specs.Checks.{TrialEnds, LastReported, SourceCounts, SinkCounts, ConcludesWith, IsStop}
use Rattle.mw_answers.specs.declared.status.Status.{Status as Ending}
use Rattle.mw_answers.specs.declared.status.Status.TheVariants as ending
use Rattle.mw_answers.proofs.CallerLemmas.{same_some, some_then, takes_some}

-- what never fails counts no fault
never_rises : (old new : ℕ) → old ≡ no_faults → new ≡ no_faults → Rises old new → ⊥
never_rises old new p q (inl h) = omega (arith, p, q, h)
never_rises old new p q (inr h) = let k = h.1 in omega (arith, p, q, k)

-- between a source and a sink that never fail, running out of memory alone stops the judging of a book
pub memory_alone : (e : Ending) (old new : ℕ) → old ≡ no_faults → new ≡ no_faults → IsStop e → SourceCounts e old new → SinkCounts e no_faults no_faults → e ≡ ending.Memory
memory_alone ending.Memory old new p q h s k = refl
memory_alone ending.ReadFault old new p q h s k = absurd (never_rises old new p q s)
memory_alone ending.WriteFault old new p q h s k = absurd (never_rises no_faults no_faults refl refl k)
memory_alone ending.Done old new p q h s k = absurd h
memory_alone ending.SomeRefused old new p q h s k = absurd h
memory_alone ending.Help old new p q h s k = absurd h
memory_alone ending.Usage old new p q h s k = absurd h
memory_alone (ending.Syntax x o) old new p q h s k = absurd h

module _ (m : ℕ) {N : ℕ} {input now first middle : Option (List ℕ)} {f : Option (SyntaxKind × ℕ)} {A : Type 0} {answered : A → Request → List Object → Type 0} {a : A} (w : ReadWhole answered (Check N) input now first middle f a) (holds : input ≡ Some (trial_book m)) where
  abbrev here : Book
  here = book w.given (fault_of f)

  trial_read : here ≡ trees (trial_book m)
  trial_read =
      let bytes : trial_book m ≡ w.bytes = subst (λ i. Has i w.bytes) holds w.has in
      sym w.read ∙ ap (λ b. trees b) (sym bytes)

  last : last_line here N ≡ last_line (trees (trial_book m)) N
  last = ap (λ (b : Book). last_line b N) trial_read

  reported : EventsKeep → (old new : Option (List ℕ)) (s : Status) → s ≡ (report_of here N).status → Takes old new (last_line here N) → LastReported m N old new s
  reported keeps old new s e t = (
    last_line here N,
    t,
    record { exact = last; ends = e ∙ ap (λ (b : Book). (report_of b N).status) trial_read; events_keep = keeps (trees (trial_book m)).events N },
  )

  -- this was written last
  module _ (text : List ℕ) (same : text ≡ last_line here N) where
    whole : EventsKeep → (old new : Option (List ℕ)) (s : Status) → s ≡ (report_of here N).status → Takes old new text → LastReported m N old new s
    whole keeps old new s e t = reported keeps old new s e (subst (Takes old new) same t)

    begun : (old new : Option (List ℕ)) → TakesSome old new text → TakesSome old new (last_line (trees (trial_book m)) N)
    begun old new t = subst (TakesSome old new) (same ∙ last) t

  pub trial_ends : EventsKeep → (e : Ending) (old new : Option (List ℕ)) (k n : ℕ) → ConcludesWith e (report_of here N).status (λ text. text ≡ last_line here N) old new k n → TrialEnds e m N old new k n
  trial_ends keeps ending.Done old new k n c = whole c.0 c.1 keeps old new Done (same_some Done (report_of here N).status c.2.0) c.2.1
  trial_ends keeps ending.SomeRefused old new k n c = whole c.0 c.1 keeps old new SomeRefused (same_some SomeRefused (report_of here N).status c.2.0) c.2.1
  trial_ends keeps (ending.Syntax x o) old new k n c = whole c.0 c.1 keeps old new (Syntax (kind_of x) o) (same_some (Syntax (kind_of x) o) (report_of here N).status c.2.0) c.2.1
  trial_ends keeps ending.Help old new k n c = absurd (let h : None ≡ Some (report_of here N).status = c.2.0 in cc)
  trial_ends keeps ending.Usage old new k n c = absurd (let h : None ≡ Some (report_of here N).status = c.2.0 in cc)
  trial_ends keeps ending.ReadFault old new k n c = absurd (let h : None ≡ Some (report_of here N).status = c.2.0 in cc)
  trial_ends keeps ending.WriteFault old new k n c = begun c.0 c.1 old new c.2
  trial_ends keeps ending.Memory old new k n (inl t) = (some_then old new [] (last_line (trees (trial_book m)) N) (takes_some old new [] t), inr t)
  trial_ends keeps ending.Memory old new k n (inr c) = (begun c.1 c.2 old new c.3, inl c.0)
