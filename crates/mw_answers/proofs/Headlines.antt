-- The answers to a book that was read to its end or its first fault.
use Rattle.std.proofs.Common.{◌≡◌, ℕ, List, [], ◌++◌, Option, Some, None, inl, inr, refl, sym, ap, ◌∙◌, subst, append-nil}
use Rattle.mw_model.specs.Terms.Object.{Object}
use Rattle.mw_model.specs.Reports.Request.{Request}
use Rattle.mw_model.specs.Texts.Grammar.{Book, book, trees}
use Rattle.mw_model.specs.Reports.Report.{Status, Done, SomeRefused, Syntax, status_of}
use Rattle.mw_commands.specs.Headlines.{Promised}
use Rattle.mw_port.specs.Ports.{Takes}
use Rattle.mw_read.specs.Kinds.{kind_of}
use Rattle.mw_read.specs.declared.step.SyntaxKind.{SyntaxKind}
use Rattle.mw_answers.specs.Answering.{fault_of, ReadWhole}
use Rattle.mw_answers.specs.Statuses.{TakesSome, AreAnswers, Keeps, IsPartOf, WritesFirst}
use Rattle.mw_answers.specs.LastTexts.{IsLastText, refused_for}
use Rattle.mw_answers.specs.Checks.{BookEnds, SourceCounts, ConcludesWith}
use Rattle.mw_answers.specs.declared.status.Status.{Status as Ending}
use Rattle.mw_answers.specs.declared.status.Status.TheVariants as ending
use Rattle.mw_answers.proofs.Rounds.{Begins, begun_part, begun_is_part, first_written}
use Rattle.mw_answers.proofs.Written.{takes_both, takes_some, takes_then}

-- a status that is done is that of a book with no fault
pub done_none : (f : Option (SyntaxKind × ℕ)) (n : ℕ) → Some Done ≡ Some (status_of (fault_of f) n) → f ≡ None
done_none None n e = refl
done_none (Some f) n e = absurd (let h : Some Done ≡ Some (Syntax (kind_of f.0) f.1) = e in cc)

pub some_refused_none : (f : Option (SyntaxKind × ℕ)) (n : ℕ) → Some SomeRefused ≡ Some (status_of (fault_of f) n) → f ≡ None
some_refused_none None n e = refl
some_refused_none (Some f) n e = absurd (let h : Some SomeRefused ≡ Some (Syntax (kind_of f.0) f.1) = e in cc)

pub same_some : (a b : Status) → Some a ≡ Some b → a ≡ b
same_some a b e = cc

pub concludes_reads : (e : Ending) (s : Status) (IsLast : List ℕ → Type 0) (a b : Option (List ℕ)) (m n old new : ℕ) → ConcludesWith e s IsLast a b m n → new ≡ old → SourceCounts e old new
concludes_reads ending.Done s IsLast a b m n old new c k = k
concludes_reads ending.SomeRefused s IsLast a b m n old new c k = k
concludes_reads ending.Help s IsLast a b m n old new c k = k
concludes_reads ending.Usage s IsLast a b m n old new c k = k
concludes_reads (ending.Syntax x o) s IsLast a b m n old new c k = k
concludes_reads ending.WriteFault s IsLast a b m n old new c k = k
concludes_reads ending.Memory s IsLast a b m n old new c k = k
concludes_reads ending.ReadFault s IsLast a b m n old new c k = absurd (let h : None ≡ Some s = c.2.0 in cc)

-- that the answers to all data, with the last text, keep the promise
abbrev pub AreKept : Type 0
AreKept = (q : Request) (bytes text last : List ℕ) → AreAnswers q (trees bytes).events text → IsLastText q (trees bytes).events (trees bytes).fault last → Promised q bytes (text ++ last) (status_of (trees bytes).fault (refused_for q (trees bytes).events))

module _ {A : Type 0} {answered : A → Request → List Object → Type 0} {q : Request} {input now first middle : Option (List ℕ)} {f : Option (SyntaxKind × ℕ)} {j : A} (w : ReadWhole answered q input now first middle f j) where
  abbrev expected_status : Status
  expected_status = status_of (fault_of f) (refused_for q w.given)

  -- this was written last
  module _ (kept : AreKept) (last : List ℕ) (expected : IsLastText q w.given (fault_of f) last) where
    promised : Promised q w.bytes (w.written ++ last) expected_status
    promised =
        let all : (b : Book) → b ≡ trees w.bytes → AreAnswers q b.events w.written → IsLastText q b.events b.fault last → Promised q w.bytes (w.written ++ last) (status_of b.fault (refused_for q b.events)) =
        λ b e a l. subst (λ (x : Book). Promised q w.bytes (w.written ++ last) (status_of x.fault (refused_for q x.events))) (sym e) (kept q w.bytes w.written last (subst (λ (x : Book). AreAnswers q x.events w.written) e a) (subst (λ (x : Book). IsLastText q x.events x.fault last) e l)) in
        all (book w.given (fault_of f)) (sym w.read) w.expected expected

    keeps : (after : Option (List ℕ)) (s : Status) → s ≡ expected_status → Takes middle after last → Keeps q input first after s
    keeps after s e t = (w.bytes, w.has, w.written ++ last, takes_both first middle after w.written last w.takes t, subst (Promised q w.bytes (w.written ++ last)) (sym e) promised)

    part : (after : Option (List ℕ)) → TakesSome middle after last → IsPartOf q input first after
    part after t =
        let text = w.written ++ last in
        let some = begun_part q w.bytes text first after ([], expected_status, subst (λ u. Promised q w.bytes u expected_status) (sym (append-nil text)) promised) (takes_then first middle after w.written last w.takes t) in
        begun_is_part q w.given w.written w.expected input first after (w.bytes, w.has, some.0, some.1, some.2)

  -- there was none yet
  module _ (after : Option (List ℕ)) (t : Takes middle after []) where
    all_events : (trees w.bytes).events ≡ w.given ++ []
    all_events = ap (λ (b : Book). b.events) w.read ∙ sym (append-nil w.given)

    all_taken : Takes first after w.written
    all_taken = subst (Takes first after) (append-nil w.written) (takes_both first middle after w.written [] w.takes t)

    part_of_answers : Begins → IsPartOf q input first after
    part_of_answers begins =
        let some = begun_part q w.bytes w.written first after (begins q w.bytes w.written w.given [] all_events w.expected) (takes_some first after w.written all_taken) in
        begun_is_part q w.given w.written w.expected input first after (w.bytes, w.has, some.0, some.1, some.2)

    answers_alone : WritesFirst q input first after
    answers_alone = first_written q w.given w.written w.expected input first after (w.bytes, w.has, w.given, [], all_events, w.written, all_taken, w.expected)

  pub ends_with : AreKept → Begins → (e : Ending) (after : Option (List ℕ)) (m n : ℕ) → ConcludesWith e expected_status (IsLastText q w.given (fault_of f)) middle after m n → BookEnds e q input now first after m n
  ends_with kept begins ending.Done after m n c = (w.ended (done_none f _ c.2.0), keeps kept c.0 c.1 after Done (same_some Done expected_status c.2.0) c.2.1)
  ends_with kept begins ending.SomeRefused after m n c = (w.ended (some_refused_none f _ c.2.0), keeps kept c.0 c.1 after SomeRefused (same_some SomeRefused expected_status c.2.0) c.2.1)
  ends_with kept begins (ending.Syntax k o) after m n c = keeps kept c.0 c.1 after (Syntax (kind_of k) o) (same_some (Syntax (kind_of k) o) expected_status c.2.0) c.2.1
  ends_with kept begins ending.Help after m n c = absurd (let h : None ≡ Some expected_status = c.2.0 in cc)
  ends_with kept begins ending.Usage after m n c = absurd (let h : None ≡ Some expected_status = c.2.0 in cc)
  ends_with kept begins ending.ReadFault after m n c = absurd (let h : None ≡ Some expected_status = c.2.0 in cc)
  ends_with kept begins ending.WriteFault after m n c = part kept c.0 c.1 after c.2
  ends_with kept begins ending.Memory after m n (inl t) = (part_of_answers after t begins, inr (answers_alone after t))
  ends_with kept begins ending.Memory after m n (inr c) = (part kept c.1 c.2 after c.3, inl c.0)
