-- What is said of a run by its ending.
use Rattle.std.proofs.Common.{◌≡◌, ◌≢◌, ◌⊎◌, ◌∙◌, ℕ, Bool, true, false, List, [], Option, IfSome, inl, inr, refl, sym, ap, subst, true≢false}
use Rattle.mw_model.specs.Reports.Request.{Request, Trial, Help, Usage}
use Rattle.mw_port.specs.Ports.{HasEnded}
use Rattle.mw_answers.specs.Statuses.{report_status, reads_book, Keeps, IsPartOf}
use Rattle.mw_answers.specs.Checks.{BookEnds, TrialEnds, LastReported, SourceCounts, SinkCounts, SinkShortages, IsHalt}
use Rattle.mw_book.specs.Runs.{Fulfils, HelpEnds}
use Rattle.mw_model.specs.Reports.Report.{Status}
use Rattle.mw_answers.specs.declared.status.Status.{Status as Ending}
use Rattle.mw_answers.specs.declared.status.Status.TheVariants as ending
use Rattle.mw_answers.proofs.CallerLemmas.{gives_none, left_of, gives_has}

pub book_kept : (q : Request) (e : Ending) (input now first after : Option (List ℕ)) (m n : ℕ) → BookEnds e q input now first after m n → IfSome (report_status e) (Keeps q input first after)
book_kept q ending.Done input now first after m n h = h.1
book_kept q ending.SomeRefused input now first after m n h = h.1
book_kept q (ending.Syntax k o) input now first after m n h = h
book_kept q ending.Help input now first after m n h = tt
book_kept q ending.Usage input now first after m n h = tt
book_kept q ending.ReadFault input now first after m n h = tt
book_kept q ending.WriteFault input now first after m n h = tt
book_kept q ending.Memory input now first after m n h = tt

-- whatever the source holds
last_kept : (m N : ℕ) (s : Status) (input first after : Option (List ℕ)) → LastReported m N first after s → Keeps (Trial m N) input first after s
last_kept m N s input first after h = (left_of input, gives_has input input [] (gives_none input), h.0, h.1, h.2)

pub trial_kept : (m N : ℕ) (e : Ending) (input first after : Option (List ℕ)) (k n : ℕ) → TrialEnds e m N first after k n → IfSome (report_status e) (Keeps (Trial m N) input first after)
trial_kept m N ending.Done input first after k n h = last_kept m N _ input first after h
trial_kept m N ending.SomeRefused input first after k n h = last_kept m N _ input first after h
trial_kept m N (ending.Syntax kind o) input first after k n h = last_kept m N _ input first after h
trial_kept m N ending.Help input first after k n h = tt
trial_kept m N ending.Usage input first after k n h = tt
trial_kept m N ending.ReadFault input first after k n h = tt
trial_kept m N ending.WriteFault input first after k n h = tt
trial_kept m N ending.Memory input first after k n h = tt

-- ---- the counts of faults

source_stays : (e : Ending) (old new : ℕ) → SourceCounts e old new → e ≢ ending.ReadFault → new ≡ old
source_stays ending.Done old new h n = h
source_stays ending.SomeRefused old new h n = h
source_stays (ending.Syntax k o) old new h n = h
source_stays ending.Help old new h n = h
source_stays ending.Usage old new h n = h
source_stays ending.ReadFault old new h n = absurd (n refl)
source_stays ending.WriteFault old new h n = h
source_stays ending.Memory old new h n = h

sink_stays : (e : Ending) (old new : ℕ) → SinkCounts e old new → e ≢ ending.WriteFault → new ≡ old
sink_stays ending.Done old new h n = h
sink_stays ending.SomeRefused old new h n = h
sink_stays (ending.Syntax k o) old new h n = h
sink_stays ending.Help old new h n = h
sink_stays ending.Usage old new h n = h
sink_stays ending.ReadFault old new h n = h
sink_stays ending.WriteFault old new h n = absurd (n refl)
sink_stays ending.Memory old new h n = h

-- ---- all clauses of a run

-- that judges the book on the source
pub book_fulfils : (p q : Request) (e : Ending) (input now first after : Option (List ℕ)) (a b m n k l : ℕ) → p ≡ q → reads_book q ≡ true → BookEnds e q input now first after k l → SourceCounts e a b → SinkCounts e m n → Fulfils p e input now first after a b m n k l
book_fulfils p q e input now first after a b m n k l is reads ends source sink = subst (λ r. Fulfils r e input now first after a b m n k l) (sym is) (record {
  report = book_kept q e input now first after k l ends;
  read_whole = λ r d. whole d;
  unread = λ u. absurd (true≢false (sym reads ∙ u));
  help = λ i. absurd (at ending.Help i);
  usage = λ i. absurd (at ending.Usage i);
  read_fault = λ i. (subst (λ s. SourceCounts s a b) i source, (at ending.ReadFault i).0, (at ending.ReadFault i).1);
  write_fault = λ i. (subst (λ s. SinkCounts s m n) i sink, at ending.WriteFault i);
  memory = λ i. (at ending.Memory i).0;
  answers = λ i. (at ending.Memory i).1;
  source_steady = source_stays e a b source;
  sink_steady = sink_stays e m n sink;
})
  where
    at : (s : Ending) → e ≡ s → BookEnds s q input now first after k l
    at s i = subst (λ x. BookEnds x q input now first after k l) i ends

    whole : (e ≡ ending.Done) ⊎ (e ≡ ending.SomeRefused) → HasEnded now
    whole (inl i) = (at ending.Done i).0
    whole (inr i) = (at ending.SomeRefused i).0

-- that judges the trial book
pub trial_fulfils : (p : Request) (j N : ℕ) (e : Ending) (input first after : Option (List ℕ)) (a m n k l : ℕ) → p ≡ Trial j N → TrialEnds e j N first after k l → SinkCounts e m n → Fulfils p e input input first after a a m n k l
trial_fulfils p j N e input first after a m n k l is ends sink = subst (λ r. Fulfils r e input input first after a a m n k l) (sym is) (record {
  report = trial_kept j N e input first after k l ends;
  read_whole = λ r d. absurd (true≢false (sym r));
  unread = λ u. refl;
  help = λ i. absurd (at ending.Help i);
  usage = λ i. absurd (at ending.Usage i);
  read_fault = λ i. absurd (at ending.ReadFault i);
  write_fault = λ i. (subst (λ s. SinkCounts s m n) i sink, at ending.WriteFault i);
  memory = λ i. (at ending.Memory i).0;
  answers = λ i. (at ending.Memory i).1;
  source_steady = λ x. refl;
  sink_steady = sink_stays e m n sink;
})
  where
    at : (s : Ending) → e ≡ s → TrialEnds s j N first after k l
    at s i = subst (λ x. TrialEnds x j N first after k l) i ends

-- no report is whole where a write stopped
halt_kept : (q : Request) (e : Ending) (input first after : Option (List ℕ)) → IsHalt e → IfSome (report_status e) (Keeps q input first after)
halt_kept q ending.Done input first after h = absurd h
halt_kept q ending.SomeRefused input first after h = absurd h
halt_kept q (ending.Syntax k o) input first after h = absurd h
halt_kept q ending.Help input first after h = tt
halt_kept q ending.Usage input first after h = tt
halt_kept q ending.ReadFault input first after h = tt
halt_kept q ending.WriteFault input first after h = tt
halt_kept q ending.Memory input first after h = tt

-- that stops before the source is read
pub halt_fulfils : (q : Request) (e : Ending) (input first after : Option (List ℕ)) (a m n k l : ℕ) → IsHalt e → IsPartOf q input first after → SinkCounts e m n → SinkShortages e k l → Fulfils q e input input first after a a m n k l
halt_fulfils q e input first after a m n k l halts part sink short = record {
  report = halt_kept q e input first after halts;
  read_whole = λ r d. whole d;
  unread = λ u. refl;
  help = λ i. absurd (subst IsHalt i halts);
  usage = λ i. absurd (subst IsHalt i halts);
  read_fault = λ i. absurd (subst IsHalt i halts);
  write_fault = λ i. (subst (λ s. SinkCounts s m n) i sink, part);
  memory = λ i. part;
  answers = λ i. inl (subst (λ s. SinkShortages s k l) i short);
  source_steady = λ x. refl;
  sink_steady = sink_stays e m n sink;
}
  where
    whole : (e ≡ ending.Done) ⊎ (e ≡ ending.SomeRefused) → HasEnded input
    whole (inl i) = absurd (subst IsHalt i halts)
    whole (inr i) = absurd (subst IsHalt i halts)

-- the endings after the help text was written, apart from the others
abbrev is_help : Ending → Bool
is_help ending.Help = true
is_help s = false

abbrev is_usage : Ending → Bool
is_usage ending.Usage = true
is_usage s = false

-- that writes how the program is used, since that was asked
pub help_fulfils : (p : Request) (e : Ending) (input first after : Option (List ℕ)) (a m n k l : ℕ) → p ≡ Help → HelpEnds ending.Help e first after m n k l → Fulfils p e input input first after a a m n k l
help_fulfils p e input first after a m n k l is (inl h) = subst (λ r. Fulfils r e input input first after a a m n k l) (sym is) (subst (λ s. Fulfils Help s input input first after a a m n k l) (sym h.0) (record {
  report = tt;
  read_whole = λ r d. absurd (true≢false (sym r));
  unread = λ u. refl;
  help = λ i. (refl, h.1);
  usage = λ i. absurd (true≢false (ap is_help i));
  read_fault = λ i. absurd (true≢false (ap is_help i));
  write_fault = λ i. absurd (true≢false (ap is_help i));
  memory = λ i. absurd (true≢false (ap is_help i));
  answers = λ i. absurd (true≢false (ap is_help i));
  source_steady = λ x. refl;
  sink_steady = λ x. h.2;
}))
help_fulfils p e input first after a m n k l is (inr h) = subst (λ r. Fulfils r e input input first after a a m n k l) (sym is) (halt_fulfils Help e input first after a m n k l h.0 h.1 h.2 h.3)

-- or since the words ask for nothing that it does
pub usage_fulfils : (p : Request) (e : Ending) (input first after : Option (List ℕ)) (a m n k l : ℕ) → p ≡ Usage → HelpEnds ending.Usage e first after m n k l → Fulfils p e input input first after a a m n k l
usage_fulfils p e input first after a m n k l is (inl h) = subst (λ r. Fulfils r e input input first after a a m n k l) (sym is) (subst (λ s. Fulfils Usage s input input first after a a m n k l) (sym h.0) (record {
  report = tt;
  read_whole = λ r d. absurd (true≢false (sym r));
  unread = λ u. refl;
  help = λ i. absurd (true≢false (ap is_usage i));
  usage = λ i. (refl, h.1);
  read_fault = λ i. absurd (true≢false (ap is_usage i));
  write_fault = λ i. absurd (true≢false (ap is_usage i));
  memory = λ i. absurd (true≢false (ap is_usage i));
  answers = λ i. absurd (true≢false (ap is_usage i));
  source_steady = λ x. refl;
  sink_steady = λ x. h.2;
}))
usage_fulfils p e input first after a m n k l is (inr h) = subst (λ r. Fulfils r e input input first after a a m n k l) (sym is) (halt_fulfils Usage e input first after a m n k l h.0 h.1 h.2 h.3)

-- what the request is owed is what the words are owed that ask for it
pub on_words : {e : Ending} {input now first after : Option (List ℕ)} {a b m n k l : ℕ} (p q : Request) → p ≡ q → Fulfils p e input now first after a b m n k l → Fulfils q e input now first after a b m n k l
on_words {e} {input} {now} {first} {after} {a} {b} {m} {n} {k} {l} p q is h = subst (λ r. Fulfils r e input now first after a b m n k l) is h
