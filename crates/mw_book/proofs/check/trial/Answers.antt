-- The book was judged and its lines went nowhere, or memory ran out.
use Rattle.std.proofs.Common.{None, inr, ◌∙◌, ap, sym, subst}
use Rattle.mw_model.specs.Reports.Request.{Check}
use Rattle.mw_model.specs.Reports.Trial.{trial_book}
use Rattle.mw_model.specs.Texts.Grammar.{trees}
use Rattle.mw_model.specs.Reports.Report.{last_line}
use Rattle.mw_answers.specs.Answering.{ReadWhole}
use Rattle.mw_answers.specs.Checks.{TrialEnds}
use Rattle.mw_answers.specs.Effects.{plain}
use Rattle.mw_book.specs.Judged.{JudgedFor}
use Rattle.mw_answers.proofs.CallerLemmas.{nothing_taken, takes_none}
use Rattle.mw_book.proofs.TrialHeadlines.{memory_alone, trial_ends}
use Rattle.mw_book.proofs.check.trial.Goals as goal

pub conclude-requires-clause-known : goal.conclude-requires-clause-known
conclude-requires-clause-known g c = let w = c.in-Ok-read_all.ensures.whole in (Check c.deref_mut-session.result.now.store.steps, w.given, w.known)

pub returns-in-Ok-read_all-clause-ends : goal.returns-in-Ok-read_all-clause-ends
returns-in-Ok-read_all-clause-ends g c m holds =
    let N = c.args.steps in
    let input = g.S.Source.left c.args.source.now in
    let now = g.S.Source.left c.read_all.new.source in
    let f = c.in-Ok-read_all.fault in
    let j = c.read_all.new.answering in
    let w = subst (λ n. ReadWhole (λ s. JudgedFor Check plain s.command.tally s.store) (Check n) input now None None f j) (ap (λ s. s.store.steps) c.deref_mut-session.ensures.value ∙ ap (λ k. k.steps) c.in-Ok-new.ensures.store ∙ c.in-Ok.ensures.steps) c.in-Ok-read_all.ensures.whole in
    trial_ends m w holds c.reached_sound.ensures.events c.conclude.result (g.K.Sink.taken c.args.sink.now) (g.K.Sink.taken c.conclude.new.sink) (g.K.Sink.shortages c.args.sink.now) (g.K.Sink.shortages c.conclude.new.sink)
    (c.conclude.ensures.concludes (Check N) w.given w.known)

pub returns-clause-ends : goal.returns-clause-ends
returns-clause-ends g c m holds =
    let e = c.in-Err.ensures in
    let sink = g.K.Sink.taken c.args.sink.now in
    let count = g.K.Sink.shortages c.args.sink.now in
    let stop = memory_alone c.in-Err.status (g.S.Source.faults c.args.source.now) (g.S.Source.faults c.read_all.new.source) (c.requires.never_fails c.args.source.now) (c.requires.never_fails c.read_all.new.source) e.stops e.source_counts e.sink_counts in
    subst (λ s. TrialEnds s m c.args.steps sink sink count count) (sym stop) (nothing_taken (last_line (trees (trial_book m)) c.args.steps) sink, inr (takes_none sink))

pub returns-in_default-new-clause-ends : goal.returns-in_default-new-clause-ends
returns-in_default-new-clause-ends g c m holds = let sink = g.K.Sink.taken c.args.sink.now in (nothing_taken (last_line (trees (trial_book m)) c.args.steps) sink, inr (takes_none sink))
