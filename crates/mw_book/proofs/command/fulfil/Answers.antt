-- Each command does what its request is owed.
use Rattle.std.proofs.Common.{refl, ap}
use Rattle.mw_model.specs.Terms.Object.{name_of_bytes}
use Rattle.mw_model.specs.Reports.Request.{Check, Taut, Lower, Slice, Flat, Recheck, Explain}
use Rattle.mw_request.specs.Words.{meaning_of}
use Rattle.mw_book.proofs.Fulfilled.{book_fulfils, trial_fulfils, help_fulfils, usage_fulfils}
use Rattle.mw_book.proofs.command.fulfil.Goals as goal

pub returns-in-Check : goal.returns-in-Check
returns-in-Check g c = book_fulfils _ (Check c.in-Check.steps) c.check.result _ _ _ _ _ _ _ _ _ _ (ap meaning_of c.in-Check.is) refl c.check.ensures.ends c.check.ensures.source_counts c.check.ensures.sink_counts

pub returns-in-Taut : goal.returns-in-Taut
returns-in-Taut g c = book_fulfils _ Taut c.taut.result _ _ _ _ _ _ _ _ _ _ (ap meaning_of c.in-Taut.is) refl c.taut.ensures.ends c.taut.ensures.source_counts c.taut.ensures.sink_counts

pub returns-in-Lower : goal.returns-in-Lower
returns-in-Lower g c = book_fulfils _ (Lower c.in-Lower.steps) c.lower.result _ _ _ _ _ _ _ _ _ _ (ap meaning_of c.in-Lower.is) refl c.lower.ensures.ends c.lower.ensures.source_counts c.lower.ensures.sink_counts

pub returns-in-Slice : goal.returns-in-Slice
returns-in-Slice g c = book_fulfils _ (Slice (name_of_bytes c.in-Slice.name) c.in-Slice.steps) c.slice.result _ _ _ _ _ _ _ _ _ _ (ap meaning_of c.in-Slice.is) refl c.slice.ensures.ends c.slice.ensures.source_counts c.slice.ensures.sink_counts

pub returns-in-Flat : goal.returns-in-Flat
returns-in-Flat g c = book_fulfils _ (Flat c.in-Flat.steps) c.flat.result _ _ _ _ _ _ _ _ _ _ (ap meaning_of c.in-Flat.is) refl c.flat.ensures.ends c.flat.ensures.source_counts c.flat.ensures.sink_counts

pub returns-in-Recheck : goal.returns-in-Recheck
returns-in-Recheck g c = book_fulfils _ Recheck c.recheck.result _ _ _ _ _ _ _ _ _ _ (ap meaning_of c.in-Recheck.is) refl c.recheck.ensures.ends c.recheck.ensures.source_counts c.recheck.ensures.sink_counts

pub returns-in-Explain : goal.returns-in-Explain
returns-in-Explain g c = book_fulfils _ (Explain c.in-Explain.steps) c.explain.result _ _ _ _ _ _ _ _ _ _ (ap meaning_of c.in-Explain.is) refl c.explain.ensures.ends c.explain.ensures.source_counts c.explain.ensures.sink_counts

pub returns-in-Trial : goal.returns-in-Trial
returns-in-Trial g c = trial_fulfils _ c.in-Trial.events c.in-Trial.steps c.judge_trial.result _ _ _ _ _ _ _ _ (ap meaning_of c.in-Trial.is) c.judge_trial.ensures.ends c.judge_trial.ensures.sink_counts

pub returns-in-Help : goal.returns-in-Help
returns-in-Help g c = help_fulfils _ c.help_then.result _ _ _ _ _ _ _ _ (ap meaning_of c.in-Help.is) c.help_then.ensures

pub returns-in-Usage : goal.returns-in-Usage
returns-in-Usage g c = usage_fulfils _ c.help_then-in-Usage.result _ _ _ _ _ _ _ _ (ap meaning_of c.in-Usage.is) c.help_then-in-Usage.ensures
