-- What is shown of a pair is shown of its parts.
use Rattle.std.proofs.Common.{sym, ap, ◌∙◌}
use Rattle.mw_model.specs.Reports.Report.{word_text, label_text}
use Rattle.mw_read.specs.Shown.{first_symbol}
use Rattle.mw_read.proofs.members.shown.Goals as goal

pub returns : goal.returns
returns c =
    let pair = sym c.in-Pair.ensures.shows.2 in
    record {
      word_in = c.symbol.ensures.within;
      label_in = c.label.ensures.within;
      word_shown = c.symbol.ensures.shown ∙ ap word_text pair;
      label_shown = c.label.ensures.shown ∙ ap label_text pair;
      word_first = c.symbol.ensures.itself ∙ ap first_symbol pair;
    }
