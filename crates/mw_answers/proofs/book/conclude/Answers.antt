-- What the sink took of the last text.
use Rattle.std.proofs.Common.{◌++◌, inl, ap, subst, ◌∙◌}
use Rattle.mw_model.specs.Reports.Report.{status_of}
use Rattle.mw_port.specs.Ports.{Takes}
use Rattle.mw_answers.specs.Answering.{fault_of}
use Rattle.mw_answers.specs.Statuses.{TakesSome}
use Rattle.mw_answers.specs.LastTexts.{IsLastText, refused_for}
use Rattle.mw_answers.proofs.Rounds.{concludes_with_all, concludes_with_halt}
use Rattle.mw_answers.proofs.Written.{takes_none}
use Rattle.mw_answers.proofs.book.conclude.Goals as goal

pub returns-in_default-clause-concludes : goal.returns-in_default-clause-concludes
returns-in_default-clause-concludes g c q given h = inl (takes_none (g.K.Sink.taken c.args.sink.now))

pub returns-in-Ok-write_lines-clause-concludes : goal.returns-in-Ok-write_lines-clause-concludes
returns-in-Ok-write_lines-clause-concludes g c q given h =
    let old = g.K.Sink.taken c.args.sink.now in
    let new = g.K.Sink.taken c.write_lines.new.sink in
    let f = fault_of c.args.fault in
    let l = c.in-Ok.ensures.last q given h in
    let text = l.2 ∙ ap (λ u. u ++ l.0) c.requires.none_left in
    concludes_with_all c.status_after.result (status_of f (refused_for q given)) (IsLastText q given f) old new (g.K.Sink.shortages c.args.sink.now) (g.K.Sink.shortages c.write_lines.new.sink)
    (c.status_after.ensures (refused_for q given) (λ none. c.in-Ok.ensures.refused none q given h)) l.0 l.1 (subst (Takes old new) text c.in-Ok-write_lines.ensures.written)

pub returns-in-Err-clause-concludes : goal.returns-in-Err-clause-concludes
returns-in-Err-clause-concludes g c q given h =
    let old = g.K.Sink.taken c.args.sink.now in
    let new = g.K.Sink.taken c.write_lines.new.sink in
    let f = fault_of c.args.fault in
    let l = c.in-Ok.ensures.last q given h in
    let text = l.2 ∙ ap (λ u. u ++ l.0) c.requires.none_left in
    concludes_with_halt c.in-Err.status (status_of f (refused_for q given)) (IsLastText q given f) old new (g.K.Sink.shortages c.args.sink.now) (g.K.Sink.shortages c.write_lines.new.sink)
    c.in-Err.ensures.halt c.in-Err.ensures.short l.0 l.1 (subst (TakesSome old new) text c.in-Err.ensures.some)
