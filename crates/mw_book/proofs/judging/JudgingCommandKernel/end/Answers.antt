-- The last line of a book without a fault.
use Rattle.std.proofs.Common.{◌++◌, nat_lt, ap, ◌∙◌, append_assoc}
use Rattle.std.proofs.lemmas.Result.{IfOk-weaker, on_ok_weaker}
use Rattle.mw_book.specs.Lines.{summary_of}
use Rattle.mw_book.proofs.JudgedOne.{judged_few, judged_refused, judged_summary}
use Rattle.mw_book.proofs.judging.JudgingCommandKernel.end.Goals as goal

pub end-requires : goal.end-requires
end-requires g c = record { few = judged_few g.T.Telling.request g.T.Telling.effect c.args.self.now.tally c.args.kernel.now c.requires.known }

pub returns-clause-refused : goal.returns-clause-refused
returns-clause-refused g c = IfOk-weaker c.end.result _ _ (λ b some q given h. some ∙ ap (nat_lt 0) (judged_refused g.T.Telling.request g.T.Telling.effect c.args.self.now.tally c.args.kernel.now q given h g.met.T.Telling.refused)) c.end.ensures.some

pub returns-clause-last : goal.returns-clause-last
returns-clause-last g c =
    let t = c.args.self.now.tally in
    let before = c.args.lines.now.items in
    let mark = g.T.Telling.mark in
    let text = summary_of t.events t.refused c.level.result in
    let begun = c.in_ok-extend_from_slice.ensures.items ∙ ap (λ m. before ++ m) c.mark.ensures.text in
    on_ok_weaker c.end.result
    (λ line q given h.
    (mark ++ text, judged_summary g.T.Telling.request g.T.Telling.effect t c.args.kernel.now q given h mark c.level.result c.level.ensures c.mark.ensures.summary, line ∙ ap (λ u. u ++ text) begun ∙ append_assoc before mark text))
    c.end.ensures.line
