-- The piece joins the lines.
use Rattle.std.proofs.Common.{ap, ◌∙◌, ◌++◌}
use Rattle.mw_book.proofs.Sessions.{answers_with}
use Rattle.mw_book.proofs.session.SessionAnswering.answer.Goals as goal

pub returns-clause-answers : goal.returns-clause-answers
returns-clause-answers g c given =
    answers_with _ (λ s. (s.command, s.store)) (λ a. g.C.Command.answered a.0 a.1) _ _ given _ _ (c.in_ok-answer.ensures.puts given)
    (c.in_ok-extend_from_slice.ensures.items ∙ ap (λ l. c.args.self.now.lines.items ++ l) c.deref.ensures.value)
