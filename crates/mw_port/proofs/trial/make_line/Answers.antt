use Rattle.std.proofs.Common.{◌*◌, ◌%◌, [], ◌∷◌, ◌++◌, sym, ap, ◌∙◌}
use Rattle.mw_model.specs.Reports.Trial.{odd_line, even_line, sum_formula}
use Rattle.mw_port.proofs.Trials.{trial_line-odd, trial_line-even}
use Rattle.mw_port.proofs.trial.make_line.Goals as goal
use Rattle.mw_port.proofs.trial.make_line.Goals.{then-odd, else-odd}

pub returns : goal.returns
returns c =
    let i = c.args.event in
    elim c.if-odd.branch [
      | then-odd w ↦
          c.push_str.ensures.bytes
          ∙ ap (λ l. l ++ 10 ∷ []) (ap (λ l. l.bytes) w.line-is ∙ w.write_odd.ensures.text ∙ ap odd_line c.sum_formula-sum.ensures)
          ∙ sym (trial_line-odd i w.if-odd.true)
      | else-odd w ↦
          c.push_str.ensures.bytes
          ∙ ap (λ l. l ++ 10 ∷ []) (ap (λ l. l.bytes) w.line-is ∙ w.write_even.ensures.text ∙ ap (λ p. even_line p w.x_formula.result.bytes) c.sum_formula-sum.ensures ∙ ap (even_line (sum_formula i ((i * i) % 1000))) w.x_formula.ensures)
          ∙ sym (trial_line-even i w.if-odd.false)
    ]
