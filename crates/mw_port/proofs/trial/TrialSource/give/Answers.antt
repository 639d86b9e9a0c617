use Rattle.std.proofs.Common.{◌≡◌, ◌+◌, ◌-◌, ◌++◌, take, drop, sym, ap, ◌∙◌, arith}
use Rattle.std.proofs.lemmas.List.{drop_all, take_rest}
use Rattle.mw_port.specs.Trials.{lines_after}
use Rattle.mw_port.proofs.Trials.{lines_after-next, given_part}
use Rattle.mw_port.proofs.trial.TrialSource.give.Goals as goal
use Rattle.mw_port.proofs.trial.TrialSource.give.Goals.{then-self-len+else-self, else-self-len}

pub returns-clause-given : goal.returns-clause-given
returns-clause-given c =
    let s = c.if-self-len.self-inside in
    let n = c.copy_front-n.result in
    let rest = lines_after s.event (s.events - s.event) in
    let before : c.args.self.now ≡ drop s.given s.line.bytes ++ rest =
    elim c.if-self-len.branch [
      | then-self-len+else-self w ↦
          let o = c.self.inside in
          let later = lines_after (o.event + 1) (o.events - (o.event + 1)) in
          rw w.self-inside-is
          (sym c.self.view_is
          ∙ ap (λ l. l ++ lines_after o.event (o.events - o.event)) (drop_all o.given o.line.bytes (omega (arith, c.len.ensures.value, w.if-self-len.true)))
          ∙ lines_after-next o.event o.events (omega (arith, w.if-self.false, c.self.invariant))
          ∙ ap (λ l. l ++ later) (sym w.make_line.ensures))
      | else-self-len w ↦ rw w.self-inside-is (sym c.self.view_is)
    ] in
    let copied : take n c.copy_front-n.new.buffer ≡ take n (drop s.given s.line.bytes) =
    c.copy_front-n.ensures.copied ∙ ap (take n) (take_rest c.as_bytes.result.now s.given) ∙ ap (λ t. take n (drop s.given t)) (c.as_bytes.ensures.value ∙ c.as_str.ensures.value) in
    before ∙ given_part s.line.bytes rest (take n c.copy_front-n.new.buffer) s.given n copied
