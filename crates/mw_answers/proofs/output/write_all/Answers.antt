use Rattle.std.proofs.Common.{◌-◌, length, take, drop, sym, arith, ◌∙◌}
use Rattle.std.proofs.lemmas.List.{length-drop, length-take, take-append-drop}
use Rattle.mw_answers.proofs.Clauses.{OnErr-always}
use Rattle.mw_answers.proofs.Sinks.{Takes-more, take-more}
use Rattle.mw_answers.proofs.output.write_all.Goals as goal

pub returns-in_err-at-clause-some : goal.returns-in_err-at-clause-some
returns-in_err-at-clause-some g c =
    let at = c.loop-at.at in
    let text = c.args.text.now in
    OnErr-always c.from_residual.result (take at text, drop at text, sym (take-append-drop at text), rw c.in_err-at.ensures.kept c.loop-at.invariant.took)

pub loop-at-preserved : goal.loop-at-preserved
loop-at-preserved g c =
    let at = c.loop-at.at in
    let n = c.in_ok-at.field-0 in
    let text = c.args.text.now in
    let taken = g.K.Sink.taken in record {
      within = omega (arith, c.in_ok-at.ensures.within, length-take (length text - at) (drop at text), length-drop at text);
      took = rw (← take-more at n text c.loop-at.invariant.within)
          (Takes-more (taken c.args.sink.now) (taken c.loop-at.sink) (taken c.write.new.self) (take at text) (take n (take (length text - at) (drop at text)))
          c.loop-at.invariant.took c.in_ok-at.ensures.took);
      steady = c.in_ok-at.ensures.steady ∙ c.loop-at.invariant.steady;
      enough = c.in_ok-at.ensures.enough ∙ c.loop-at.invariant.enough;
    }
