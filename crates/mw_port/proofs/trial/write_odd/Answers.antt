use Rattle.std.proofs.Common.{[], ◌∷◌}
use Rattle.std.specs.Prelude.{codes}
use Rattle.mw_port.proofs.Trials.{appended-is}
use Rattle.mw_port.proofs.trial.write_odd.Goals as goal

pub returns-clause-text : goal.returns-clause-text
returns-clause-text c =
    let p = c.args.sum.now.bytes in
    rw (c.push_str-5.ensures.bytes, c.push_str-4.ensures.bytes, c.push_str-3.ensures.bytes, c.push_str-2.ensures.bytes, c.push_str.ensures.bytes, c.requires, c.as_str-sum.ensures.value)
    (appended-is [] (codes "(verify trial " ∷ p ∷ codes " (base-eval " ∷ p ∷ codes "))" ∷ []))
