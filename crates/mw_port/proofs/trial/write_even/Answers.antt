use Rattle.std.proofs.Common.{[], ◌∷◌}
use Rattle.std.specs.Prelude.{codes}
use Rattle.mw_port.proofs.Trials.{appended-is}
use Rattle.mw_port.proofs.trial.write_even.Goals as goal

pub returns-clause-text : goal.returns-clause-text
returns-clause-text c =
    let p = c.args.sum.now.bytes in
    let n = c.args.x.now.bytes in
    rw (c.push_str-19.ensures.bytes, c.push_str-18.ensures.bytes, c.push_str-17.ensures.bytes, c.push_str-16.ensures.bytes, c.push_str-15.ensures.bytes, c.push_str-14.ensures.bytes, c.push_str-13.ensures.bytes, c.push_str-12.ensures.bytes, c.push_str-11.ensures.bytes, c.push_str-10.ensures.bytes, c.push_str-9.ensures.bytes, c.push_str-8.ensures.bytes, c.push_str-7.ensures.bytes, c.push_str-6.ensures.bytes, c.push_str-5.ensures.bytes, c.push_str-4.ensures.bytes, c.push_str-3.ensures.bytes, c.push_str-2.ensures.bytes, c.push_str.ensures.bytes, c.requires, c.as_str-sum.ensures.value, c.as_str-x.ensures.value)
    (appended-is [] (codes "(verify trial (por* " ∷ p ∷ codes " " ∷ n ∷ codes ") (cut (por* " ∷ p ∷ codes " " ∷ n ∷ codes ") ((expansion (por* " ∷ n ∷ codes " " ∷ p ∷ codes ") ((base-eval " ∷ p ∷ codes "))) (propositional-schema (por* (pnot* " ∷ n ∷ codes ") " ∷ n ∷ codes ")))))" ∷ []))
