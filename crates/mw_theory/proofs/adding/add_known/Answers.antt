-- One formula more is known.
use Rattle.std.proofs.Common.{◌++◌, ◌∷◌, [], take, reverse, sym, ap, ◌∙◌}
use Rattle.std.proofs.lemmas.List.{reverse-append}
use Rattle.mw_theory.proofs.Listing.{take_next}
use Rattle.mw_theory.proofs.adding.add_known.Goals as goal

pub loop-formula-preserved : goal.loop-formula-preserved
loop-formula-preserved c =
    let l = c.loop-formula in
    let i = l.formula-index in
    let xs = c.args.formulas.now in
    let x = c.formula-item.result in
    let next = take_next xs i x c.loop-formula-test.true c.formula-item.is in
    c.in_ok-add.ensures.added ∙ (ap (λ k. x ∷ k) l.invariant ∙ ap (λ zs. zs ++ c.args.known.now) (sym (ap reverse next ∙ reverse-append (take i xs) (x ∷ []))))
