-- The heap at the place has none either.
use Rattle.std.proofs.Common.{◌≡◌, true, false, eqb, refl, sym, subst, arith, eqb-true}
use Rattle.std.proofs.lemmas.Bool.{eqb-false}
use Rattle.mw_slice.specs.Firsts.{NamesNone}
use Rattle.mw_slice.specs.Heaps.{heap_of}
use Rattle.mw_slice.proofs.firsts.some_names_theorem.Goals as goal

pub loop-place-preserved : goal.loop-place-preserved
loop-place-preserved c = λ k l.
    let hs = c.args.heaps.now in
    let i = c.loop-place.place in
    let here : NamesNone (heap_of hs i) = subst NamesNone c.get.ensures (c.names_theorem.ensures c.if-names_theorem.false) in
    elim (eqb k i) as (λ b. eqb k i ≡ b → NamesNone (heap_of hs k)) [
      | true ↦ λ e. subst (λ j. NamesNone (heap_of hs j)) (sym (eqb-true k i e)) here
      | false ↦ λ e. c.loop-place.invariant k (let n = eqb-false k i e in grind (arith, l, n))
    ] refl
