-- The number stands in the place of the proof.
use Rattle.std.proofs.Common.{◌∷◌, ◌++◌, [], refl, ap, ◌∙◌, subst}
use Rattle.std.proofs.lemmas.Result.{IfOk-weaker}
use Rattle.mw_model.specs.Terms.Object.{Pair, list1, symbol}
use Rattle.mw_model.specs.Texts.Written.{IsWritten}
use Rattle.mw_flat.specs.FlatEvents.{put_before}
use Rattle.mw_flat.proofs.flat_event.write_long_theorem.Goals as goal

pub returns : goal.returns
returns c =
    let os = c.args.heap.now.objects in
    let made = c.in_ok-event.ensures.1 ∙ ap (λ o. Pair (symbol "VERIFY") (put_before os (c.args.name ∷ c.args.formula ∷ []) (list1 o))) c.in_ok-number.ensures.made.1 in
    IfOk-weaker c.write_line.result _ _ (λ u line. (line.0 ++ 10 ∷ [], (line.0, line.1, subst (λ x. IsWritten x 1 line.0 line.1) made line.2, refl), line.3)) c.write_line.ensures
