-- Nothing is needed where the old code ends, also once other code stands after it.
use Rattle.std.proofs.Common.{◌≡◌, length, ap, ◌∙◌, arith, rules}
use Rattle.mw_code.specs.Needs.{need_at}
use Rattle.mw_code.proofs.NeedLemmas.{need-extends}
use Rattle.mw_code.proofs.block.lay_out.Goals as goal

pub find_need-requires-clause-still : goal.find_need-requires-clause-still
find_need-requires-clause-still c =
    let S = c.args.context.now.signature.now in
    let old = c.args.code.now.items in
    let new = c.compile.new.code.items in
    let from : c.len-from.result ≡ length old = search rules in
    ap (λ l. need_at S l c.len-from.result) c.as_slice.ensures.value
    ∙ (ap (need_at S new) from ∙ (need-extends S old new c.in_ok-compile.ensures.extends (length old) (omega arith) ∙ c.requires.still))
