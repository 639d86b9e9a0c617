-- The number and the reason, put one after the other.
use Rattle.std.proofs.Common.{◌<◌, ◌^◌, ◌∷◌, [], ◌++◌, codes, ap, ◌∙◌, arith, append_assoc}
use Rattle.mw_model.specs.Events.Refusal.{reason_of}
use Rattle.mw_model.specs.Texts.Printing.{numeral}
use Rattle.mw_heap.specs.Variants.{refusal_of}
use Rattle.mw_kernel.proofs.BareReasons.{puts_bare}
use Rattle.mw_kernel.proofs.why.put_bare_reason.Goals as goal

pub returns : goal.returns
returns c =
    let k = c.args.number in
    let few : k < 2 ^ 64 = omega arith in
    let word = reason_of (refusal_of c.args.reason) in
    let put = c.as_bytes.ensures.value ∙ c.word.ensures in
    let begun = c.in_ok-write_text_and_number.ensures ∙ append_assoc c.args.out.now.items (codes "(WHY ") (numeral k) in
    puts_bare k (refusal_of c.args.reason) few c.args.out.now.items c.extend_from_slice-2.new.self.items
    (c.in_ok-extend_from_slice-2.ensures.items
    ∙ ap (λ l. l ++ 41 ∷ 10 ∷ []) (c.in_ok-extend_from_slice.ensures.items
    ∙ (ap (λ t. c.push.new.self.items ++ t) put
    ∙ ap (λ l. l ++ word) (c.in_ok-push.ensures.items ∙ ap (λ l. l ++ 32 ∷ []) begun))))
