-- The sum of what the parts tell, by whether it fits.
use Rattle.std.proofs.Common.{◌≡◌, ◌+◌, ap, ◌∙◌, arith}
use Rattle.mw_heap.specs.Lengths.{text_told, tail_told, length_of}
use Rattle.mw_heap.proofs.Measures.{pair_length-parts, short_pair, long_pair}
use Rattle.mw_heap.proofs.store.lengths.pair_length.Goals as goal

pub returns-in-Ok : goal.returns-in-Ok
returns-in-Ok c a d e f =
    let text : c.text_told.result ≡ text_told (length_of a) = c.text_told.ensures.told ∙ ap text_told e in
    let tail : c.tail_told.result ≡ tail_told (length_of d) = c.tail_told.ensures.told ∙ ap tail_told f in
    short_pair (text_told (length_of a) + tail_told (length_of d) + 2) c.in-Ok.less (omega (arith, text, tail, c.in-Ok.ensures.1)) (omega (arith, c.in-Ok.ensures)) ∙ pair_length-parts a d

pub returns-in-Err : goal.returns-in-Err
returns-in-Err c a d e f =
    let text : c.text_told.result ≡ text_told (length_of a) = c.text_told.ensures.told ∙ ap text_told e in
    let tail : c.tail_told.result ≡ tail_told (length_of d) = c.tail_told.ensures.told ∙ ap tail_told f in
    long_pair (text_told (length_of a) + tail_told (length_of d) + 2) (omega (arith, text, tail, c.in-Err.ensures)) ∙ pair_length-parts a d
