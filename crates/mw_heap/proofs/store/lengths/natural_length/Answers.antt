-- The numeral's length.
use Rattle.std.proofs.Common.{◌<◌, length, sym, ap, ◌∙◌, subst, arith}
use Rattle.mw_model.proofs.Numerals.{numeral-decimal}
use Rattle.mw_heap.specs.Lengths.{atom_length}
use Rattle.mw_heap.proofs.Measures.{some-numeral}
use Rattle.mw_heap.proofs.store.lengths.natural_length.Goals as goal

pub atom_length-requires : goal.atom_length-requires
atom_length-requires c = subst (λ t. 0 < length t) (numeral-decimal c.args.n (omega arith) ∙ sym c.format.ensures.text) (some-numeral c.args.n)

pub returns : goal.returns
returns c = c.atom_length.ensures ∙ ap (λ t. atom_length (length t)) (c.format.ensures.text ∙ sym (numeral-decimal c.args.n (omega arith)))
