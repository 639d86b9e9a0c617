-- The symbol is that of the word, or of none.
use Rattle.std.proofs.Common.{sym, ap, ◌∙◌}
use Rattle.mw_model.specs.Terms.Object.{same_object}
use Rattle.mw_model.specs.Values.Primitive.{name_of}
use Rattle.mw_model.specs.Events.Expansion.{abbreviation_of}
use Rattle.mw_model.proofs.SameObject.{same_object-swap}
use Rattle.mw_heap.specs.Objects.{object_at}
use Rattle.mw_heap.specs.Words.{word_object}
use Rattle.mw_term.proofs.Symbols.{symbol_is}
use Rattle.mw_translate.proofs.AbbreviationWords.{no_word}
use Rattle.mw_translate.proofs.abbreviation.abbreviation_named.Goals as goal

pub returns-in-Some : goal.returns-in-Some
returns-in-Some c = c.abbreviation_of_word.ensures ∙ ap (λ x. abbreviation_of (name_of x)) (sym c.in-Some.ensures)

pub returns-in-None : goal.returns-in-None
returns-in-None c =
    let x = object_at c.args.heap.now.objects c.args.symbol in
    no_word (name_of x) (λ w. ap (same_object (word_object w)) (sym (symbol_is x c.requires.symbol)) ∙ (same_object-swap (word_object w) x ∙ c.in-None.ensures w))
