-- A symbol is a variable, or the list of no terms, or neither.
use Rattle.std.proofs.Common.{false, refl, sym, ap, ◌∙◌}
use Rattle.mw_model.specs.Terms.Object.{Symbol, NIL, same_object}
use Rattle.mw_model.specs.Values.Primitive.{name_of}
use Rattle.mw_heap.specs.Objects.{object_at}
use Rattle.mw_term.specs.Marking.{mark_of_object}
use Rattle.mw_term.proofs.Symbols.{symbol_is}
use Rattle.mw_term.proofs.Marked.{is_term-symbol}
use Rattle.mw_term.proofs.ListMarks.{mark_is, terms-symbol}
use Rattle.mw_term.proofs.marks.mark_symbol.Goals as goal

pub returns : goal.returns
returns c = λ A.
    let x = object_at c.args.heap.now.objects c.args.x in
    let s = name_of x in
    let e = symbol_is x c.requires.symbol in
    c.no_formula.ensures
    ∙ (mark_is A (Symbol s) c.is_variable_symbol.result c.is_nil.result false false (c.is_variable_symbol.ensures ∙ sym (is_term-symbol A s)) (c.is_nil.ensures ∙ (ap (λ y. same_object y NIL) e ∙ sym (terms-symbol A s))) refl refl
    ∙ ap (mark_of_object A) (sym e))
