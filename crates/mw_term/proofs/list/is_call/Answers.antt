-- A call is tested by its function, by how many actuals that wants, and by how long they are.
use Rattle.std.proofs.Common.{◌≡◌, true, sym, ap, ap₂, ◌∙◌}
use Rattle.std.proofs.lemmas.Result.{IfOk-weaker}
use Rattle.mw_model.specs.Terms.Object.{name_of_bytes}
use Rattle.mw_model.specs.Terms.Term.{arity_of}
use Rattle.mw_model.specs.Values.Primitive.{name_of}
use Rattle.mw_model.proofs.Names.{name_of_bytes-bytes}
use Rattle.mw_heap.specs.Objects.{object_at}
use Rattle.mw_term.specs.Parts.{length_of, wanted}
use Rattle.mw_term.proofs.ListLengths.{fits, is_term-symbol_fits, is_term-no_actuals, is_term-quoted}
use Rattle.mw_term.proofs.list.is_call.Goals as goal

pub returns-then-is_word : goal.returns-then-is_word
returns-then-is_word c =
    let os = c.args.heap.now.objects in
    c.is_single_list.ensures ∙ sym (is_term-quoted c.args.arity.now (object_at os c.args.function) (object_at os c.args.rest) (sym c.is_word.ensures ∙ c.if-is_word.true))

pub returns-then-not-are_terms : goal.returns-then-not-are_terms
returns-then-not-are_terms c =
    let os = c.args.heap.now.objects in
    sym
    (is_term-no_actuals c.args.arity.now (object_at os c.args.function) (object_at os c.args.rest) c.requires.symbol (sym c.if-not-are_terms.true ∙ c.requires.terms) (sym c.is_word.ensures ∙ c.if-is_word.false))

pub returns-in-Some : goal.returns-in-Some
returns-in-Some c =
    let A = c.args.arity.now in
    let f = object_at c.args.heap.now.objects c.args.function in
    let rest = object_at c.args.heap.now.objects c.args.rest in
    let named : name_of_bytes c.name_of-name.result.now ≡ name_of f = ap name_of_bytes (sym c.name_of-name.ensures) ∙ name_of_bytes-bytes (name_of f) in
    let wants = ap₂ wanted (ap (arity_of A) (sym named) ∙ sym c.lookup.ensures) (sym c.is_word-2.ensures) ∙ (sym c.wanted_count.ensures ∙ c.in-Some.is) in
    let call = is_term-symbol_fits A f rest true c.requires.symbol (sym c.if-not-are_terms.false ∙ c.requires.terms) (sym c.is_word.ensures ∙ c.if-is_word.false) ∙ ap (λ w. fits w true (length_of rest)) wants in
    IfOk-weaker c.has_length.result _ _ (λ b e. e ∙ sym call) c.has_length.ensures

pub returns-in-None : goal.returns-in-None
returns-in-None c =
    let A = c.args.arity.now in
    let f = object_at c.args.heap.now.objects c.args.function in
    let rest = object_at c.args.heap.now.objects c.args.rest in
    let named : name_of_bytes c.name_of-name.result.now ≡ name_of f = ap name_of_bytes (sym c.name_of-name.ensures) ∙ name_of_bytes-bytes (name_of f) in
    let wants = ap₂ wanted (ap (arity_of A) (sym named) ∙ sym c.lookup.ensures) (sym c.is_word-2.ensures) ∙ (sym c.wanted_count.ensures ∙ c.in-None.is) in
    sym (is_term-symbol_fits A f rest true c.requires.symbol (sym c.if-not-are_terms.false ∙ c.requires.terms) (sym c.is_word.ensures ∙ c.if-is_word.false) ∙ ap (λ w. fits w true (length_of rest)) wants)
