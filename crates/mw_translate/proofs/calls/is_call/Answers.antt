-- The function's name decides, and whether it is IF.
use Rattle.std.proofs.Common.{◌≡◌, ◌&&◌, ◌||◌, not, eqb, sym, ap, ap₂, ◌∙◌}
use Rattle.mw_model.specs.Terms.Object.{name_of_bytes, named, symbol, same_name, same_object}
use Rattle.mw_model.specs.Values.Primitive.{name_of}
use Rattle.mw_model.proofs.Names.{name_of_bytes-bytes}
use Rattle.mw_heap.specs.Objects.{object_at}
use Rattle.mw_term.proofs.Symbols.{symbol_is}
use Rattle.mw_translate.specs.Contexts.{arities}
use Rattle.mw_translate.specs.Checked.{takes}
use Rattle.mw_translate.proofs.calls.is_call.Goals.{After-takes, After-is_word}
use Rattle.mw_translate.proofs.calls.is_call.Goals as goal

-- what the table says of the name, and whether it is IF
takes_is : (c : After-takes) → takes (arities c.args.context.now) (name_of (object_at c.args.heap.now.objects c.args.function)) c.args.count ≡ c.takes.result
takes_is c =
    let name = name_of (object_at c.args.heap.now.objects c.args.function) in
    ap (λ g. takes (arities c.args.context.now) g c.args.count) (sym (ap name_of_bytes (sym c.name_of.ensures) ∙ name_of_bytes-bytes name)) ∙ sym c.takes.ensures

if_is : (c : After-is_word) → same_name (name_of (object_at c.args.heap.now.objects c.args.function)) (named "IF") ≡ c.is_word.result
if_is c = ap (λ x. same_object x (symbol "IF")) (sym (symbol_is (object_at c.args.heap.now.objects c.args.function) c.requires.symbol)) ∙ sym c.is_word.ensures

pub returns-then-not-is_word : goal.returns-then-not-is_word
returns-then-not-is_word c =
    let n = c.args.count in
    let takes_it = takes_is (goal.at.returns-then-not-is_word c).After-takes ∙ c.if-takes.true in
    let same = if_is (goal.at.returns-then-not-is_word c).After-is_word in
    ap not c.if-not-is_word.true ∙ sym (ap₂ (λ t i. t && (not i || eqb n 3)) takes_it same ∙ ap (λ b. not b || eqb n 3) c.if-not-is_word.true)

pub returns-else-not-is_word : goal.returns-else-not-is_word
returns-else-not-is_word c =
    let n = c.args.count in
    let takes_it = takes_is (goal.at.returns-else-not-is_word c).After-takes ∙ c.if-takes.true in
    let same = if_is (goal.at.returns-else-not-is_word c).After-is_word in
    sym (ap₂ (λ t i. t && (not i || eqb n 3)) takes_it same ∙ ap (λ b. not b || eqb n 3) c.if-not-is_word.false)

pub returns-else-takes : goal.returns-else-takes
returns-else-takes c =
    let f = object_at c.args.heap.now.objects c.args.function in
    let takes_not = takes_is (goal.at.returns-else-takes c).After-takes ∙ c.if-takes.false in
    c.if-takes.false ∙ sym (ap (λ t. t && (not (same_name (name_of f) (named "IF")) || eqb c.args.count 3)) takes_not)
