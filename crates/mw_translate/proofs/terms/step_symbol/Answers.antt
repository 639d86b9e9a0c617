-- T and NIL are constants, and another symbol is a variable.
use Rattle.std.proofs.Common.{Some, sym, ap, ◌∙◌}
use Rattle.mw_model.specs.Terms.Object.{symbol, list2}
use Rattle.mw_model.specs.Values.Primitive.{name_of}
use Rattle.mw_heap.specs.Objects.{object_at}
use Rattle.mw_term.proofs.Symbols.{symbol_is}
use Rattle.mw_translate.specs.Contexts.{arities, entries}
use Rattle.mw_translate.specs.Meaning.{meaning}
use Rattle.mw_translate.specs.declared.part.Kind.TheVariants as kind
use Rattle.mw_translate.proofs.Forms.{atom-step, constant_symbol, variable_symbol}
use Rattle.mw_translate.proofs.terms.step_symbol.Goals as goal

pub returns-then-is_constant-clause-step : goal.returns-then-is_constant-clause-step
returns-then-is_constant-clause-step c =
    let A = arities c.args.context.now in
    let os = c.args.heap.now.objects in
    let f = name_of (object_at os c.args.x) in
    let t = sym c.is_constant.ensures ∙ c.if-is_constant.true in
    let is = symbol_is (object_at os c.args.x) c.requires.symbol in
    atom-step A os c.call_of_one.new.heap.objects (entries c.args.context.now) (meaning A kind.Term (object_at os c.args.x)) c.args.x c.in_ok-call_of_one.field-0 c.atom.result c.in_ok-call_of_one.ensures.made.0
    (ap (meaning A kind.Term) is ∙ (constant_symbol A f t ∙ ap (λ o. Some (o, 0)) (ap (list2 (symbol "QUOTE")) (sym is) ∙ sym c.in_ok-call_of_one.ensures.made.1)))
    c.atom.ensures

pub returns-clause-step : goal.returns-clause-step
returns-clause-step c =
    let A = arities c.args.context.now in
    let os = c.args.heap.now.objects in
    let f = name_of (object_at os c.args.x) in
    let t = sym c.is_constant.ensures ∙ c.if-is_constant.false in
    let is = symbol_is (object_at os c.args.x) c.requires.symbol in
    atom-step A os os (entries c.args.context.now) (meaning A kind.Term (object_at os c.args.x)) c.args.x c.args.x c.atom-2.result c.requires.within
    (ap (meaning A kind.Term) is ∙ (variable_symbol A f t ∙ ap (λ o. Some (o, 0)) (sym is)))
    c.atom-2.ensures
