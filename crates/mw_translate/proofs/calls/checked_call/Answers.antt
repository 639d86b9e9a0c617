-- The test of the actuals decides.
use Rattle.std.proofs.Common.{Some, refl, sym, ap, ap₂, ◌∙◌}
use Rattle.mw_model.specs.Terms.Object.{Pair, Symbol}
use Rattle.mw_model.specs.Values.Primitive.{name_of}
use Rattle.mw_heap.specs.Objects.{object_at}
use Rattle.mw_term.proofs.Symbols.{symbol_is}
use Rattle.mw_translate.specs.Checked.{given}
use Rattle.mw_translate.proofs.calls.checked_call.Goals as goal

pub returns-then-not-is_call-clause-made : goal.returns-then-not-is_call-clause-made
returns-then-not-is_call-clause-made c =
    let f = name_of (object_at c.args.heap.now.objects c.args.head) in
    let o = object_at c.args.heap.now.objects c.args.actuals.object in
    ap (λ b. given b (Pair (Symbol f) o)) (sym c.is_call.ensures ∙ c.if-not-is_call.true)

pub returns-clause-made : goal.returns-clause-made
returns-clause-made c =
    let f = name_of (object_at c.args.heap.now.objects c.args.head) in
    let o = object_at c.args.heap.now.objects c.args.actuals.object in (
      c.in_ok-cons.ensures.made.0,
      ap (λ b. given b (Pair (Symbol f) o)) (sym c.is_call.ensures ∙ c.if-not-is_call.false)
          ∙ ap (λ z. Some (z, 0)) (ap₂ Pair (sym (symbol_is (object_at c.args.heap.now.objects c.args.head) c.requires.symbol)) refl ∙ sym c.in_ok-cons.ensures.made.1),
    )
