-- By the code of the name.
use Rattle.std.proofs.Common.{◌∙◌, sym, ap, subst}
use Rattle.mw_model.specs.Terms.Object.{name_of_bytes}
use Rattle.mw_model.specs.Values.Primitive.{name_of}
use Rattle.mw_model.proofs.Names.{name_of_bytes-bytes}
use Rattle.mw_code.specs.Tables.{IsCodeOf}
use Rattle.mw_heap.specs.Objects.{object_at}
use Rattle.mw_kernel.proofs.Switching.{function-found, function-missed, symbol-named}
use Rattle.mw_kernel.proofs.switch.may_check.Goals as goal

pub returns-in-Some : goal.returns-in-Some
returns-in-Some c = λ t stands.
    let os = c.args.heap.now.objects in
    let x = object_at os c.args.name in
    let f = name_of x in
    let code = subst (IsCodeOf os c.args.table.now t.definitions f) c.in-Some.is
    (subst (λ g. IsCodeOf os c.args.table.now t.definitions g c.find.result) (ap name_of_bytes (sym c.name_of.ensures) ∙ name_of_bytes-bytes f) (c.find.ensures.code os t.definitions stands)) in
    function-found t x f code.0 c.in-Some.entry.arity (symbol-named x (sym c.is_symbol.ensures ∙ c.if-not-is_symbol.false)) code.1 code.2

pub returns-in-None : goal.returns-in-None
returns-in-None c = λ t stands.
    let os = c.args.heap.now.objects in
    let x = object_at os c.args.name in
    let f = name_of x in
    let code = subst (IsCodeOf os c.args.table.now t.definitions f) c.in-None.is
    (subst (λ g. IsCodeOf os c.args.table.now t.definitions g c.find.result) (ap name_of_bytes (sym c.name_of.ensures) ∙ name_of_bytes-bytes f) (c.find.ensures.code os t.definitions stands)) in
    function-missed t x f (symbol-named x (sym c.is_symbol.ensures ∙ c.if-not-is_symbol.false)) code
