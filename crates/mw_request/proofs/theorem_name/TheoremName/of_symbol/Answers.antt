-- A symbol's name is that of its bytes.
use Rattle.std.proofs.Common.{◌≡◌, ◌∙◌, true, sym, ap}
use Rattle.mw_model.specs.Terms.Object.{Object, Natural, Symbol, Pair, name_of_bytes}
use Rattle.mw_model.specs.Values.Primitive.{is_symbol, name_of}
use Rattle.mw_model.proofs.Names.{name_of_bytes-bytes}
use Rattle.mw_heap.specs.Objects.{object_at}
use Rattle.mw_request.proofs.theorem_name.TheoremName.of_symbol.Goals as goal

symbol_is : (x : Object) → is_symbol x ≡ true → x ≡ Symbol (name_of_bytes (name_of x).bytes)
symbol_is (Symbol s) h = ap Symbol (sym (name_of_bytes-bytes s))
symbol_is (Natural n) h = cc
symbol_is (Pair a b) h = cc

pub returns : goal.returns
returns c = symbol_is (object_at c.args.heap.now.objects c.args.x) c.requires.symbol ∙ ap (λ b. Symbol (name_of_bytes b)) (c.name_of.ensures ∙ sym c.in_ok-bytes.ensures.items)
