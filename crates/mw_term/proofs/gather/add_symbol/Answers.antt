-- A new symbol goes last.
use Rattle.std.proofs.Common.{◌∷◌, [], ◌++◌, cond, sym, ap, ◌∙◌, subst, if◌then◌else◌}
use Rattle.mw_model.specs.Values.Primitive.{name_of}
use Rattle.mw_heap.specs.Objects.{object_at}
use Rattle.mw_term.specs.Parts.{names_at, AreSymbols}
use Rattle.mw_term.proofs.FormalList.{names_at-push, symbols-push}
use Rattle.mw_term.proofs.gather.add_symbol.Goals as goal

pub returns-in_ok-insert : goal.returns-in_ok-insert
returns-in_ok-insert c =
    let os = c.args.heap.now.objects in
    let old = c.args.symbols.now.keys in
    let x = c.args.x in
    let pushed = c.in_ok-insert.ensures.keys ∙ ap (λ b. if b then old else old ++ x ∷ []) (sym c.is_among_symbols.ensures.held ∙ c.if-not-is_among_symbols.true) in
    record {
      symbols = subst (AreSymbols os) (sym pushed) (symbols-push os old x c.requires.symbols c.requires.within c.requires.symbol);
      names = ap (names_at os) pushed ∙ (names_at-push os old x ∙ sym (ap (λ b. cond b (names_at os old) (names_at os old ++ name_of (object_at os x) ∷ [])) (sym c.is_among_symbols.ensures.among ∙ c.if-not-is_among_symbols.true)));
    }
