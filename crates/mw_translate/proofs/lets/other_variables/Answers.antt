-- One more variable was looked at.
use Rattle.std.proofs.Common.{◌≡◌, ◌++◌, ◌∷◌, [], ◌+◌, cond, take, sym, ap, ◌∙◌, subst}
use Rattle.std.proofs.lemmas.List.{take_more, take_all}
use Rattle.std.proofs.lemmas.List.Elements.{All-get_or}
use Rattle.mw_model.specs.Values.Primitive.{name_of}
use Rattle.mw_model.specs.Terms.Term.{is_among, variables}
use Rattle.mw_model.specs.Events.Expansion.{without}
use Rattle.mw_heap.specs.Objects.{object_at}
use Rattle.mw_term.specs.Parts.{names_at, AreSymbols}
use Rattle.mw_term.proofs.FormalList.{names_at-push}
use Rattle.mw_term.proofs.Symbols.{IsSymbolIn, symbols_each}
use Rattle.mw_translate.proofs.Appended.{without-push, names_at-symbols}
use Rattle.mw_translate.proofs.lets.other_variables.Goals as goal

pub add_other-requires-clause-symbol : goal.add_other-requires-clause-symbol
add_other-requires-clause-symbol c =
    let os = c.args.heap.now.objects in
    let rs = c.as_slice-x-items.result.now in
    let symbols = subst (AreSymbols os) (sym c.as_slice-x-items.ensures) c.in_ok-variables.ensures.symbols in
    (subst (IsSymbolIn os) (sym c.x-item.is) (All-get_or (IsSymbolIn os) rs c.loop-x.x-index c.x-item.result c.loop-x-test.true (symbols_each os rs symbols))).1

pub loop-x-preserved : goal.loop-x-preserved
loop-x-preserved c =
    let os = c.args.heap.now.objects in
    let xs = names_at os c.args.formals.now in
    let rs = c.as_slice-x-items.result.now in
    let i = c.loop-x.x-index in
    let x = c.x-item.result in
    let before = names_at os (take i rs) in
    let h = c.loop-x.invariant in
    let more : names_at os (take (i + 1) rs) ≡ before ++ name_of (object_at os x) ∷ [] =
    ap (names_at os) (take_more rs i x c.loop-x-test.true ∙ ap (λ r. take i rs ++ r ∷ []) (sym c.x-item.is)) ∙ names_at-push os (take i rs) x in
    record {
      symbols = c.in_ok-add_other.ensures.symbols;
      so_far =
          c.in_ok-add_other.ensures.names
          ∙ (ap (λ l. cond (is_among (name_of (object_at os x)) xs) l (l ++ name_of (object_at os x) ∷ [])) h.so_far
          ∙ (sym (without-push before xs (name_of (object_at os x))) ∙ ap (λ l. without l xs) (sym more)));
    }

pub returns-clause-others : goal.returns-clause-others
returns-clause-others c = λ t h.
    let os = c.args.heap.now.objects in
    let xs = names_at os c.args.formals.now in
    let rs = c.as_slice-x-items.result.now in
    c.loop-x.invariant.so_far
    ∙ ap (λ l. without l xs) (ap (names_at os) (take_all c.loop-x.x-index rs c.loop-x-test.false ∙ c.as_slice-x-items.ensures) ∙ names_at-symbols os _ (variables t) (c.in_ok-variables.ensures.variables t h))
