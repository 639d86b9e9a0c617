-- Each of the variables is tested.
use Rattle.std.proofs.Common.{◌≡◌, ℕ, true, false, get_or, take, sym, ap, ◌∙◌, subst}
use Rattle.std.specs.List.{list_all}
use Rattle.std.proofs.lemmas.Bool.{and_from}
use Rattle.std.proofs.lemmas.List.{take_all}
use Rattle.std.proofs.lemmas.List.Elements.{All-get_or}
use Rattle.std.proofs.lemmas.List.Folds.{list_all_more, list_all_at}
use Rattle.mw_model.specs.Values.Primitive.{name_of}
use Rattle.mw_model.specs.Terms.Term.{is_among}
use Rattle.mw_heap.specs.Objects.{object_at}
use Rattle.mw_term.specs.Parts.{names_at, AreSymbols}
use Rattle.mw_term.proofs.Symbols.{IsSymbolIn, symbols_each, list_all-names_at}
use Rattle.mw_term.proofs.free.are_among.Goals as goal

pub is_among_symbols-requires : goal.is_among_symbols-requires
is_among_symbols-requires c =
    let os = c.args.heap.now.objects in
    let rs = c.as_slice-x-items.result.now in
    let symbols = subst (AreSymbols os) (sym c.as_slice-x-items.ensures.keys) c.requires.variables in
    let here = subst (IsSymbolIn os) (sym c.x-item.is) (All-get_or (IsSymbolIn os) rs c.loop-x.x-index c.x-item.result c.loop-x-test.true (symbols_each os rs symbols)) in
    record { within = here.0; symbol = here.1; symbols = c.requires.names }

pub loop-x-preserved : goal.loop-x-preserved
loop-x-preserved c =
    let os = c.args.heap.now.objects in
    let xs = names_at os c.args.names.now.keys in
    let rs = c.as_slice-x-items.result.now in
    let i = c.loop-x.x-index in
    let test = λ (r : ℕ). is_among (name_of (object_at os r)) xs in
    let here : test (get_or rs i c.x-item.result) ≡ true = sym (ap test c.x-item.is) ∙ (sym c.is_among_symbols.ensures.among ∙ c.if-not-is_among_symbols.false) in
    list_all_more test rs i c.x-item.result c.loop-x-test.true ∙ and_from (list_all test (take i rs)) (test (get_or rs i c.x-item.result)) c.loop-x.invariant here

pub returns-then-not-is_among_symbols : goal.returns-then-not-is_among_symbols
returns-then-not-is_among_symbols c =
    let os = c.args.heap.now.objects in
    let xs = names_at os c.args.names.now.keys in
    let rs = c.as_slice-x-items.result.now in
    let test = λ (r : ℕ). is_among (name_of (object_at os r)) xs in
    let here : test (get_or rs c.loop-x.x-index c.x-item.result) ≡ false = sym (ap test c.x-item.is) ∙ (sym c.is_among_symbols.ensures.among ∙ c.if-not-is_among_symbols.true) in
    sym (list_all_at test rs c.loop-x.x-index c.x-item.result c.loop-x-test.true here)
    ∙ (ap (list_all test) c.as_slice-x-items.ensures.keys
    ∙ sym (list_all-names_at os (λ y. is_among y xs) c.args.variables.now.keys))

pub returns : goal.returns
returns c =
    let os = c.args.heap.now.objects in
    let xs = names_at os c.args.names.now.keys in
    let rs = c.as_slice-x-items.result.now in
    let test = λ (r : ℕ). is_among (name_of (object_at os r)) xs in
    sym c.loop-x.invariant
    ∙ (ap (list_all test) (take_all c.loop-x.x-index rs c.loop-x-test.false)
    ∙ (ap (list_all test) c.as_slice-x-items.ensures.keys
    ∙ sym (list_all-names_at os (λ y. is_among y xs) c.args.variables.now.keys)))
