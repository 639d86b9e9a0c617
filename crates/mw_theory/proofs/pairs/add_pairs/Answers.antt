-- Each name is new, and its pair goes in front.
use Rattle.std.proofs.Common.{◌≡◌, ◌++◌, ◌∷◌, [], take, sym, ap, ap₂, ◌∙◌, subst, true}
use Rattle.std.proofs.lemmas.List.{take_more}
use Rattle.mw_model.specs.Terms.Object.{name_of_bytes}
use Rattle.mw_model.specs.Values.Primitive.{name_of, is_symbol}
use Rattle.mw_model.specs.Terms.Term.{arity_of}
use Rattle.mw_model.proofs.Names.{name_of_bytes-bytes}
use Rattle.mw_heap.specs.Objects.{object_at, IsIn}
use Rattle.mw_translate.specs.Expands.{with_pairs}
use Rattle.mw_translate.proofs.Pairs.{pairs-push, pair-at}
use Rattle.mw_theory.specs.Adding.{EndsWith}
use Rattle.mw_theory.proofs.BlockPairs.{new-at, with_pairs-EndsWith}
use Rattle.mw_theory.proofs.pairs.add_pairs.Goals as goal

pub name_of-requires-clause-within : goal.name_of-requires-clause-within
name_of-requires-clause-within c =
    let os = c.args.heap.now.objects in
    subst (λ p. IsIn os p.0) (sym c.pair-item.is) (pair-at os c.args.pairs.now c.loop-pair.pair-index c.pair-item.result c.requires.symbols c.loop-pair-test.true).0

pub name_of-requires-clause-symbol : goal.name_of-requires-clause-symbol
name_of-requires-clause-symbol c =
    let os = c.args.heap.now.objects in
    subst (λ p. is_symbol (object_at os p.0) ≡ true) (sym c.pair-item.is) (pair-at os c.args.pairs.now c.loop-pair.pair-index c.pair-item.result c.requires.symbols c.loop-pair-test.true).1

pub add-requires-clause-absent : goal.add-requires-clause-absent
add-requires-clause-absent c =
    let os = c.args.heap.now.objects in
    let name = ap name_of_bytes (sym c.name_of.ensures) ∙ name_of_bytes-bytes (name_of (object_at os c.pair-item.result.0)) in
    ap₂ arity_of c.loop-pair.invariant (name ∙ ap (λ p. name_of (object_at os p.0)) c.pair-item.is)
    ∙ new-at os c.args.pairs.now c.loop-pair.pair-index c.pair-item.result c.args.arity.now c.requires.new c.loop-pair-test.true

pub loop-pair-preserved : goal.loop-pair-preserved
loop-pair-preserved c =
    let os = c.args.heap.now.objects in
    let i = c.loop-pair.pair-index in
    let p = c.pair-item.result in
    let A = c.args.arity.now in
    let name = ap name_of_bytes (sym c.name_of.ensures) ∙ name_of_bytes-bytes (name_of (object_at os p.0)) in
    c.in_ok-add.ensures.added
    ∙ (ap₂ (λ f t. (f, p.1) ∷ t) name c.loop-pair.invariant
    ∙ (sym (pairs-push os (take i c.args.pairs.now) p A)
    ∙ ap (λ ps. with_pairs os ps A) (sym (take_more c.args.pairs.now i p c.loop-pair-test.true ∙ ap (λ q. take i c.args.pairs.now ++ q ∷ []) (sym c.pair-item.is)))))

pub returns-in_err-add-clause-kept : goal.returns-in_err-add-clause-kept
returns-in_err-add-clause-kept c =
    let A = c.args.arity.now in
    subst (λ new. EndsWith new A) (sym (c.in_err-add.ensures.err ∙ c.loop-pair.invariant)) (with_pairs-EndsWith c.args.heap.now.objects (take c.loop-pair.pair-index c.args.pairs.now) A)

pub returns-clause-kept : goal.returns-clause-kept
returns-clause-kept c =
    let A = c.args.arity.now in
    subst (λ new. EndsWith new A) (sym c.loop-pair.invariant) (with_pairs-EndsWith c.args.heap.now.objects (take c.loop-pair.pair-index c.args.pairs.now) A)
