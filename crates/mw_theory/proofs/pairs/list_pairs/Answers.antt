-- One pair more in front of the list.
use Rattle.std.proofs.Common.{◌≡◌, ◌++◌, ◌∷◌, [], take, sym, ap, ap₂, ◌∙◌, subst, true}
use Rattle.std.proofs.lemmas.List.{take_more}
use Rattle.mw_model.specs.Terms.Object.{Natural, Pair}
use Rattle.mw_model.specs.Values.Primitive.{is_symbol}
use Rattle.mw_model.specs.Terms.Term.{table_object}
use Rattle.mw_heap.specs.Objects.{object_at, IsIn}
use Rattle.mw_heap.proofs.Objects.{Grows-trans, IsIn-Grows, object_at-Grows}
use Rattle.mw_term.proofs.Symbols.{symbol_is}
use Rattle.mw_translate.specs.Expands.{with_pairs}
use Rattle.mw_translate.proofs.Pairs.{pairs-push, pair-at}
use Rattle.mw_theory.proofs.pairs.list_pairs.Goals as goal

pub with_pair-requires-clause-name : goal.with_pair-requires-clause-name
with_pair-requires-clause-name c =
    let os = c.args.heap.now.objects in
    let l = c.loop-pair in
    IsIn-Grows os l.heap.objects l.invariant.0 c.pair-item.result.0
    (subst (λ p. IsIn os p.0) (sym c.pair-item.is) (pair-at os c.args.pairs.now l.pair-index c.pair-item.result c.requires.symbols c.loop-pair-test.true).0)

pub loop-pair-preserved : goal.loop-pair-preserved
loop-pair-preserved c =
    let os = c.args.heap.now.objects in
    let l = c.loop-pair in
    let i = l.pair-index in
    let ps = c.args.pairs.now in
    let p = c.pair-item.result in
    let g = l.invariant.0 in
    let symbol = pair-at os ps i p c.requires.symbols c.loop-pair-test.true in
    let name_in : IsIn os p.0 = subst (λ q. IsIn os q.0) (sym c.pair-item.is) symbol.0 in
    let is_name : is_symbol (object_at os p.0) ≡ true = subst (λ q. is_symbol (object_at os q.0) ≡ true) (sym c.pair-item.is) symbol.1 in
    let made = c.in_ok-list.ensures.made in (
      Grows-trans os l.heap.objects c.with_pair.new.heap.objects g c.with_pair.ensures.grows,
      made.0,
      λ A e.
          made.1
          ∙ (ap₂ (λ x y. Pair (Pair x (Natural p.1)) y) (object_at-Grows os l.heap.objects g p.0 name_in ∙ symbol_is (object_at os p.0) is_name) (l.invariant.2 A e)
          ∙ ap table_object (sym (pairs-push os (take i ps) p A)
          ∙ ap (λ qs. with_pairs os qs A) (sym (take_more ps i p c.loop-pair-test.true ∙ ap (λ q. take i ps ++ q ∷ []) (sym c.pair-item.is))))),
    )
