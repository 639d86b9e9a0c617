-- One word more stands in its place.
use Rattle.std.proofs.Common.{◌≡◌, Bool, true, false, not, refl, sym, ap, ◌∙◌, eqb-true}
use Rattle.mw_model.specs.Terms.Object.{Symbol, name_of_bytes}
use Rattle.mw_heap.proofs.Objects.{Grows-trans}
use Rattle.mw_heap.proofs.Words.{one_word_more}
use Rattle.mw_heap.proofs.store.heap.Heap.keep_words.Goals as goal

denied : (b : Bool) → not b ≡ false → b ≡ true
denied true h = refl
denied false h = sym h

pub loop-word-preserved : goal.loop-word-preserved
loop-word-preserved c =
    let e = c.in_ok-symbol.ensures in (
      Grows-trans _ _ _ c.loop-word.invariant.0 e.grows,
      one_word_more _ _ _ _ e.grows c.loop-word.invariant.1 _ e.made.0 (e.made.1 ∙ ap (λ b. Symbol (name_of_bytes b)) c.name.ensures)
          (eqb-true _ _ (denied _ (sym c.ne.ensures ∙ c.if-ne.false)) ∙ c.place.ensures),
    )
