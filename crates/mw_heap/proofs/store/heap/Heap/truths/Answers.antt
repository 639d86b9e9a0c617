-- Words that are kept stand in their places, and else both names are put.
use Rattle.std.proofs.Common.{◌≡◌, ℕ, Bool, true, List, sym, ap, ◌∙◌, subst}
use Rattle.mw_model.specs.Terms.Object.{Object, Symbol, name_of_bytes}
use Rattle.mw_heap.specs.Objects.{object_at, IsIn}
use Rattle.mw_heap.specs.Words.{word_object, place_of, KeepsWords}
use Rattle.mw_heap.specs.declared.vocabulary.word.Word.{Word}
use Rattle.mw_heap.specs.declared.vocabulary.word.Word.TheVariants as word
use Rattle.mw_heap.proofs.Objects.{IsIn-Grows, object_at-Grows}
use Rattle.mw_heap.proofs.store.heap.Heap.truths.Goals as goal

stands : (known : Bool) (kept os : List Object) (w : Word) (place : ℕ) → KeepsWords known kept → known ≡ true → kept ≡ os → place ≡ place_of w → IsIn os place × (object_at os place ≡ word_object w)
stands known kept os w place keeps k is at =
    subst (λ l. IsIn l place × (object_at l place ≡ word_object w)) is (subst (λ p. IsIn kept p × (object_at kept p ≡ word_object w)) (sym at) (keeps k w))

pub returns-then-self-clause-t : goal.returns-then-self-clause-t
returns-then-self-clause-t c = stands _ _ _ word.T _ c.self.invariant.words c.if-self.true (ap (λ v. v.objects) c.self.view_is) c.place.ensures

pub returns-then-self-clause-nil : goal.returns-then-self-clause-nil
returns-then-self-clause-nil c = stands _ _ _ word.Nil _ c.self.invariant.words c.if-self.true (ap (λ v. v.objects) c.self.view_is) c.place-then-self.ensures

pub returns-clause-t : goal.returns-clause-t
returns-clause-t c =
    let made = c.in_ok-t-2.ensures.made in
    let grows = c.in_ok-nil-2.ensures.grows in
    (IsIn-Grows _ _ grows _ made.0, object_at-Grows _ _ grows _ made.0 ∙ (made.1 ∙ ap (λ b. Symbol (name_of_bytes b)) (c.in_ok-t.ensures.items ∙ c.name.ensures)))

pub returns-clause-nil : goal.returns-clause-nil
returns-clause-nil c =
    let made = c.in_ok-nil-2.ensures.made in
    (made.0, made.1 ∙ ap (λ b. Symbol (name_of_bytes b)) (c.in_ok-nil.ensures.items ∙ c.name-2.ensures))
