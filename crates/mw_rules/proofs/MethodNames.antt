-- The methods that the words of the logic name.
use Rattle.std.proofs.Common.{◌≡◌, false, cond, Option, Some, None, refl, sym, ap, ◌∙◌}
use Rattle.mw_model.specs.Terms.Object.{Object, same_object}
use Rattle.mw_model.specs.Proofs.Proof.{Method, Axiom, Theorem, PropositionalSchema, FunctionalEquality, BetaReduction, BaseEval, Expansion, Contraction, Associativity, Cut, Instantiation, Induction}
use Rattle.mw_model.specs.Proofs.Judgment.{methods, method_among}
use Rattle.mw_model.proofs.SameObject.{same_object-swap}
use Rattle.mw_heap.specs.Words.{word_object}
use Rattle.mw_heap.specs.declared.vocabulary.word.Word.{Word}
use Rattle.mw_heap.specs.declared.vocabulary.word.Word.TheVariants as word

-- another word names none
pub other_word : (w : Word) → (w ≡ word.Axiom → ⊥) → (w ≡ word.Theorem → ⊥) → (w ≡ word.PropositionalSchema → ⊥) → (w ≡ word.FunctionalEquality → ⊥) → (w ≡ word.BetaReduction → ⊥) → (w ≡ word.BaseEval → ⊥) → (w ≡ word.Expansion → ⊥) → (w ≡ word.Contraction → ⊥) → (w ≡ word.Associativity → ⊥) → (w ≡ word.Cut → ⊥) → (w ≡ word.Instantiation → ⊥) → (w ≡ word.Induction → ⊥) → None ≡ method_among methods (word_object w)
other_word word.Axiom differs _ _ _ _ _ _ _ _ _ _ _ = absurd (differs refl)
other_word word.Theorem _ differs _ _ _ _ _ _ _ _ _ _ = absurd (differs refl)
other_word word.PropositionalSchema _ _ differs _ _ _ _ _ _ _ _ _ = absurd (differs refl)
other_word word.FunctionalEquality _ _ _ differs _ _ _ _ _ _ _ _ = absurd (differs refl)
other_word word.BetaReduction _ _ _ _ differs _ _ _ _ _ _ _ = absurd (differs refl)
other_word word.BaseEval _ _ _ _ _ differs _ _ _ _ _ _ = absurd (differs refl)
other_word word.Expansion _ _ _ _ _ _ differs _ _ _ _ _ = absurd (differs refl)
other_word word.Contraction _ _ _ _ _ _ _ differs _ _ _ _ = absurd (differs refl)
other_word word.Associativity _ _ _ _ _ _ _ _ differs _ _ _ = absurd (differs refl)
other_word word.Cut _ _ _ _ _ _ _ _ _ differs _ _ = absurd (differs refl)
other_word word.Instantiation _ _ _ _ _ _ _ _ _ _ differs _ = absurd (differs refl)
other_word word.Induction _ _ _ _ _ _ _ _ _ _ _ differs = absurd (differs refl)
other_word _ _ _ _ _ _ _ _ _ _ _ _ _ = refl

-- and so does what is no word
module _ (x : Object) (differ : (w : Word) → same_object x (word_object w) ≡ false) where
  further : (w : Word) (found rest : Option Method) → rest ≡ cond (same_object (word_object w) x) found rest
  further w found rest = ap (λ b. cond b found rest) (sym (same_object-swap (word_object w) x ∙ differ w))

  pub no_word : None ≡ method_among methods x
  no_word =
      further word.Induction (Some Induction) _ ∙ (further word.Instantiation (Some Instantiation) _ ∙ (further word.Cut (Some Cut) _ ∙ (further word.Associativity (Some Associativity) _ ∙ (further word.Contraction (Some Contraction) _ ∙ (further word.Expansion (Some Expansion) _ ∙ (further word.BaseEval (Some BaseEval) _ ∙ (further word.BetaReduction (Some BetaReduction) _ ∙ (further word.FunctionalEquality (Some FunctionalEquality) _ ∙ (further word.PropositionalSchema (Some PropositionalSchema) _ ∙ (further word.Theorem (Some Theorem) _ ∙ (further word.Axiom (Some Axiom) _)))))))))))
