-- One proof, or two, for a rule.
use Rattle.std.proofs.Common.{◌≡◌, ℕ, Bool, true, false, List, [], ◌∷◌, Option, Some, None, length, refl, sym, ap, ◌∙◌, subst}
use Rattle.mw_model.specs.Terms.Object.{Object, NIL, list1}
use Rattle.mw_model.specs.Terms.Term.{Formula}
use Rattle.mw_model.proofs.Rows.{of_one, of_two}
use Rattle.mw_commands.specs.Commands.Derivation.{Rule}
use Rattle.mw_commands.specs.Commands.DerivationTest.{derives}
use Rattle.mw_heap.specs.Objects.{object_at}
use Rattle.mw_heap.specs.Lists.{list_object}
use Rattle.mw_proof.specs.Judging.{Basis}
use Rattle.mw_lower.specs.Answers.{Answers, AnswersOne, AnswersTwo, AnswersAll, AnswersStep}
use Rattle.mw_lower.proofs.Premises.{Proofs, split, none_left}

module _ (os : List Object) where
  pub one : (r : Rule) (c : Object) (new : List Object) (o : Option ℕ) (ps : List ℕ) (p : ℕ) → ps ≡ p ∷ [] → AnswersOne r c (object_at os p) new o → AnswersAll r c (list_object os ps) new o
  one r c new o ps p e h b F Fs has i d hs =
      let s = split b (object_at os p) NIL Fs (subst (λ z. Proofs b (list_object os z) Fs) e hs) in
      let rest = none_left b NIL s.others refl s.prove in
      subst (λ Gs. Answers b r F Gs new o) (sym (s.is ∙ ap (λ z. s.first ∷ z) rest)) (h b F s.first has i d s.proves)

  pub two : (r : Rule) (c : Object) (new : List Object) (o : Option ℕ) (ps : List ℕ) (p q : ℕ) → ps ≡ p ∷ q ∷ [] → AnswersTwo r c (object_at os p) (object_at os q) new o → AnswersAll r c (list_object os ps) new o
  two r c new o ps p q e h b F Fs has i d hs =
      let s = split b (object_at os p) (list1 (object_at os q)) Fs (subst (λ z. Proofs b (list_object os z) Fs) e hs) in
      let t = split b (object_at os q) NIL s.others s.prove in
      let rest = none_left b NIL t.others refl t.prove in
      subst (λ Gs. Answers b r F Gs new o) (sym (s.is ∙ ap (λ z. s.first ∷ z) (t.is ∙ ap (λ z. t.first ∷ z) rest))) (h b F s.first t.first has i d s.proves t.proves)

  pub not_one : (test : Formula → Bool) (b : Basis) (ps : List ℕ) (Fs : List Formula) → (length ps ≡ 1 → ⊥) → Proofs b (list_object os ps) Fs → of_one test Fs ≡ false
  not_one test b [] Fs n hs = ap (of_one test) (none_left b NIL Fs refl hs)
  not_one test b (p ∷ []) Fs n hs = absurd (n refl)
  not_one test b (p ∷ q ∷ ps) Fs n hs =
      let s = split b (object_at os p) (list_object os (q ∷ ps)) Fs hs in
      let t = split b (object_at os q) (list_object os ps) s.others s.prove in
      ap (of_one test) (s.is ∙ ap (λ z. s.first ∷ z) t.is)

  pub not_two : (test : Formula → Formula → Bool) (b : Basis) (ps : List ℕ) (Fs : List Formula) → (length ps ≡ 2 → ⊥) → Proofs b (list_object os ps) Fs → of_two test Fs ≡ false
  not_two test b [] Fs n hs = ap (of_two test) (none_left b NIL Fs refl hs)
  not_two test b (p ∷ []) Fs n hs =
      let s = split b (object_at os p) NIL Fs hs in
      ap (of_two test) (s.is ∙ ap (λ z. s.first ∷ z) (none_left b NIL s.others refl s.prove))
  not_two test b (p ∷ q ∷ []) Fs n hs = absurd (n refl)
  not_two test b (p ∷ q ∷ r ∷ ps) Fs n hs =
      let s = split b (object_at os p) (list_object os (q ∷ r ∷ ps)) Fs hs in
      let t = split b (object_at os q) (list_object os (r ∷ ps)) s.others s.prove in
      let u = split b (object_at os r) (list_object os ps) t.others t.prove in
      ap (of_two test) (s.is ∙ ap (λ z. s.first ∷ z) (t.is ∙ ap (λ z. t.first ∷ z) u.is))

pub with_nil : (r : Rule) (c x ps : Object) (new : List Object) (o : Option ℕ) → x ≡ NIL → AnswersAll r c ps new o → AnswersStep r c x ps new o
with_nil r c x ps new None e h b F Fs has i d hs = subst (λ z. derives b.axioms b.theorems b.table b.profile r F Fs z ≡ false) (sym e) (h b F Fs has i d hs)
with_nil r c x ps new (Some q) e h b F Fs has i d hs = let k = h b F Fs has i d hs in (subst (λ z. derives b.axioms b.theorems b.table b.profile r F Fs z ≡ true) (sym e) k.0, k.1, k.2)
