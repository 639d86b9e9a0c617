-- What is meant by the conclusions of the premises in a heap.
use Rattle.std.proofs.Common.{◌≡◌, ℕ, zero, suc, List, [], ◌∷◌, map, Option, Some, None, All, refl, sym, ap, ◌∙◌, subst}
use Rattle.std.specs.Prelude.{slice_get}
use Rattle.std.proofs.lemmas.List.Elements.{All-head, All-tail}
use Rattle.mw_model.specs.Terms.Object.{Object}
use Rattle.mw_model.specs.Terms.Term.{ArityTable, Formula, IsFormula, formula_object}
use Rattle.mw_model.specs.Values.Truth.{Each}
use Rattle.mw_model.specs.Proofs.Proof.{Method, Axiom, Theorem, PropositionalSchema, FunctionalEquality, BetaReduction, BaseEval, Expansion, Contraction, Associativity, Cut, Instantiation, Induction}
use Rattle.mw_heap.specs.Objects.{object_at, IsIn}
use Rattle.mw_bad_steps.specs.Candidates.{IsCandidate, one_of, by_premises, cut_of}

pub nth_in : (os : List Object) (cs : List ℕ) (i a : ℕ) → All (IsIn os) cs → slice_get cs i ≡ Some a → IsIn os a
nth_in os [] i a h e = cc
nth_in os (c ∷ cs) zero a h e = let k : c ≡ a = cc e in subst (IsIn os) k (All-head (IsIn os) c cs h)
nth_in os (c ∷ cs) (suc i) a h e = nth_in os cs i a (All-tail (IsIn os) c cs h) e

module _ (os new : List Object) (F : Formula) (x : Object) where
  pub nothing_first : (m : Method) (cs : List ℕ) (Fs : List Formula) → slice_get cs 0 ≡ None → map (object_at os) cs ≡ map formula_object Fs → IsCandidate new (by_premises m F Fs x) None
  nothing_first m [] [] e d = tt
  nothing_first m [] (G ∷ Gs) e d = cc
  nothing_first m (c ∷ cs) Fs e d = cc

  one_by : (m : Method) (G : Formula) (Gs : List Formula) (o : Option ℕ) → (m ≡ Cut → ⊥) → IsCandidate new (one_of m F G x) o → IsCandidate new (by_premises m F (G ∷ Gs) x) o
  one_by Axiom G Gs o n h = h
  one_by Theorem G Gs o n h = h
  one_by PropositionalSchema G Gs o n h = h
  one_by FunctionalEquality G Gs o n h = h
  one_by BetaReduction G Gs o n h = h
  one_by BaseEval G Gs o n h = h
  one_by Expansion G Gs o n h = h
  one_by Contraction G Gs o n h = h
  one_by Associativity G Gs o n h = h
  one_by Cut G Gs o n h = absurd (n refl)
  one_by Instantiation G Gs o n h = h
  one_by Induction G Gs o n h = h

  pub from_first : (A : ArityTable) (m : Method) (cs : List ℕ) (Fs : List Formula) (a : ℕ) (o : Option ℕ) → (m ≡ Cut → ⊥) → slice_get cs 0 ≡ Some a → map (object_at os) cs ≡ map formula_object Fs → Each (IsFormula A) Fs → ((G : Formula) → IsFormula A G → object_at os a ≡ formula_object G → IsCandidate new (one_of m F G x) o) → IsCandidate new (by_premises m F Fs x) o
  from_first A m [] Fs a o n e d i h = cc
  from_first A m (c ∷ cs) [] a o n e d i h = cc
  from_first A m (c ∷ cs) (G ∷ Gs) a o n e d i h =
      let k : c ≡ a = cc e in
      let g : object_at os c ≡ formula_object G = cc d in
      one_by m G Gs o n (h G i.0 (ap (object_at os) (sym k) ∙ g))

  pub no_second : (cs : List ℕ) (Fs : List Formula) (a : ℕ) → slice_get cs 0 ≡ Some a → slice_get cs 1 ≡ None → map (object_at os) cs ≡ map formula_object Fs → IsCandidate new (by_premises Cut F Fs x) None
  no_second [] Fs a e n d = cc
  no_second (c ∷ []) [] a e n d = cc
  no_second (c ∷ []) (G ∷ []) a e n d = tt
  no_second (c ∷ []) (G ∷ H ∷ Gs) a e n d = cc
  no_second (c ∷ k ∷ cs) Fs a e n d = cc

  pub from_both : (cs : List ℕ) (Fs : List Formula) (a b : ℕ) (o : Option ℕ) → slice_get cs 0 ≡ Some a → slice_get cs 1 ≡ Some b → map (object_at os) cs ≡ map formula_object Fs → ((G H : Formula) → object_at os a ≡ formula_object G → object_at os b ≡ formula_object H → IsCandidate new (cut_of G H) o) → IsCandidate new (by_premises Cut F Fs x) o
  from_both [] Fs a b o e f d h = cc
  from_both (c ∷ []) Fs a b o e f d h = cc
  from_both (c ∷ k ∷ cs) [] a b o e f d h = cc
  from_both (c ∷ k ∷ cs) (G ∷ []) a b o e f d h = cc
  from_both (c ∷ k ∷ cs) (G ∷ H ∷ Gs) a b o e f d h =
      let p : c ≡ a = cc e in
      let q : k ≡ b = cc f in
      let g : object_at os c ≡ formula_object G = cc d in
      let l : object_at os k ≡ formula_object H = cc d in
      h G H (ap (object_at os) (sym p) ∙ g) (ap (object_at os) (sym q) ∙ l)
