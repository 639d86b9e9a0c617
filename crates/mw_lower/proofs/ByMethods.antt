-- Steps of proof by the methods that the rules of the table use, as objects.
use Rattle.std.proofs.Common.{List, [], ◌∷◌, refl}
use Rattle.std.proofs.lemmas.Bool.{and_parts, and_from}
use Rattle.mw_model.specs.Terms.Object.{Object, Symbol, Pair, named, symbol, NIL, list1, list2, list3, list4}
use Rattle.mw_model.specs.Terms.Term.{Term, Formula, Equal, Not, Or, term_object, formula_object, is_term, is_formula, IsTerm, IsFormula}
use Rattle.mw_model.specs.Terms.Substitution.{substitution_object}
use Rattle.mw_model.specs.Proofs.Proof.{four, Method, Axiom, PropositionalSchema, FunctionalEquality, Expansion, Contraction, Cut, Instantiation, method_name, Follows, by_axiom, by_schema, by_expansion, by_contraction, by_cut, by_instantiation, proof, ProveEach, no_proofs, more_proofs}
use Rattle.mw_model.specs.Proofs.Axioms.{axiom_1, axiom_2}
use Rattle.mw_model.proofs.Judging.{good_judge}
use Rattle.mw_proof.specs.Judging.{Basis}
use Rattle.mw_lower.specs.Proofs.{IsProof, HasEquality}

abbrev pub or_of : Object → Object → Object
or_of f g = list3 (symbol "POR*") f g

abbrev pub not_of : Object → Object
not_of f = list2 (symbol "PNOT*") f

abbrev pub equal_of : Object → Object → Object
equal_of a b = list3 (symbol "PEQUAL*") a b

abbrev pub step_of : Method → Object → Object → Object → Object
step_of m c ps x = list4 (Symbol (method_name m)) c ps x

abbrev pub schema_of : Object → Object
schema_of f = step_of PropositionalSchema (or_of (not_of f) f) NIL NIL

abbrev pub expansion_of : Object → Object → Object → Object
expansion_of f g p = step_of Expansion (or_of g f) (list1 p) NIL

abbrev pub contraction_of : Object → Object → Object
contraction_of f p = step_of Contraction f (list1 p) NIL

abbrev pub cut_of : Object → Object → Object → Object → Object
cut_of g h p q = step_of Cut (or_of g h) (list2 p q) NIL

abbrev pub commuted_of : Object → Object → Object → Object
commuted_of f g p = cut_of g f p (schema_of f)

abbrev pub detached_of : Object → Object → Object → Object → Object
detached_of f g p q = contraction_of g (cut_of g g (commuted_of g f (expansion_of f g p)) q)

abbrev pub functional_of : Object → Object
functional_of f = step_of FunctionalEquality f NIL NIL

abbrev pub axiom_of : Object → Object
axiom_of c = step_of Axiom c NIL NIL

abbrev pub reflexive_of : Object → Object
reflexive_of t = step_of Instantiation (equal_of t t) (list1 (axiom_of (formula_object axiom_1))) (list1 (Pair (Symbol (named "X")) t))

abbrev pub equals_formula : Object → Object → Object → Object → Object
equals_formula a b c d = or_of (not_of (equal_of a b)) (or_of (not_of (equal_of c d)) (or_of (not_of (equal_of a c)) (equal_of b d)))

abbrev pub equals_of : Object → Object → Object → Object → Object
equals_of a b c d =
    step_of Instantiation (equals_formula a b c d) (list1 (axiom_of (formula_object axiom_2))) (list4 (Pair (Symbol (named "X1")) a) (Pair (Symbol (named "Y1")) b) (Pair (Symbol (named "X2")) c) (Pair (Symbol (named "Y2")) d))

module _ (b : Basis) where
  abbrev Each : Object → List Formula → Type 0
  Each ps Fs = ProveEach b.axioms b.theorems b.table b.profile ps Fs

  pub formed : (x : Object) (F : Formula) → IsProof b x F → IsFormula b.table F
  formed x F p = (good_judge b.axioms b.theorems b.table b.profile x F p).0

  pub step : (m : Method) (F : Formula) (Fs : List Formula) (ps x : Object) → Follows b.axioms b.theorems b.table b.profile m F Fs x → IsFormula b.table F → Each ps Fs → IsProof b (step_of m (formula_object F) ps x) F
  step m F Fs ps x row i each = proof (step_of m (formula_object F) ps x) ps x m F Fs (four (Symbol (method_name m)) (formula_object F) ps x) i each row

  one : (p : Object) (F : Formula) → IsProof b p F → Each (list1 p) (F ∷ [])
  one p F h = more_proofs p NIL F [] h no_proofs

  two : (p q : Object) (F G : Formula) → IsProof b p F → IsProof b q G → Each (list2 p q) (F ∷ G ∷ [])
  two p q F G h k = more_proofs p (list1 q) F (G ∷ []) h (one q G k)

  pub or_formed : (F G : Formula) → IsFormula b.table (Or F G) → IsFormula b.table F × IsFormula b.table G
  or_formed F G h = and_parts (is_formula b.table F) (is_formula b.table G) h

  schema : (F : Formula) → IsFormula b.table F → IsProof b (schema_of (formula_object F)) (Or (Not F) F)
  schema F i = step PropositionalSchema (Or (Not F) F) [] NIL NIL (by_schema F) (and_from _ _ i i) no_proofs

  expanded : (F G : Formula) (p : Object) → IsFormula b.table G → IsProof b p F → IsProof b (expansion_of (formula_object F) (formula_object G) p) (Or G F)
  expanded F G p i h = step Expansion (Or G F) (F ∷ []) (list1 p) NIL (by_expansion F G) (and_from _ _ i (formed p F h)) (one p F h)

  contracted : (F : Formula) (p : Object) → IsProof b p (Or F F) → IsProof b (contraction_of (formula_object F) p) F
  contracted F p h = step Contraction F (Or F F ∷ []) (list1 p) NIL (by_contraction F) (or_formed F F (formed p (Or F F) h)).0 (one p (Or F F) h)

  cut : (F G K : Formula) (p q : Object) → IsProof b p (Or F G) → IsProof b q (Or (Not F) K) → IsProof b (cut_of (formula_object G) (formula_object K) p q) (Or G K)
  cut F G K p q h k =
      step Cut (Or G K) (Or F G ∷ Or (Not F) K ∷ []) (list2 p q) NIL (by_cut F G K)
      (and_from _ _ (or_formed F G (formed p (Or F G) h)).1 (or_formed (Not F) K (formed q (Or (Not F) K) k)).1)
      (two p q (Or F G) (Or (Not F) K) h k)

  pub commuted : (F G : Formula) (p : Object) → IsProof b p (Or F G) → IsProof b (commuted_of (formula_object F) (formula_object G) p) (Or G F)
  commuted F G p h = cut F G F p (schema_of (formula_object F)) h (schema F (or_formed F G (formed p (Or F G) h)).0)

  pub detached : (F G : Formula) (p q : Object) → IsProof b p F → IsProof b q (Or (Not F) G) → IsProof b (detached_of (formula_object F) (formula_object G) p q) G
  detached F G p q h k =
      let i = (or_formed (Not F) G (formed q (Or (Not F) G) k)).1 in
      let f = formula_object F in
      let g = formula_object G in
      contracted G (cut_of g g (commuted_of g f (expansion_of f g p)) q)
      (cut F G G (commuted_of g f (expansion_of f g p)) q (commuted G F (expansion_of f g p) (expanded F G p i h)) k)

  pub sides_formed : (a c : Term) → IsFormula b.table (Equal a c) → IsTerm b.table a × IsTerm b.table c
  sides_formed a c h = and_parts (is_term b.table a) (is_term b.table c) h

  module _ (has : HasEquality b) where
    pub reflexive : (t : Term) → IsTerm b.table t → IsProof b (reflexive_of (term_object t)) (Equal t t)
    reflexive t i =
        step Instantiation (Equal t t) (axiom_1 ∷ []) (list1 (axiom_of (formula_object axiom_1))) (substitution_object ((named "X", t) ∷ [])) (by_instantiation axiom_1 ((named "X", t) ∷ []) (and_from _ _ i refl)) (and_from _ _ i i)
        (one (axiom_of (formula_object axiom_1)) axiom_1 (step Axiom axiom_1 [] NIL NIL (by_axiom axiom_1 has.0) refl no_proofs))

    abbrev pub instance : Term → Term → Term → Term → Formula
    instance t u v w = Or (Not (Equal t u)) (Or (Not (Equal v w)) (Or (Not (Equal t v)) (Equal u w)))

    pub equals : (t u v w : Term) → IsTerm b.table t → IsTerm b.table u → IsTerm b.table v → IsTerm b.table w → IsProof b (equals_of (term_object t) (term_object u) (term_object v) (term_object w)) (instance t u v w)
    equals t u v w i j k l =
        let s = (named "X1", t) ∷ (named "Y1", u) ∷ (named "X2", v) ∷ (named "Y2", w) ∷ [] in
        step Instantiation (instance t u v w) (axiom_2 ∷ []) (list1 (axiom_of (formula_object axiom_2))) (substitution_object s)
        (by_instantiation axiom_2 s (and_from _ _ i (and_from _ _ j (and_from _ _ k (and_from _ _ l refl)))))
        (and_from _ _ (and_from _ _ i j) (and_from _ _ (and_from _ _ k l) (and_from _ _ (and_from _ _ i k) (and_from _ _ j l))))
        (one (axiom_of (formula_object axiom_2)) axiom_2 (step Axiom axiom_2 [] NIL NIL (by_axiom axiom_2 has.1) refl no_proofs))
