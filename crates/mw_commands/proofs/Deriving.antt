-- The test of derivations answers exactly the relation. A proof is a derivation.
use Rattle.std.proofs.Common.{◌≡◌, Bool, true, false, ◌&&◌, eqb, cond, List, [], ◌∷◌, Option, Some, None, refl, sym, ap, ap₂, ◌∙◌, subst, eq-eqb, eqb-true, ◌↔◌}
use Rattle.std.proofs.lemmas.Bool.{and_parts, and_from}
use Rattle.mw_model.specs.Terms.Object.{Object, Natural, Symbol, Pair, same_name, same_object, nil_name, NIL, list2, list3, list4}
use Rattle.mw_model.specs.Terms.Term.{If, Call, Formula, Equal, Not, Or, formula_object, count, ArityTable, is_function_name, is_formula, IsFormula}
use Rattle.mw_model.specs.Terms.Reading.{and_more, if_nil, when, formula_of}
use Rattle.mw_model.specs.Terms.Same.{same_term, same_formula, same_formulas}
use Rattle.mw_model.specs.Values.Primitive.{Profile}
use Rattle.mw_model.specs.Values.Truth.{Each}
use Rattle.mw_model.specs.Proofs.Proof.{HasMembers, two, three, four, Axiom, Theorem, PropositionalSchema, FunctionalEquality, BetaReduction, BaseEval, Expansion, Contraction, Associativity, Cut, Instantiation, Induction, three_terms, Proves, proof, ProveEach, no_proofs, more_proofs}
use Rattle.mw_model.proofs.Rows.{of_one, of_two}
use Rattle.mw_model.proofs.Names.{same_name-eq, same_name-refl, same_object-eq}
use Rattle.mw_model.proofs.SameTerms.{same_term-eq, same_formula-eq, same_term-refl, same_formula-refl}
use Rattle.mw_model.proofs.Read.{formula_read}
use Rattle.mw_model.proofs.ReadBack.{some_one, cond_some, nil_is, and_more-back, when_some, formula_back}
use Rattle.mw_model.proofs.Follows.{row_is}
use Rattle.mw_model.proofs.Judging.{row_holds}
use Rattle.mw_commands.specs.Commands.Derivation.{Rule, By, CommuteOr, ModusPonens, Symmetry, Transitivity, Replace, rule_name, equalities, Derives, by_method, by_commuting, by_modus_ponens, by_symmetry, by_transitivity, by_replacing, by_replacing_if, IsDerivation, derivation, AreDerivations, no_derivations, more_derivations}
use Rattle.mw_commands.proofs.RuleRows.{commute-row, detach-row, symmetry-row, chain-row}
use Rattle.mw_commands.specs.Commands.DerivationTest.{rules, rule_among, is_commuted, is_detached, is_turned, is_chained, is_replaced, derives, derive_step, derive, derive_each}

same_formulas-eq : (Fs Gs : List Formula) → same_formulas Fs Gs ≡ true → Fs ≡ Gs
same_formulas-eq [] [] h = refl
same_formulas-eq (F ∷ Fs) (G ∷ Gs) h = let p = and_parts (same_formula F G) (same_formulas Fs Gs) h in ap₂ ◌∷◌ (same_formula-eq F G p.0) (same_formulas-eq Fs Gs p.1)
same_formulas-eq [] (G ∷ Gs) h = cc
same_formulas-eq (F ∷ Fs) [] h = cc

same_formulas-refl : (Fs : List Formula) → same_formulas Fs Fs ≡ true
same_formulas-refl [] = refl
same_formulas-refl (F ∷ Fs) = and_from (same_formula F F) (same_formulas Fs Fs) (same_formula-refl F) (same_formulas-refl Fs)

-- names of rules
rule_among-name : (rs : List Rule) (x : Object) (r : Rule) → rule_among rs x ≡ Some r → Symbol (rule_name r) ≡ x
rule_among-name [] x r h = cc
rule_among-name (n ∷ rs) x r h = go (same_object (Symbol (rule_name n)) x) refl h (rule_among-name rs x r)
  where
    go : (t : Bool) → same_object (Symbol (rule_name n)) x ≡ t → cond t (Some n) (rule_among rs x) ≡ Some r → (rule_among rs x ≡ Some r → Symbol (rule_name r) ≡ x) → Symbol (rule_name r) ≡ x
    go true e k ih = let q : n ≡ r = some_one k in ap (λ z. Symbol (rule_name z)) (sym q) ∙ same_object-eq (Symbol (rule_name n)) x e
    go false e k ih = ih k

rule_back : (r : Rule) → rule_among rules (Symbol (rule_name r)) ≡ Some r
rule_back (By Axiom) = refl
rule_back (By Theorem) = refl
rule_back (By PropositionalSchema) = refl
rule_back (By FunctionalEquality) = refl
rule_back (By BetaReduction) = refl
rule_back (By BaseEval) = refl
rule_back (By Expansion) = refl
rule_back (By Contraction) = refl
rule_back (By Associativity) = refl
rule_back (By Cut) = refl
rule_back (By Instantiation) = refl
rule_back (By Induction) = refl
rule_back CommuteOr = refl
rule_back ModusPonens = refl
rule_back Symmetry = refl
rule_back Transitivity = refl
rule_back Replace = refl

module _ (ax th : Object) (A : ArityTable) (P : Profile) where
  abbrev Is : Rule → Formula → List Formula → Object → Type 0
  Is r F Fs x = Derives ax th A P r F Fs x

  -- from the tests to the rows
  one : (r : Rule) (F : Formula) (Fs : List Formula) (x : Object) (b : Formula → Bool) → ((G : Formula) → b G ≡ true → Is r F (G ∷ []) NIL) → (same_object x NIL && of_one b Fs) ≡ true → Is r F Fs x
  one r F [] x b f h = absurd (cc (and_parts (same_object x NIL) false h).1)
  one r F (G ∷ []) x b f h = let p = and_parts (same_object x NIL) (b G) h in subst (λ z. Is r F (G ∷ []) z) (sym (same_object-eq x NIL p.0)) (f G p.1)
  one r F (G ∷ H ∷ Gs) x b f h = absurd (cc (and_parts (same_object x NIL) false h).1)

  two_of : (r : Rule) (F : Formula) (Fs : List Formula) (x : Object) (b : Formula → Formula → Bool) → ((G H : Formula) → b G H ≡ true → Is r F (G ∷ H ∷ []) NIL) → (same_object x NIL && of_two b Fs) ≡ true → Is r F Fs x
  two_of r F [] x b f h = absurd (cc (and_parts (same_object x NIL) false h).1)
  two_of r F (G ∷ []) x b f h = absurd (cc (and_parts (same_object x NIL) false h).1)
  two_of r F (G ∷ H ∷ []) x b f h = let p = and_parts (same_object x NIL) (b G H) h in subst (λ z. Is r F (G ∷ H ∷ []) z) (sym (same_object-eq x NIL p.0)) (f G H p.1)
  two_of r F (G ∷ H ∷ K ∷ Gs) x b f h = absurd (cc (and_parts (same_object x NIL) false h).1)

  commuted_is : (F G : Formula) → is_commuted F G ≡ true → Is CommuteOr F (G ∷ []) NIL
  commuted_is F (Or G H) h = subst (λ z. Is CommuteOr z (Or G H ∷ []) NIL) (sym (same_formula-eq F (Or H G) h)) (by_commuting G H)
  commuted_is F (Equal a b) h = cc
  commuted_is F (Not G) h = cc

  detached_is : (F G H : Formula) → is_detached F G H ≡ true → Is ModusPonens F (G ∷ H ∷ []) NIL
  detached_is F G H h = subst (λ z. Is ModusPonens F (G ∷ z ∷ []) NIL) (sym (same_formula-eq H (Or (Not G) F) h)) (by_modus_ponens G F)

  turned_is : (F G : Formula) → is_turned F G ≡ true → Is Symmetry F (G ∷ []) NIL
  turned_is F (Equal a b) h = subst (λ z. Is Symmetry z (Equal a b ∷ []) NIL) (sym (same_formula-eq F (Equal b a) h)) (by_symmetry a b)
  turned_is F (Not G) h = cc
  turned_is F (Or G H) h = cc

  chained_is : (F G H : Formula) → is_chained F G H ≡ true → Is Transitivity F (G ∷ H ∷ []) NIL
  chained_is F (Equal a b) (Equal c d) h =
      let p = and_parts (same_term b c) (same_formula F (Equal a d)) h in
      subst (λ z. Is Transitivity z (Equal a b ∷ Equal c d ∷ []) NIL) (sym (same_formula-eq F (Equal a d) p.1))
      (subst (λ z. Is Transitivity (Equal a d) (Equal a b ∷ Equal z d ∷ []) NIL) (same_term-eq b c p.0) (by_transitivity a b d))
  chained_is F (Equal a b) (Not H) h = cc
  chained_is F (Equal a b) (Or G H) h = cc
  chained_is F (Not G) H h = cc
  chained_is F (Or G K) H h = cc

  replaced_is : (F : Formula) (Fs : List Formula) → is_replaced F Fs ≡ true → Is Replace F Fs NIL
  replaced_is (Equal (Call f ts) (Call g us)) Fs h =
      let o = and_parts (is_function_name f) (same_name f g && (eqb (count ts) (count us) && same_formulas Fs (equalities ts us))) h in
      let p = and_parts (same_name f g) (eqb (count ts) (count us) && same_formulas Fs (equalities ts us)) o.1 in
      let q = and_parts (eqb (count ts) (count us)) (same_formulas Fs (equalities ts us)) p.1 in
      subst (λ z. Is Replace (Equal (Call f ts) (Call g us)) z NIL) (sym (same_formulas-eq Fs (equalities ts us) q.1))
      (subst (λ z. Is Replace (Equal (Call f ts) (Call z us)) (equalities ts us) NIL) (same_name-eq f g p.0) (by_replacing f ts us o.0 (eqb-true (count ts) (count us) q.0)))
  replaced_is (Equal (If a b c) (If d e f)) Fs h =
      subst (λ z. Is Replace (Equal (If a b c) (If d e f)) z NIL) (sym (same_formulas-eq Fs (equalities (three_terms a b c) (three_terms d e f)) h)) (by_replacing_if a b c d e f)
  replaced_is (Equal _ _) Fs h = cc
  replaced_is (Not F) Fs h = cc
  replaced_is (Or F G) Fs h = cc

  pub row_derives : (r : Rule) (F : Formula) (Fs : List Formula) (x : Object) → derives ax th A P r F Fs x ≡ true → Is r F Fs x
  row_derives (By m) F Fs x h = by_method m F Fs x (row_is ax th A P m F Fs x h)
  row_derives CommuteOr F Fs x h = one CommuteOr F Fs x (is_commuted F) (commuted_is F) (sym (commute-row ax th A P F Fs x) ∙ h)
  row_derives ModusPonens F Fs x h = two_of ModusPonens F Fs x (is_detached F) (detached_is F) (sym (detach-row ax th A P F Fs x) ∙ h)
  row_derives Symmetry F Fs x h = one Symmetry F Fs x (is_turned F) (turned_is F) (sym (symmetry-row ax th A P F Fs x) ∙ h)
  row_derives Transitivity F Fs x h = two_of Transitivity F Fs x (is_chained F) (chained_is F) (sym (chain-row ax th A P F Fs x) ∙ h)
  row_derives Replace F Fs x h =
      let p = and_parts (same_object x NIL) (is_replaced F Fs) h in subst (λ z. Is Replace F Fs z) (sym (same_object-eq x NIL p.0)) (replaced_is F Fs p.1)

  -- and back
  pub derives_row : (r : Rule) (F : Formula) (Fs : List Formula) (x : Object) → Is r F Fs x → IsFormula A F → Each (IsFormula A) Fs → derives ax th A P r F Fs x ≡ true
  derives_row r F Fs x (by_method m G Gs y k) i j = row_holds ax th A P m G Gs y k i j
  derives_row r F Fs x (by_commuting G H) i j = same_formula-refl (Or H G)
  derives_row r F Fs x (by_modus_ponens G H) i j = same_formula-refl (Or (Not G) H)
  derives_row r F Fs x (by_symmetry a b) i j = same_formula-refl (Equal b a)
  derives_row r F Fs x (by_transitivity a b c) i j = and_from (same_term b b) (same_formula (Equal a c) (Equal a c)) (same_term-refl b) (same_formula-refl (Equal a c))
  derives_row r F Fs x (by_replacing f ts us g n) i j =
      and_from _ _ g (and_from _ _ (same_name-refl f) (and_from _ _ (eq-eqb (count ts) (count us) n) (same_formulas-refl (equalities ts us))))
  derives_row r F Fs x (by_replacing_if a b c d e f) i j = same_formulas-refl (equalities (three_terms a b c) (three_terms d e f))

  record Step (or : Option Rule) (oF : Option Formula) (oFs : Option (List Formula)) (ox : Option Object) (F : Formula) : Type 0 where
    r : Rule
    Fs : List Formula
    x : Object
    is_r : or ≡ Some r
    is_F : oF ≡ Some F
    is_Fs : oFs ≡ Some Fs
    is_x : ox ≡ Some x
    formula : IsFormula A F
    row : derives ax th A P r F Fs x ≡ true

  step_back : (or : Option Rule) (oF : Option Formula) (oFs : Option (List Formula)) (ox : Option Object) (F : Formula) → derive_step ax th A P or oF oFs ox ≡ Some F → Step or oF oFs ox F
  step_back None oF oFs ox F h = cc
  step_back (Some r) None oFs ox F h = cc
  step_back (Some r) (Some G) None ox F h = cc
  step_back (Some r) (Some G) (Some Fs) None F h = cc
  step_back (Some r) (Some G) (Some Fs) (Some x) F h =
      let p = when_some (is_formula A G && derives ax th A P r G Fs x) (Some G) F h in
      let q = and_parts (is_formula A G) (derives ax th A P r G Fs x) p.0 in
      subst (λ H. Step (Some r) (Some G) (Some Fs) (Some x) H) (some_one p.1)
      (record { r = r; Fs = Fs; x = x; is_r = refl; is_F = refl; is_Fs = refl; is_x = refl; formula = q.0; row = q.1 })

  make : (p m c ps x : Object) (F : Formula) (oFs : Option (List Formula)) (ox : Option Object) → HasMembers p m c ps x → ox ≡ Some x → Step (rule_among rules m) (formula_of c) oFs ox F → ((Fs : List Formula) → oFs ≡ Some Fs → AreDerivations ax th A P ps Fs) → IsDerivation ax th A P p F
  make p m c ps x F oFs ox mem e s gs =
      let x_is : x ≡ s.x = some_one (sym e ∙ s.is_x) in
      derivation p ps x s.r F s.Fs
      (subst (λ z. HasMembers p z (formula_object F) ps x) (sym (rule_among-name rules m s.r s.is_r)) (subst (λ z. HasMembers p m z ps x) (sym (formula_back c F s.is_F)) mem))
      s.formula (gs s.Fs s.is_Fs) (row_derives s.r F s.Fs x (subst (λ z. derives ax th A P s.r F s.Fs z ≡ true) (sym x_is) s.row))

  nothing_derived : (Fs : List Formula) → Some [] ≡ Some Fs → AreDerivations ax th A P NIL Fs
  nothing_derived Fs e = let q : [] ≡ Fs = some_one e in subst (λ z. AreDerivations ax th A P NIL z) q no_derivations

  mutual
    pub derive_good : (p : Object) (F : Formula) → derive ax th A P p ≡ Some F → IsDerivation ax th A P p F
    derive_good (Pair m (Pair c (Pair ps (Pair x z)))) F h =
        let s = step_back (rule_among rules m) (formula_of c) (derive_each ax th A P ps) (when (same_object z NIL) (Some x)) F h in
        let k = when_some (same_object z NIL) (Some x) s.x s.is_x in
        subst (λ y. IsDerivation ax th A P (Pair m (Pair c (Pair ps (Pair x y)))) F) (sym (same_object-eq z NIL k.0))
        (make (list4 m c ps x) m c ps x F (derive_each ax th A P ps) (when (same_object z NIL) (Some x)) (four m c ps x) (ap (λ b. when b (Some x)) k.0) s (derives_good ps))
    derive_good (Pair m (Pair c (Pair ps (Symbol n)))) F h =
        let s = step_back (rule_among rules m) (formula_of c) (derive_each ax th A P ps) (if_nil n NIL) F h in
        let k = cond_some (same_name n nil_name) (Some NIL) s.x s.is_x in
        subst (λ y. IsDerivation ax th A P (Pair m (Pair c (Pair ps y))) F) (nil_is n k.0)
        (make (list3 m c ps) m c ps NIL F (derive_each ax th A P ps) (if_nil n NIL) (three m c ps) (ap (λ b. cond b (Some NIL) None) k.0) s (derives_good ps))
    derive_good (Pair m (Pair c (Pair ps (Natural n)))) F h =
        let s = step_back (rule_among rules m) (formula_of c) (derive_each ax th A P ps) None F h in absurd (cc s.is_x)
    derive_good (Pair m (Pair c (Symbol n))) F h =
        let s = step_back (rule_among rules m) (formula_of c) (Some []) (if_nil n NIL) F h in
        let k = cond_some (same_name n nil_name) (Some NIL) s.x s.is_x in
        subst (λ y. IsDerivation ax th A P (Pair m (Pair c y)) F) (nil_is n k.0)
        (make (list2 m c) m c NIL NIL F (Some []) (if_nil n NIL) (two m c) (ap (λ b. cond b (Some NIL) None) k.0) s nothing_derived)
    derive_good (Pair m (Pair c (Natural n))) F h = cc
    derive_good (Pair m (Natural n)) F h = cc
    derive_good (Pair m (Symbol n)) F h = cc
    derive_good (Natural n) F h = cc
    derive_good (Symbol n) F h = cc

    pub derives_good : (ps : Object) (Fs : List Formula) → derive_each ax th A P ps ≡ Some Fs → AreDerivations ax th A P ps Fs
    derives_good (Pair p ps) Fs h =
        let q = and_more-back (derive ax th A P p) (derive_each ax th A P ps) Fs h in
        subst (λ z. AreDerivations ax th A P (Pair p ps) z) (sym q.4) (more_derivations p ps q.0 q.1 (derive_good p q.0 q.2) (derives_good ps q.1 q.3))
    derives_good (Symbol s) Fs h =
        let q = cond_some (same_name s nil_name) (Some []) Fs h in
        subst (λ z. AreDerivations ax th A P z Fs) (nil_is s q.0) (nothing_derived Fs q.1)
    derives_good (Natural n) Fs h = cc

  abbrev Holds : Rule → Formula → List Formula → Object → Type 0
  Holds r F Fs x = derives ax th A P r F Fs x ≡ true

  step_holds : (r : Rule) (F : Formula) (oFs : Option (List Formula)) (Fs : List Formula) (x : Object) → oFs ≡ Some Fs → IsFormula A F → Holds r F Fs x → derive_step ax th A P (rule_among rules (Symbol (rule_name r))) (formula_of (formula_object F)) oFs (Some x) ≡ Some F
  step_holds r F oFs Fs x e i h =
      ap₂ (λ y z. derive_step ax th A P y z oFs (Some x)) (rule_back r) (formula_read A F i)
      ∙ (ap (λ z. derive_step ax th A P (Some r) (Some F) z (Some x)) e ∙ ap (λ t. when t (Some F)) (and_from _ _ i h))

  members_derive : (p : Object) (r : Rule) (ps x : Object) (F : Formula) (Fs : List Formula) (c mo : Object) → mo ≡ Symbol (rule_name r) → c ≡ formula_object F → HasMembers p mo c ps x → derive_each ax th A P ps ≡ Some Fs → IsFormula A F → Holds r F Fs x → derive ax th A P p ≡ Some F
  members_derive p r ps x F Fs c mo e e' (two a b) js i h =
      ap₂ (λ y z. derive_step ax th A P (rule_among rules y) (formula_of z) (Some []) (Some NIL)) e e' ∙ step_holds r F (Some []) Fs NIL js i h
  members_derive p r ps x F Fs c mo e e' (three a b qs) js i h =
      ap₂ (λ y z. derive_step ax th A P (rule_among rules y) (formula_of z) (derive_each ax th A P qs) (Some NIL)) e e' ∙ step_holds r F (derive_each ax th A P qs) Fs NIL js i h
  members_derive p r ps x F Fs c mo e e' (four a b qs y) js i h =
      ap₂ (λ u v. derive_step ax th A P (rule_among rules u) (formula_of v) (derive_each ax th A P qs) (Some y)) e e' ∙ step_holds r F (derive_each ax th A P qs) Fs y js i h

  mutual
    pub good_derive : (p : Object) (F : Formula) → IsDerivation ax th A P p F → IsFormula A F × (derive ax th A P p ≡ Some F)
    good_derive p F (derivation q ps x r G Fs mem i gs row) =
        let js = goods_derive ps Fs gs in
        (i, members_derive q r ps x G Fs (formula_object G) (Symbol (rule_name r)) refl refl mem js.1 i (derives_row r G Fs x row i js.0))

    pub goods_derive : (ps : Object) (Fs : List Formula) → AreDerivations ax th A P ps Fs → Each (IsFormula A) Fs × (derive_each ax th A P ps ≡ Some Fs)
    goods_derive ps Fs no_derivations = (tt, refl)
    goods_derive ps Fs (more_derivations p qs F Gs g gs) =
        let j = good_derive p F g in
        let js = goods_derive qs Gs gs in
        ((j.0, js.0), ap₂ and_more j.1 js.1)

  -- the test decides the relation
  pub derive_exact : (p : Object) (F : Formula) → (derive ax th A P p ≡ Some F) ↔ IsDerivation ax th A P p F
  derive_exact p F = (derive_good p F, λ g. (good_derive p F g).1)

  -- a proof is a derivation
  mutual
    pub proof_derives : (p : Object) (F : Formula) → Proves ax th A P p F → IsDerivation ax th A P p F
    proof_derives p F (proof q ps x m G Fs mem i gs row) = derivation q ps x (By m) G Fs mem i (proofs_derive ps Fs gs) (by_method m G Fs x row)

    proofs_derive : (ps : Object) (Fs : List Formula) → ProveEach ax th A P ps Fs → AreDerivations ax th A P ps Fs
    proofs_derive ps Fs no_proofs = no_derivations
    proofs_derive ps Fs (more_proofs p qs F Gs g gs) = more_derivations p qs F Gs (proof_derives p F g) (proofs_derive qs Gs gs)
