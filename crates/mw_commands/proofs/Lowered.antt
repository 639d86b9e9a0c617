-- Each derivation turns to a proof, where the axioms have the first two: x = x, and that equals may be put for equals in an equation.
use Rattle.std.proofs.Common.{◌≡◌, false, List, [], ◌∷◌, Option, Some, None, refl, sym, ◌∙◌, subst}
use Rattle.std.proofs.lemmas.Bool.{and_parts, and_from}
use Rattle.mw_model.specs.Terms.Object.{Object, Symbol, Pair, named, NIL, list1, list2, list3, list4, Member}
use Rattle.mw_model.specs.Terms.Term.{Term, Terms, If, Call, NoTerms, More, Formula, Equal, Not, Or, term_object, formula_object, ArityTable, is_term, is_formula, IsTerm, IsFormula}
use Rattle.mw_model.specs.Terms.Substitution.{substitution_object}
use Rattle.mw_model.specs.Values.Primitive.{Profile}
use Rattle.mw_model.specs.Values.Truth.{Each}
use Rattle.mw_model.specs.Proofs.Proof.{HasMembers, two, three, four, Method, Axiom, PropositionalSchema, FunctionalEquality, Expansion, Contraction, Cut, Instantiation, method_name, unless_equal, three_terms, Follows, by_axiom, by_schema, by_equality, by_if_equality, by_expansion, by_contraction, by_cut, by_instantiation, Proves, proof, ProveEach, no_proofs, more_proofs}
use Rattle.mw_model.specs.Proofs.Judgment.{judge}
use Rattle.mw_model.specs.Proofs.Axioms.{axiom_1, axiom_2}
use Rattle.mw_model.specs.Events.Fate.{is_out_of_range}
use Rattle.mw_model.proofs.Judging.{judge_good, good_judge}
use Rattle.mw_commands.specs.Commands.Derivation.{Rule, rule_name, equalities, Derives, by_method, by_commuting, by_modus_ponens, by_symmetry, by_transitivity, by_replacing, by_replacing_if, IsDerivation, derivation, AreDerivations, no_derivations, more_derivations, Turns}
use Rattle.mw_commands.proofs.Deriving.{proof_derives}
use Rattle.mw_commands.proofs.Logs.{car_in_range, cdr_in_range, second_in_range, third_in_range, fourth_in_range, pair_in_range}
use Rattle.mw_commands.proofs.LogAccepted.{conclusion_is}

-- the object of a formula, of a term, holds no natural past the range
abbrev Fits : Formula → Type 0
Fits F = is_out_of_range (formula_object F) ≡ false

abbrev TermFits : Term → Type 0
TermFits t = is_out_of_range (term_object t) ≡ false

or_fits : (F G : Formula) → Fits F → Fits G → Fits (Or F G)
or_fits F G f g = pair_in_range (formula_object F) (list1 (formula_object G)) f (pair_in_range (formula_object G) NIL g refl)

not_fits : (F : Formula) → Fits F → Fits (Not F)
not_fits F f = pair_in_range (formula_object F) NIL f refl

equal_fits : (a b : Term) → TermFits a → TermFits b → Fits (Equal a b)
equal_fits a b f g = pair_in_range (term_object a) (list1 (term_object b)) f (pair_in_range (term_object b) NIL g refl)

or_parts_fit : (F G : Formula) → Fits (Or F G) → Fits F × Fits G
or_parts_fit F G h =
    (second_in_range (formula_object (Or F G)) h, third_in_range (formula_object (Or F G)) h)

not_part_fits : (F : Formula) → Fits (Not F) → Fits F
not_part_fits F h = second_in_range (formula_object (Not F)) h

equal_parts_fit : (a b : Term) → Fits (Equal a b) → TermFits a × TermFits b
equal_parts_fit a b h = (second_in_range (formula_object (Equal a b)) h, third_in_range (formula_object (Equal a b)) h)

members_in_range : (p m c ps x : Object) → HasMembers p m c ps x → is_out_of_range p ≡ false → (is_out_of_range c ≡ false) × (is_out_of_range ps ≡ false) × (is_out_of_range x ≡ false)
members_in_range p m c ps x (two a b) h = (second_in_range (list2 a b) h, refl, refl)
members_in_range p m c ps x (three a b d) h = (second_in_range (list3 a b d) h, third_in_range (list3 a b d) h, refl)
members_in_range p m c ps x (four a b d y) h = (second_in_range (list4 a b d y) h, third_in_range (list4 a b d y) h, fourth_in_range (list4 a b d y) h)

bindings_fit : (a b c d : Term) → TermFits a → TermFits b → TermFits c → TermFits d → is_out_of_range (substitution_object ((named "X1", a) ∷ (named "Y1", b) ∷ (named "X2", c) ∷ (named "Y2", d) ∷ [])) ≡ false
bindings_fit a b c d f g h k =
    pair_in_range (Pair (Symbol (named "X1")) (term_object a)) (substitution_object ((named "Y1", b) ∷ (named "X2", c) ∷ (named "Y2", d) ∷ [])) f
    (pair_in_range (Pair (Symbol (named "Y1")) (term_object b)) (substitution_object ((named "X2", c) ∷ (named "Y2", d) ∷ [])) g
    (pair_in_range (Pair (Symbol (named "X2")) (term_object c)) (substitution_object ((named "Y2", d) ∷ [])) h (pair_in_range (Pair (Symbol (named "Y2")) (term_object d)) NIL k refl)))

-- Proofs that are made of proofs. Under the hypothesis H they hold no natural past the range.
module _ (ax th : Object) (A : ArityTable) (P : Profile) (first_there : Member (formula_object axiom_1) ax) (second_there : Member (formula_object axiom_2) ax) (H : Type 0) where
  pub record Holds (F : Formula) : Type 0 where
    pub witness : Object
    pub proves : Proves ax th A P witness F
    pub in_range : H → is_out_of_range witness ≡ false

  formed : (F : Formula) → Holds F → IsFormula A F
  formed F p = (good_judge ax th A P p.witness F p.proves).0

  fits : (F : Formula) → Holds F → H → Fits F
  fits F p h = subst (λ x. is_out_of_range x ≡ false) (conclusion_is ax th A P p.witness F p.proves) (second_in_range p.witness (p.in_range h))

  record Gathered (Fs : List Formula) : Type 0 where
    list : Object
    each : ProveEach ax th A P list Fs
    in_range : H → is_out_of_range list ≡ false

  gather : (Fs : List Formula) → Each Holds Fs → Gathered Fs
  gather [] h = record { list = NIL; each = no_proofs; in_range = λ k. refl }
  gather (F ∷ Fs) h =
      let g = gather Fs h.1 in
      record { list = Pair h.0.witness g.list; each = more_proofs h.0.witness g.list F Fs h.0.proves g.each; in_range = λ k. pair_in_range h.0.witness g.list (h.0.in_range k) (g.in_range k) }

  step : (m : Method) (F : Formula) (Fs : List Formula) (x : Object) → Follows ax th A P m F Fs x → IsFormula A F → (H → Fits F) → (H → is_out_of_range x ≡ false) → Each Holds Fs → Holds F
  step m F Fs x row i f e hs =
      let g = gather Fs hs in
      let whole = list4 (Symbol (method_name m)) (formula_object F) g.list x in
      record {
        witness = whole;
        proves = proof whole g.list x m F Fs (four (Symbol (method_name m)) (formula_object F) g.list x) i g.each row;
        in_range = λ k. pair_in_range (formula_object F) (list2 g.list x) (f k) (pair_in_range g.list (list1 x) (g.in_range k) (pair_in_range x NIL (e k) refl));
      }

  schema : (F : Formula) → IsFormula A F → (H → Fits F) → Holds (Or (Not F) F)
  schema F i f = step PropositionalSchema (Or (Not F) F) [] NIL (by_schema F) (and_from _ _ i i) (λ k. or_fits (Not F) F (not_fits F (f k)) (f k)) (λ k. refl) tt

  expand : (F G : Formula) → IsFormula A G → (H → Fits G) → Holds F → Holds (Or G F)
  expand F G i g p = step Expansion (Or G F) (F ∷ []) NIL (by_expansion F G) (and_from _ _ i (formed F p)) (λ k. or_fits G F (g k) (fits F p k)) (λ k. refl) (p, tt)

  contract : (F : Formula) → Holds (Or F F) → Holds F
  contract F p = step Contraction F (Or F F ∷ []) NIL (by_contraction F) (and_parts (is_formula A F) (is_formula A F) (formed (Or F F) p)).0 (λ k. (or_parts_fit F F (fits (Or F F) p k)).0) (λ k. refl) (p, tt)

  cut : (F G K : Formula) → Holds (Or F G) → Holds (Or (Not F) K) → Holds (Or G K)
  cut F G K p q =
      step Cut (Or G K) (Or F G ∷ Or (Not F) K ∷ []) NIL (by_cut F G K)
      (and_from _ _ (and_parts (is_formula A F) (is_formula A G) (formed (Or F G) p)).1 (and_parts (is_formula A (Not F)) (is_formula A K) (formed (Or (Not F) K) q)).1)
      (λ k. or_fits G K (or_parts_fit F G (fits (Or F G) p k)).1 (or_parts_fit (Not F) K (fits (Or (Not F) K) q k)).1)
      (λ k. refl) (p, (q, tt))

  commute : (F G : Formula) → Holds (Or F G) → Holds (Or G F)
  commute F G p = cut F G F p (schema F (and_parts (is_formula A F) (is_formula A G) (formed (Or F G) p)).0 (λ k. (or_parts_fit F G (fits (Or F G) p k)).0))

  detach : (F G : Formula) → Holds F → Holds (Or (Not F) G) → Holds G
  detach F G p q =
      let i = (and_parts (is_formula A (Not F)) (is_formula A G) (formed (Or (Not F) G) q)).1 in
      contract G (cut F G G (commute G F (expand F G i (λ k. (or_parts_fit (Not F) G (fits (Or (Not F) G) q k)).1) p)) q)

  -- equations
  sides_formed : (a b : Term) → IsFormula A (Equal a b) → IsTerm A a × IsTerm A b
  sides_formed a b h = and_parts (is_term A a) (is_term A b) h

  reflexive : (t : Term) → IsTerm A t → (H → TermFits t) → Holds (Equal t t)
  reflexive t i f =
      step Instantiation (Equal t t) (axiom_1 ∷ []) (substitution_object ((named "X", t) ∷ [])) (by_instantiation axiom_1 ((named "X", t) ∷ []) (and_from _ _ i refl)) (and_from _ _ i i) (λ k. equal_fits t t (f k) (f k))
      (λ k. pair_in_range (Pair (Symbol (named "X")) (term_object t)) NIL (f k) refl)
      (step Axiom axiom_1 [] NIL (by_axiom axiom_1 first_there) refl (λ k. refl) (λ k. refl) tt, tt)

  equals : (a b c d : Term) → Holds (Equal a b) → Holds (Equal c d) → Holds (Equal a c) → Holds (Equal b d)
  equals a b c d p q r =
      let s = (named "X1", a) ∷ (named "Y1", b) ∷ (named "X2", c) ∷ (named "Y2", d) ∷ [] in
      let ab = sides_formed a b (formed (Equal a b) p) in
      let cd = sides_formed c d (formed (Equal c d) q) in
      let last = Or (Not (Equal a c)) (Equal b d) in
      let rest = Or (Not (Equal c d)) last in
      let whole = Or (Not (Equal a b)) rest in
      let ab_fit : H → TermFits a × TermFits b = λ k. equal_parts_fit a b (fits (Equal a b) p k) in
      let cd_fit : H → TermFits c × TermFits d = λ k. equal_parts_fit c d (fits (Equal c d) q k) in
      let instance : Holds whole =
      step Instantiation whole (axiom_2 ∷ []) (substitution_object s) (by_instantiation axiom_2 s (and_from _ _ ab.0 (and_from _ _ ab.1 (and_from _ _ cd.0 (and_from _ _ cd.1 refl)))))
      (and_from _ _ (formed (Equal a b) p) (and_from _ _ (formed (Equal c d) q) (and_from _ _ (and_from _ _ ab.0 cd.0) (and_from _ _ ab.1 cd.1))))
      (λ k. or_fits (Not (Equal a b)) rest (not_fits (Equal a b) (fits (Equal a b) p k)) (or_fits (Not (Equal c d)) last (not_fits (Equal c d) (fits (Equal c d) q k)) (or_fits (Not (Equal a c)) (Equal b d) (not_fits (Equal a c) (fits (Equal a c) r k)) (equal_fits b d (ab_fit k).1 (cd_fit k).1))))
      (λ k. bindings_fit a b c d (ab_fit k).0 (ab_fit k).1 (cd_fit k).0 (cd_fit k).1)
      (step Axiom axiom_2 [] NIL (by_axiom axiom_2 second_there) refl (λ k. refl) (λ k. refl) tt, tt) in
      detach (Equal a c) (Equal b d) r (detach (Equal c d) last q (detach (Equal a b) rest p instance))

  symmetry : (a b : Term) → Holds (Equal a b) → Holds (Equal b a)
  symmetry a b p =
      let s = reflexive a (sides_formed a b (formed (Equal a b) p)).0 (λ k. (equal_parts_fit a b (fits (Equal a b) p k)).0) in
      equals a b a a p s s

  chain : (a b c : Term) → Holds (Equal a b) → Holds (Equal b c) → Holds (Equal a c)
  chain a b c p q = equals b a b c (symmetry a b p) q (reflexive b (sides_formed a b (formed (Equal a b) p)).1 (λ k. (equal_parts_fit a b (fits (Equal a b) p k)).1))

  -- from the equalities of actuals
  unless_formed : (ts us : Terms) (F : Formula) → Each Holds (equalities ts us) → IsFormula A F → IsFormula A (unless_equal ts us F)
  unless_formed NoTerms us F h i = i
  unless_formed (More a ts) NoTerms F h i = i
  unless_formed (More a ts) (More b us) F h i = and_from _ _ (formed (Equal a b) h.0) (unless_formed ts us F h.1 i)

  unless_fits : (ts us : Terms) (F : Formula) → Each Holds (equalities ts us) → H → Fits F → Fits (unless_equal ts us F)
  unless_fits NoTerms us F h k f = f
  unless_fits (More a ts) NoTerms F h k f = f
  unless_fits (More a ts) (More b us) F h k f = or_fits (Not (Equal a b)) (unless_equal ts us F) (not_fits (Equal a b) (fits (Equal a b) h.0 k)) (unless_fits ts us F h.1 k f)

  all_detached : (ts us : Terms) (F : Formula) → Each Holds (equalities ts us) → Holds (unless_equal ts us F) → Holds F
  all_detached NoTerms us F h p = p
  all_detached (More a ts) NoTerms F h p = p
  all_detached (More a ts) (More b us) F h p = all_detached ts us F h.1 (detach (Equal a b) (unless_equal ts us F) h.0 p)

  replaced : (ts us : Terms) (F : Formula) → Follows ax th A P FunctionalEquality (unless_equal ts us F) [] NIL → IsFormula A F → (H → Fits F) → Each Holds (equalities ts us) → Holds F
  replaced ts us F row i f hs = all_detached ts us F hs (step FunctionalEquality (unless_equal ts us F) [] NIL row (unless_formed ts us F hs i) (λ k. unless_fits ts us F hs k (f k)) (λ k. refl) tt)

  by_rule : (r : Rule) (F : Formula) (Fs : List Formula) (x : Object) → Derives ax th A P r F Fs x → IsFormula A F → (H → Fits F) → (H → is_out_of_range x ≡ false) → Each Holds Fs → Holds F
  by_rule r F Fs x (by_method m G Gs y row) i f e hs = step m G Gs y row i f e hs
  by_rule r F Fs x (by_commuting G K) i f e hs = commute G K hs.0
  by_rule r F Fs x (by_modus_ponens G K) i f e hs = detach G K hs.0 hs.1.0
  by_rule r F Fs x (by_symmetry a b) i f e hs = symmetry a b hs.0
  by_rule r F Fs x (by_transitivity a b c) i f e hs = chain a b c hs.0 hs.1.0
  by_rule r F Fs x (by_replacing g ts us n c) i f e hs = replaced ts us (Equal (Call g ts) (Call g us)) (by_equality g ts us n c) i f hs
  by_rule r F Fs x (by_replacing_if a b c d g h) i f e hs = replaced (three_terms a b c) (three_terms d g h) (Equal (If a b c) (If d g h)) (by_if_equality a b c d g h) i f hs

  mutual
    pub lowered : (p : Object) (F : Formula) → IsDerivation ax th A P p F → (H → is_out_of_range p ≡ false) → Holds F
    lowered p F (derivation q ps x r G Fs mem i gs row) h =
        by_rule r G Fs x row i (λ k. (members_in_range q (Symbol (rule_name r)) (formula_object G) ps x mem (h k)).0) (λ k. (members_in_range q (Symbol (rule_name r)) (formula_object G) ps x mem (h k)).2)
        (each_lowered ps Fs gs (λ k. (members_in_range q (Symbol (rule_name r)) (formula_object G) ps x mem (h k)).1))

    each_lowered : (ps : Object) (Fs : List Formula) → AreDerivations ax th A P ps Fs → (H → is_out_of_range ps ≡ false) → Each Holds Fs
    each_lowered ps Fs no_derivations h = tt
    each_lowered ps Fs (more_derivations p qs F Gs g gs) h = (lowered p F g (λ k. car_in_range (Pair p qs) (h k)), each_lowered qs Gs gs (λ k. cdr_in_range (Pair p qs) (h k)))

-- each derivation turns to a proof
pub derivation_turns : (ax th : Object) (A : ArityTable) (P : Profile) → Member (formula_object axiom_1) ax → Member (formula_object axiom_2) ax → (p : Object) (F : Formula) → IsDerivation ax th A P p F → (q : Object) × Turns ax th A P p q
derivation_turns ax th A P here there p F d = go (judge ax th A P p) refl
  where
    go : (o : Option Formula) → judge ax th A P p ≡ o → (q : Object) × Turns ax th A P p q
    go (Some G) e = let g = judge_good ax th A P p G e in (p, record { formula = G; derived = proof_derives ax th A P p G g; proved = g; stays = λ h. refl; in_range = λ h. h })
    go None e =
        let q = lowered ax th A P here there (is_out_of_range p ≡ false) p F d (λ h. h) in
        (q.witness, record { formula = F; derived = d; proved = q.proves; stays = λ g. absurd (none_some (sym e ∙ (good_judge ax th A P p F g).1)); in_range = q.in_range })
      where
        none_some : None ≡ Some F → ⊥
        none_some h = cc
