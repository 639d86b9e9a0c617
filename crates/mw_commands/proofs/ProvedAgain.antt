-- A proof over some axioms, theorems and arities is one over others too, where these have what it uses: the arities of the names that occur
-- in it, the axioms that it has parts of, and the theorems that it names.
use Rattle.std.proofs.Common.{◌≡◌, true, List, [], ◌∷◌, ◌++◌, refl, sym, ap, ◌∙◌, subst}
use Rattle.mw_model.specs.Terms.Object.{Object, Symbol, symbol, same_object, NIL, car, second_of, list1, list2, list3, list4, Member}
use Rattle.mw_model.specs.Terms.Term.{Formula, formula_object, term_object, ArityTable}
use Rattle.mw_model.specs.Terms.Substitution.{substitution_object}
use Rattle.mw_model.specs.Values.Primitive.{Profile}
use Rattle.mw_model.specs.Values.Truth.{Each}
use Rattle.mw_model.specs.Proofs.Induction.{conditions_object, cases_object}
use Rattle.mw_model.specs.Proofs.Proof.{HasMembers, two, three, four, Method, method_name, Follows, by_axiom, by_theorem, by_schema, by_equality, by_if_equality, by_beta, by_base, by_base_if, by_expansion, by_contraction, by_associativity, by_cut, by_instantiation, by_induction, Proves, proof, ProveEach, no_proofs, more_proofs}
use Rattle.mw_commands.specs.Commands.Subproofs.{proofs_within, each_within}
use Rattle.mw_commands.specs.Commands.Slice.{begins_with}
use Rattle.mw_commands.proofs.LogAccepted.{second_is}
use Rattle.mw_commands.proofs.Within.{Within, first_within, rest_within}
use Rattle.mw_commands.proofs.SameArities.{Agree, formula_agrees, substitution_agrees, cases_agree}

pub each_left : {X : Type 0} (P : X → Type 0) (xs ys : List X) → Each P (xs ++ ys) → Each P xs
each_left P [] ys h = tt
each_left P (x ∷ xs) ys h = (h.0, each_left P xs ys h.1)

pub each_right : {X : Type 0} (P : X → Type 0) (xs ys : List X) → Each P (xs ++ ys) → Each P ys
each_right P [] ys h = h
each_right P (x ∷ xs) ys h = each_right P xs ys h.1

-- ---- the members of a proof are parts of it

conclusion_within : (p m c ps x : Object) → HasMembers p m c ps x → Within c p
conclusion_within p m c ps x (two a b) y h = rest_within a (list1 b) y (first_within b NIL y h)
conclusion_within p m c ps x (three a b qs) y h = rest_within a (list2 b qs) y (first_within b (list1 qs) y h)
conclusion_within p m c ps x (four a b qs z) y h = rest_within a (list3 b qs z) y (first_within b (list2 qs z) y h)

subproofs_within : (p m c ps x : Object) → HasMembers p m c ps x → Within ps p
subproofs_within p m c ps x (two a b) y h = rest_within a (list1 b) y (rest_within b NIL y h)
subproofs_within p m c ps x (three a b qs) y h = rest_within a (list2 b qs) y (rest_within b (list1 qs) y (first_within qs NIL y h))
subproofs_within p m c ps x (four a b qs z) y h = rest_within a (list3 b qs z) y (rest_within b (list2 qs z) y (first_within qs (list1 z) y h))

extras_within : (p m c ps x : Object) → HasMembers p m c ps x → Within x p
extras_within p m c ps x (two a b) y h = rest_within a (list1 b) y (rest_within b NIL y h)
extras_within p m c ps x (three a b qs) y h = rest_within a (list2 b qs) y (rest_within b (list1 qs) y (rest_within qs NIL y h))
extras_within p m c ps x (four a b qs z) y h = rest_within a (list3 b qs z) y (rest_within b (list2 qs z) y (rest_within qs (list1 z) y (first_within z NIL y h)))

first_is : (p m c ps x : Object) → HasMembers p m c ps x → car p ≡ m
first_is p m c ps x (two a b) = refl
first_is p m c ps x (three a b qs) = refl
first_is p m c ps x (four a b qs z) = refl

module _ (Q : Object → Type 0) where
  itself_holds : (p m c ps x : Object) → HasMembers p m c ps x → Each Q (proofs_within p) → Q p
  itself_holds p m c ps x (two a b) h = h.0
  itself_holds p m c ps x (three a b qs) h = (each_right Q (each_within qs) (list3 a b qs ∷ []) h).0
  itself_holds p m c ps x (four a b qs z) h = (each_right Q (each_within qs) (list4 a b qs z ∷ []) h).0

  subproofs_hold : (p m c ps x : Object) → HasMembers p m c ps x → Each Q (proofs_within p) → Each Q (each_within ps)
  subproofs_hold p m c ps x (two a b) h = tt
  subproofs_hold p m c ps x (three a b qs) h = each_left Q (each_within qs) (list3 a b qs ∷ []) h
  subproofs_hold p m c ps x (four a b qs z) h = each_left Q (each_within qs) (list4 a b qs z ∷ []) h

-- ---- over the others: e is an object that has all that is used

module _ (A B : ArityTable) (P : Profile) (ax th more_axioms more_theorems e : Object) (agree : Agree A B e) (axioms_there : (x : Object) → Within x e → Member x ax → Member x more_axioms) where
  -- a theorem that a proof names is there
  abbrev pub NamesKnown : Object → Type 0
  NamesKnown p = begins_with "THEOREM" p ≡ true → Member (second_of p) th → Member (second_of p) more_theorems

  agree_within : (x : Object) → Within x e → Agree A B x
  agree_within x w f k = agree f (w (Symbol f) k)

  row_again : (p ps x : Object) (m : Method) (F : Formula) (Fs : List Formula) → HasMembers p (Symbol (method_name m)) (formula_object F) ps x → Within p e → NamesKnown p → Follows ax th A P m F Fs x → Follows more_axioms more_theorems B P m F Fs x
  row_again p ps x m F Fs mem w k (by_axiom G h) = by_axiom G (axioms_there (formula_object G) (λ y i. w y (conclusion_within p _ _ ps x mem y i)) h)
  row_again p ps x m F Fs mem w k (by_theorem G h) =
      let named = ap (λ z. same_object z (symbol "THEOREM")) (first_is p (symbol "THEOREM") (formula_object G) ps NIL mem) in
      let is = second_is ax th A P p (symbol "THEOREM") (formula_object G) ps NIL mem in
      by_theorem G (subst (λ z. Member z more_theorems) is (k named (subst (λ z. Member z th) (sym is) h)))
  row_again p ps x m F Fs mem w k (by_schema G) = by_schema G
  row_again p ps x m F Fs mem w k (by_equality f ts us h i) = by_equality f ts us h i
  row_again p ps x m F Fs mem w k (by_if_equality a b c d f g) = by_if_equality a b c d f g
  row_again p ps x m F Fs mem w k (by_beta xs b ts) = by_beta xs b ts
  row_again p ps x m F Fs mem w k (by_base f q cs h) = by_base f q cs h
  row_again p ps x m F Fs mem w k (by_base_if a b c) = by_base_if a b c
  row_again p ps x m F Fs mem w k (by_expansion G H) = by_expansion G H
  row_again p ps x m F Fs mem w k (by_contraction G) = by_contraction G
  row_again p ps x m F Fs mem w k (by_associativity G H K) = by_associativity G H K
  row_again p ps x m F Fs mem w k (by_cut G H K) = by_cut G H K
  row_again p ps x m F Fs mem w k (by_instantiation G s h) =
      let i = agree_within (substitution_object s) (λ y j. w y (extras_within p _ _ ps (substitution_object s) mem y j)) in
      by_instantiation G s (sym (substitution_agrees A B s i) ∙ h)
  row_again p ps x m F Fs mem w k (by_induction G n cs h) =
      let qs = conditions_object cs in
      let ss = cases_object cs in
      let inside : Within ss e = λ y j. w y (extras_within p _ _ ps (list3 (term_object n) qs ss) mem y (rest_within (term_object n) (list2 qs ss) y (rest_within qs (list1 ss) y (first_within ss NIL y j)))) in
      by_induction G n cs (sym (cases_agree A B cs (agree_within ss inside)) ∙ h)

  mutual
    pub proved_again : (p : Object) (F : Formula) → Within p e → Each NamesKnown (proofs_within p) → Proves ax th A P p F → Proves more_axioms more_theorems B P p F
    proved_again p F w k (proof q ps x m G Fs mem i gs row) =
        let c = formula_object G in
        let inside : Within c e = λ y j. w y (conclusion_within q _ c ps x mem y j) in
        let below : Within ps e = λ y j. w y (subproofs_within q _ c ps x mem y j) in
        proof q ps x m G Fs mem (sym (formula_agrees A B G (agree_within c inside)) ∙ i)
        (each_proved_again ps Fs below (subproofs_hold NamesKnown q _ c ps x mem k) gs)
        (row_again q ps x m G Fs mem w (itself_holds NamesKnown q _ c ps x mem k) row)

    each_proved_again : (ps : Object) (Fs : List Formula) → Within ps e → Each NamesKnown (each_within ps) → ProveEach ax th A P ps Fs → ProveEach more_axioms more_theorems B P ps Fs
    each_proved_again ps Fs w k no_proofs = no_proofs
    each_proved_again ps Fs w k (more_proofs p qs F Gs g gs) =
        more_proofs p qs F Gs (proved_again p F (λ y j. w y (first_within p qs y j)) (each_left NamesKnown (proofs_within p) (each_within qs) k) g)
        (each_proved_again qs Gs (λ y j. w y (rest_within p qs y j)) (each_right NamesKnown (proofs_within p) (each_within qs) k) gs)
