-- LOGIC.FLAG-TERMP and LOGIC.TERMP are the test that an object is that of a term.
use Rattle.std.proofs.Common.{◌≡◌, ℕ, ◌+◌, Bool, true, false, ◌&&◌, not, cond, eqb, List, [], ◌∷◌, length, Option, Some, None, refl, sym, ap, ap₂, ◌∙◌, arith, option_map}
use Rattle.std.proofs.lemmas.Bool.{ne_eqb}
use Rattle.mw_model.specs.Terms.Object.{Name, Object, Natural, Symbol, Pair, named, symbol, same_name, same_object, nil_name, NIL, truth_of, cdr}
use Rattle.mw_model.specs.Terms.Term.{Term, Terms, Constant, NoTerms, More, names_object, terms_object, count, is_closed, are_distinct, are_variables, ArityTable, arity_of, has_arity, is_call_name, is_term, are_terms, table_object, Call}
use Rattle.mw_model.specs.Terms.Reading.{names_of, constant_of, if_of, lambda_of, term_of, terms_of, map2}
use Rattle.mw_model.specs.Values.Primitive.{Profile, choose}
use Rattle.mw_model.specs.Laws.Rules.{is_term_object}
use Rattle.mw_model.specs.Laws.RulesInduction.{is_list_object, length_object}
use Rattle.mw_model.proofs.Names.{same_name-eq}
use Rattle.mw_model.proofs.Formed.{formed}
use Rattle.mw_model.proofs.ReadBack.{names_back, term_back, terms_back}
use Rattle.mw_model.proofs.BuiltInAnswers.{answer, answer-body}
use Rattle.mw_reflect.proofs.TestValues.{passes, has_length, and_value, and_then, and_true, and_false, and_assoc, eqb-swap, has_length-three, that-present}
use Rattle.mw_reflect.proofs.ListAnswers.{len-answer, lenp-answer, variablep-answer, var_listp-answer, uniquep-answer, arity_pair, lookup-answer-arity, constantp-answer}
use Rattle.mw_reflect.proofs.ClosedAnswers.{closed_answer, closed_answer-term}

-- what is read from the object is a term, are terms
abbrev pub reads_term : ArityTable → Object → Bool
reads_term A x = passes (is_term A) (term_of x)

abbrev pub reads_terms : ArityTable → Object → Bool
reads_terms A x = passes (are_terms A) (terms_of x)

-- numbers of members
length_object-terms : (ts : Terms) → length_object (terms_object ts) ≡ count ts
length_object-terms NoTerms = refl
length_object-terms (More t ts) = ap (1 +◌) (length_object-terms ts) ∙ omega arith

terms_of-length : (r : Object) (ts : Terms) → terms_of r ≡ Some ts → length_object r ≡ count ts
terms_of-length r ts h = ap length_object (sym (terms_back r ts h)) ∙ length_object-terms ts

eqb-one_more : (d : Object) → eqb (1 + (1 + (1 + length_object d))) 2 ≡ false
eqb-one_more d = ne_eqb _ _ (omega arith)

constant_of-test : (A : ArityTable) (f : Name) (r : Object) → has_length (Pair (Symbol f) r) 2 ≡ passes (is_term A) (constant_of r)
constant_of-test A f (Natural n) = refl
constant_of-test A f (Symbol s) = and_false (same_name s nil_name)
constant_of-test A f (Pair c (Natural n)) = refl
constant_of-test A f (Pair c (Symbol s)) = go (same_name s nil_name)
  where
    go : (b : Bool) → b && true ≡ passes (is_term A) (cond b (Some (Constant c)) None)
    go true = refl
    go false = refl
constant_of-test A f (Pair c (Pair a b)) = ap (λ t. is_list_object b && t) (eqb-one_more b) ∙ and_false (is_list_object b)

-- Under a table where IF has three arguments, as it has in each table of well-made definitions.
module _ (P : Profile) (A : ArityTable) (three : arity_of A (named "IF") ≡ Some 3) where
  if_of-test : (n : ℕ) (d : Option Terms) → ((ts : Terms) → d ≡ Some ts → n ≡ count ts) → eqb n 3 && passes (are_terms A) d ≡ passes (is_term A) (if_of d)
  if_of-test n None h = and_false (eqb n 3)
  if_of-test n (Some NoTerms) h = ap (λ m. eqb m 3 && true) (h NoTerms refl)
  if_of-test n (Some (More a NoTerms)) h = ap (λ m. eqb m 3 && are_terms A (More a NoTerms)) (h (More a NoTerms) refl)
  if_of-test n (Some (More a (More b NoTerms))) h = ap (λ m. eqb m 3 && are_terms A (More a (More b NoTerms))) (h (More a (More b NoTerms)) refl)
  if_of-test n (Some (More a (More b (More c NoTerms)))) h =
      ap (λ m. eqb m 3 && are_terms A (More a (More b (More c NoTerms)))) (h (More a (More b (More c NoTerms))) refl) ∙ (ap (λ t. is_term A a && (is_term A b && t)) (and_true (is_term A c)) ∙ ap (λ o. has_arity o 3 && (is_term A a && (is_term A b && is_term A c))) (sym three))
  if_of-test n (Some (More a (More b (More c (More d ts))))) h =
      ap (λ t. t && are_terms A (More a (More b (More c (More d ts))))) (ne_eqb n 3 (λ e. let q = h (More a (More b (More c (More d ts)))) refl in omega (arith, q, e)))

  plain_call-test : (f : Name) (n m : ℕ) (d : Option Terms) → is_call_name f ≡ true → arity_of A f ≡ Some m → ((ts : Terms) → d ≡ Some ts → n ≡ count ts) → eqb n m && passes (are_terms A) d ≡ passes (is_term A) (option_map (Call f) d)
  plain_call-test f n m None c a h = and_false (eqb n m)
  plain_call-test f n m (Some ts) c a h =
      ap (λ t. t && are_terms A ts) (eqb-swap n m ∙ ap (eqb m) (h ts refl)) ∙ ap₂ (λ t o. t && (has_arity o (count ts) && are_terms A ts)) (sym c) (sym a)

  plain_call-unknown : (f : Name) (d : Option Terms) → arity_of A f ≡ None → false ≡ passes (is_term A) (option_map (Call f) d)
  plain_call-unknown f None a = refl
  plain_call-unknown f (Some ts) a = sym (and_false (is_call_name f)) ∙ ap (λ o. is_call_name f && (has_arity o (count ts) && are_terms A ts)) (sym a)

  call_answer-cases : (f : Name) (r : Object) (q i : Bool) → same_name f (named "QUOTE") ≡ q → same_name f (named "IF") ≡ i → (o : Option ℕ) → arity_of A f ≡ o → (d : Option Terms) → terms_of r ≡ d → choose (truth_of q) (truth_of (q && has_length (Pair (Symbol f) r) 2)) (choose (arity_pair f o) (choose (truth_of (same_object (Natural (length_object r)) (cdr (arity_pair f o)))) (truth_of (passes (are_terms A) d)) NIL) NIL) ≡ truth_of (passes (is_term A) (cond q (constant_of r) (cond i (if_of d) (option_map (Call f) d))))
  call_answer-cases f r true i hq hi o ho d hd = ap truth_of (constant_of-test A f r)
  call_answer-cases f r false true hq hi None ho d hd = absurd (cc (sym three, ap (arity_of A) (same_name-eq f (named "IF") hi), ho))
  call_answer-cases f r false true hq hi (Some n) ho d hd =
      let e : n ≡ 3 = cc (three, ap (arity_of A) (same_name-eq f (named "IF") hi), ho) in
      and_value (eqb (length_object r) n) (passes (are_terms A) d) ∙ ap truth_of (ap (λ m. eqb (length_object r) m && passes (are_terms A) d) e ∙ if_of-test (length_object r) d (λ ts h. terms_of-length r ts (hd ∙ h)))
  call_answer-cases f r false false hq hi None ho d hd = ap truth_of (plain_call-unknown f d ho)
  call_answer-cases f r false false hq hi (Some n) ho d hd =
      let c : is_call_name f ≡ true = ap₂ (λ a b. not a && not b) hq hi in
      and_value (eqb (length_object r) n) (passes (are_terms A) d) ∙ ap truth_of (plain_call-test f (length_object r) n d c ho (λ ts h. terms_of-length r ts (hd ∙ h)))

  abbrev pub term_answer : Object → Object
  term_answer x = answer P "LOGIC.FLAG-TERMP" (symbol "TERM" ∷ x ∷ table_object A ∷ [])

  abbrev pub terms_answer : Object → Object
  terms_answer x = answer P "LOGIC.FLAG-TERMP" (symbol "LIST" ∷ x ∷ table_object A ∷ [])

  call_answer : (f : Name) (r : Object) → terms_answer r ≡ truth_of (reads_terms A r) → term_answer (Pair (Symbol f) r) ≡ truth_of (reads_term A (Pair (Symbol f) r))
  call_answer f r ih =
      answer-body P "LOGIC.FLAG-TERMP" (symbol "TERM" ∷ Pair (Symbol f) r ∷ table_object A ∷ [])
      ∙ (ap₂ (λ c l. choose (truth_of (same_name f (named "QUOTE"))) c (choose l (choose (truth_of (same_object (answer P "LOGIC.LEN" (r ∷ [])) (cdr l))) (terms_answer r) NIL) NIL)) (constantp-answer P f r) (lookup-answer-arity P f A)
      ∙ (ap₂ (λ n t. choose (truth_of (same_name f (named "QUOTE"))) (truth_of (same_name f (named "QUOTE") && has_length (Pair (Symbol f) r) 2)) (choose (arity_pair f (arity_of A f)) (choose (truth_of (same_object n (cdr (arity_pair f (arity_of A f))))) t NIL) NIL)) (len-answer P r) ih
      ∙ call_answer-cases f r (same_name f (named "QUOTE")) (same_name f (named "IF")) refl refl (arity_of A f) refl (terms_of r) refl))

  more_terms-test : (o : Option Term) (d : Option Terms) → passes (is_term A) o && passes (are_terms A) d ≡ passes (are_terms A) (map2 More o d)
  more_terms-test None d = refl
  more_terms-test (Some t) None = and_false (is_term A t)
  more_terms-test (Some t) (Some ts) = refl

  lambda_tests-order : (av d bt cl e rt : Bool) → av && (d && (bt && (cl && (e && rt)))) ≡ av && (d && (cl && (e && (bt && rt))))
  lambda_tests-order av d true cl e rt = refl
  lambda_tests-order av d false cl e rt = ap (λ t. av && (d && t)) (sym (ap (λ t. cl && t) (and_false e) ∙ and_false cl))

  lambda_of-test : (ns : List Name) (n : ℕ) (t : Option Term) (us : Option Terms) → ((ts : Terms) → us ≡ Some ts → n ≡ count ts) → are_variables ns && (are_distinct ns && (passes (is_term A) t && (passes (is_closed ns) t && (eqb n (length ns) && passes (are_terms A) us)))) ≡ passes (is_term A) (lambda_of true (Some ns) t us)
  lambda_of-test ns n None us h = ap (λ t. are_variables ns && t) (and_false (are_distinct ns)) ∙ and_false (are_variables ns)
  lambda_of-test ns n (Some b) None h =
      lambda_tests-order (are_variables ns) (are_distinct ns) (is_term A b) (is_closed ns b) (eqb n (length ns)) false
      ∙ (ap (λ t. are_variables ns && (are_distinct ns && (is_closed ns b && (eqb n (length ns) && t)))) (and_false (is_term A b)) ∙ (ap (λ t. are_variables ns && (are_distinct ns && (is_closed ns b && t))) (and_false (eqb n (length ns))) ∙ (ap (λ t. are_variables ns && (are_distinct ns && t)) (and_false (is_closed ns b)) ∙ (ap (λ t. are_variables ns && t) (and_false (are_distinct ns)) ∙ and_false (are_variables ns)))))
  lambda_of-test ns n (Some b) (Some ts) h =
      lambda_tests-order (are_variables ns) (are_distinct ns) (is_term A b) (is_closed ns b) (eqb n (length ns)) (are_terms A ts)
      ∙ ap (λ t. are_variables ns && (are_distinct ns && (is_closed ns b && (t && (is_term A b && are_terms A ts))))) (eqb-swap n (length ns) ∙ ap (eqb (length ns)) (h ts refl))
      ∙ and_assoc (are_variables ns) (are_distinct ns) (is_closed ns b && (eqb (length ns) (count ts) && (is_term A b && are_terms A ts)))

  lambda_of-head : (l z : Bool) (o : Option (List Name)) (t : Option Term) (us : Option Terms) → z && (l && passes (is_term A) (lambda_of true o t us)) ≡ passes (is_term A) (lambda_of (l && z) o t us)
  lambda_of-head true true o t us = refl
  lambda_of-head true false o t us = refl
  lambda_of-head false true o t us = refl
  lambda_of-head false false o t us = refl

  length_object-names : (ns : List Name) → length_object (names_object ns) ≡ length ns
  length_object-names [] = refl
  length_object-names (x ∷ ns) = ap (1 +◌) (length_object-names ns) ∙ omega arith

  lambda_answer-rest : (xs b r : Object) → term_answer b ≡ truth_of (reads_term A b) → terms_answer r ≡ truth_of (reads_terms A r) → (o : Option (List Name)) → names_of xs ≡ o → choose (answer P "LOGIC.VAR-LISTP" (xs ∷ [])) (choose (answer P "LOGIC.UNIQUEP" (xs ∷ [])) (choose (term_answer b) (choose (closed_answer P b xs) (choose (truth_of (same_object (answer P "LOGIC.LEN" (r ∷ [])) (answer P "LOGIC.LEN" (xs ∷ [])))) (terms_answer r) NIL) NIL) NIL) NIL) NIL ≡ truth_of (passes (is_term A) (lambda_of true o (term_of b) (terms_of r)))
  lambda_answer-rest xs b r hb hr None ho = and_then false false (var_listp-answer P xs ∙ ap (λ o. truth_of (passes are_variables o)) ho) (λ e. cc)
  lambda_answer-rest xs b r hb hr (Some ns) ho =
      let ex : xs ≡ names_object ns = sym (names_back xs ns ho) in
      and_then (are_variables ns) _ (var_listp-answer P xs ∙ ap (λ o. truth_of (passes are_variables o)) ho) (λ _.
      and_then (are_distinct ns) _ (ap (λ x. answer P "LOGIC.UNIQUEP" (x ∷ [])) ex ∙ uniquep-answer P ns) (λ _.
      and_then (reads_term A b) _ hb (λ e. closed_then xs b r ns hr ex (term_of b) refl e)))
      ∙ ap truth_of (lambda_of-test ns (length_object r) (term_of b) (terms_of r) (λ ts h. terms_of-length r ts h))
    where
      closed_then : (xs b r : Object) (ns : List Name) → terms_answer r ≡ truth_of (reads_terms A r) → xs ≡ names_object ns → (t : Option Term) → term_of b ≡ t → passes (is_term A) t ≡ true → choose (closed_answer P b xs) (choose (truth_of (same_object (answer P "LOGIC.LEN" (r ∷ [])) (answer P "LOGIC.LEN" (xs ∷ [])))) (terms_answer r) NIL) NIL ≡ truth_of (passes (is_closed ns) t && (eqb (length_object r) (length ns) && reads_terms A r))
      closed_then xs b r ns hr ex None hd e = cc
      closed_then xs b r ns hr ex (Some t) hd e =
          and_then (is_closed ns t) _ (ap₂ (closed_answer P) (sym (term_back b t hd)) ex ∙ closed_answer-term P A ns t (formed A t e)) (λ _.
          and_then (eqb (length_object r) (length ns)) (reads_terms A r) (ap truth_of (ap₂ same_object (len-answer P r) (ap (λ x. answer P "LOGIC.LEN" (x ∷ [])) ex ∙ len-answer P (names_object ns)) ∙ ap (eqb (length_object r)) (length_object-names ns))) (λ _. hr))

  lambda_answer : (l xs b z r : Object) → term_answer b ≡ truth_of (reads_term A b) → terms_answer r ≡ truth_of (reads_terms A r) → term_answer (Pair (Pair l (Pair xs (Pair b z))) r) ≡ truth_of (reads_term A (Pair (Pair l (Pair xs (Pair b z))) r))
  lambda_answer l xs b z r hb hr =
      answer-body P "LOGIC.FLAG-TERMP" (symbol "TERM" ∷ Pair (Pair l (Pair xs (Pair b z))) r ∷ table_object A ∷ [])
      ∙ (and_then (same_object z NIL) _ (lenp-answer P (Pair l (Pair xs (Pair b z))) 3 ∙ ap truth_of (has_length-three l xs b z)) (λ _. and_then (same_object l (symbol "LAMBDA")) _ refl (λ _. lambda_answer-rest xs b r hb hr (names_of xs) refl))
      ∙ ap truth_of (lambda_of-head (same_object l (symbol "LAMBDA")) (same_object z NIL) (names_of xs) (term_of b) (terms_of r)))

  mutual
    pub term_answer-test : (x : Object) → term_answer x ≡ truth_of (reads_term A x)
    term_answer-test (Natural n) = answer-body P "LOGIC.FLAG-TERMP" (symbol "TERM" ∷ Natural n ∷ table_object A ∷ []) ∙ variablep-answer P (Natural n)
    term_answer-test (Symbol s) = answer-body P "LOGIC.FLAG-TERMP" (symbol "TERM" ∷ Symbol s ∷ table_object A ∷ []) ∙ variablep-answer P (Symbol s)
    term_answer-test (Pair (Natural n) r) = answer-body P "LOGIC.FLAG-TERMP" (symbol "TERM" ∷ Pair (Natural n) r ∷ table_object A ∷ [])
    term_answer-test (Pair (Symbol f) r) = call_answer f r (terms_answer-test r)
    term_answer-test (Pair (Pair l (Natural n)) r) = answer-body P "LOGIC.FLAG-TERMP" (symbol "TERM" ∷ Pair (Pair l (Natural n)) r ∷ table_object A ∷ []) ∙ and_then false false (lenp-answer P (Pair l (Natural n)) 3) (λ e. cc)
    term_answer-test (Pair (Pair l (Symbol s)) r) = answer-body P "LOGIC.FLAG-TERMP" (symbol "TERM" ∷ Pair (Pair l (Symbol s)) r ∷ table_object A ∷ []) ∙ and_then false false (lenp-answer P (Pair l (Symbol s)) 3 ∙ ap truth_of (and_false (same_name s nil_name))) (λ e. cc)
    term_answer-test (Pair (Pair l (Pair xs (Natural n))) r) = answer-body P "LOGIC.FLAG-TERMP" (symbol "TERM" ∷ Pair (Pair l (Pair xs (Natural n))) r ∷ table_object A ∷ []) ∙ and_then false false (lenp-answer P (Pair l (Pair xs (Natural n))) 3) (λ e. cc)
    term_answer-test (Pair (Pair l (Pair xs (Symbol s))) r) = answer-body P "LOGIC.FLAG-TERMP" (symbol "TERM" ∷ Pair (Pair l (Pair xs (Symbol s))) r ∷ table_object A ∷ []) ∙ and_then false false (lenp-answer P (Pair l (Pair xs (Symbol s))) 3 ∙ ap truth_of (and_false (same_name s nil_name))) (λ e. cc)
    term_answer-test (Pair (Pair l (Pair xs (Pair b z))) r) = lambda_answer l xs b z r (term_answer-test b) (terms_answer-test r)

    pub terms_answer-test : (x : Object) → terms_answer x ≡ truth_of (reads_terms A x)
    terms_answer-test (Natural n) = answer-body P "LOGIC.FLAG-TERMP" (symbol "LIST" ∷ Natural n ∷ table_object A ∷ [])
    terms_answer-test (Symbol s) = answer-body P "LOGIC.FLAG-TERMP" (symbol "LIST" ∷ Symbol s ∷ table_object A ∷ []) ∙ go (same_name s nil_name)
      where
        go : (b : Bool) → truth_of b ≡ truth_of (passes (are_terms A) (cond b (Some NoTerms) None))
        go true = refl
        go false = refl
    terms_answer-test (Pair a d) = answer-body P "LOGIC.FLAG-TERMP" (symbol "LIST" ∷ Pair a d ∷ table_object A ∷ []) ∙ (and_then (reads_term A a) (reads_terms A d) (term_answer-test a) (λ _. terms_answer-test d) ∙ ap truth_of (more_terms-test (term_of a) (terms_of d)))

  pub termp-answer : (x : Object) → answer P "LOGIC.TERMP" (x ∷ table_object A ∷ []) ≡ truth_of (is_term_object A x)
  termp-answer x = answer-body P "LOGIC.TERMP" (x ∷ table_object A ∷ []) ∙ (term_answer-test x ∙ ap truth_of (sym (that-present (is_term A) (term_of x))))
