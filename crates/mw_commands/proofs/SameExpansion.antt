-- Where two arity tables say the same of each name that occurs in a raw term, and of those that expansion brings, they say the same of what
-- it expands to.
use Rattle.std.proofs.Common.{◌≡◌, Bool, true, false, ◌&&◌, cond, eqb, List, [], ◌∷◌, ◌++◌, length, Option, Some, None, refl, ap, ap₂, option_and_then, option_map}
use Rattle.std.proofs.lemmas.Bool.{cond_both}
use Rattle.mw_model.specs.Terms.Object.{Name, Object, Natural, Symbol, Pair, symbol, named, same_name, same_object, nil_name, NIL, T}
use Rattle.mw_model.specs.Terms.Term.{Term, Terms, Variable, Constant, If, Call, Lambda, NoTerms, More, ArityTable, arity_of, has_arity, is_call_name, are_formals, is_closed, count, variables, is_term, are_terms}
use Rattle.mw_model.specs.Terms.Reading.{names_of, and_more, lambda_of, if_nil, when, that, map2}
use Rattle.std.specs.Option.{option_zip}
use Rattle.mw_model.specs.Events.Expansion.{Abbreviation, AND, OR, COND, LIST, LET, LETSTAR, FIRST, SECOND, THIRD, FOURTH, FIFTH, QUOTE, Other, abbreviation_of, expand_symbol, and_term, or_term, list_term, car_term, cdr_term, of_single, call_term, form, cond_term, without, bound_names, let_actuals, let_term, expanded, expanded_each, clause, clauses, binding, bindings, let_star, expand}
use Rattle.mw_commands.proofs.SameArities.{Agree, agree_first, agree_rest, agree_head}

-- both tables say the same of the functions that abbreviations stand for
pub record BringSame (A B : ArityTable) : Type 0 where
  pub same_if : arity_of A (named "IF") ≡ arity_of B (named "IF")
  pub same_cons : arity_of A (named "CONS") ≡ arity_of B (named "CONS")
  pub same_car : arity_of A (named "CAR") ≡ arity_of B (named "CAR")
  pub same_cdr : arity_of A (named "CDR") ≡ arity_of B (named "CDR")

when_holds : {X : Type 0} (P : Option X → Type 0) (t : Bool) (o : Option X) → P None → P o → P (when t o)
when_holds P true o n h = h
when_holds P false o n h = n

module _ (A B : ArityTable) (bring : BringSame A B) where
  abbrev Same : Term → Type 0
  Same t = is_term A t ≡ is_term B t

  abbrev AreSame : Terms → Type 0
  AreSame ts = are_terms A ts ≡ are_terms B ts

  -- of what there may be
  abbrev SameIf : Option Term → Type 0
  SameIf None = Unit {0}
  SameIf (Some t) = Same t

  abbrev ClauseSame : Option (Term × Term) → Type 0
  ClauseSame None = Unit {0}
  ClauseSame (Some p) = Same p.0 × Same p.1

  abbrev BindingSame : Option (Name × Term) → Type 0
  BindingSame None = Unit {0}
  BindingSame (Some p) = Same p.1

  abbrev EachSame : List (Name × Term) → Type 0
  EachSame [] = Unit {0}
  EachSame (p ∷ ps) = Same p.1 × EachSame ps

  abbrev BindingsSame : Option (List (Name × Term)) → Type 0
  BindingsSame None = Unit {0}
  BindingsSame (Some ps) = EachSame ps

  -- ---- terms from their parts

  if_same : (a b c : Term) → Same a → Same b → Same c → Same (If a b c)
  if_same a b c x y z = ap₂ ◌&&◌ (ap (λ o. has_arity o 3) bring.same_if) (ap₂ ◌&&◌ x (ap₂ ◌&&◌ y z))

  call_same : (f : Name) (ts : Terms) → arity_of A f ≡ arity_of B f → AreSame ts → Same (Call f ts)
  call_same f ts h k = ap₂ (λ o b. is_call_name f && (has_arity o (count ts) && b)) h k

  lambda_same : (xs : List Name) (b : Term) (ts : Terms) → Same b → AreSame ts → Same (Lambda xs b ts)
  lambda_same xs b ts h k = ap₂ (λ p q. are_formals xs && (is_closed xs b && (eqb (length xs) (count ts) && (p && q)))) h k

  more_same : (t : Term) (ts : Terms) → Same t → AreSame ts → AreSame (More t ts)
  more_same t ts h k = ap₂ ◌&&◌ h k

  one_same : (t : Term) → Same t → AreSame (More t NoTerms)
  one_same t h = more_same t NoTerms h refl

  -- ---- the forms whose members are all raw terms. What is known of the members is taken apart along with them.

  abbrev EachIs : Terms → Type 0
  EachIs NoTerms = Unit {0}
  EachIs (More t ts) = Same t × EachIs ts

  abbrev EachIf : Option Terms → Type 0
  EachIf None = Unit {0}
  EachIf (Some ts) = EachIs ts

  each_same : (ts : Terms) → EachIs ts → AreSame ts
  each_same NoTerms h = refl
  each_same (More t ts) h = more_same t ts h.0 (each_same ts h.1)

  more_each : (o : Option Term) (p : Option Terms) → SameIf o → EachIf p → EachIf (map2 More o p)
  more_each (Some t) (Some ts) h k = (h, k)
  more_each _ _ h k = tt

  and_same : (ts : Terms) → EachIs ts → Same (and_term ts)
  and_same NoTerms h = refl
  and_same (More a NoTerms) h = h.0
  and_same (More a (More b ts)) h = if_same a (and_term (More b ts)) (Constant NIL) h.0 (and_same (More b ts) h.1) refl

  or_same : (ts : Terms) → EachIs ts → Same (or_term ts)
  or_same NoTerms h = refl
  or_same (More a NoTerms) h = h.0
  or_same (More a (More b ts)) h = if_same a a (or_term (More b ts)) h.0 h.0 (or_same (More b ts) h.1)

  list_same : (ts : Terms) → EachIs ts → Same (list_term ts)
  list_same NoTerms h = refl
  list_same (More a ts) h = call_same (named "CONS") (More a (More (list_term ts) NoTerms)) bring.same_cons (more_same a (More (list_term ts) NoTerms) h.0 (one_same (list_term ts) (list_same ts h.1)))

  car_same : (a : Term) → Same a → Same (car_term a)
  car_same a h = call_same (named "CAR") (More a NoTerms) bring.same_car (one_same a h)

  cdr_same : (a : Term) → Same a → Same (cdr_term a)
  cdr_same a h = call_same (named "CDR") (More a NoTerms) bring.same_cdr (one_same a h)

  single_same : (make : Term → Term) (ts : Terms) → ((a : Term) → Same a → Same (make a)) → EachIs ts → SameIf (of_single make ts)
  single_same make NoTerms f h = tt
  single_same make (More a NoTerms) f h = f a h.0
  single_same make (More a (More b ts)) f h = tt

  plain_same : (f : Name) (ts : Terms) → arity_of A f ≡ arity_of B f → EachIs ts → Same (call_term f ts)
  plain_same f NoTerms h k = call_same f NoTerms h refl
  plain_same f (More a NoTerms) h k = call_same f (More a NoTerms) h (each_same (More a NoTerms) k)
  plain_same f (More a (More b NoTerms)) h k = call_same f (More a (More b NoTerms)) h (each_same (More a (More b NoTerms)) k)
  plain_same f (More a (More b (More c NoTerms))) h k =
      let ts = More a (More b (More c NoTerms)) in
      cond_both (same_name f (named "IF")) (If a b c) (Call f ts) Same (λ e. if_same a b c k.0 k.1.0 k.1.1.0) (λ e. call_same f ts h (each_same ts k))
  plain_same f (More a (More b (More c (More d ts)))) h k = call_same f (More a (More b (More c (More d ts)))) h (each_same (More a (More b (More c (More d ts)))) k)

  form_same : (w : Abbreviation) (f : Name) (ts : Terms) → arity_of A f ≡ arity_of B f → EachIs ts → SameIf (form w f ts)
  form_same AND f ts h k = and_same ts k
  form_same OR f ts h k = or_same ts k
  form_same LIST f ts h k = list_same ts k
  form_same FIRST f ts h k = single_same car_term ts car_same k
  form_same SECOND f ts h k = single_same _ ts (λ a i. car_same (cdr_term a) (cdr_same a i)) k
  form_same THIRD f ts h k = single_same _ ts (λ a i. car_same (cdr_term (cdr_term a)) (cdr_same (cdr_term a) (cdr_same a i))) k
  form_same FOURTH f ts h k = single_same _ ts (λ a i. car_same (cdr_term (cdr_term (cdr_term a))) (cdr_same (cdr_term (cdr_term a)) (cdr_same (cdr_term a) (cdr_same a i)))) k
  form_same FIFTH f ts h k =
      single_same _ ts (λ a i. car_same (cdr_term (cdr_term (cdr_term (cdr_term a)))) (cdr_same (cdr_term (cdr_term (cdr_term a))) (cdr_same (cdr_term (cdr_term a)) (cdr_same (cdr_term a) (cdr_same a i))))) k
  form_same Other f ts h k = plain_same f ts h k
  form_same _ f ts h k = tt

  form_if_same : (w : Abbreviation) (f : Name) (o : Option Terms) → arity_of A f ≡ arity_of B f → EachIf o → SameIf (option_and_then (form w f) o)
  form_if_same w f None h k = tt
  form_if_same w f (Some ts) h k = form_same w f ts h k

  -- ---- the other forms

  clause_same : (o p : Option Term) → SameIf o → SameIf p → ClauseSame (option_zip o p)
  clause_same (Some a) (Some b) h k = (h, k)
  clause_same _ _ h k = tt

  cond_same : (o : Option (Term × Term)) (p : Option Term) → ClauseSame o → SameIf p → SameIf (cond_term o p)
  cond_same (Some c) (Some t) h k = if_same c.0 c.1 t h.0 h.1 k
  cond_same _ _ h k = tt

  bound_same : (x : Name) (o : Option Term) → SameIf o → BindingSame (option_map (λ t. (x, t)) o)
  bound_same x None h = tt
  bound_same x (Some t) h = h

  binds_same : (o : Option (Name × Term)) (p : Option (List (Name × Term))) → BindingSame o → BindingsSame p → BindingsSame (and_more o p)
  binds_same (Some b) (Some bs) h k = (h, k)
  binds_same _ _ h k = tt

  actuals_same : (ps : List (Name × Term)) (ys : List Name) → EachSame ps → AreSame (let_actuals ps ys)
  actuals_same [] [] h = refl
  actuals_same [] (y ∷ ys) h = more_same (Variable y) (let_actuals [] ys) refl (actuals_same [] ys h)
  actuals_same (p ∷ ps) ys h = more_same p.1 (let_actuals ps ys) h.0 (actuals_same ps ys h.1)

  let_same : (ps : List (Name × Term)) (b : Term) → EachSame ps → Same b → Same (let_term ps b)
  let_same ps b h k =
      let ys = without (variables b) (bound_names ps) in
      lambda_same (bound_names ps ++ ys) b (let_actuals ps ys) k (actuals_same ps ys h)

  let_if_same : (o : Option (List (Name × Term))) (p : Option Term) → BindingsSame o → SameIf p → SameIf (map2 let_term o p)
  let_if_same (Some ps) (Some b) h k = let_same ps b h k
  let_if_same _ _ h k = tt

  star_same : (o : Option (Name × Term)) (p : Option Term) → BindingSame o → SameIf p → SameIf (map2 (λ p c. let_term (p ∷ []) c) o p)
  star_same (Some b) (Some t) h k = let_same (b ∷ []) t (h, tt) k
  star_same _ _ h k = tt

  lambda_if_same : (t : Bool) (o : Option (List Name)) (p : Option Term) (q : Option Terms) → SameIf p → EachIf q → SameIf (lambda_of t o p q)
  lambda_if_same true (Some xs) (Some b) (Some ts) h k = lambda_same xs b ts h (each_same ts k)
  lambda_if_same _ _ _ _ h k = tt

  symbol_same : (s : Name) → Same (expand_symbol s)
  symbol_same s =
      cond_both (same_name s (named "T")) (Constant T) (cond (same_name s nil_name) (Constant NIL) (Variable s)) Same (λ e. refl) (λ e. cond_both (same_name s nil_name) (Constant NIL) (Variable s) Same (λ e. refl) (λ e. refl))

  nil_each : (s : Name) → EachIf (if_nil s NoTerms)
  nil_each s = cond_both (same_name s nil_name) (Some NoTerms) None EachIf (λ e. tt) (λ e. tt)

  nil_same : (s : Name) → SameIf (if_nil s (Constant NIL))
  nil_same s = cond_both (same_name s nil_name) (Some (Constant NIL)) None SameIf (λ e. refl) (λ e. tt)

  nil_bindings : (s : Name) → BindingsSame (if_nil s [])
  nil_bindings s = cond_both (same_name s nil_name) (Some []) None BindingsSame (λ e. tt) (λ e. tt)

  -- ---- by what a form begins with

  none_after : (w v : Abbreviation) (f : Name) → arity_of A f ≡ arity_of B f → SameIf (elim w [ COND ↦ Some (Constant NIL) | _ ↦ form v f NoTerms ])
  none_after COND v f h = refl
  none_after _ v f h = form_same v f NoTerms h tt

  one_after : (w v : Abbreviation) (f : Name) (a : Object) → arity_of A f ≡ arity_of B f → SameIf (expanded a) → ClauseSame (clause a) → SameIf (elim w [ QUOTE ↦ Some (Constant a) | COND ↦ cond_term (clause a) (Some (Constant NIL)) | _ ↦ option_and_then (form v f) (map2 More (expanded a) (Some NoTerms)) ])
  one_after QUOTE v f a h i j = refl
  one_after COND v f a h i j = cond_same (clause a) (Some (Constant NIL)) j refl
  one_after _ v f a h i j = form_if_same v f (map2 More (expanded a) (Some NoTerms)) h (more_each (expanded a) (Some NoTerms) i tt)

  -- what is known of the members after the first
  record MembersSame (a b z : Object) : Type 0 where
    term_a : SameIf (expanded a)
    clause_a : ClauseSame (clause a)
    bindings_a : BindingsSame (bindings a)
    star_a : (o : Option Term) → SameIf o → SameIf (let_star a o)
    term_b : SameIf (expanded b)
    clause_b : ClauseSame (clause b)
    terms_z : EachIf (expanded_each z)
    clauses_z : SameIf (clauses z)

  more_after : (w v : Abbreviation) (f : Name) (a b z : Object) → arity_of A f ≡ arity_of B f → MembersSame a b z → SameIf (elim w [ COND ↦ cond_term (clause a) (cond_term (clause b) (clauses z)) | LET ↦ when (same_object z NIL) (map2 let_term (bindings a) (expanded b)) | LETSTAR ↦ when (same_object z NIL) (let_star a (expanded b)) | _ ↦ option_and_then (form v f) (map2 More (expanded a) (map2 More (expanded b) (expanded_each z))) ])
  more_after COND v f a b z h m = cond_same (clause a) (cond_term (clause b) (clauses z)) m.clause_a (cond_same (clause b) (clauses z) m.clause_b m.clauses_z)
  more_after LET v f a b z h m = when_holds SameIf (same_object z NIL) (map2 let_term (bindings a) (expanded b)) tt (let_if_same (bindings a) (expanded b) m.bindings_a m.term_b)
  more_after LETSTAR v f a b z h m = when_holds SameIf (same_object z NIL) (let_star a (expanded b)) tt (m.star_a (expanded b) m.term_b)
  more_after _ v f a b z h m =
      form_if_same v f (map2 More (expanded a) (map2 More (expanded b) (expanded_each z))) h (more_each (expanded a) (map2 More (expanded b) (expanded_each z)) m.term_a (more_each (expanded b) (expanded_each z) m.term_b m.terms_z))

  -- ---- objects

  mutual
    expanded_same : (x : Object) → Agree A B x → SameIf (expanded x)
    expanded_same (Natural n) h = refl
    expanded_same (Symbol s) h = symbol_same s
    expanded_same (Pair (Natural n) r) h = tt
    expanded_same (Pair (Symbol f) (Natural n)) h = tt
    expanded_same (Pair (Symbol f) (Symbol s)) h =
        when_holds SameIf (same_name s nil_name) (elim (abbreviation_of f) [ COND ↦ Some (Constant NIL) | _ ↦ form (abbreviation_of f) f NoTerms ]) tt (none_after (abbreviation_of f) (abbreviation_of f) f (agree_head A B f (Symbol s) h))
    expanded_same (Pair (Symbol f) (Pair a (Natural n))) h = tt
    expanded_same (Pair (Symbol f) (Pair a (Symbol s))) h =
        let i = agree_first A B a (Symbol s) (agree_rest A B (Symbol f) (Pair a (Symbol s)) h) in
        when_holds SameIf (same_name s nil_name) _ tt (one_after (abbreviation_of f) (abbreviation_of f) f a (agree_head A B f (Pair a (Symbol s)) h) (expanded_same a i) (clause_is a i))
    expanded_same (Pair (Symbol f) (Pair a (Pair b z))) h =
        let all = agree_rest A B (Symbol f) (Pair a (Pair b z)) h in
        let i = agree_first A B a (Pair b z) all in
        let later = agree_rest A B a (Pair b z) all in
        let j = agree_first A B b z later in
        let k = agree_rest A B b z later in
        more_after (abbreviation_of f) (abbreviation_of f) f a b z (agree_head A B f (Pair a (Pair b z)) h)
        (record {
          term_a = expanded_same a i;
          clause_a = clause_is a i;
          bindings_a = bindings_are a i;
          star_a = star_is a i;
          term_b = expanded_same b j;
          clause_b = clause_is b j;
          terms_z = each_expanded z k;
          clauses_z = clauses_are z k;
        })
    expanded_same (Pair (Pair l (Natural n)) r) h = tt
    expanded_same (Pair (Pair l (Symbol s)) r) h = tt
    expanded_same (Pair (Pair l (Pair xs (Natural n))) r) h = tt
    expanded_same (Pair (Pair l (Pair xs (Symbol s))) r) h = tt
    expanded_same (Pair (Pair l (Pair xs (Pair b z))) r) h =
        let head = agree_first A B (Pair l (Pair xs (Pair b z))) r h in
        let body = agree_first A B b z (agree_rest A B xs (Pair b z) (agree_rest A B l (Pair xs (Pair b z)) head)) in
        lambda_if_same (same_object l (symbol "LAMBDA") && same_object z NIL) (names_of xs) (expanded b) (expanded_each r) (expanded_same b body) (each_expanded r (agree_rest A B (Pair l (Pair xs (Pair b z))) r h))

    each_expanded : (x : Object) → Agree A B x → EachIf (expanded_each x)
    each_expanded (Natural n) h = tt
    each_expanded (Symbol s) h = nil_each s
    each_expanded (Pair a r) h = more_each (expanded a) (expanded_each r) (expanded_same a (agree_first A B a r h)) (each_expanded r (agree_rest A B a r h))

    clause_is : (x : Object) → Agree A B x → ClauseSame (clause x)
    clause_is (Pair c (Pair e (Symbol s))) h =
        let i = agree_rest A B c (Pair e (Symbol s)) h in
        when_holds ClauseSame (same_name s nil_name) (option_zip (expanded c) (expanded e)) tt (clause_same (expanded c) (expanded e) (expanded_same c (agree_first A B c (Pair e (Symbol s)) h)) (expanded_same e (agree_first A B e (Symbol s) i)))
    clause_is _ h = tt

    clauses_are : (x : Object) → Agree A B x → SameIf (clauses x)
    clauses_are (Natural n) h = tt
    clauses_are (Symbol s) h = nil_same s
    clauses_are (Pair a r) h = cond_same (clause a) (clauses r) (clause_is a (agree_first A B a r h)) (clauses_are r (agree_rest A B a r h))

    binding_is : (x : Object) → Agree A B x → BindingSame (binding x)
    binding_is (Pair (Symbol x) (Pair e (Symbol s))) h =
        let i = agree_first A B e (Symbol s) (agree_rest A B (Symbol x) (Pair e (Symbol s)) h) in when_holds BindingSame (same_name s nil_name) (option_map (λ t. (x, t)) (expanded e)) tt (bound_same x (expanded e) (expanded_same e i))
    binding_is _ h = tt

    bindings_are : (x : Object) → Agree A B x → BindingsSame (bindings x)
    bindings_are (Natural n) h = tt
    bindings_are (Symbol s) h = nil_bindings s
    bindings_are (Pair a r) h = binds_same (binding a) (bindings r) (binding_is a (agree_first A B a r h)) (bindings_are r (agree_rest A B a r h))

    star_is : (x : Object) → Agree A B x → (o : Option Term) → SameIf o → SameIf (let_star x o)
    star_is (Natural n) h o k = tt
    star_is (Symbol s) h o k = when_holds SameIf (same_name s nil_name) o tt k
    star_is (Pair a r) h o k = star_same (binding a) (let_star r o) (binding_is a (agree_first A B a r h)) (star_is r (agree_rest A B a r h) o k)

  pub expand_agrees : (x : Object) → Agree A B x → expand A x ≡ expand B x
  expand_agrees x h = go (expanded x) (expanded_same x h)
    where
      go : (o : Option Term) → SameIf o → that (is_term A) o ≡ that (is_term B) o
      go None k = refl
      go (Some t) k = ap (λ b. when b (Some t)) k
