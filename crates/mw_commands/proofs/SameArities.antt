-- Where two arity tables say the same of each name that occurs in an object, they say the same of the terms and formulas that it stands for.
use Rattle.std.proofs.Common.{◌≡◌, true, ◌&&◌, eqb, List, [], ◌∷◌, length, Option, Some, None, refl, sym, ap, ap₂, subst}
use Rattle.std.proofs.lemmas.Bool.{or_left, or_right}
use Rattle.mw_model.specs.Terms.Object.{Name, Object, Symbol, Pair, symbol, named, NIL, list1, list2, list3}
use Rattle.mw_model.specs.Terms.Term.{Term, Terms, Variable, Constant, If, Call, Lambda, NoTerms, More, Formula, Equal, Not, Or, ArityTable, arity_of, has_arity, is_call_name, is_variable, are_formals, is_closed, count, names_object, term_object, terms_object, formula_object, is_term, are_terms, is_formula}
use Rattle.mw_model.specs.Terms.Reading.{formula_of, formula_under, that}
use Rattle.mw_model.specs.Terms.Substitution.{Substitution, substitution_object, is_substitution}
use Rattle.mw_model.specs.Proofs.Induction.{Case, substitutions_object, cases_object, are_substitutions, are_cases}
use Rattle.mw_model.proofs.Names.{same_name-refl}
use Rattle.mw_model.proofs.ReadBack.{formula_back}
use Rattle.mw_commands.specs.Commands.Slice.{occurs}

-- both tables say the same of each symbol that occurs in the object
abbrev pub Agree : ArityTable → ArityTable → Object → Type 0
Agree A B x = (f : Name) → occurs (Symbol f) x ≡ true → arity_of A f ≡ arity_of B f

module _ (A B : ArityTable) where
  pub agree_first : (a b : Object) → Agree A B (Pair a b) → Agree A B a
  agree_first a b h f k = h f (or_left (occurs (Symbol f) a) (occurs (Symbol f) b) k)

  pub agree_rest : (a b : Object) → Agree A B (Pair a b) → Agree A B b
  agree_rest a b h f k = h f (or_right (occurs (Symbol f) a) (occurs (Symbol f) b) k)

  pub agree_head : (f : Name) (r : Object) → Agree A B (Pair (Symbol f) r) → arity_of A f ≡ arity_of B f
  agree_head f r h = h f (or_left (occurs (Symbol f) (Symbol f)) (occurs (Symbol f) r) (same_name-refl f))

  mutual
    term_agrees : (t : Term) → Agree A B (term_object t) → is_term A t ≡ is_term B t
    term_agrees (Variable x) h = refl
    term_agrees (Constant c) h = refl
    term_agrees (If a b c) h =
        let x = term_object a in
        let y = term_object b in
        let z = term_object c in
        let all = agree_rest (symbol "IF") (list3 x y z) h in
        let last = agree_rest x (list2 y z) all in
        ap₂ ◌&&◌ (ap (λ o. has_arity o 3) (agree_head (named "IF") (list3 x y z) h))
        (ap₂ ◌&&◌ (term_agrees a (agree_first x (list2 y z) all)) (ap₂ ◌&&◌ (term_agrees b (agree_first y (list1 z) last)) (term_agrees c (agree_first z NIL (agree_rest y (list1 z) last)))))
    term_agrees (Call f ts) h =
        ap₂ (λ o b. is_call_name f && (has_arity o (count ts) && b)) (agree_head f (terms_object ts) h) (terms_agree ts (agree_rest (Symbol f) (terms_object ts) h))
    term_agrees (Lambda xs b ts) h =
        let x = names_object xs in
        let y = term_object b in
        let head = agree_first (list3 (symbol "LAMBDA") x y) (terms_object ts) h in
        let body = agree_first y NIL (agree_rest x (list1 y) (agree_rest (symbol "LAMBDA") (list2 x y) head)) in
        ap₂ (λ p q. are_formals xs && (is_closed xs b && (eqb (length xs) (count ts) && (p && q)))) (term_agrees b body) (terms_agree ts (agree_rest (list3 (symbol "LAMBDA") x y) (terms_object ts) h))

    terms_agree : (ts : Terms) → Agree A B (terms_object ts) → are_terms A ts ≡ are_terms B ts
    terms_agree NoTerms h = refl
    terms_agree (More t ts) h = ap₂ ◌&&◌ (term_agrees t (agree_first (term_object t) (terms_object ts) h)) (terms_agree ts (agree_rest (term_object t) (terms_object ts) h))

  pub formula_agrees : (F : Formula) → Agree A B (formula_object F) → is_formula A F ≡ is_formula B F
  formula_agrees (Equal a b) h =
      let x = term_object a in
      let y = term_object b in
      let both = agree_rest (symbol "PEQUAL*") (list2 x y) h in
      ap₂ ◌&&◌ (term_agrees a (agree_first x (list1 y) both)) (term_agrees b (agree_first y NIL (agree_rest x (list1 y) both)))
  formula_agrees (Not F) h = formula_agrees F (agree_first (formula_object F) NIL (agree_rest (symbol "PNOT*") (list1 (formula_object F)) h))
  formula_agrees (Or F G) h =
      let x = formula_object F in
      let y = formula_object G in
      let both = agree_rest (symbol "POR*") (list2 x y) h in
      ap₂ ◌&&◌ (formula_agrees F (agree_first x (list1 y) both)) (formula_agrees G (agree_first y NIL (agree_rest x (list1 y) both)))

  pub substitution_agrees : (s : Substitution) → Agree A B (substitution_object s) → is_substitution A s ≡ is_substitution B s
  substitution_agrees [] h = refl
  substitution_agrees (p ∷ s) h =
      let one = agree_first (Pair (Symbol p.0) (term_object p.1)) (substitution_object s) h in
      ap₂ (λ a b. is_variable p.0 && (a && b)) (term_agrees p.1 (agree_rest (Symbol p.0) (term_object p.1) one)) (substitution_agrees s (agree_rest (Pair (Symbol p.0) (term_object p.1)) (substitution_object s) h))

  substitutions_agree : (ss : List Substitution) → Agree A B (substitutions_object ss) → are_substitutions A ss ≡ are_substitutions B ss
  substitutions_agree [] h = refl
  substitutions_agree (s ∷ ss) h =
      ap₂ ◌&&◌ (substitution_agrees s (agree_first (substitution_object s) (substitutions_object ss) h)) (substitutions_agree ss (agree_rest (substitution_object s) (substitutions_object ss) h))

  pub cases_agree : (cs : List Case) → Agree A B (cases_object cs) → are_cases A cs ≡ are_cases B cs
  cases_agree [] h = refl
  cases_agree (c ∷ cs) h =
      let x = substitutions_object c.substitutions in
      ap₂ ◌&&◌ (substitutions_agree c.substitutions (agree_first x (cases_object cs) h)) (cases_agree cs (agree_rest x (cases_object cs) h))

  -- the formula that an object stands for
  pub formula_under_agrees : (x : Object) → Agree A B x → formula_under A x ≡ formula_under B x
  formula_under_agrees x h = go (formula_of x) refl
    where
      go : (o : Option Formula) → formula_of x ≡ o → that (is_formula A) o ≡ that (is_formula B) o
      go None e = refl
      go (Some F) e = ap (λ b. that (λ G. b) (Some F)) (formula_agrees F (subst (Agree A B) (sym (formula_back x F e)) h))
