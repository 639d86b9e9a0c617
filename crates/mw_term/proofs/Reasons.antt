-- Each test that a pair does not pass has a reason that looks at its parts, at the first two members of its rest, or at the arity of its
-- first part alone: where these last, or the pair is noted with them, nothing else has to be noted.
use Rattle.std.proofs.Common.{◌≡◌, ℕ, ◌<◌, Bool, true, false, ◌&&◌, ◌||◌, not, cond, List, length, Option, Some, None, ◌⊎◌, inl, inr, is_some, refl, sym, ap, ap₂, ◌∙◌, subst, arith, true≢false}
use Rattle.mw_model.specs.Terms.Object.{Name, Object, Natural, Symbol, Pair, named, symbol, same_name, same_object, nil_name, NIL}
use Rattle.mw_model.specs.Terms.Term.{Term, Terms, ArityTable, arity_of, is_function_name, count, are_formals, is_closed, is_term, are_terms}
use Rattle.mw_model.specs.Terms.Reading.{names_of, term_of, terms_of, when, that}
use Rattle.mw_model.specs.Values.Primitive.{is_symbol}
use Rattle.mw_model.specs.Laws.Rules.{is_term_object, is_formula_object}
use Rattle.mw_heap.specs.Objects.{object_at, IsIn, ArePartsOlder, StandsBefore}
use Rattle.mw_term.specs.Parts.{is_single}
use Rattle.mw_term.specs.Marking.{counted, term_count, head_count, formal_count, mark_of_object}
use Rattle.mw_term.specs.Watching.{Test, as_term, as_terms, as_formula, as_head, passes, right_mark, Extends, Lasts, Reason, never, by_name, by_part, begins_formula, looks_at_members, IsEarly, IsPartWatched, AreMembersWatched}
use Rattle.mw_term.proofs.Marked.{is_present-when, takes, allows_if, is_term-call, is_term-lambda, is_formula-binary, is_formula-unary, term_count-symbol}
use Rattle.mw_term.proofs.ListMarks.{terms_of_pair}
use Rattle.mw_term.proofs.Watching.{both-true, more-term, more-counted, more-passes}

denied-of : (p q : Bool) → (p && q) ≡ false → (p ≡ false) ⊎ ((p ≡ true) × (q ≡ false))
denied-of true q h = inr (refl, h)
denied-of false q h = inl refl

and-first : (p q : Bool) → p ≡ false → (p && q) ≡ false
and-first p q e = ap (λ b. b && q) e

and-second : (p q : Bool) → q ≡ false → (p && q) ≡ false
and-second true q e = e
and-second false q e = refl

none-of : {X : Type 0} (o : Option X) → is_some o ≡ false → o ≡ None
none-of None h = refl
none-of (Some x) h = absurd (true≢false h)

takes-absent : (o : Option ℕ) → takes None o ≡ false
takes-absent None = refl
takes-absent (Some n) = refl

-- how many terms there are stays, with more names
module _ (A B : ArityTable) (more : Extends A B) where
  same-cond : (b c : Bool) (n m : ℕ) → (b ≡ true → c ≡ true) → cond b (Some n) None ≡ Some m → cond c (Some n) None ≡ Some m
  same-cond true c n m f h = ap (λ d. cond d (Some n) None) (f refl) ∙ h
  same-cond false c n m f h = cc

  same-counted : (x : Object) (n : ℕ) → term_count A x ≡ Some n → term_count B x ≡ Some n
  same-counted x n h = go (terms_of x) h (more-counted A B more)
    where
      go : (o : Option Terms) → counted A o ≡ Some n → ((p : Option Terms) → is_some (counted A p) ≡ true → is_some (counted B p) ≡ true) → counted B o ≡ Some n
      go None h f = h
      go (Some ts) h f = same-cond (are_terms A ts) (are_terms B ts) (count ts) n (λ e. tested (are_terms B ts) (f (Some ts) (ap (λ d. is_some (cond d (Some (count ts)) None)) e))) h
        where
          tested : (b : Bool) → is_some {T = ℕ} (cond b (Some (count ts)) None) ≡ true → b ≡ true
          tested true e = refl
          tested false e = e

  same-heads : (o : Option (List Name)) (p : Option Term) (n : ℕ) → head_count A o p ≡ Some n → head_count B o p ≡ Some n
  same-heads None p n h = h
  same-heads (Some xs) None n h = h
  same-heads (Some xs) (Some b) n h =
      same-cond (are_formals xs && (is_closed xs b && is_term A b)) (are_formals xs && (is_closed xs b && is_term B b)) (length xs) n
      (λ e. let p = both-true (are_formals xs) (is_closed xs b && is_term A b) e in let q = both-true (is_closed xs b) (is_term A b) p.1 in ap₂ ◌&&◌ p.0 (ap₂ ◌&&◌ q.0 (more-term A B more b q.1)))
      h

  same-when : (b : Bool) (o p : Option ℕ) (n : ℕ) → (o ≡ Some n → p ≡ Some n) → when b o ≡ Some n → when b p ≡ Some n
  same-when true o p n f h = f h
  same-when false o p n f h = h

  same-formals : (x : Object) (n : ℕ) → formal_count A x ≡ Some n → formal_count B x ≡ Some n
  same-formals (Natural m) n h = h
  same-formals (Symbol s) n h = h
  same-formals (Pair l (Natural m)) n h = h
  same-formals (Pair l (Symbol s)) n h = h
  same-formals (Pair l (Pair xs (Natural m))) n h = h
  same-formals (Pair l (Pair xs (Symbol s))) n h = h
  same-formals (Pair l (Pair xs (Pair b z))) n h = same-when (same_object l (symbol "LAMBDA") && same_object z NIL) _ _ n (same-heads (names_of xs) (term_of b) n) h

not-false : (b : Bool) → b ≡ false → not b ≡ true
not-false b e = ap not e

or-first : (p q : Bool) → p ≡ true → (p || q) ≡ true
or-first p q e = ap (λ b. b || q) e

or-second : (p q : Bool) → q ≡ true → (p || q) ≡ true
or-second true q e = refl
or-second false q e = e

-- the head of a lambda is the same by two tables that say the same of its body
same_head : (A B : ArityTable) (o : Option (List Name)) (p : Option Term) → is_some (that (is_term A) p) ≡ is_some (that (is_term B) p) → head_count A o p ≡ head_count B o p
same_head A B None p h = refl
same_head A B (Some xs) None h = refl
same_head A B (Some xs) (Some b) h =
    ap (λ t. cond (are_formals xs && (is_closed xs b && t)) (Some (length xs)) None) (sym (is_present-when (is_term A b) b) ∙ (h ∙ is_present-when (is_term B b) b))

-- a symbol passes the same tests by all tables
same-symbol : (A B : ArityTable) (s : Name) (k : Test) → passes B (Symbol s) k ≡ passes A (Symbol s) k
same-symbol A B s as_term = refl
same-symbol A B s as_terms = ap is_some (term_count-symbol B s ∙ sym (term_count-symbol A s))
same-symbol A B s as_formula = refl
same-symbol A B s as_head = refl

no-natural : (B : ArityTable) (n : ℕ) (k : Test) → passes B (Natural n) k ≡ false
no-natural B n as_term = refl
no-natural B n as_terms = refl
no-natural B n as_formula = refl
no-natural B n as_head = refl

-- What is no pair never passes what it does not pass.
pub natural-lasts : (A : ArityTable) (n : ℕ) → Lasts A (Natural n)
natural-lasts A n = λ k denied B more. no-natural B n k

pub symbol-lasts : (A : ArityTable) (s : Name) → Lasts A (Symbol s)
symbol-lasts A s = λ k denied B more. same-symbol A B s k ∙ denied

module _ (A : ArityTable) (os : List Object) (x first rest : ℕ) (before : first < x) (behind : rest < x) (at : object_at os x ≡ Pair (object_at os first) (object_at os rest))
    (lasting : ℕ → Type 0) (lasts : (w : ℕ) → w < x → lasting w → Lasts A (object_at os w)) (noted : ℕ → ℕ → Type 0) (parts : IsPartWatched A os lasting (λ w. noted w x) first rest) where
  part : (w : ℕ) (j k : Test) → w < x → lasting w ⊎ noted w x → passes A (object_at os w) j ≡ false → ((B : ArityTable) → Extends A B → passes B (object_at os w) j ≡ false → passes B (object_at os x) k ≡ false) → Reason A os (right_mark A os) noted x k
  part w j k l watched denied g =
      elim watched [
        | inl lasting ↦ never (λ B more. g B more (lasts w l lasting j denied B more))
        | inr note ↦ by_part w j l denied g note
      ]

  -- lists of terms
  terms-are : (B : ArityTable) → (passes B (object_at os first) as_term && passes B (object_at os rest) as_terms) ≡ passes B (object_at os x) as_terms
  terms-are B = terms_of_pair B (object_at os first) (object_at os rest) (mark_of_object B (object_at os first)) (mark_of_object B (object_at os rest)) refl refl ∙ ap (λ o. passes B o as_terms) (sym at)

  pub terms-reason : passes A (object_at os x) as_terms ≡ false → Reason A os (right_mark A os) noted x as_terms
  terms-reason denied =
      go (passes A (object_at os rest) as_terms) refl
    where
      by_first : ((B : ArityTable) → Extends A B → passes B (object_at os first) as_term ≡ false → passes B (object_at os x) as_terms ≡ false)
      by_first B more e = sym (terms-are B) ∙ and-first (passes B (object_at os first) as_term) (passes B (object_at os rest) as_terms) e

      first_denied : passes A (object_at os rest) as_terms ≡ true → passes A (object_at os first) as_term ≡ false → (o : Object) → object_at os first ≡ o → Reason A os (right_mark A os) noted x as_terms
      first_denied r d (Natural n) e = part first as_term as_terms before (parts.on_first r (ap is_symbol e)) d by_first
      first_denied r d (Pair a b) e = part first as_term as_terms before (parts.on_first r (ap is_symbol e)) d by_first
      first_denied r d (Symbol s) e =
          never (λ B more. by_first B more (ap (λ o. passes B o as_term) e ∙ (same-symbol A B s as_term ∙ (ap (λ o. passes A o as_term) (sym e) ∙ d))))

      go : (b : Bool) → passes A (object_at os rest) as_terms ≡ b → Reason A os (right_mark A os) noted x as_terms
      go false r = part rest as_terms as_terms behind (parts.on_rest r) r (λ B more e. sym (terms-are B) ∙ and-second (passes B (object_at os first) as_term) (passes B (object_at os rest) as_terms) e)
      go true r =
          elim (denied-of _ _ (terms-are A ∙ denied)) [
            | inl d ↦ first_denied r d (object_at os first) refl
            | inr d ↦ absurd (true≢false (sym r ∙ d.1))
          ]

  -- calls
  module _ (f : Name) (is : object_at os first ≡ Symbol f) where
    call-is : (B : ArityTable) → passes B (object_at os x) as_term
        ≡ cond (same_name f (named "QUOTE")) (is_single (object_at os rest)) (takes (arity_of B f) (term_count B (object_at os rest)) && allows_if (same_name f (named "IF")) (term_count B (object_at os rest)))
    call-is B = ap (is_term_object B) (at ∙ ap (λ o. Pair o (object_at os rest)) is) ∙ is_term-call B f (object_at os rest)

    call-reason : passes A (object_at os x) as_term ≡ false → Reason A os (right_mark A os) noted x as_term
    call-reason denied = go (same_name f (named "QUOTE")) refl (term_count A (object_at os rest)) refl (arity_of A f) refl
      where
        other : (B : ArityTable) → same_name f (named "QUOTE") ≡ false → (o p : Option ℕ) → arity_of B f ≡ o → term_count B (object_at os rest) ≡ p → passes B (object_at os x) as_term ≡ (takes o p && allows_if (same_name f (named "IF")) p)
        other B q o p e d =
            call-is B
            ∙ (ap (λ b. cond b (is_single (object_at os rest)) (takes (arity_of B f) (term_count B (object_at os rest)) && allows_if (same_name f (named "IF")) (term_count B (object_at os rest)))) q
            ∙ ap₂ (λ m n. takes m n && allows_if (same_name f (named "IF")) n) e d)

        go : (q : Bool) → same_name f (named "QUOTE") ≡ q → (n : Option ℕ) → term_count A (object_at os rest) ≡ n → (m : Option ℕ) → arity_of A f ≡ m → Reason A os (right_mark A os) noted x as_term
        go true q n e m d =
            let quoted : ((B : ArityTable) → passes B (object_at os x) as_term ≡ is_single (object_at os rest)) = λ B. call-is B ∙ ap (λ b. cond b (is_single (object_at os rest)) (takes (arity_of B f) (term_count B (object_at os rest)) && allows_if (same_name f (named "IF")) (term_count B (object_at os rest)))) q in
            never (λ B more. quoted B ∙ (sym (quoted A) ∙ denied))
        go false q None e m d =
            part rest as_terms as_term behind (parts.on_rest (ap is_some e)) (ap is_some e)
            (λ B more h. other B q (arity_of B f) None refl (none-of (term_count B (object_at os rest)) h))
        go false q (Some n) e None d = absent_name (is_function_name f) refl
          where
            -- what is no function name never gets an arity
            absent_name : (b : Bool) → is_function_name f ≡ b → Reason A os (right_mark A os) noted x as_term
            absent_name false w =
                never (λ B more. other B q None (term_count B (object_at os rest)) (more.words f w ∙ d) refl ∙ and-first (takes None (term_count B (object_at os rest))) (allows_if (same_name f (named "IF")) (term_count B (object_at os rest))) (takes-absent (term_count B (object_at os rest))))
            absent_name true w =
                by_name first f before is d
                (λ B more absent. other B q None (term_count B (object_at os rest)) absent refl ∙ and-first (takes None (term_count B (object_at os rest))) (allows_if (same_name f (named "IF")) (term_count B (object_at os rest))) (takes-absent (term_count B (object_at os rest)))) (parts.on_name (ap is_some e) f is w d)
        go false q (Some n) e (Some m) d =
            never (λ B more. other B q (Some m) (Some n) (more.kept f m d) (same-counted A B more (object_at os rest) n e) ∙ (sym (other A q (Some m) (Some n) d e) ∙ denied))

  module _ (l y : Object) (is : object_at os first ≡ Pair l y) where
    lambda-is : (B : ArityTable) (o p : Option ℕ) → formal_count B (object_at os first) ≡ o → term_count B (object_at os rest) ≡ p → passes B (object_at os x) as_term ≡ takes o p
    lambda-is B o p e d =
        ap (is_term_object B) (at ∙ ap (λ a. Pair a (object_at os rest)) is)
        ∙ (is_term-lambda B l y (object_at os rest) ∙ ap₂ takes (ap (formal_count B) (sym is) ∙ e) d)

    lambda-reason : passes A (object_at os x) as_term ≡ false → Reason A os (right_mark A os) noted x as_term
    lambda-reason denied = go (formal_count A (object_at os first)) refl (term_count A (object_at os rest)) refl
      where
        go : (o : Option ℕ) → formal_count A (object_at os first) ≡ o → (p : Option ℕ) → term_count A (object_at os rest) ≡ p → Reason A os (right_mark A os) noted x as_term
        go o e None d =
            part rest as_terms as_term behind (parts.on_rest (ap is_some d)) (ap is_some d) (λ B more h. lambda-is B (formal_count B (object_at os first)) None refl (none-of (term_count B (object_at os rest)) h))
        go None e (Some n) d =
            part first as_head as_term before (parts.on_first (ap is_some d) (ap is_symbol is)) (ap is_some e)
            (λ B more h. lambda-is B None (term_count B (object_at os rest)) (none-of (formal_count B (object_at os first)) h) refl ∙ takes-absent (term_count B (object_at os rest)))
        go (Some m) e (Some n) d =
            never (λ B more. lambda-is B (Some m) (Some n) (same-formals A B more (object_at os first) m e) (same-counted A B more (object_at os rest) n d) ∙ (sym (lambda-is A (Some m) (Some n) e d) ∙ denied))

  pub term-reason : passes A (object_at os x) as_term ≡ false → Reason A os (right_mark A os) noted x as_term
  term-reason denied = go (object_at os first) refl
    where
      go : (o : Object) → object_at os first ≡ o → Reason A os (right_mark A os) noted x as_term
      go (Natural n) e = never (λ B more. ap (is_term_object B) (at ∙ ap (λ o. Pair o (object_at os rest)) e))
      go (Symbol f) e = call-reason f e denied
      go (Pair l y) e = lambda-reason l y e denied

  -- formulas and heads, which look at the first two members of the rest
  module _ (older : ArePartsOlder os) (within : IsIn os x) (members : AreMembersWatched A os lasting (λ w. noted w x) x first rest) where
    early : (o : Object) (j k : Test) (p t : Object) → object_at os rest ≡ Pair p t → (StandsBefore os rest p → StandsBefore os rest t → StandsBefore os rest o) → IsEarly o (object_at os rest) → looks_at_members (object_at os first) (right_mark A os x) ≡ true → passes A o j ≡ false → ((B : ArityTable) → Extends A B → passes B o j ≡ false → passes B (object_at os x) k ≡ false) → Reason A os (right_mark A os) noted x k
    early o j k p t e choose is looks denied g =
        let parts = older rest p t (omega (arith, behind, within)) e in
        let (w, below, same) = choose parts.0 parts.1 in
        let l : w < x = omega (arith, below, behind) in
        part w j k l (members looks w l (subst (λ y. IsEarly y (object_at os rest)) (sym same) is)) (ap (λ y. passes A y j) same ∙ denied) (λ B more h. g B more (ap (λ y. passes B y j) (sym same) ∙ h))

    second-of : (p q z : Object) → StandsBefore os rest (Pair q z) → StandsBefore os rest q
    second-of p q z s = let n = (older s.0 q z (omega (arith, s.1, behind, within)) s.2).0 in (n.0, omega (arith, n.1, s.1), n.2)

    module _ (h : Object) (is : object_at os first ≡ h) where
      looks-formula : begins_formula h ≡ true → passes A (object_at os x) as_formula ≡ false → looks_at_members (object_at os first) (right_mark A os x) ≡ true
      looks-formula b denied =
          or-first (begins_formula (object_at os first) && not (passes A (object_at os x) as_formula)) (same_object (object_at os first) (symbol "LAMBDA") && not (passes A (object_at os x) as_head))
          (ap₂ ◌&&◌ (ap begins_formula is ∙ b) (not-false (passes A (object_at os x) as_formula) denied))

      looks-head : same_object h (symbol "LAMBDA") ≡ true → passes A (object_at os x) as_head ≡ false → looks_at_members (object_at os first) (right_mark A os x) ≡ true
      looks-head b denied =
          or-second (begins_formula (object_at os first) && not (passes A (object_at os x) as_formula)) (same_object (object_at os first) (symbol "LAMBDA") && not (passes A (object_at os x) as_head))
          (ap₂ ◌&&◌ (ap (λ o. same_object o (symbol "LAMBDA")) is ∙ b) (not-false (passes A (object_at os x) as_head) denied))

      formula-as : (B : ArityTable) (r : Object) → object_at os rest ≡ r → passes B (object_at os x) as_formula ≡ is_formula_object B (Pair h r)
      formula-as B r e = ap (is_formula_object B) (at ∙ ap₂ Pair is e)

      unary-reason : (p : Object) (s : Name) → object_at os rest ≡ Pair p (Symbol s) → passes A (object_at os x) as_formula ≡ false → Reason A os (right_mark A os) noted x as_formula
      unary-reason p s e denied =
          let test = same_name s nil_name && same_object h (symbol "PNOT*") in
          let are : ((B : ArityTable) → passes B (object_at os x) as_formula ≡ (test && is_formula_object B p)) = λ B. formula-as B (Pair p (Symbol s)) e ∙ is_formula-unary B h p s in
          elim (denied-of test (is_formula_object A p) (sym (are A) ∙ denied)) [
            | inl d ↦ never (λ B more. are B ∙ and-first test (is_formula_object B p) d)
            | inr d ↦ early p as_formula as_formula p (Symbol s) e (λ a b. a) (subst (IsEarly p) (sym e) refl)
                (looks-formula (or-second (same_object h (symbol "PEQUAL*")) (same_object h (symbol "PNOT*") || same_object h (symbol "POR*")) (or-first (same_object h (symbol "PNOT*")) (same_object h (symbol "POR*")) (both-true (same_name s nil_name) (same_object h (symbol "PNOT*")) d.0).1)) denied)
                d.1 (λ B more f. are B ∙ and-second test (is_formula_object B p) f)
          ]

      binary-reason : (p q z : Object) → object_at os rest ≡ Pair p (Pair q z) → passes A (object_at os x) as_formula ≡ false → Reason A os (right_mark A os) noted x as_formula
      binary-reason p q z e denied = go (same_object z NIL) refl (same_object h (symbol "PEQUAL*")) refl (same_object h (symbol "POR*")) refl
        where
          are : (B : ArityTable) → passes B (object_at os x) as_formula ≡ (same_object z NIL && cond (same_object h (symbol "PEQUAL*")) (is_term_object B p && is_term_object B q) (same_object h (symbol "POR*") && (is_formula_object B p && is_formula_object B q)))
          are B = formula-as B (Pair p (Pair q z)) e ∙ is_formula-binary B h p q z

          both-of : (j : Test) → begins_formula h ≡ true → ((B : ArityTable) → passes B (object_at os x) as_formula ≡ (passes B p j && passes B q j)) → Reason A os (right_mark A os) noted x as_formula
          both-of j begins same =
              elim (denied-of (passes A p j) (passes A q j) (sym (same A) ∙ denied)) [
                | inl d ↦ early p j as_formula p (Pair q z) e (λ a b. a) (subst (IsEarly p) (sym e) (inl refl)) (looks-formula begins denied) d (λ B more f. same B ∙ and-first (passes B p j) (passes B q j) f)
                | inr d ↦ early q j as_formula p (Pair q z) e (λ a b. second-of p q z b) (subst (IsEarly q) (sym e) (inr refl)) (looks-formula begins denied) d.1 (λ B more f. same B ∙ and-second (passes B p j) (passes B q j) f)
              ]

          go : (n : Bool) → same_object z NIL ≡ n → (b : Bool) → same_object h (symbol "PEQUAL*") ≡ b → (c : Bool) → same_object h (symbol "POR*") ≡ c → Reason A os (right_mark A os) noted x as_formula
          go false n b eb c ec = never (λ B more. are B ∙ ap (λ t. t && cond (same_object h (symbol "PEQUAL*")) (is_term_object B p && is_term_object B q) (same_object h (symbol "POR*") && (is_formula_object B p && is_formula_object B q))) n)
          go true n true eb c ec = both-of as_term (or-first (same_object h (symbol "PEQUAL*")) (same_object h (symbol "PNOT*") || same_object h (symbol "POR*")) eb) (λ B. are B ∙ ap₂ (λ t u. t && cond u (is_term_object B p && is_term_object B q) (same_object h (symbol "POR*") && (is_formula_object B p && is_formula_object B q))) n eb)
          go true n false eb true ec =
              both-of as_formula
              (or-second (same_object h (symbol "PEQUAL*")) (same_object h (symbol "PNOT*") || same_object h (symbol "POR*")) (or-second (same_object h (symbol "PNOT*")) (same_object h (symbol "POR*")) ec))
              (λ B. are B ∙ (ap₂ (λ t u. t && cond u (is_term_object B p && is_term_object B q) (same_object h (symbol "POR*") && (is_formula_object B p && is_formula_object B q))) n eb ∙ ap (λ t. t && (is_formula_object B p && is_formula_object B q)) ec))
          go true n false eb false ec =
              never
              (λ B more. are B ∙ (ap₂ (λ t u. t && cond u (is_term_object B p && is_term_object B q) (same_object h (symbol "POR*") && (is_formula_object B p && is_formula_object B q))) n eb ∙ ap (λ t. t && (is_formula_object B p && is_formula_object B q)) ec))

      head-reason-of : (xs b z : Object) → object_at os rest ≡ Pair xs (Pair b z) → passes A (object_at os x) as_head ≡ false → Reason A os (right_mark A os) noted x as_head
      head-reason-of xs b z e denied = go (same_object h (symbol "LAMBDA")) refl (is_term_object A b) refl
        where
          head-as : (B : ArityTable) → passes B (object_at os x) as_head ≡ is_some (when (same_object h (symbol "LAMBDA") && same_object z NIL) (head_count B (names_of xs) (term_of b)))
          head-as B = ap (λ o. is_some (formal_count B o)) (at ∙ ap₂ Pair is e)

          -- by a table that says of the body what A says
          same-head : (B : ArityTable) → is_term_object A b ≡ is_term_object B b → passes B (object_at os x) as_head ≡ false
          same-head B s = head-as B ∙ (ap (λ o. is_some (when (same_object h (symbol "LAMBDA") && same_object z NIL) o)) (sym (same_head A B (names_of xs) (term_of b) s)) ∙ (sym (head-as A) ∙ denied))

          go : (l : Bool) → same_object h (symbol "LAMBDA") ≡ l → (t : Bool) → is_term_object A b ≡ t → Reason A os (right_mark A os) noted x as_head
          go false l t d = never (λ B more. head-as B ∙ ap (λ c. is_some (when (c && same_object z NIL) (head_count B (names_of xs) (term_of b)))) l)
          go true l true t = never (λ B more. same-head B (t ∙ sym (more-passes A B more b as_term t)))
          go true l false t =
              early b as_term as_head xs (Pair b z) e (λ a c. second-of xs b z c) (subst (IsEarly b) (sym e) (inr refl)) (looks-head l denied) t (λ B more f. same-head B (t ∙ sym f))

    pub formula-reason : passes A (object_at os x) as_formula ≡ false → Reason A os (right_mark A os) noted x as_formula
    formula-reason denied = go (object_at os rest) refl
      where
        go : (r : Object) → object_at os rest ≡ r → Reason A os (right_mark A os) noted x as_formula
        go (Natural n) e = never (λ B more. formula-as (object_at os first) refl B (Natural n) e)
        go (Symbol s) e = never (λ B more. formula-as (object_at os first) refl B (Symbol s) e)
        go (Pair p (Natural n)) e = never (λ B more. formula-as (object_at os first) refl B (Pair p (Natural n)) e)
        go (Pair p (Symbol s)) e = unary-reason (object_at os first) refl p s e denied
        go (Pair p (Pair q z)) e = binary-reason (object_at os first) refl p q z e denied

    pub head-reason : passes A (object_at os x) as_head ≡ false → Reason A os (right_mark A os) noted x as_head
    head-reason denied = go (object_at os rest) refl
      where
        none : (B : ArityTable) (r : Object) → object_at os rest ≡ r → passes B (object_at os x) as_head ≡ is_some (formal_count B (Pair (object_at os first) r))
        none B r e = ap (λ o. is_some (formal_count B o)) (at ∙ ap (Pair (object_at os first)) e)

        go : (r : Object) → object_at os rest ≡ r → Reason A os (right_mark A os) noted x as_head
        go (Natural n) e = never (λ B more. none B (Natural n) e)
        go (Symbol s) e = never (λ B more. none B (Symbol s) e)
        go (Pair p (Natural n)) e = never (λ B more. none B (Pair p (Natural n)) e)
        go (Pair p (Symbol s)) e = never (λ B more. none B (Pair p (Symbol s)) e)
        go (Pair p (Pair q z)) e = head-reason-of (object_at os first) refl p q z e denied

    pub pair-reason : (k : Test) → passes A (object_at os x) k ≡ false → Reason A os (right_mark A os) noted x k
    pair-reason as_term d = term-reason d
    pair-reason as_terms d = terms-reason d
    pair-reason as_formula d = formula-reason d
    pair-reason as_head d = head-reason d
