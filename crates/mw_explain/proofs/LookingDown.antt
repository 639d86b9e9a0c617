-- Looking down to the first part that is no term.
use Rattle.std.proofs.Common.{◌≡◌, ℕ, ◌<◌, ◌≤◌, Bool, true, false, ◌&&◌, not, cond, List, Option, Some, None, is_some, refl, sym, ap, ◌∙◌, arith}
use Rattle.mw_model.specs.Terms.Object.{Name, Object, Natural, Symbol, Pair, named, symbol, same_name, same_object}
use Rattle.mw_model.specs.Terms.Term.{ArityTable, arity_of}
use Rattle.mw_model.specs.Values.Primitive.{is_pair, is_symbol, name_of}
use Rattle.mw_model.specs.Laws.Rules.{is_term_object}
use Rattle.mw_model.specs.Events.Expansion.{Abbreviation, COND, LET, LETSTAR, QUOTE, Other}
use Rattle.mw_heap.specs.Objects.{object_at}
use Rattle.mw_commands.specs.Commands.ExplanationTerms.{or_itself, bad_in_clauses, bad_in_let, bad_term, plain_form}
use Rattle.mw_explain.specs.TermParts.{bad_terms, IsFirstMember, Leads, is_called}
use Rattle.std.specs.Option.{option_or}

module _ (A : ArityTable) where
  abbrev good : Object → Bool
  good x = is_term_object A x

  nothing : (x : Object) (inside : Option Object) → good x ≡ true → or_itself good x inside ≡ None
  nothing x inside h = ap (λ t. cond t None (option_or inside (Some x))) h

  something : (x : Object) (inside : Option Object) → good x ≡ false → or_itself good x inside ≡ option_or inside (Some x)
  something x inside h = ap (λ t. cond t None (option_or inside (Some x))) h

  some_of : (x : Object) (inside : Option Object) → (y : Object) × (option_or inside (Some x) ≡ Some y)
  some_of x None = (x, refl)
  some_of x (Some y) = (y, refl)

  -- what is looked for in a list that begins with a symbol of this meaning
  abbrev inside_form : Abbreviation → Name → Object → Option Object
  inside_form meaning f r =
      elim meaning [ QUOTE ↦ None | COND ↦ bad_in_clauses plain_form good A r | LET ↦ bad_in_let plain_form good A r | LETSTAR ↦ bad_in_let plain_form good A r | Other ↦ cond (is_some (arity_of A f)) (bad_terms A r) None | _ ↦ bad_terms A r ]

  -- what is looked for in x, where x is none
  record Inside (x : Object) : Type 0 where
    inside : Option Object
    is : bad_term A x ≡ or_itself good x inside

  inside_of : (x : Object) → Inside x
  inside_of (Natural n) = record { inside = None; is = refl }
  inside_of (Symbol s) = record { inside = None; is = refl }
  inside_of (Pair (Natural n) r) = record { inside = None; is = refl }
  inside_of (Pair (Symbol f) r) = record { inside = _; is = refl }
  inside_of (Pair (Pair l (Natural n)) r) = record { inside = None; is = refl }
  inside_of (Pair (Pair l (Symbol s)) r) = record { inside = None; is = refl }
  inside_of (Pair (Pair l (Pair xs (Natural n))) r) = record { inside = None; is = refl }
  inside_of (Pair (Pair l (Pair xs (Symbol s))) r) = record { inside = None; is = refl }
  inside_of (Pair (Pair l (Pair xs (Pair b z))) r) = record { inside = option_or (bad_term A b) (bad_terms A r); is = refl }

  pub passes : (x : Object) → good x ≡ true → bad_term A x ≡ None
  passes x h = let i = inside_of x in i.is ∙ nothing x i.inside h

  shows : (x : Object) → good x ≡ false → (y : Object) × (bad_term A x ≡ Some y)
  shows x h = let i = inside_of x in let s = some_of x i.inside in (s.0, i.is ∙ (something x i.inside h ∙ s.1))

  -- what comes after something that is shown does not count
  pub first_shown : (x : Object) (z : Option Object) → good x ≡ false → option_or (bad_term A x) z ≡ bad_term A x
  first_shown x z h = let s = shows x h in ap (λ o. option_or o z) s.1 ∙ sym s.1

  pub none_left : (x : Object) → is_pair x ≡ false → bad_terms A x ≡ None
  none_left (Natural n) h = refl
  none_left (Symbol s) h = refl
  none_left (Pair a r) h = cc

  module _ (os : List Object) where
    pub member_good : (x a r : ℕ) → object_at os x ≡ Pair (object_at os a) (object_at os r) → good (object_at os a) ≡ true → bad_terms A (object_at os r) ≡ bad_terms A (object_at os x)
    member_good x a r e h = ap (λ o. option_or o (bad_terms A (object_at os r))) (sym (passes (object_at os a) h)) ∙ ap (bad_terms A) (sym e)

    pub member_bad : (list x a r : ℕ) → object_at os x ≡ Pair (object_at os a) (object_at os r) → a < x → x ≤ list → bad_terms A (object_at os x) ≡ bad_terms A (object_at os list) → good (object_at os a) ≡ false → IsFirstMember A os list (Some a)
    member_bad list x a r e l m s h = (sym s ∙ (ap (bad_terms A) e ∙ first_shown (object_at os a) (bad_terms A (object_at os r)) h), (omega (arith, l, m), h))

    -- ---- from what is no term to where to look on

    abbrev at : ℕ → Object
    at r = object_at os r

    -- nothing is found inside
    nothing_inside : (x : Object) (inside : Option Object) → bad_term A x ≡ or_itself good x inside → good x ≡ false → inside ≡ None → bad_term A x ≡ Some x
    nothing_inside x inside e h n = e ∙ (something x inside h ∙ ap (λ o. option_or o (Some x)) n)

    -- what is found inside is what p shows
    found_inside : (x : Object) (inside : Option Object) (p : Object) → bad_term A x ≡ or_itself good x inside → good x ≡ false → good p ≡ false → inside ≡ bad_term A p → bad_term A x ≡ bad_term A p
    found_inside x inside p e h g n = e ∙ (something x inside h ∙ (ap (λ o. option_or o (Some x)) n ∙ first_shown p (Some x) g))

    by_members : (x r : ℕ) (o : Option ℕ) → bad_term A (at x) ≡ or_itself good (at x) (bad_terms A (at r)) → r < x → good (at x) ≡ false → IsFirstMember A os r o → Leads A os x o
    by_members x r None e l h f = nothing_inside (at x) (bad_terms A (at r)) e h f
    by_members x r (Some p) e l h f = (found_inside (at x) (bad_terms A (at r)) (at p) e h f.1.1 f.0, (omega (arith, l, f.1.0), f.1.1))

    called : (f : Name) (r : Object) → is_called A (Symbol f) ≡ true → bad_term A (Pair (Symbol f) r) ≡ or_itself good (Pair (Symbol f) r) (bad_terms A r)
    called f r h = go (same_name f (named "QUOTE")) (is_some (arity_of A f)) refl refl h
      where
        go : (q k : Bool) → same_name f (named "QUOTE") ≡ q → is_some (arity_of A f) ≡ k → (not q && k) ≡ true → bad_term A (Pair (Symbol f) r) ≡ or_itself good (Pair (Symbol f) r) (bad_terms A r)
        go true k d e i = cc
        go false false d e i = cc
        go false true d e i = ap (λ q. or_itself good (Pair (Symbol f) r) (inside_form (cond q QUOTE Other) f r)) d ∙ ap (λ k. or_itself good (Pair (Symbol f) r) (cond k (bad_terms A r) None)) e

    pub leads_called : (x head r : ℕ) (o : Option ℕ) → at x ≡ Pair (at head) (at r) → r < x → is_called A (at head) ≡ true → good (at x) ≡ false → IsFirstMember A os r o → Leads A os x o
    leads_called x head r o e l c h f = by_members x r o (ap (bad_term A) e ∙ (shape (at head) c ∙ ap (λ z. or_itself good z (bad_terms A (at r))) (sym e))) l h f
      where
        shape : (k : Object) → is_called A k ≡ true → bad_term A (Pair k (at r)) ≡ or_itself good (Pair k (at r)) (bad_terms A (at r))
        shape (Symbol f) i = called f (at r) i
        shape (Natural n) i = cc
        shape (Pair a b) i = cc

    lambda : (x head r b : ℕ) (l xs z : Object) → at x ≡ Pair (at head) (at r) → at head ≡ Pair l (Pair xs (Pair (at b) z)) → bad_term A (at x) ≡ or_itself good (at x) (option_or (bad_term A (at b)) (bad_terms A (at r)))
    lambda x head r b l xs z e d =
        let i = option_or (bad_term A (at b)) (bad_terms A (at r)) in
        let s : at x ≡ Pair (Pair l (Pair xs (Pair (at b) z))) (at r) = e ∙ ap (λ k. Pair k (at r)) d in
        ap (bad_term A) s ∙ ap (λ y. or_itself good y i) (sym s)

    pub leads_to_body : (x head r b : ℕ) (l xs z : Object) → at x ≡ Pair (at head) (at r) → at head ≡ Pair l (Pair xs (Pair (at b) z)) → head < x → b < head → good (at b) ≡ false → good (at x) ≡ false → Leads A os x (Some b)
    leads_to_body x head r b l xs z e d m n g h =
        (found_inside (at x) (option_or (bad_term A (at b)) (bad_terms A (at r))) (at b) (lambda x head r b l xs z e d) h g (first_shown (at b) (bad_terms A (at r)) g), (omega (arith, m, n), g))

    pub leads_past_body : (x head r b : ℕ) (l xs z : Object) (o : Option ℕ) → at x ≡ Pair (at head) (at r) → at head ≡ Pair l (Pair xs (Pair (at b) z)) → r < x → good (at b) ≡ true → good (at x) ≡ false → IsFirstMember A os r o → Leads A os x o
    leads_past_body x head r b l xs z o e d m g h f =
        by_members x r o (lambda x head r b l xs z e d ∙ ap (λ y. or_itself good (at x) (option_or y (bad_terms A (at r)))) (passes (at b) g)) m h f

-- a symbol other than QUOTE
pub called_symbol : (A : ArityTable) (x : Object) → is_symbol x ≡ true → same_object x (symbol "QUOTE") ≡ false → is_some (arity_of A (name_of x)) ≡ is_called A x
called_symbol A (Natural n) s q = cc
called_symbol A (Symbol f) s q = sym (ap (λ b. not b && is_some (arity_of A f)) q)
called_symbol A (Pair a b) s q = cc
