-- Looking down to the first part that is no formula.
use Rattle.std.proofs.Common.{◌≡◌, ℕ, ◌<◌, Bool, true, false, cond, List, Option, Some, None, refl, sym, ap, ◌∙◌, subst}
use Rattle.mw_model.specs.Terms.Object.{Object, Natural, Symbol, Pair, symbol, same_object}
use Rattle.mw_model.specs.Terms.Term.{ArityTable}
use Rattle.mw_model.specs.Values.Primitive.{is_pair}
use Rattle.mw_model.specs.Laws.Rules.{is_term_object, is_formula_object}
use Rattle.mw_heap.specs.Objects.{object_at}
use Rattle.mw_explain.specs.declared.formula_part.Next.{Next}
use Rattle.mw_explain.specs.declared.formula_part.Next.TheVariants.{Nothing, InTerm, InFormula}
use Rattle.mw_commands.specs.Commands.ExplanationTerms.{or_formula, bad_term, bad_formula}
use Rattle.mw_explain.specs.FormulaParts.{first_bad, IsNegated, LeadsOn}
use Rattle.std.specs.Option.{option_or}
use Rattle.mw_explain.proofs.LookingDown.{passes, first_shown}

module _ (A : ArityTable) where
  abbrev formed : Object → Bool
  formed x = is_formula_object A x

  something : (x : Object) (inside : Option Object) → formed x ≡ false → or_formula A x inside ≡ option_or inside (Some x)
  something x inside h = ap (λ t. cond t None (option_or inside (Some x))) h

  some_of : (x : Object) (inside : Option Object) → (y : Object) × (option_or inside (Some x) ≡ Some y)
  some_of x None = (x, refl)
  some_of x (Some y) = (y, refl)

  record Inside (x : Object) : Type 0 where
    inside : Option Object
    is : bad_formula A x ≡ or_formula A x inside

  inside_of : (x : Object) → Inside x
  inside_of (Natural n) = record { inside = None; is = refl }
  inside_of (Symbol s) = record { inside = None; is = refl }
  inside_of (Pair h (Natural n)) = record { inside = None; is = refl }
  inside_of (Pair h (Symbol s)) = record { inside = None; is = refl }
  inside_of (Pair h (Pair a (Natural n))) = record { inside = _; is = refl }
  inside_of (Pair h (Pair a (Symbol s))) = record { inside = _; is = refl }
  inside_of (Pair h (Pair a (Pair b z))) = record { inside = _; is = refl }

  pub formula_passes : (x : Object) → formed x ≡ true → bad_formula A x ≡ None
  formula_passes x h = let i = inside_of x in i.is ∙ ap (λ t. cond t None (option_or i.inside (Some x))) h

  formula_shown : (x : Object) (z : Option Object) → formed x ≡ false → option_or (bad_formula A x) z ≡ bad_formula A x
  formula_shown x z h =
      let i = inside_of x in
      let s = some_of x i.inside in
      let e : bad_formula A x ≡ Some s.0 = i.is ∙ (something x i.inside h ∙ s.1) in
      ap (λ o. option_or o z) e ∙ sym e

  module _ (os : List Object) where
    abbrev at : ℕ → Object
    at r = object_at os r

    nothing_in : (x : Object) (inside : Option Object) → bad_formula A x ≡ or_formula A x inside → formed x ≡ false → inside ≡ None → bad_formula A x ≡ Some x
    nothing_in x inside e h n = e ∙ (something x inside h ∙ ap (λ o. option_or o (Some x)) n)

    found_in : (x : Object) (inside p : Option Object) → bad_formula A x ≡ or_formula A x inside → formed x ≡ false → inside ≡ p → option_or p (Some x) ≡ p → bad_formula A x ≡ p
    found_in x inside p e h n s = e ∙ (something x inside h ∙ (ap (λ o. option_or o (Some x)) n ∙ s))

    -- by the members
    abbrev IsList : ℕ → ℕ → ℕ → ℕ → Type 0
    IsList x head a b = (z : Object) × (at x ≡ Pair (at head) (Pair (at a) (Pair (at b) z)))

    equation : (x head a b : ℕ) → IsList x head a b → same_object (at head) (symbol "PEQUAL*") ≡ true → bad_formula A (at x) ≡ or_formula A (at x) (option_or (bad_term A (at a)) (bad_term A (at b)))
    equation x head a b l e =
        ap (bad_formula A) l.1 ∙ (ap (λ t. or_formula A (Pair (at head) (Pair (at a) (Pair (at b) l.0))) (cond t (option_or (bad_term A (at a)) (bad_term A (at b))) (cond (same_object (at head) (symbol "POR*")) (option_or (bad_formula A (at a)) (bad_formula A (at b))) None))) e ∙ ap (λ y. or_formula A y (option_or (bad_term A (at a)) (bad_term A (at b)))) (sym l.1))

    by_choice : (x head a b : ℕ) → IsList x head a b → same_object (at head) (symbol "PEQUAL*") ≡ false → bad_formula A (at x) ≡ or_formula A (at x) (cond (same_object (at head) (symbol "POR*")) (option_or (bad_formula A (at a)) (bad_formula A (at b))) None)
    by_choice x head a b l e =
        let rest = cond (same_object (at head) (symbol "POR*")) (option_or (bad_formula A (at a)) (bad_formula A (at b))) None in
        ap (bad_formula A) l.1 ∙ (ap (λ t. or_formula A (Pair (at head) (Pair (at a) (Pair (at b) l.0))) (cond t (option_or (bad_term A (at a)) (bad_term A (at b))) rest)) e ∙ ap (λ y. or_formula A y rest) (sym l.1))

    disjunction : (x head a b : ℕ) → IsList x head a b → same_object (at head) (symbol "PEQUAL*") ≡ false → same_object (at head) (symbol "POR*") ≡ true → bad_formula A (at x) ≡ or_formula A (at x) (option_or (bad_formula A (at a)) (bad_formula A (at b)))
    disjunction x head a b l e d = by_choice x head a b l e ∙ ap (λ t. or_formula A (at x) (cond t (option_or (bad_formula A (at a)) (bad_formula A (at b))) None)) d

    -- Two parts that should be good, as terms or as formulas, in x: the first that is not, or x itself.
    module _ (good : Object → Bool) (bad : Object → Option Object) (passes_by : (y : Object) → good y ≡ true → bad y ≡ None) (shown_by : (y : Object) (z : Option Object) → good y ≡ false → option_or (bad y) z ≡ bad y) (x a b : ℕ) (whole : bad_formula A (at x) ≡ or_formula A (at x) (option_or (bad (at a)) (bad (at b)))) (h : formed (at x) ≡ false) where
      none_by : (g k : Bool) → good (at a) ≡ g → good (at b) ≡ k → first_bad g k a b ≡ None → bad_formula A (at x) ≡ Some (at x)
      none_by true true d e is = nothing_in (at x) (option_or (bad (at a)) (bad (at b))) whole h (ap (λ o. option_or o (bad (at b))) (passes_by (at a) d) ∙ passes_by (at b) e)
      none_by true false d e is = cc
      none_by false k d e is = cc

      abbrev IsInPart : ℕ → Type 0
      IsInPart p = (bad_formula A (at x) ≡ bad (at p)) × (p < x) × (good (at p) ≡ false)

      found_by : (g k : Bool) → good (at a) ≡ g → good (at b) ≡ k → a < x → b < x → (p : ℕ) → first_bad g k a b ≡ Some p → IsInPart p
      found_by false k d e m n p is =
          let same : a ≡ p = cc in
          subst IsInPart same (found_in (at x) (option_or (bad (at a)) (bad (at b))) (bad (at a)) whole h (shown_by (at a) (bad (at b)) d) (shown_by (at a) (Some (at x)) d), m, d)
      found_by true false d e m n p is =
          let same : b ≡ p = cc in
          subst IsInPart same (found_in (at x) (option_or (bad (at a)) (bad (at b))) (bad (at b)) whole h (ap (λ o. option_or o (bad (at b))) (passes_by (at a) d)) (shown_by (at b) (Some (at x)) e), n, e)
      found_by true true d e m n p is = cc

      pub leads_nowhere_of_two : first_bad (good (at a)) (good (at b)) a b ≡ None → bad_formula A (at x) ≡ Some (at x)
      leads_nowhere_of_two = none_by (good (at a)) (good (at b)) refl refl

      pub leads_into_one : a < x → b < x → (p : ℕ) → first_bad (good (at a)) (good (at b)) a b ≡ Some p → IsInPart p
      leads_into_one = found_by (good (at a)) (good (at b)) refl refl

    -- in an equation and in a disjunction
    module _ (x head a b : ℕ) (l : IsList x head a b) (h : formed (at x) ≡ false) (a_older : a < x) (b_older : b < x) where
      module _ (e : same_object (at head) (symbol "PEQUAL*") ≡ true) where
        pub equation_itself : first_bad (is_term_object A (at a)) (is_term_object A (at b)) a b ≡ None → LeadsOn A os x Nothing
        equation_itself = leads_nowhere_of_two (is_term_object A) (bad_term A) (passes A) (first_shown A) x a b (equation x head a b l e) h

        pub equation_part : (p : ℕ) → first_bad (is_term_object A (at a)) (is_term_object A (at b)) a b ≡ Some p → LeadsOn A os x (InTerm p)
        equation_part p is =
            let found = leads_into_one (is_term_object A) (bad_term A) (passes A) (first_shown A) x a b (equation x head a b l e) h a_older b_older p is in
            (found.0, (found.1, found.2))

      module _ (e : same_object (at head) (symbol "PEQUAL*") ≡ false) (d : same_object (at head) (symbol "POR*") ≡ true) where
        pub disjunction_itself : first_bad (formed (at a)) (formed (at b)) a b ≡ None → LeadsOn A os x Nothing
        disjunction_itself = leads_nowhere_of_two formed (bad_formula A) formula_passes formula_shown x a b (disjunction x head a b l e d) h

        pub disjunction_part : (p : ℕ) → first_bad (formed (at a)) (formed (at b)) a b ≡ Some p → LeadsOn A os x (InFormula p)
        disjunction_part = leads_into_one formed (bad_formula A) formula_passes formula_shown x a b (disjunction x head a b l e d) h a_older b_older

    -- of two members
    short : (h a z : Object) → is_pair z ≡ false → bad_formula A (Pair h (Pair a z)) ≡ or_formula A (Pair h (Pair a z)) (cond (same_object h (symbol "PNOT*")) (bad_formula A a) None)
    short h a (Natural n) i = refl
    short h a (Symbol s) i = refl
    short h a (Pair b z) i = cc

    negation : (x head a z : ℕ) → at x ≡ Pair (at head) (Pair (at a) (at z)) → is_pair (at z) ≡ false → bad_formula A (at x) ≡ or_formula A (at x) (cond (same_object (at head) (symbol "PNOT*")) (bad_formula A (at a)) None)
    negation x head a z e i = ap (bad_formula A) e ∙ (short (at head) (at a) (at z) i ∙ ap (λ y. or_formula A y (cond (same_object (at head) (symbol "PNOT*")) (bad_formula A (at a)) None)) (sym e))

    pub leads_in_negation : (x head a z : ℕ) (o : Next) → at x ≡ Pair (at head) (Pair (at a) (at z)) → is_pair (at z) ≡ false → a < x → same_object (at head) (symbol "PNOT*") ≡ true → formed (at x) ≡ false → IsNegated A os a o → LeadsOn A os x o
    leads_in_negation x head a z Nothing e i m d h g = nothing_in (at x) _ (negation x head a z e i) h (ap (λ t. cond t (bad_formula A (at a)) None) d ∙ formula_passes (at a) g)
    leads_in_negation x head a z (InTerm p) e i m d h g = absurd g
    leads_in_negation x head a z (InFormula p) e i m d h g =
        let p_is = ap at g.0 in
        (found_in (at x) _ (bad_formula A (at p)) (negation x head a z e i) h (ap (λ t. cond t (bad_formula A (at a)) None) d ∙ ap (bad_formula A) (sym p_is)) (formula_shown (at p) (Some (at x)) (ap formed p_is ∙ g.1)), subst (λ r. r < x) (sym g.0) m, ap formed p_is ∙ g.1)
