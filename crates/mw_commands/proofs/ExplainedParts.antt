-- The part of an object that is shown does not pass the test; and where none is shown the object passes it.
use Rattle.std.proofs.Common.{◌≡◌, Bool, true, false, ◌⊎◌, inl, inr, cond, Option, Some, None, is_some, refl, ap, subst}
use Rattle.std.specs.Option.{option_or}
use Rattle.mw_model.specs.Terms.Object.{Name, Object, Natural, Symbol, Pair, symbol, same_object}
use Rattle.mw_model.specs.Terms.Term.{ArityTable, arity_of, is_term}
use Rattle.mw_model.specs.Terms.Reading.{term_of, formula_under, that}
use Rattle.mw_model.specs.Events.Expansion.{Abbreviation, AND, OR, COND, LIST, LET, LETSTAR, FIRST, SECOND, THIRD, FOURTH, FIFTH, QUOTE, Other}
use Rattle.mw_commands.specs.Commands.ExplanationTerms.{or_itself, bad_part, bad_in_list, bad_in_clauses, bad_in_bindings, bad_in_let, bad_term, plain_form, bad_formula}
use Rattle.mw_model.proofs.ReadBack.{some_one}

-- of what is found either here or there
either : {X : Type 0} (Q : X → Type 0) (o p : Option X) (y : X) → (o ≡ Some y → Q y) → (p ≡ Some y → Q y) → option_or o p ≡ Some y → Q y
either Q None p y f g h = g h
either Q (Some x) p y f g h = f h

-- of what is found in x, or is x itself
module _ (good : Object → Bool) where
  found : (Q : Object → Type 0) (x : Object) (inside : Option Object) (y : Object) → (inside ≡ Some y → Q y) → (good x ≡ false → Q x) → or_itself good x inside ≡ Some y → Q y
  found Q x inside y f g h = go (good x) refl h
    where
      go : (t : Bool) → good x ≡ t → cond t None (option_or inside (Some x)) ≡ Some y → Q y
      go true e k = cc
      go false e k = either Q inside (Some x) y f (λ i. subst Q (some_one i) (g e)) k

  not_found : (x : Object) (inside : Option Object) → or_itself good x inside ≡ None → good x ≡ true
  not_found x inside h = go (good x) refl inside h
    where
      go : (t : Bool) → good x ≡ t → (inside : Option Object) → cond t None (option_or inside (Some x)) ≡ None → good x ≡ true
      go true e i k = e
      go false e None k = cc
      go false e (Some z) k = cc

  passing : (x : Object) (inside : Option Object) → good x ≡ true → or_itself good x inside ≡ None
  passing x inside h = ap (λ t. cond t None (option_or inside (Some x))) h

module _ (form : Name → Abbreviation) (good : Object → Bool) (A : ArityTable) where
  abbrev Fails : Object → Type 0
  Fails y = good y ≡ false

  in_call : (known : Bool) (r y : Object) → (bad_in_list form good A r ≡ Some y → Fails y) → cond known (bad_in_list form good A r) None ≡ Some y → Fails y
  in_call true r y f h = f h
  in_call false r y f h = cc

  in_form : (a : Abbreviation) (f : Name) (r y : Object) → (bad_in_list form good A r ≡ Some y → Fails y) → (bad_in_clauses form good A r ≡ Some y → Fails y) → (bad_in_let form good A r ≡ Some y → Fails y) → elim a [ QUOTE ↦ None | COND ↦ bad_in_clauses form good A r | LET ↦ bad_in_let form good A r | LETSTAR ↦ bad_in_let form good A r | Other ↦ cond (is_some (arity_of A f)) (bad_in_list form good A r) None | _ ↦ bad_in_list form good A r ] ≡ Some y → Fails y
  in_form QUOTE f r y m c l h = cc
  in_form COND f r y m c l h = c h
  in_form LET f r y m c l h = l h
  in_form LETSTAR f r y m c l h = l h
  in_form Other f r y m c l h = in_call (is_some (arity_of A f)) r y m h
  in_form AND f r y m c l h = m h
  in_form OR f r y m c l h = m h
  in_form LIST f r y m c l h = m h
  in_form FIRST f r y m c l h = m h
  in_form SECOND f r y m c l h = m h
  in_form THIRD f r y m c l h = m h
  in_form FOURTH f r y m c l h = m h
  in_form FIFTH f r y m c l h = m h

  alone : (x y : Object) → or_itself good x None ≡ Some y → Fails y
  alone x y h = found good Fails x None y (λ i. cc) (λ e. e) h

  mutual
    pub part_fails : (x y : Object) → bad_part form good A x ≡ Some y → Fails y
    part_fails (Natural n) y h = alone (Natural n) y h
    part_fails (Symbol s) y h = alone (Symbol s) y h
    part_fails (Pair (Natural n) r) y h = alone (Pair (Natural n) r) y h
    part_fails (Pair (Symbol f) r) y h = found good Fails (Pair (Symbol f) r) _ y (in_form (form f) f r y (member_fails r y) (clause_fails r y) (let_fails r y)) (λ e. e) h
    part_fails (Pair (Pair l (Natural n)) r) y h = alone (Pair (Pair l (Natural n)) r) y h
    part_fails (Pair (Pair l (Symbol s)) r) y h = alone (Pair (Pair l (Symbol s)) r) y h
    part_fails (Pair (Pair l (Pair xs (Natural n))) r) y h = alone (Pair (Pair l (Pair xs (Natural n))) r) y h
    part_fails (Pair (Pair l (Pair xs (Symbol s))) r) y h = alone (Pair (Pair l (Pair xs (Symbol s))) r) y h
    part_fails (Pair (Pair l (Pair xs (Pair b z))) r) y h =
        found good Fails (Pair (Pair l (Pair xs (Pair b z))) r) (option_or (bad_part form good A b) (bad_in_list form good A r)) y
        (either Fails (bad_part form good A b) (bad_in_list form good A r) y (part_fails b y) (member_fails r y)) (λ e. e) h

    member_fails : (x y : Object) → bad_in_list form good A x ≡ Some y → Fails y
    member_fails (Pair a r) y h = either Fails (bad_part form good A a) (bad_in_list form good A r) y (part_fails a y) (member_fails r y) h
    member_fails (Natural n) y h = cc
    member_fails (Symbol s) y h = cc

    clause_fails : (x y : Object) → bad_in_clauses form good A x ≡ Some y → Fails y
    clause_fails (Pair a r) y h = either Fails (bad_in_list form good A a) (bad_in_clauses form good A r) y (member_fails a y) (clause_fails r y) h
    clause_fails (Natural n) y h = cc
    clause_fails (Symbol s) y h = cc

    binding_fails : (x y : Object) → bad_in_bindings form good A x ≡ Some y → Fails y
    binding_fails (Pair (Pair x e) r) y h = either Fails (bad_in_list form good A e) (bad_in_bindings form good A r) y (member_fails e y) (binding_fails r y) h
    binding_fails (Pair (Natural n) r) y h = cc
    binding_fails (Pair (Symbol s) r) y h = cc
    binding_fails (Natural n) y h = cc
    binding_fails (Symbol s) y h = cc

    let_fails : (x y : Object) → bad_in_let form good A x ≡ Some y → Fails y
    let_fails (Pair ps b) y h = either Fails (bad_in_bindings form good A ps) (bad_in_list form good A b) y (binding_fails ps y) (member_fails b y) h
    let_fails (Natural n) y h = cc
    let_fails (Symbol s) y h = cc

  -- it is shown of each x that fails, and of no other
  abbrev Decides : Object → Option Object → Type 0
  Decides x o = (o ≡ None → good x ≡ true) × (good x ≡ true → o ≡ None)

  decides : (x : Object) (inside : Option Object) → Decides x (or_itself good x inside)
  decides x inside = (not_found good x inside, passing good x inside)

  pub part_decides : (x : Object) → Decides x (bad_part form good A x)
  part_decides (Natural n) = decides (Natural n) None
  part_decides (Symbol s) = decides (Symbol s) None
  part_decides (Pair (Natural n) r) = decides (Pair (Natural n) r) None
  part_decides (Pair (Symbol f) r) = decides (Pair (Symbol f) r) _
  part_decides (Pair (Pair l (Natural n)) r) = decides (Pair (Pair l (Natural n)) r) None
  part_decides (Pair (Pair l (Symbol s)) r) = decides (Pair (Pair l (Symbol s)) r) None
  part_decides (Pair (Pair l (Pair xs (Natural n))) r) = decides (Pair (Pair l (Pair xs (Natural n))) r) None
  part_decides (Pair (Pair l (Pair xs (Symbol s))) r) = decides (Pair (Pair l (Pair xs (Symbol s))) r) None
  part_decides (Pair (Pair l (Pair xs (Pair b z))) r) = decides (Pair (Pair l (Pair xs (Pair b z))) r) _

-- ---- formulas

-- no term, or no formula
abbrev pub IsNone : ArityTable → Object → Type 0
IsNone A y = (is_some (that (is_term A) (term_of y)) ≡ false) ⊎ (is_some (formula_under A y) ≡ false)

module _ (A : ArityTable) where
  abbrev formed : Object → Bool
  formed y = is_some (formula_under A y)

  by_cond : (t : Bool) (o p : Option Object) (y : Object) → (o ≡ Some y → IsNone A y) → (p ≡ Some y → IsNone A y) → cond t o p ≡ Some y → IsNone A y
  by_cond true o p y f g h = f h
  by_cond false o p y f g h = g h

  no_term : (x y : Object) → bad_term A x ≡ Some y → IsNone A y
  no_term x y h = inl (part_fails plain_form (λ z. is_some (that (is_term A) (term_of z))) A x y h)

  in_it : (x : Object) (inside : Option Object) (y : Object) → (inside ≡ Some y → IsNone A y) → or_itself formed x inside ≡ Some y → IsNone A y
  in_it x inside y f h = found formed (IsNone A) x inside y f (λ e. inr e) h

  nowhere : (y : Object) → None ≡ Some y → IsNone A y
  nowhere y h = cc

  pub formula_part_fails : (x y : Object) → bad_formula A x ≡ Some y → IsNone A y
  formula_part_fails (Natural n) y h = in_it (Natural n) None y (nowhere y) h
  formula_part_fails (Symbol s) y h = in_it (Symbol s) None y (nowhere y) h
  formula_part_fails (Pair k (Natural n)) y h = in_it (Pair k (Natural n)) None y (nowhere y) h
  formula_part_fails (Pair k (Symbol s)) y h = in_it (Pair k (Symbol s)) None y (nowhere y) h
  formula_part_fails (Pair k (Pair a (Natural n))) y h = in_it (Pair k (Pair a (Natural n))) _ y (by_cond (same_object k (symbol "PNOT*")) (bad_formula A a) None y (formula_part_fails a y) (nowhere y)) h
  formula_part_fails (Pair k (Pair a (Symbol s))) y h = in_it (Pair k (Pair a (Symbol s))) _ y (by_cond (same_object k (symbol "PNOT*")) (bad_formula A a) None y (formula_part_fails a y) (nowhere y)) h
  formula_part_fails (Pair k (Pair a (Pair b z))) y h =
      in_it (Pair k (Pair a (Pair b z))) _ y
      (by_cond (same_object k (symbol "PEQUAL*")) (option_or (bad_term A a) (bad_term A b)) _ y (either (IsNone A) (bad_term A a) (bad_term A b) y (no_term a y) (no_term b y))
      (by_cond (same_object k (symbol "POR*")) (option_or (bad_formula A a) (bad_formula A b)) None y (either (IsNone A) (bad_formula A a) (bad_formula A b) y (formula_part_fails a y) (formula_part_fails b y)) (nowhere y))) h

  formula_at : (x : Object) (inside : Option Object) → (or_itself formed x inside ≡ None → formed x ≡ true) × (formed x ≡ true → or_itself formed x inside ≡ None)
  formula_at x inside = (not_found formed x inside, passing formed x inside)

  pub formula_decides : (x : Object) → (bad_formula A x ≡ None → formed x ≡ true) × (formed x ≡ true → bad_formula A x ≡ None)
  formula_decides (Natural n) = formula_at (Natural n) None
  formula_decides (Symbol s) = formula_at (Symbol s) None
  formula_decides (Pair k (Natural n)) = formula_at (Pair k (Natural n)) None
  formula_decides (Pair k (Symbol s)) = formula_at (Pair k (Symbol s)) None
  formula_decides (Pair k (Pair a (Natural n))) = formula_at (Pair k (Pair a (Natural n))) _
  formula_decides (Pair k (Pair a (Symbol s))) = formula_at (Pair k (Pair a (Symbol s))) _
  formula_decides (Pair k (Pair a (Pair b z))) = formula_at (Pair k (Pair a (Pair b z))) _
