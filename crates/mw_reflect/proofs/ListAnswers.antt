-- The reference checker's functions on lists, names and the arity table are the tests on objects.
use Rattle.std.proofs.Common.{◌≡◌, ℕ, ◌+◌, Bool, true, false, ◌&&◌, ◌||◌, cond, eqb, List, [], ◌∷◌, Option, Some, None, refl, ap, ap₂, ◌∙◌, arith}
use Rattle.mw_model.specs.Terms.Object.{Name, Object, Natural, Symbol, Pair, named, same_name, same_object, nil_name, NIL, T, truth_of, is_member}
use Rattle.mw_model.specs.Terms.Term.{names_object, is_among, are_distinct, are_variables, is_variable, ArityTable, arity_of, table_object}
use Rattle.mw_model.specs.Terms.Reading.{names_of, and_more}
use Rattle.mw_model.specs.Values.Primitive.{Profile, number, choose}
use Rattle.mw_model.specs.Laws.Rules.{is_variable_object, equal_object, not_object, or_object}
use Rattle.mw_model.specs.Laws.RulesInduction.{is_list_object, length_object}
use Rattle.mw_model.proofs.Names.{same_name-eq}
use Rattle.mw_model.proofs.BuiltInValue.{pairs}
use Rattle.mw_model.proofs.BuiltInAnswers.{answer, answer-body}
pub use Rattle.mw_reflect.proofs.TestValues.{and_value, or_value, not_value, not_and_value, and_then, same_name-swap, passes, has_length}

module _ (P : Profile) where
  -- lists
  pub listp-answer : (x : Object) → answer P "LOGIC.LISTP" (x ∷ []) ≡ truth_of (is_list_object x)
  listp-answer (Natural n) = answer-body P "LOGIC.LISTP" (Natural n ∷ [])
  listp-answer (Symbol s) = answer-body P "LOGIC.LISTP" (Symbol s ∷ [])
  listp-answer (Pair a r) = answer-body P "LOGIC.LISTP" (Pair a r ∷ []) ∙ listp-answer r

  pub len-answer : (x : Object) → answer P "LOGIC.LEN" (x ∷ []) ≡ Natural (length_object x)
  len-answer (Natural n) = answer-body P "LOGIC.LEN" (Natural n ∷ [])
  len-answer (Symbol s) = answer-body P "LOGIC.LEN" (Symbol s ∷ [])
  len-answer (Pair a r) = answer-body P "LOGIC.LEN" (Pair a r ∷ []) ∙ ap (λ v. Natural (1 + number v)) (len-answer r)

  pub lenp-answer : (x : Object) (n : ℕ) → answer P "LOGIC.LENP" (x ∷ Natural n ∷ []) ≡ truth_of (has_length x n)
  lenp-answer x n =
      answer-body P "LOGIC.LENP" (x ∷ Natural n ∷ [])
      ∙ (ap₂ (λ u v. choose u (truth_of (same_object v (Natural n))) NIL) (listp-answer x) (len-answer x) ∙ and_value (is_list_object x) (eqb (length_object x) n))

  pub rank-answer : (x : Object) → answer P "RANK" (x ∷ []) ≡ Natural (pairs x)
  rank-answer (Natural n) = answer-body P "RANK" (Natural n ∷ [])
  rank-answer (Symbol s) = answer-body P "RANK" (Symbol s ∷ [])
  rank-answer (Pair a b) =
      answer-body P "RANK" (Pair a b ∷ []) ∙ (ap₂ (λ v w. Natural (1 + (number v + number w))) (rank-answer a) (rank-answer b) ∙ ap Natural (omega arith))

  pub memberp-answer : (a x : Object) → answer P "LOGIC.MEMBERP" (a ∷ x ∷ []) ≡ truth_of (is_member a x)
  memberp-answer a (Natural n) = answer-body P "LOGIC.MEMBERP" (a ∷ Natural n ∷ [])
  memberp-answer a (Symbol s) = answer-body P "LOGIC.MEMBERP" (a ∷ Symbol s ∷ [])
  memberp-answer a (Pair b r) =
      answer-body P "LOGIC.MEMBERP" (a ∷ Pair b r ∷ []) ∙ (ap (choose (truth_of (same_object a b)) T) (memberp-answer a r) ∙ or_value (same_object a b) (is_member a r))

  -- formulas from their parts
  pub pequal-answer : (a b : Object) → answer P "LOGIC.PEQUAL" (a ∷ b ∷ []) ≡ equal_object a b
  pequal-answer a b = answer-body P "LOGIC.PEQUAL" (a ∷ b ∷ [])

  pub pnot-answer : (a : Object) → answer P "LOGIC.PNOT" (a ∷ []) ≡ not_object a
  pnot-answer a = answer-body P "LOGIC.PNOT" (a ∷ [])

  pub por-answer : (a b : Object) → answer P "LOGIC.POR" (a ∷ b ∷ []) ≡ or_object a b
  por-answer a b = answer-body P "LOGIC.POR" (a ∷ b ∷ [])

-- names
pub is_member-names : (y : Name) (xs : List Name) → is_member (Symbol y) (names_object xs) ≡ is_among y xs
is_member-names y [] = refl
is_member-names y (x ∷ xs) = ap (λ b. same_name y x || b) (is_member-names y xs)

variables_more : (s : Name) (o : Option (List Name)) → is_variable s && passes are_variables o ≡ passes are_variables (and_more (Some s) o)
variables_more s None = go (is_variable s)
  where
    go : (b : Bool) → b && false ≡ false
    go true = refl
    go false = refl
variables_more s (Some xs) = refl

module _ (P : Profile) where
  pub variablep-answer : (x : Object) → answer P "LOGIC.VARIABLEP" (x ∷ []) ≡ truth_of (is_variable_object x)
  variablep-answer (Natural n) = answer-body P "LOGIC.VARIABLEP" (Natural n ∷ [])
  variablep-answer (Symbol s) = answer-body P "LOGIC.VARIABLEP" (Symbol s ∷ []) ∙ simp (not_value, and_value)
  variablep-answer (Pair a b) = answer-body P "LOGIC.VARIABLEP" (Pair a b ∷ [])

  pub var_listp-answer : (x : Object) → answer P "LOGIC.VAR-LISTP" (x ∷ []) ≡ truth_of (passes are_variables (names_of x))
  var_listp-answer (Natural n) = answer-body P "LOGIC.VAR-LISTP" (Natural n ∷ [])
  var_listp-answer (Symbol s) = answer-body P "LOGIC.VAR-LISTP" (Symbol s ∷ []) ∙ go (same_name s nil_name)
    where
      go : (b : Bool) → truth_of b ≡ truth_of (passes are_variables (cond b (Some []) None))
      go true = refl
      go false = refl
  var_listp-answer (Pair (Natural n) r) = answer-body P "LOGIC.VAR-LISTP" (Pair (Natural n) r ∷ []) ∙ and_then false false (variablep-answer (Natural n)) (λ e. cc)
  var_listp-answer (Pair (Symbol s) r) =
      answer-body P "LOGIC.VAR-LISTP" (Pair (Symbol s) r ∷ [])
      ∙ (and_then (is_variable s) (passes are_variables (names_of r)) (variablep-answer (Symbol s)) (λ _. var_listp-answer r) ∙ ap truth_of (variables_more s (names_of r)))
  var_listp-answer (Pair (Pair a b) r) = answer-body P "LOGIC.VAR-LISTP" (Pair (Pair a b) r ∷ []) ∙ and_then false false (variablep-answer (Pair a b)) (λ e. cc)

  pub uniquep-answer : (xs : List Name) → answer P "LOGIC.UNIQUEP" (names_object xs ∷ []) ≡ truth_of (are_distinct xs)
  uniquep-answer [] = answer-body P "LOGIC.UNIQUEP" (NIL ∷ [])
  uniquep-answer (x ∷ xs) =
      answer-body P "LOGIC.UNIQUEP" (names_object (x ∷ xs) ∷ [])
      ∙ (ap₂ (λ v w. choose v NIL w) (memberp-answer P (Symbol x) (names_object xs) ∙ ap truth_of (is_member-names x xs)) (uniquep-answer xs) ∙ not_and_value (is_among x xs) (are_distinct xs))

-- a name's pair in the arity table
abbrev pub arity_pair : Name → Option ℕ → Object
arity_pair f None = NIL
arity_pair f (Some n) = Pair (Symbol f) (Natural n)

module _ (P : Profile) where
  pub lookup-answer-arity : (f : Name) (A : ArityTable) → answer P "LOGIC.LOOKUP" (Symbol f ∷ table_object A ∷ []) ≡ arity_pair f (arity_of A f)
  lookup-answer-arity f [] = answer-body P "LOGIC.LOOKUP" (Symbol f ∷ NIL ∷ [])
  lookup-answer-arity f (p ∷ A) =
      answer-body P "LOGIC.LOOKUP" (Symbol f ∷ table_object (p ∷ A) ∷ [])
      ∙ (ap₂ (λ b l. choose (truth_of b) (Pair (Symbol p.0) (Natural p.1)) l) (same_name-swap f p.0) (lookup-answer-arity f A) ∙ go (same_name p.0 f) refl)
    where
      go : (b : Bool) → same_name p.0 f ≡ b → choose (truth_of b) (Pair (Symbol p.0) (Natural p.1)) (arity_pair f (arity_of A f)) ≡ arity_pair f (cond b (Some p.1) (arity_of A f))
      go true e = ap (λ z. Pair (Symbol z) (Natural p.1)) (same_name-eq p.0 f e)
      go false e = refl

  pub constantp-answer : (f : Name) (r : Object) → answer P "LOGIC.CONSTANTP" (Pair (Symbol f) r ∷ []) ≡ truth_of (same_name f (named "QUOTE") && has_length (Pair (Symbol f) r) 2)
  constantp-answer f r =
      answer-body P "LOGIC.CONSTANTP" (Pair (Symbol f) r ∷ [])
      ∙ (ap (λ v. choose (truth_of (same_name f (named "QUOTE"))) v NIL) (lenp-answer P (Pair (Symbol f) r) 2) ∙ and_value (same_name f (named "QUOTE")) (has_length (Pair (Symbol f) r) 2))
