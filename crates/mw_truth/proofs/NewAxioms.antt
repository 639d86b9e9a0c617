-- The axioms of a new block are formulas, and true once the definitions with the block are total.
use Rattle.std.proofs.Common.{◌≡◌, ◌≢◌, suc, true, false, ◌&&◌, List, [], ◌∷◌, map, length, Some, refl, sym, ap, ap₂, ◌∙◌, subst, ◌⊎◌, inl, inr}
use Rattle.std.proofs.lemmas.Bool.{and_parts, and_from, or_cases, cond-true, cond-false, false≢true}
use Rattle.mw_model.specs.Terms.Object.{Name, Object, same_name, NIL}
use Rattle.mw_model.specs.Terms.Term.{Term, Terms, Call, Lambda, More, ArityTable, arity_of, is_variable, are_variables, are_distinct, are_formals, is_among, is_closed, count, is_term, IsTerm, IsFormula}
use Rattle.mw_model.specs.Values.Primitive.{Profile, primitive_named}
use Rattle.mw_model.specs.Values.Definition.{Function, Block, Functions, Choice, definitions, function_named, arities, is_new, are_functions, is_block, are_blocks, variable_terms, function_axiom, choice_axiom, block_axioms}
use Rattle.mw_model.specs.Values.Value.{Environment, lookup, bind, Calls, HasValue, HaveValues, OnFunction, pick, CallAtSomeDepth, Satisfies, IsWitness, extend_by, block_calls, IsTotal}
use Rattle.mw_model.specs.Values.Truth.{IsTrueIn, Each}
use Rattle.mw_model.proofs.CallDepth.{no_primitive, on_no_primitive}
use Rattle.mw_model.proofs.Names.{same_name-eq, same_name-refl, name_cases}
use Rattle.mw_model.proofs.Formed.{Formed, AreFormed, formed, is_term-from}
use Rattle.mw_model.proofs.Values.{ev_det, evs_det, ev_vars}
use Rattle.mw_model.proofs.SomeValue.{witness_has}
use Rattle.mw_model.proofs.Depth.{block_unfold, block_calls-det}
use Rattle.mw_model.proofs.Older.{arity_here, functions_new, choice_new}
use Rattle.mw_model.proofs.NewNames.{new_no_primitive, new_call_name, each_new, each_found}
use Rattle.mw_truth.specs.Methods.{IsTrueFormula}
use Rattle.mw_truth.proofs.OlderTruth.{term_stays, value_to}
use Rattle.mw_truth.proofs.Totals.{total_before}

-- formals as actuals
variables_values : (P : Profile) (C : Calls) (e : Environment) (xs : List Name) → HaveValues P C e (variable_terms xs) (map (lookup e) xs)
variables_values P C e [] = refl
variables_values P C e (x ∷ xs) = (lookup e x, map (lookup e) xs, refl, refl, variables_values P C e xs)

variables_only : (P : Profile) (C : Calls) (e : Environment) (xs : List Name) (vs : List Object) → HaveValues P C e (variable_terms xs) vs → vs ≡ map (lookup e) xs
variables_only P C e xs vs h = go xs vs h
  where
    go : (xs : List Name) (vs : List Object) → HaveValues P C e (variable_terms xs) vs → vs ≡ map (lookup e) xs
    go [] vs h = h
    go (x ∷ xs) vs h = h.2 ∙ ap₂ ◌∷◌ h.3 (go xs h.1 h.4)

variables_count : (xs : List Name) → count (variable_terms xs) ≡ length xs
variables_count [] = refl
variables_count (x ∷ xs) = ap suc (variables_count xs)

variables_formed : (A : ArityTable) (xs : List Name) → are_variables xs ≡ true → AreFormed A (variable_terms xs)
variables_formed A [] h = tt
variables_formed A (x ∷ xs) h = let p = and_parts (is_variable x) (are_variables xs) h in (p.0, variables_formed A xs p.1)

-- the formals, bound to their own values
pub rebound : (e : Environment) (xs : List Name) (x : Name) → is_among x xs ≡ true → lookup (bind xs (map (lookup e) xs)) x ≡ lookup e x
rebound e [] x h = absurd (false≢true h)
rebound e (y ∷ xs) x h = go (name_cases y x) (or_cases (same_name x y) (is_among x xs) h) (rebound e xs x)
  where
    go : ((same_name y x ≡ true) × (y ≡ x)) ⊎ ((same_name y x ≡ false) × (y ≢ x)) → (same_name x y ≡ true) ⊎ (is_among x xs ≡ true) → (is_among x xs ≡ true → lookup (bind xs (map (lookup e) xs)) x ≡ lookup e x) → lookup (bind (y ∷ xs) (map (lookup e) (y ∷ xs))) x ≡ lookup e x
    go (inl c) o ih = cond-true (same_name y x) (lookup e y) (lookup (bind xs (map (lookup e) xs)) x) c.0 ∙ ap (lookup e) c.1
    go (inr c) (inl q) ih = absurd (c.1 (sym (same_name-eq x y q)))
    go (inr c) (inr q) ih = cond-false (same_name y x) (lookup e y) (lookup (bind xs (map (lookup e) xs)) x) c.0 ∙ ih q

-- the parts of a function that is well made
function_parts : (A : ArityTable) (h : Function) (B : List Function) → are_functions A (h ∷ B) ≡ true → (are_formals h.formals ≡ true) × IsTerm A h.body × (is_closed h.formals h.body ≡ true) × (are_functions A B ≡ true)
function_parts A h B w =
    let p = and_parts (are_formals h.formals) (is_term A h.body && (is_closed h.formals h.body && are_functions A B)) w in
    let q = and_parts (is_term A h.body) (is_closed h.formals h.body && are_functions A B) p.1 in
    let r = and_parts (is_closed h.formals h.body) (are_functions A B) q.1 in
    (p.0, q.0, r.0, r.1)

-- Of a block of functions: a call's value is the body's.
module _ (P : Profile) (B : List Function) (D : List Block) (w : are_blocks P (Functions B ∷ D) ≡ true) (t : IsTotal (definitions P (Functions B ∷ D))) where
  abbrev New : ArityTable
  New = arities P (Functions B ∷ D)

  abbrev After : Calls
  After = block_calls P (Functions B ∷ D)

  call_formed : (h : Function) → is_new (arities P D) h.name ≡ true → function_named B h.name ≡ Some h → are_variables h.formals ≡ true → Formed New (Call h.name (variable_terms h.formals))
  call_formed h n f v =
      (new_call_name P D h.name n, arity_here B (arities P D) (arities P D) h.name h (functions_new P B D w).0 f ∙ ap Some (sym (variables_count h.formals)), variables_formed New h.formals v)

  function_true : (h : Function) → is_new (arities P D) h.name ≡ true → function_named B h.name ≡ Some h → (are_variables h.formals ≡ true) → is_closed h.formals h.body ≡ true → IsTrueIn (definitions P (Functions B ∷ D)) (function_axiom h)
  function_true h n f v shut e k =
      t.some e (Call h.name (variable_terms h.formals)) (is_term-from New (Call h.name (variable_terms h.formals)) (call_formed h n f v)) (λ u hu.
      let c = no_primitive After (primitive_named P h.name) h.name hu.0 u (new_no_primitive P D h.name n) hu.2 in
      let d = subst (λ o. OnFunction (block_calls P D) (CallAtSomeDepth P (block_calls P D) B) o h.name hu.0 u) f c in
      let b = block_unfold P (block_calls P D) B h hu.0 u d in
      let b' = subst (λ vs. HasValue P After (bind h.formals vs) h.body u) (variables_only P After e h.formals hu.0 hu.1) b in
      k u hu (ev_vars P After h.formals (bind h.formals (map (lookup e) h.formals)) e (rebound e h.formals) h.body u shut b'))

  functions_good : (hs : List Function) → Each (λ h. is_new (arities P D) h.name ≡ true) hs → Each (λ h. function_named B h.name ≡ Some h) hs → are_functions New hs ≡ true → Each (IsTrueFormula (definitions P (Functions B ∷ D))) (map function_axiom hs)
  functions_good [] n f a = tt
  functions_good (h ∷ hs) n f a =
      let p = function_parts New h hs a in
      let v = (and_parts (are_variables h.formals) (are_distinct h.formals) p.0).0 in
      let c = Call h.name (variable_terms h.formals) in
      ((and_from (is_term New c) (is_term New h.body) (is_term-from New c (call_formed h n.0 f.0 v)) p.1, function_true h n.0 f.0 v p.2), functions_good hs n.1 f.1 p.3)

  pub functions_axioms : Each (IsTrueFormula (definitions P (Functions B ∷ D))) (map function_axiom B)
  functions_axioms =
      let p = functions_new P B D w in
      functions_good B (each_new (arities P D) B p.0) (each_found (arities P D) B p.0) p.1

-- Of a witness: where the body has a value other than NIL at all, it has one at the witness's value.
module _ (P : Profile) (g y : Name) (xs : List Name) (b : Term) (D : List Block) (w : are_blocks P (Choice g y xs b ∷ D) ≡ true) (t : IsTotal (definitions P D)) where
  abbrev Next : Calls
  Next = block_calls P (Choice g y xs b ∷ D)

  abbrev Bigger : ArityTable
  Bigger = arities P (Choice g y xs b ∷ D)

  abbrev Actuals : Terms
  Actuals = More (Call g (variable_terms xs)) (variable_terms xs)

  choice_parts : (are_formals (y ∷ xs) ≡ true) × IsTerm (arities P D) b × (is_closed (y ∷ xs) b ≡ true)
  choice_parts =
      let p = and_parts (is_block (arities P D) (Choice g y xs b)) (are_blocks P D) w in
      let q = and_parts (is_new (arities P D) g) (are_formals (y ∷ xs) && (is_term (arities P D) b && is_closed (y ∷ xs) b)) p.0 in
      let r = and_parts (are_formals (y ∷ xs)) (is_term (arities P D) b && is_closed (y ∷ xs) b) q.1 in
      let s = and_parts (is_term (arities P D) b) (is_closed (y ∷ xs) b) r.1 in
      (r.0, s.0, s.1)

  here : (f : Name) (C : Calls) (R : List Object → Object → Type 0) (vs : List Object) (v : Object) → R vs v → extend_by C f R f vs v
  here f C R vs v h = subst (λ c. pick c (R vs v) (C f vs v)) (sym (same_name-refl f)) h

  choice_values : (e : Environment) (v : Object) → IsWitness P (block_calls P D) y xs b (map (lookup e) xs) v → HaveValues P Next e Actuals (v ∷ map (lookup e) xs)
  choice_values e v q =
      (v, map (lookup e) xs, refl, (map (lookup e) xs, variables_values P Next e xs, on_no_primitive Next (primitive_named P g) g (map (lookup e) xs) v (new_no_primitive P D g (choice_new P g y xs b D w).0) (here g (block_calls P D) (IsWitness P (block_calls P D) y xs b) (map (lookup e) xs) v q)), variables_values P Next e xs)

  choice_true : IsTrueIn (definitions P (Choice g y xs b ∷ D)) (choice_axiom g y xs b)
  choice_true e no_nil no_not =
      t.some e b choice_parts.1 (λ u hu.
      let ne : u ≢ NIL = λ q. no_nil (λ k. k NIL (value_to P (Choice g y xs b) D w e b NIL choice_parts.1 (subst (λ o. HasValue P (block_calls P D) e b o) q hu)) refl) in
      let hold : Satisfies P (block_calls P D) y xs b (map (lookup e) xs) (lookup e y) = (u, ne, ev_vars P (block_calls P D) (y ∷ xs) e ((y, lookup e y) ∷ bind xs (map (lookup e) xs)) (λ x i. sym (rebound e (y ∷ xs) x i)) b u choice_parts.2 hu) in
      witness_has P (block_calls P D) y xs b (map (lookup e) xs) (λ v q. at v q hold))
    where
      at : (v : Object) → IsWitness P (block_calls P D) y xs b (map (lookup e) xs) v → Satisfies P (block_calls P D) y xs b (map (lookup e) xs) (lookup e y) → ⊥
      at v (inr q) hold = q.1 (lookup e y) hold
      at v (inl q) hold =
          no_not (λ tr. tr (λ v' hl hn.
          let det = block_calls-det P (Choice g y xs b ∷ D) in
          let same = evs_det P Next det e Actuals hl.0 (v ∷ map (lookup e) xs) hl.1 (choice_values e v (inl q)) in
          let hl' = subst (λ vs. HasValue P Next (bind (y ∷ xs) vs) b v') same hl.2 in
          let hu = value_to P (Choice g y xs b) D w (bind (y ∷ xs) (v ∷ map (lookup e) xs)) b q.0.0 choice_parts.1 q.0.2 in
          q.0.1 (ev_det P Next det (bind (y ∷ xs) (v ∷ map (lookup e) xs)) b q.0.0 v' hu hl' ∙ hn)))

  choice_formula : IsFormula Bigger (choice_axiom g y xs b)
  choice_formula =
      let body = term_stays P (Choice g y xs b) D w b choice_parts.1 in
      let f = and_parts (are_variables (y ∷ xs)) (are_distinct (y ∷ xs)) choice_parts.0 in
      let vs = variables_formed Bigger xs (and_parts (is_variable y) (are_variables xs) f.0).1 in
      let known : arity_of Bigger g ≡ Some (count (variable_terms xs)) = cond-true (same_name g g) (Some (length xs)) (arity_of (arities P D) g) (same_name-refl g) ∙ ap Some (sym (variables_count xs)) in
      let lambda : Formed Bigger (Lambda (y ∷ xs) b Actuals) = (f.0, f.1, choice_parts.2, ap suc (sym (variables_count xs)), formed Bigger b body, ((new_call_name P D g (choice_new P g y xs b D w).0, known, vs), vs)) in
      and_from (is_term Bigger b && true) (is_term Bigger (Lambda (y ∷ xs) b Actuals) && true) (and_from (is_term Bigger b) true body refl) (and_from (is_term Bigger (Lambda (y ∷ xs) b Actuals)) true (is_term-from Bigger (Lambda (y ∷ xs) b Actuals) lambda) refl)

  pub choice_good : IsTrueFormula (definitions P (Choice g y xs b ∷ D)) (choice_axiom g y xs b)
  choice_good = (choice_formula, choice_true)

-- each axiom of the newest block of total definitions
pub block_axioms-good : (P : Profile) (B : Block) (D : List Block) → are_blocks P (B ∷ D) ≡ true → IsTotal (definitions P (B ∷ D)) → Each (IsTrueFormula (definitions P (B ∷ D))) (block_axioms B)
block_axioms-good P (Functions B) D w t = functions_axioms P B D w t
block_axioms-good P (Choice g y xs b) D w t = (choice_good P g y xs b D w (total_before P (Choice g y xs b) D w t), tt)
