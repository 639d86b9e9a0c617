-- The names of a new block: none was known, each is a name that its event adds, and each axiom of the block has one of them in it.
use Rattle.std.proofs.Common.{◌≡◌, Bool, true, false, cond, List, [], ◌∷◌, map, Some, None, refl, sym, ap, ◌∙◌, subst, is_some}
use Rattle.std.proofs.lemmas.Bool.{or_left, or_right}
use Rattle.mw_model.specs.Terms.Object.{Name, Object, Natural, Symbol, Pair, symbol, same_name, same_object, NIL, car, second_of, third_of, fourth_of, has_members, list2, list3}
use Rattle.mw_model.specs.Terms.Term.{Term, ArityTable, arity_of, names_object, term_object, terms_object, formula_object}
use Rattle.mw_model.specs.Values.Definition.{Function, Block, Functions, Choice, function_named, is_new, variable_terms, function_axiom, choice_axiom, block_axioms}
use Rattle.mw_model.specs.Values.Truth.{Each}
use Rattle.mw_model.specs.Events.Admission.{Draft, all_of, new_name, draft_of, drafts_of, functions}
use Rattle.mw_model.proofs.Names.{same_name-eq, same_name-refl}
use Rattle.mw_model.proofs.ReadBack.{some_one, and_more-back, when_some}
use Rattle.mw_model.proofs.NewNames.{new_absent}
use Rattle.mw_commands.specs.Commands.Slice.{some_passes, occurs, first_members}

-- one of the names occurs in the object
abbrev pub some_occurs : List Object → Object → Bool
some_occurs names x = some_passes (λ g. occurs g x) names

-- a name of the block
abbrev pub is_named : Block → Name → Bool
is_named (Functions B) f = is_some (function_named B f)
is_named (Choice g y xs b) f = same_name g f

-- what is new with a block, where the event adds these names
pub record NewBlock (A : ArityTable) (names : List Object) (B : Block) : Type 0 where
  pub unknown : (f : Name) → is_named B f ≡ true → arity_of A f ≡ None
  pub added : (f : Name) → is_named B f ≡ true → some_occurs names (Symbol f) ≡ true
  pub axioms : Each (λ F. some_occurs names (formula_object F) ≡ true) (block_axioms B)

-- the head of a call, in an axiom
function_occurs : (h : Function) → occurs (Symbol h.name) (formula_object (function_axiom h)) ≡ true
function_occurs h =
    let call = Pair (Symbol h.name) (terms_object (variable_terms h.formals)) in
    let s = Symbol h.name in
    or_right (occurs s (symbol "PEQUAL*")) (occurs s (list2 call (term_object h.body)))
    (or_left (occurs s call) (occurs s (Pair (term_object h.body) NIL)) (or_left (occurs s s) (occurs s (terms_object (variable_terms h.formals))) (same_name-refl h.name)))

-- ---- functions

named_first : (g f : Name) (rest : List Object) → same_name g f ≡ true → some_occurs (Symbol g ∷ rest) (Symbol f) ≡ true
named_first g f rest h = or_left (same_name g f) (some_occurs rest (Symbol f)) h

module _ (A : ArityTable) where
  new_name_is : (x : Object) (f : Name) → new_name A x ≡ Some f → (x ≡ Symbol f) × (is_new A f ≡ true)
  new_name_is (Natural n) f h = cc
  new_name_is (Pair a b) f h = cc
  new_name_is (Symbol g) f h = let p = when_some (is_new A g) (Some g) f h in (ap Symbol (some_one p.1), subst (λ z. is_new A z ≡ true) (some_one p.1) p.0)

  -- of functions with these names
  record NewFunctions (names : List Object) (B : List Function) : Type 0 where
    unknown : (f : Name) → is_some (function_named B f) ≡ true → arity_of A f ≡ None
    added : (f : Name) → is_some (function_named B f) ≡ true → some_occurs names (Symbol f) ≡ true
    axioms : Each (λ F. some_occurs names (formula_object F) ≡ true) (map function_axiom B)

  no_functions : (names : List Object) → NewFunctions names []
  no_functions names = record { unknown = λ f h. cc; added = λ f h. cc; axioms = tt }

  each_more : (x : Object) (names : List Object) (B : List Function) → Each (λ F. some_occurs names (formula_object F) ≡ true) (map function_axiom B) → Each (λ F. some_occurs (x ∷ names) (formula_object F) ≡ true) (map function_axiom B)
  each_more x names [] h = tt
  each_more x names (g ∷ B) h =
      (or_right (occurs x (formula_object (function_axiom g))) (some_occurs names (formula_object (function_axiom g))) h.0, each_more x names B h.1)

  one_function_more : (f : Name) (xs : List Name) (b : Term) (names : List Object) (B : List Function) → is_new A f ≡ true → NewFunctions names B → NewFunctions (Symbol f ∷ names) (record { name = f; formals = xs; body = b } ∷ B)
  one_function_more f xs b names B n r =
      let h : Function = record { name = f; formals = xs; body = b } in
      record {
        unknown = λ g k. unknown_by g (same_name f g) refl k;
        added = λ g k. added_by g (same_name f g) refl k;
        axioms = (or_left (occurs (Symbol f) (formula_object (function_axiom h))) (some_occurs names (formula_object (function_axiom h))) (function_occurs h), each_more (Symbol f) names B r.axioms);
      }
    where
      unknown_by : (g : Name) (t : Bool) → same_name f g ≡ t → is_some (cond t (Some (record { name = f; formals = xs; body = b })) (function_named B g)) ≡ true → arity_of A g ≡ None
      unknown_by g true e k = subst (λ z. arity_of A z ≡ None) (same_name-eq f g e) (new_absent A f n)
      unknown_by g false e k = r.unknown g k

      added_by : (g : Name) (t : Bool) → same_name f g ≡ t → is_some (cond t (Some (record { name = f; formals = xs; body = b })) (function_named B g)) ≡ true → some_occurs (Symbol f ∷ names) (Symbol g) ≡ true
      added_by g true e k = named_first f g names e
      added_by g false e k = or_right (same_name f g) (some_occurs names (Symbol g)) (r.added g k)

  new_functions : (names : List Object) (fs : List Name) (xss : List (List Name)) (bs : List Term) → all_of (new_name A) names ≡ Some fs → NewFunctions names (functions fs xss bs)
  new_functions [] fs xss bs h = subst (λ z. NewFunctions [] (functions z xss bs)) (some_one h) (no_functions [])
  new_functions (x ∷ names) fs xss bs h =
      let p = and_more-back (new_name A x) (all_of (new_name A) names) fs h in
      let q = new_name_is x p.0 p.2 in
      subst (λ z. NewFunctions (x ∷ names) (functions z xss bs)) (sym p.4) (subst (λ z. NewFunctions (z ∷ names) (functions (p.0 ∷ p.1) xss bs)) (sym q.0) (go p.0 p.1 q.1 (λ yss cs. new_functions names p.1 yss cs p.3) xss bs))
    where
      go : (f : Name) (gs : List Name) → is_new A f ≡ true → ((yss : List (List Name)) (cs : List Term) → NewFunctions names (functions gs yss cs)) → (xss : List (List Name)) (bs : List Term) → NewFunctions (Symbol f ∷ names) (functions (f ∷ gs) xss bs)
      go f gs n k [] bs = no_functions (Symbol f ∷ names)
      go f gs n k (xs ∷ xss) [] = no_functions (Symbol f ∷ names)
      go f gs n k (xs ∷ xss) (b ∷ bs) = one_function_more f xs b names (functions gs xss bs) n (k xss bs)

  pub functions_are_new : (names : List Object) (fs : List Name) (xss : List (List Name)) (bs : List Term) → all_of (new_name A) names ≡ Some fs → NewBlock A names (Functions (functions fs xss bs))
  functions_are_new names fs xss bs h = let r = new_functions names fs xss bs h in record { unknown = r.unknown; added = r.added; axioms = r.axioms }

  -- ---- a witness

  choice_occurs : (g y : Name) (xs : List Name) (b : Term) → occurs (Symbol g) (formula_object (choice_axiom g y xs b)) ≡ true
  choice_occurs g y xs b =
      let s = Symbol g in
      let vars = terms_object (variable_terms xs) in
      let call = Pair s vars in
      let head = list3 (symbol "LAMBDA") (names_object (y ∷ xs)) (term_object b) in
      let applied = Pair head (Pair call vars) in
      let nil = list2 (symbol "QUOTE") NIL in
      let equation = list3 (symbol "PEQUAL*") applied nil in
      let left = list3 (symbol "PEQUAL*") (term_object b) nil in
      let right = list2 (symbol "PNOT*") equation in
      or_right (occurs s (symbol "POR*")) (occurs s (list2 left right))
      (or_right (occurs s left) (occurs s (Pair right NIL))
      (or_left (occurs s right) (occurs s NIL)
      (or_right (occurs s (symbol "PNOT*")) (occurs s (Pair equation NIL))
      (or_left (occurs s equation) (occurs s NIL)
      (or_right (occurs s (symbol "PEQUAL*")) (occurs s (list2 applied nil))
      (or_left (occurs s applied) (occurs s (Pair nil NIL)) (or_right (occurs s head) (occurs s (Pair call vars)) (or_left (occurs s call) (occurs s vars) (or_left (occurs s s) (occurs s vars) (same_name-refl g))))))))))

  pub witness_is_new : (x : Object) (g y : Name) (xs : List Name) (b : Term) → new_name A x ≡ Some g → NewBlock A (x ∷ []) (Choice g y xs b)
  witness_is_new x g y xs b h =
      let q = new_name_is x g h in
      subst (λ z. NewBlock A (z ∷ []) (Choice g y xs b)) (sym q.0)
      (record {
        unknown = λ f k. subst (λ z. arity_of A z ≡ None) (same_name-eq g f k) (new_absent A g q.1);
        added = λ f k. named_first g f [] k;
        axioms = (or_left (occurs (Symbol g) (formula_object (choice_axiom g y xs b))) false (choice_occurs g y xs b), tt);
      })

-- ---- the names of drafts

pub drafts_names : (x : Object) (ds : List Draft) → drafts_of x ≡ Some ds → map (λ d. d.name) ds ≡ first_members x
drafts_names (Natural n) ds h = cc
drafts_names (Symbol s) ds h = let p = when_some (same_object (Symbol s) NIL) (Some []) ds h in ap (map (λ d. d.name)) (sym (some_one p.1))
drafts_names (Pair d r) ds h =
    let p = and_more-back (draft_of d) (drafts_of r) ds h in
    let q = when_some (has_members 4 d) (Some (record { name = car d; formals = second_of d; body = third_of d; measure = fourth_of d })) p.0 p.2 in
    ap (map (λ d. d.name)) p.4 ∙ (ap (λ z. z ∷ map (λ d. d.name) p.1) (ap (λ d. d.name) (sym (some_one q.1))) ∙ ap (λ z. car d ∷ z) (drafts_names r p.1 p.3))
