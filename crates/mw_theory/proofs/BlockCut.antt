-- The parts of a block are parts of its axioms: they stand before these, and stay after a cut behind them.
use Rattle.std.proofs.Common.{◌≡◌, ℕ, ◌<◌, ◌≤◌, List, [], ◌∷◌, length, take, refl, sym, ap, ◌∙◌, subst, arith, map}
use Rattle.mw_model.specs.Terms.Object.{Name, Object, Symbol, Pair}
use Rattle.mw_model.specs.Terms.Term.{names_object, terms_object}
use Rattle.mw_model.specs.Values.Definition.{Function as Defined, Block, Functions, Choice, variable_terms, block_axioms}
use Rattle.mw_model.specs.Values.Definition.{function_axiom}
use Rattle.mw_model.specs.Laws.RulesInduction.{formulas_object}
use Rattle.mw_heap.specs.Objects.{object_at, IsIn, AreDistinct, ArePartsOlder, StandsBefore}
use Rattle.mw_heap.proofs.Objects.{IsIn-take, object_at-take}
use Rattle.mw_preamble.specs.declared.definition.Definition.{Definition}
use Rattle.mw_preamble.specs.declared.definition.Definition.TheVariants.{Function, Witness}
use Rattle.mw_preamble.specs.Entries.{AreFunctions, IsBlock}

-- variables, as terms, are the list of their names
variables-names : (xs : List Name) → terms_object (variable_terms xs) ≡ names_object xs
variables-names [] = refl
variables-names (x ∷ xs) = ap (Pair (Symbol x)) (variables-names xs)

module _ (os : List Object) (distinct : AreDistinct os) (older : ArePartsOlder os) (m : ℕ) (within : m ≤ length os) where
  first-of : (a b : Object) → StandsBefore os m (Pair a b) → StandsBefore os m a
  first-of a b s = let p = (older s.0 a b (omega (arith, s.1, within)) s.2).0 in (p.0, omega (arith, p.1, s.1), p.2)

  rest-of : (a b : Object) → StandsBefore os m (Pair a b) → StandsBefore os m b
  rest-of a b s = let p = (older s.0 a b (omega (arith, s.1, within)) s.2).1 in (p.0, omega (arith, p.1, s.1), p.2)

  -- what stands before the cut, by any of its references
  before-cut : (x : ℕ) (o : Object) → IsIn os x → object_at os x ≡ o → StandsBefore os m o → x < m
  before-cut x o i e s = subst (λ y. y < m) (distinct s.0 x (omega (arith, s.1, within)) i (s.2 ∙ sym e)) s.1

  -- the object at x stays in its place
  stays : (x : ℕ) (o : Object) → IsIn os x → object_at os x ≡ o → StandsBefore os m o → IsIn (take m os) x × (object_at (take m os) x ≡ o)
  stays x o i e s = let before = before-cut x o i e s in (IsIn-take m os x before within, object_at-take m os x before ∙ e)

  functions-cut : (ds : List Definition) (B : List Defined) → AreFunctions os ds B → StandsBefore os m (formulas_object (map function_axiom B)) → AreFunctions (take m os) ds B
  functions-cut [] [] h s = tt
  functions-cut (Function name formals body ∷ ds) (k ∷ B) h s =
      let f = h.0 in
      let sides = rest-of _ _ (first-of _ _ s) in
      let call = first-of _ _ sides in
      let n = stays name _ f.name_in f.name_is (first-of _ _ call) in
      let xs = stays formals _ f.formals_in f.formals_are (subst (StandsBefore os m) (variables-names k.formals) (rest-of _ _ call)) in
      let b = stays body _ f.body_in f.body_is (first-of _ _ (rest-of _ _ sides)) in (
        record { name_in = n.0; formals_in = xs.0; body_in = b.0; name_is = n.1; formals_are = xs.1; body_is = b.1 },
        functions-cut ds B h.1 (rest-of _ _ s),
      )
  functions-cut [] (k ∷ B) h s = absurd h
  functions-cut (Function name formals body ∷ ds) [] h s = absurd h
  functions-cut (Witness name bound free body ∷ ds) [] h s = absurd h
  functions-cut (Witness name bound free body ∷ ds) (k ∷ B) h s = absurd h

  pub block-cut : (ds : List Definition) (B : Block) → IsBlock os ds B → StandsBefore os m (formulas_object (block_axioms B)) → IsBlock (take m os) ds B
  block-cut ds (Functions B) h s = functions-cut ds B h s
  block-cut (Witness name bound free body ∷ []) (Choice g y xs b) h s =
      let sides = rest-of _ _ (first-of _ _ s) in
      let equation = first-of _ _ (rest-of _ _ (first-of _ _ (rest-of _ _ sides))) in
      let call = first-of _ _ (rest-of _ _ equation) in
      let variables = first-of _ _ (rest-of _ _ (first-of _ _ call)) in
      let n = stays name _ h.name_in h.name_is (first-of _ _ (first-of _ _ (rest-of _ _ call))) in
      let v = stays bound _ h.bound_in h.bound_is (first-of _ _ variables) in
      let vs = stays free _ h.free_in h.free_are (rest-of _ _ variables) in
      let t = stays body _ h.body_in h.body_is (first-of _ _ (rest-of _ _ (first-of _ _ sides))) in
      record { name_in = n.0; bound_in = v.0; free_in = vs.0; body_in = t.0; name_is = n.1; bound_is = v.1; free_are = vs.1; body_is = t.1 }
  block-cut [] (Choice g y xs b) h s = absurd h
  block-cut (Function name formals body ∷ ds) (Choice g y xs b) h s = absurd h
  block-cut (Witness name bound free body ∷ d ∷ ds) (Choice g y xs b) h s = absurd h
