-- A newer block changes the truth of no older formula.
use Rattle.std.proofs.Common.{◌≡◌, true, List, ◌∷◌}
use Rattle.std.proofs.lemmas.Bool.{and_parts, and_from}
use Rattle.mw_model.specs.Terms.Object.{Object}
use Rattle.mw_model.specs.Terms.Term.{Term, Formula, Equal, Not, Or, is_term, is_formula, IsTerm, IsFormula}
use Rattle.mw_model.specs.Values.Primitive.{Profile}
use Rattle.mw_model.specs.Values.Definition.{Block, arities, are_blocks}
use Rattle.mw_model.specs.Values.Value.{Environment, HasValue, block_calls}
use Rattle.mw_model.specs.Values.Truth.{TrueAt}
use Rattle.mw_model.proofs.Formed.{formed, is_term-from}
use Rattle.mw_model.proofs.Older.{formed_more, arity_stays, older_to, older_from}

module _ (P : Profile) (B : Block) (D : List Block) (w : are_blocks P (B ∷ D) ≡ true) where
  pub term_stays : (t : Term) → IsTerm (arities P D) t → IsTerm (arities P (B ∷ D)) t
  term_stays t i = is_term-from (arities P (B ∷ D)) t (formed_more (arities P D) (arities P (B ∷ D)) (arity_stays P B D w) t (formed (arities P D) t i))

  pub formula_stays : (F : Formula) → IsFormula (arities P D) F → IsFormula (arities P (B ∷ D)) F
  formula_stays (Equal a b) i =
      let p = and_parts (is_term (arities P D) a) (is_term (arities P D) b) i in
      and_from (is_term (arities P (B ∷ D)) a) (is_term (arities P (B ∷ D)) b) (term_stays a p.0) (term_stays b p.1)
  formula_stays (Not F) i = formula_stays F i
  formula_stays (Or F G) i =
      let p = and_parts (is_formula (arities P D) F) (is_formula (arities P D) G) i in
      and_from (is_formula (arities P (B ∷ D)) F) (is_formula (arities P (B ∷ D)) G) (formula_stays F p.0) (formula_stays G p.1)

  pub value_to : (e : Environment) (t : Term) (v : Object) → IsTerm (arities P D) t → HasValue P (block_calls P D) e t v → HasValue P (block_calls P (B ∷ D)) e t v
  value_to e t v i = older_to P B D w e t v (formed (arities P D) t i)

  pub value_from : (e : Environment) (t : Term) (v : Object) → IsTerm (arities P D) t → HasValue P (block_calls P (B ∷ D)) e t v → HasValue P (block_calls P D) e t v
  value_from e t v i = older_from P B D w e t v (formed (arities P D) t i)

  mutual
    pub true_to : (e : Environment) (F : Formula) → IsFormula (arities P D) F → TrueAt P (block_calls P D) e F → TrueAt P (block_calls P (B ∷ D)) e F
    true_to e (Equal a b) i t =
        let p = and_parts (is_term (arities P D) a) (is_term (arities P D) b) i in
        λ k. t (λ v ha hb. k v (value_to e a v p.0 ha) (value_to e b v p.1 hb))
    true_to e (Not F) i t = λ h. t (true_from e F i h)
    true_to e (Or F G) i t =
        let p = and_parts (is_formula (arities P D) F) (is_formula (arities P D) G) i in
        λ k l. t (λ h. k (true_to e F p.0 h)) (λ h. l (true_to e G p.1 h))

    pub true_from : (e : Environment) (F : Formula) → IsFormula (arities P D) F → TrueAt P (block_calls P (B ∷ D)) e F → TrueAt P (block_calls P D) e F
    true_from e (Equal a b) i t =
        let p = and_parts (is_term (arities P D) a) (is_term (arities P D) b) i in
        λ k. t (λ v ha hb. k v (value_from e a v p.0 ha) (value_from e b v p.1 hb))
    true_from e (Not F) i t = λ h. t (true_to e F i h)
    true_from e (Or F G) i t =
        let p = and_parts (is_formula (arities P D) F) (is_formula (arities P D) G) i in
        λ k l. t (λ h. k (true_from e F p.0 h)) (λ h. l (true_from e G p.1 h))
