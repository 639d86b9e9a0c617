-- A block of functions whose obligations are true keeps the definitions total, by descent along its measures.
use Rattle.std.proofs.Common.{◌≡◌, Bool, true, false, ◌&&◌, List, [], ◌∷◌, refl, map}
use Rattle.std.proofs.lemmas.Bool.{and_parts}
use Rattle.mw_model.specs.Terms.Term.{ArityTable, IsTerm, is_term, is_closed, are_formals}
use Rattle.mw_model.specs.Values.Primitive.{Profile}
use Rattle.mw_model.specs.Values.Definition.{Function, Block, Functions, definitions, add_functions, arities, is_new, are_functions}
use Rattle.mw_model.specs.Values.Definition.{function_axiom}
use Rattle.mw_model.specs.Values.Value.{block_calls, IsTotal}
use Rattle.mw_model.specs.Values.Truth.{Each}
use Rattle.mw_model.specs.Events.Obligation.{Measures, measure_of, calls_none}
use Rattle.mw_model.specs.Laws.Descent.{OfBlock, goal}
use Rattle.mw_descent.specs.Descending.{Passes}
use Rattle.mw_model.proofs.Formed.{Formed, formed}
use Rattle.mw_model.proofs.Depth.{block_calls-det}
use Rattle.mw_model.proofs.Older.{functions_new}
use Rattle.mw_model.proofs.NewNames.{new_no_primitive, new_call_name, each_new, no_if}
use Rattle.mw_truth.specs.Admitted.{IsAdmissible, with_block}
use Rattle.mw_truth.specs.Methods.{IsTrueFormula}
use Rattle.mw_truth.proofs.Having.{CallsHave, Orders}
use Rattle.mw_truth.proofs.BlockTotal.{BlockFormed, Owed, block_passes, block_has, block_calls_have}
use Rattle.mw_truth.proofs.Owes.{owed_from}
use Rattle.mw_truth.proofs.Totals.{total_from, calls_from}
use Rattle.mw_truth.proofs.NewAxioms.{block_axioms-good}
use Rattle.mw_truth.proofs.OrdinalFunctions.{orders}

pub bodies_formed : (A : ArityTable) (B : List Function) → are_functions A B ≡ true → Each (λ h. Formed A h.body) B
bodies_formed A [] w = tt
bodies_formed A (h ∷ B) w =
    let p = and_parts (are_formals h.formals) (is_term A h.body && (is_closed h.formals h.body && are_functions A B)) w in
    let q = and_parts (is_term A h.body) (is_closed h.formals h.body && are_functions A B) p.1 in
    let r = and_parts (is_closed h.formals h.body) (are_functions A B) q.1 in
    (formed A h.body q.0, bodies_formed A B r.1)

module _ (P : Profile) (D : List Block) (B : List Function) (M : Measures) where
  each_formed : (hs : List Function) → Each (λ h. is_new (arities P D) h.name ≡ true) hs → Each (λ h. Formed (add_functions B (arities P D)) h.body) hs → Each (λ h. IsTerm (arities P D) (measure_of M h.name) × (is_closed h.formals (measure_of M h.name) ≡ true)) hs → Each (BlockFormed P (arities P D) B M) hs
  each_formed [] n b m = tt
  each_formed (h ∷ hs) n b m =
      (record { plain = new_no_primitive P D h.name n.0; call_name = new_call_name P D h.name n.0; body = b.0; measure = formed (arities P D) (measure_of M h.name) m.0.0; shut = m.0.1 }, each_formed hs n.1 b.1 m.1)

  module _ (i : IsAdmissible (definitions P D) B M) where
    ordinals : Orders (block_calls P D)
    ordinals = orders P D (functions_new P B D i.made).2 i.begun

    block_formed : Each (BlockFormed P (arities P D) B M) B
    block_formed =
        let p = functions_new P B D i.made in
        each_formed B (each_new (arities P D) B p.0) (bodies_formed (add_functions B (arities P D)) B p.1) i.measured

    block_owed : Owed P (block_calls P D) B M
    block_owed = owed_from P (block_calls P D) B M i.flat i.owed

    -- the calls of the block have values where the measure's value is a, if they have where it is below a
    pub goal_passes : Passes (goal (OfBlock (with_block (definitions P D) (Functions B)) M))
    goal_passes a oa ih h q ws hm k = go (calls_none B B) refl
      where
        all : CallsHave P (block_calls P D) (arities P D)
        all = calls_from (definitions P D) i.total

        go : (b : Bool) → calls_none B B ≡ b → ⊥
        go true e = block_has P (block_calls P D) (block_calls-det P D) (arities P D) all ordinals B M (functions_new P B D i.made).0 block_formed (no_if P B D i.made) block_owed h.name h q ws k
        go false e = block_passes P (block_calls P D) (block_calls-det P D) (arities P D) all ordinals B M (functions_new P B D i.made).0 block_formed (no_if P B D i.made) block_owed (block_owed.ordinal e) a oa ih h q ws hm k

    pub block_total : IsTotal (with_block (definitions P D) (Functions B))
    block_total =
        total_from (definitions P (Functions B ∷ D)) (block_calls_have P (block_calls P D) (block_calls-det P D) (arities P D) (calls_from (definitions P D) i.total) ordinals B M (functions_new P B D i.made).0 block_formed (no_if P B D i.made) block_owed)

    pub axioms_hold : Each (IsTrueFormula (with_block (definitions P D) (Functions B))) (map function_axiom B)
    axioms_hold = block_axioms-good P (Functions B) D i.made block_total
