-- The rows of blocks bring the axioms and the arities of the blocks.
use Rattle.std.proofs.Common.{◌≡◌, true, List, [], ◌∷◌, ◌++◌, map, refl, sym, ap, ◌∙◌, append_assoc, append-nil}
use Rattle.std.proofs.lemmas.List.{map-append}
use Rattle.mw_model.specs.Terms.Object.{Object, NIL}
use Rattle.mw_model.specs.Terms.Term.{ArityTable, formula_object}
use Rattle.mw_model.specs.Values.Primitive.{Profile, One, Two, primitive_arities}
use Rattle.mw_model.specs.Values.Definition.{Function, Block, Functions, Choice, function_axiom, block_axioms, add_functions, add_block, arities, arity_table}
use Rattle.mw_model.specs.BuiltIns.BuiltIn.{built_in}
use Rattle.mw_preamble.specs.Admitted.{definitions_of, axioms_in_order}
use Rattle.mw_preamble.specs.Rows.{function_rows, block_rows, rows_before, built_in_rows, are_rows, with_rows, axioms_of}

axioms_of-functions : (B : List Function) (rest : Object) → axioms_of (function_rows B rest) ≡ map formula_object (map function_axiom B) ++ axioms_of rest
axioms_of-functions [] rest = refl
axioms_of-functions (h ∷ B) rest = ap (λ l. formula_object (function_axiom h) ∷ l) (axioms_of-functions B rest)

axioms_of-block : (B : Block) (rest : Object) → axioms_of (block_rows B rest) ≡ map formula_object (block_axioms B) ++ axioms_of rest
axioms_of-block (Functions B) rest = axioms_of-functions B rest
axioms_of-block (Choice g y xs b) rest = refl

axioms_of-rows : (D : List Block) (rest : Object) → axioms_of (rows_before D rest) ≡ map formula_object (axioms_in_order D) ++ axioms_of rest
axioms_of-rows [] rest = refl
axioms_of-rows (B ∷ D) rest =
    let older = map formula_object (axioms_in_order D) in
    axioms_of-rows D (block_rows B rest)
    ∙ (ap (λ l. older ++ l) (axioms_of-block B rest)
    ∙ (sym (append_assoc older (map formula_object (block_axioms B)) (axioms_of rest))
    ∙ ap (λ l. l ++ axioms_of rest) (sym (map-append formula_object (axioms_in_order D) (block_axioms B)))))

with_rows-functions : (A : ArityTable) (B : List Function) (rest : Object) → with_rows A (function_rows B rest) ≡ with_rows (add_functions B A) rest
with_rows-functions A [] rest = refl
with_rows-functions A (h ∷ B) rest = with_rows-functions _ B rest

with_rows-block : (A : ArityTable) (B : Block) (rest : Object) → with_rows A (block_rows B rest) ≡ with_rows (add_block B A) rest
with_rows-block A (Functions B) rest = with_rows-functions A B rest
with_rows-block A (Choice g y xs b) rest = refl

with_rows-rows : (P : Profile) (D : List Block) (rest : Object) → with_rows (primitive_arities P) (rows_before D rest) ≡ with_rows (arities P D) rest
with_rows-rows P [] rest = refl
with_rows-rows P (B ∷ D) rest = with_rows-rows P D (block_rows B rest) ∙ with_rows-block (arities P D) B rest

pub axioms_of-built_in : (P : Profile) → axioms_of (built_in_rows P) ≡ map formula_object (axioms_in_order (definitions_of P).blocks)
unfolding built_in_rows definitions_of
axioms_of-built_in P = axioms_of-rows (built_in P) NIL ∙ append-nil (map formula_object (axioms_in_order (built_in P)))

pub with_rows-built_in : (P : Profile) → with_rows (primitive_arities P) (built_in_rows P) ≡ arity_table (definitions_of P)
unfolding built_in_rows definitions_of
with_rows-built_in P = with_rows-rows P (built_in P) NIL

pub built_in-new : (P : Profile) → are_rows (primitive_arities P) (built_in_rows P) ≡ true
unfolding built_in_rows
built_in-new One = refl
built_in-new Two = refl
