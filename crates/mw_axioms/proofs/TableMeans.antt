-- The table means the axioms, in order.
use Rattle.std.proofs.Common.{◌≡◌, Bool, true, false, ◌&&◌, List, [], ◌∷◌, refl, ap₂}
use Rattle.std.specs.Prelude.{map, reverse}
use Rattle.std.proofs.lemmas.Bool.{and_parts}
use Rattle.mw_model.specs.Terms.Object.{Object, same_object}
use Rattle.mw_model.specs.Terms.Term.{formula_object}
use Rattle.mw_model.specs.Values.Primitive.{One, Two}
use Rattle.mw_model.specs.Proofs.Axioms.{primitive_axioms}
use Rattle.mw_model.proofs.Names.{same_object-eq}
use Rattle.mw_build.specs.declared.piece.Piece.{Piece}
use Rattle.mw_build.specs.Pieces.{run}
use Rattle.mw_build.specs.Rules.{made_by}
use Rattle.mw_axioms.specs.declared.table.TheConstants.{SHARED, OF_TIMES}

-- all that the pieces make, after what stands on a stack
abbrev pub all_made : List Object → List Piece → List Object
all_made stack pieces = run (made_by [] 0) [] stack pieces

same_objects : List Object → List Object → Bool
same_objects [] [] = true
same_objects [] (y ∷ ys) = false
same_objects (x ∷ xs) [] = false
same_objects (x ∷ xs) (y ∷ ys) = same_object x y && same_objects xs ys

same_objects-eq : (xs ys : List Object) → same_objects xs ys ≡ true → xs ≡ ys
unfolding same_objects
same_objects-eq [] [] h = refl
same_objects-eq [] (y ∷ ys) h = cc
same_objects-eq (x ∷ xs) [] h = cc
same_objects-eq (x ∷ xs) (y ∷ ys) h =
    let p = and_parts (same_object x y) (same_objects xs ys) h in
    ap₂ ◌∷◌ (same_object-eq x y p.0) (same_objects-eq xs ys p.1)

same-shared : same_objects (reverse (all_made [] SHARED)) (map formula_object (primitive_axioms One)) ≡ true
unfolding same_objects
same-shared = refl

same-both : same_objects (reverse (all_made (all_made [] SHARED) OF_TIMES)) (map formula_object (primitive_axioms Two)) ≡ true
unfolding same_objects
same-both = refl

pub run-shared : reverse (all_made [] SHARED) ≡ map formula_object (primitive_axioms One)
run-shared = same_objects-eq (reverse (all_made [] SHARED)) (map formula_object (primitive_axioms One)) same-shared

pub run-both : reverse (all_made (all_made [] SHARED) OF_TIMES) ≡ map formula_object (primitive_axioms Two)
run-both = same_objects-eq (reverse (all_made (all_made [] SHARED) OF_TIMES)) (map formula_object (primitive_axioms Two)) same-both
