-- In the built-in definitions of each profile LOGIC.PROOFP says yes to a proof of not t = t or t = t, and not without a method.
use Rattle.std.proofs.Common.{[], refl}
use Rattle.mw_model.specs.Terms.Object.{Object, named, symbol, NIL, T, list2}
use Rattle.mw_model.specs.Terms.Term.{Constant, Formula, Equal, Not, Or, formula_object}
use Rattle.mw_model.specs.Values.Primitive.{Profile}
use Rattle.mw_model.specs.BuiltIns.BuiltIn.{built_in_definitions}
use Rattle.mw_model.specs.Proofs.Proof.{two, PropositionalSchema, by_schema, proof, no_proofs}
use Rattle.mw_model.proofs.Judging.{good_judge}
use Rattle.mw_model.proofs.BuiltInRead.{well_made}
use Rattle.mw_model.proofs.BuiltInTotal.{built_in_begins}
use Rattle.mw_reflect.specs.Laws.{SaysYes, BeginsBuiltIn, IsProof}
use Rattle.mw_reflect.proofs.Reflects.{proofp_reflects}

begins : (P : Profile) → BeginsBuiltIn (built_in_definitions P)
begins P = (well_made P, built_in_begins P)

abbrev same_t : Formula
same_t = Equal (Constant T) (Constant T)

abbrev schema_proof : Object
schema_proof = list2 (symbol "PROPOSITIONAL-SCHEMA") (formula_object (Or (Not same_t) same_t))

is_schema_proof : (P : Profile) → IsProof (built_in_definitions P) NIL NIL schema_proof
is_schema_proof P = (Or (Not same_t) same_t, proof schema_proof NIL NIL PropositionalSchema (Or (Not same_t) same_t) [] (two _ _) refl no_proofs (by_schema same_t))

says_yes : (P : Profile) → SaysYes (named "LOGIC.PROOFP") (built_in_definitions P) [] schema_proof NIL NIL
says_yes P = (proofp_reflects (built_in_definitions P) (begins P) NIL NIL [] schema_proof).1 (is_schema_proof P)

abbrev without_method : Object
without_method = list2 (symbol "GUESS") (formula_object same_t)

says_no : (P : Profile) → SaysYes (named "LOGIC.PROOFP") (built_in_definitions P) [] without_method NIL NIL → ⊥
says_no P h =
    let g = (proofp_reflects (built_in_definitions P) (begins P) NIL NIL [] without_method).0 h in
    cc (good_judge NIL NIL _ P without_method g.0 g.1).1
