-- The parts of the axioms of a function and of a witness.
use Rattle.std.proofs.Common.{◌≡◌, List, [], ◌∷◌, refl, ap, ◌∙◌}
use Rattle.mw_model.specs.Terms.Object.{Name, Object, Symbol, Pair}
use Rattle.mw_model.specs.Terms.Term.{Term, names_object, term_object, terms_object, formula_object}
use Rattle.mw_model.specs.Values.Definition.{Function, variable_terms, function_axiom, choice_axiom}
use Rattle.mw_preamble.specs.Rows.{first_part, second_part}

variables-names : (xs : List Name) → terms_object (variable_terms xs) ≡ names_object xs
variables-names [] = refl
variables-names (x ∷ xs) = ap (Pair (Symbol x)) (variables-names xs)

abbrev pub second_member : Object → Object
second_member x = first_part (second_part x)

abbrev pub third_member : Object → Object
third_member x = second_member (second_part x)

module _ (x : Object) (h : Function) (e : x ≡ formula_object (function_axiom h)) where
  pub function-formals : second_part (second_member x) ≡ names_object h.formals
  function-formals = ap (λ y. second_part (second_member y)) e ∙ variables-names h.formals

  pub function-body : third_member x ≡ term_object h.body
  function-body = ap third_member e

module _ (x : Object) (g y : Name) (xs : List Name) (b : Term) (e : x ≡ formula_object (choice_axiom g y xs b)) where
  abbrev lambda : Object → Object
  lambda z = first_part (second_member (second_member (third_member z)))

  pub witness-bound : first_part (second_member (lambda x)) ≡ Symbol y
  witness-bound = ap (λ z. first_part (second_member (lambda z))) e

  pub witness-free : second_part (second_member (lambda x)) ≡ names_object xs
  witness-free = ap (λ z. second_part (second_member (lambda z))) e

  pub witness-body : third_member (lambda x) ≡ term_object b
  witness-body = ap (λ z. third_member (lambda z)) e
