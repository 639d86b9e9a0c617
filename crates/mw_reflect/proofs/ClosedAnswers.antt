-- LOGIC.FLAG-CLOSEDP is the test that a term's variables are among names.
use Rattle.std.proofs.Common.{◌≡◌, Bool, true, false, ◌&&◌, not, List, [], ◌∷◌, refl, ap, ◌∙◌}
use Rattle.std.proofs.lemmas.Bool.{and_parts, not-true}
use Rattle.mw_model.specs.Terms.Object.{Name, Object, Symbol, Pair, named, symbol, same_name, NIL, T, truth_of}
use Rattle.mw_model.specs.Terms.Term.{Term, Terms, Variable, Constant, If, Call, Lambda, NoTerms, More, names_object, term_object, terms_object, is_closed, are_closed, ArityTable}
use Rattle.mw_model.specs.Values.Primitive.{Profile, choose}
use Rattle.mw_model.proofs.Formed.{Formed, AreFormed}
use Rattle.mw_model.proofs.BuiltInAnswers.{answer, answer-body}
use Rattle.mw_reflect.proofs.TestValues.{and_then, and_true}
use Rattle.mw_reflect.proofs.ListAnswers.{memberp-answer, is_member-names}

module _ (P : Profile) where
  abbrev pub closed_answer : Object → Object → Object
  closed_answer x vs = answer P "LOGIC.FLAG-CLOSEDP" (symbol "TERM" ∷ x ∷ vs ∷ [])

  abbrev pub each_closed_answer : Object → Object → Object
  each_closed_answer x vs = answer P "LOGIC.FLAG-CLOSEDP" (symbol "LIST" ∷ x ∷ vs ∷ [])

  each_closed_answer-none : (vs : Object) → each_closed_answer NIL vs ≡ T
  each_closed_answer-none vs = answer-body P "LOGIC.FLAG-CLOSEDP" (symbol "LIST" ∷ NIL ∷ vs ∷ [])

  each_closed_answer-more : (a d vs : Object) (p q : Bool) → closed_answer a vs ≡ truth_of p → each_closed_answer d vs ≡ truth_of q → each_closed_answer (Pair a d) vs ≡ truth_of (p && q)
  each_closed_answer-more a d vs p q h k = answer-body P "LOGIC.FLAG-CLOSEDP" (symbol "LIST" ∷ Pair a d ∷ vs ∷ []) ∙ and_then p q h (λ _. k)

  closed_answer-call : (f : Name) (r vs : Object) → same_name f (named "QUOTE") ≡ false → closed_answer (Pair (Symbol f) r) vs ≡ each_closed_answer r vs
  closed_answer-call f r vs h = answer-body P "LOGIC.FLAG-CLOSEDP" (symbol "TERM" ∷ Pair (Symbol f) r ∷ vs ∷ []) ∙ ap (λ b. choose (truth_of b) T (each_closed_answer r vs)) h

  module _ (A : ArityTable) (xs : List Name) where
    mutual
      pub closed_answer-term : (t : Term) → Formed A t → closed_answer (term_object t) (names_object xs) ≡ truth_of (is_closed xs t)
      closed_answer-term (Variable y) i = answer-body P "LOGIC.FLAG-CLOSEDP" (symbol "TERM" ∷ Symbol y ∷ names_object xs ∷ []) ∙ (memberp-answer P (Symbol y) (names_object xs) ∙ ap truth_of (is_member-names y xs))
      closed_answer-term (Constant c) i = answer-body P "LOGIC.FLAG-CLOSEDP" (symbol "TERM" ∷ term_object (Constant c) ∷ names_object xs ∷ [])
      closed_answer-term (If a b c) i =
          closed_answer-call (named "IF") (terms_object (More a (More b (More c NoTerms)))) (names_object xs) refl ∙ (each_closed_answer-more (term_object a) _ (names_object xs) (is_closed xs a) _ (closed_answer-term a i.1) (each_closed_answer-more (term_object b) _ (names_object xs) (is_closed xs b) _ (closed_answer-term b i.2) (each_closed_answer-more (term_object c) NIL (names_object xs) (is_closed xs c) true (closed_answer-term c i.3) (each_closed_answer-none (names_object xs)))) ∙ ap (λ q. truth_of (is_closed xs a && (is_closed xs b && q))) (and_true (is_closed xs c)))
      closed_answer-term (Call f ts) i =
          let p = and_parts (not (same_name f (named "QUOTE"))) (not (same_name f (named "IF"))) i.0 in
          closed_answer-call f (terms_object ts) (names_object xs) (not-true (same_name f (named "QUOTE")) p.0) ∙ each_closed_answer-terms ts i.2
      closed_answer-term (Lambda ys b ts) i = answer-body P "LOGIC.FLAG-CLOSEDP" (symbol "TERM" ∷ term_object (Lambda ys b ts) ∷ names_object xs ∷ []) ∙ each_closed_answer-terms ts i.5

      pub each_closed_answer-terms : (ts : Terms) → AreFormed A ts → each_closed_answer (terms_object ts) (names_object xs) ≡ truth_of (are_closed xs ts)
      each_closed_answer-terms NoTerms i = each_closed_answer-none (names_object xs)
      each_closed_answer-terms (More t ts) i = each_closed_answer-more (term_object t) (terms_object ts) (names_object xs) (is_closed xs t) (are_closed xs ts) (closed_answer-term t i.0) (each_closed_answer-terms ts i.1)
