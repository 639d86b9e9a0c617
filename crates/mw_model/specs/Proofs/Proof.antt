-- Proofs: lists (method conclusion [subproofs [extras]]), and the table of methods.
use Rattle.std.specs.Prelude.{◌≡◌, true, List, [], ◌∷◌, Some}
use Rattle.mw_model.specs.Terms.Object.{Name, Object, Symbol, Pair, named, NIL, list2, list3, list4, Member}
use Rattle.mw_model.specs.Terms.Term.{Term, Terms, Constant, If, Call, Lambda, NoTerms, More, Formula, Equal, Not, Or, term_object, formula_object, count, is_function_name, ArityTable, IsFormula}
use Rattle.mw_model.specs.Terms.Substitution.{Substitution, substitute, substitute_formula, actuals_for, substitution_object, is_substitution}
use Rattle.mw_model.specs.Values.Primitive.{Profile, Primitive, primitive_named, apply, choose}
use Rattle.mw_model.specs.Proofs.Induction.{Case, premises, conditions_object, cases_object, are_cases}

-- the members of a proof; a missing one is NIL
pub data HasMembers : (proof method conclusion subproofs extras : Object) → Type 0 where
  two : (m c : Object) → HasMembers (list2 m c) m c NIL NIL
  three : (m c ps : Object) → HasMembers (list3 m c ps) m c ps NIL
  four : (m c ps x : Object) → HasMembers (list4 m c ps x) m c ps x

pub data Method : Type 0 where
  Axiom Theorem PropositionalSchema FunctionalEquality BetaReduction BaseEval Expansion Contraction Associativity Cut Instantiation Induction : Method

abbrev pub method_name : Method → Name
method_name Axiom = named "AXIOM"
method_name Theorem = named "THEOREM"
method_name PropositionalSchema = named "PROPOSITIONAL-SCHEMA"
method_name FunctionalEquality = named "FUNCTIONAL-EQUALITY"
method_name BetaReduction = named "BETA-REDUCTION"
method_name BaseEval = named "BASE-EVAL"
method_name Expansion = named "EXPANSION"
method_name Contraction = named "CONTRACTION"
method_name Associativity = named "ASSOCIATIVITY"
method_name Cut = named "CUT"
method_name Instantiation = named "INSTANTIATION"
method_name Induction = named "INDUCTION"

-- not a1 = b1 or .. or not an = bn or F
abbrev pub unless_equal : Terms → Terms → Formula → Formula
unless_equal (More a ts) (More b us) F = Or (Not (Equal a b)) (unless_equal ts us F)
unless_equal _ _ F = F

abbrev pub three_terms : Term → Term → Term → Terms
three_terms a b c = More a (More b (More c NoTerms))

-- 'c1 .. 'cn
abbrev pub constants : List Object → Terms
constants [] = NoTerms
constants (c ∷ cs) = More (Constant c) (constants cs)

-- The table of methods: a method, its conclusion, the subproofs' conclusions, the extras.
-- IF, which is a form of its own among terms, has its own rows for FUNCTIONAL-EQUALITY and BASE-EVAL.
pub data Follows (axioms theorems : Object) (A : ArityTable) (P : Profile) : Method → Formula → List Formula → Object → Type 0 where
  by_axiom : (F : Formula) → Member (formula_object F) axioms → Follows axioms theorems A P Axiom F [] NIL
  by_theorem : (F : Formula) → Member (formula_object F) theorems → Follows axioms theorems A P Theorem F [] NIL
  by_schema : (F : Formula) → Follows axioms theorems A P PropositionalSchema (Or (Not F) F) [] NIL
  by_equality : (f : Name) (ts us : Terms) → is_function_name f ≡ true → count ts ≡ count us → Follows axioms theorems A P FunctionalEquality (unless_equal ts us (Equal (Call f ts) (Call f us))) [] NIL
  by_if_equality : (a b c d e f : Term) → Follows axioms theorems A P FunctionalEquality (unless_equal (three_terms a b c) (three_terms d e f) (Equal (If a b c) (If d e f))) [] NIL
  by_beta : (xs : List Name) (b : Term) (ts : Terms) → Follows axioms theorems A P BetaReduction (Equal (Lambda xs b ts) (substitute (actuals_for xs ts) b)) [] NIL
  by_base : (f : Name) (p : Primitive) (cs : List Object) → primitive_named P f ≡ Some p → Follows axioms theorems A P BaseEval (Equal (Call f (constants cs)) (Constant (apply p cs))) [] NIL
  by_base_if : (a b c : Object) → Follows axioms theorems A P BaseEval (Equal (If (Constant a) (Constant b) (Constant c)) (Constant (choose a b c))) [] NIL
  by_expansion : (F G : Formula) → Follows axioms theorems A P Expansion (Or G F) (F ∷ []) NIL
  by_contraction : (F : Formula) → Follows axioms theorems A P Contraction F (Or F F ∷ []) NIL
  by_associativity : (F G H : Formula) → Follows axioms theorems A P Associativity (Or (Or F G) H) (Or F (Or G H) ∷ []) NIL
  by_cut : (F G H : Formula) → Follows axioms theorems A P Cut (Or G H) (Or F G ∷ Or (Not F) H ∷ []) NIL
  by_instantiation : (F : Formula) (s : Substitution) → is_substitution A s ≡ true → Follows axioms theorems A P Instantiation (substitute_formula s F) (F ∷ []) (substitution_object s)
  by_induction : (F : Formula) (m : Term) (cs : List Case) → are_cases A cs ≡ true → Follows axioms theorems A P Induction F (premises F m cs) (list3 (term_object m) (conditions_object cs) (cases_object cs))

-- The object p is a proof with conclusion F; the object ps is a proper list of proofs with conclusions Fs.
mutual
  pub data Proves (axioms theorems : Object) (A : ArityTable) (P : Profile) : Object → Formula → Type 0 where
    proof : (p ps extras : Object) (m : Method) (F : Formula) (Fs : List Formula) → HasMembers p (Symbol (method_name m)) (formula_object F) ps extras → IsFormula A F → ProveEach axioms theorems A P ps Fs → Follows axioms theorems A P m F Fs extras → Proves axioms theorems A P p F

  pub data ProveEach (axioms theorems : Object) (A : ArityTable) (P : Profile) : Object → List Formula → Type 0 where
    no_proofs : ProveEach axioms theorems A P NIL []
    more_proofs : (p ps : Object) (F : Formula) (Fs : List Formula) → Proves axioms theorems A P p F → ProveEach axioms theorems A P ps Fs → ProveEach axioms theorems A P (Pair p ps) (F ∷ Fs)
