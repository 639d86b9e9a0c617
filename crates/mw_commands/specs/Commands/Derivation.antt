-- Derivations: proofs by the twelve methods and five more, which only shorten them.
use Rattle.std.specs.Prelude.{◌≡◌, true, false, List, [], ◌∷◌}
use Rattle.mw_model.specs.Terms.Object.{Name, Object, Symbol, Pair, named, NIL}
use Rattle.mw_model.specs.Terms.Term.{Term, Terms, If, Call, More, Formula, Equal, Not, Or, formula_object, count, is_function_name, ArityTable, IsFormula}
use Rattle.mw_model.specs.Values.Primitive.{Profile}
use Rattle.mw_model.specs.Proofs.Proof.{HasMembers, Method, method_name, three_terms, Follows, Proves}
use Rattle.mw_model.specs.Events.Fate.{is_out_of_range}

pub data Rule : Type 0 where
  By : Method → Rule
  CommuteOr ModusPonens Symmetry Transitivity Replace : Rule

abbrev pub rule_name : Rule → Name
rule_name (By m) = method_name m
rule_name CommuteOr = named "COMMUTE-OR"
rule_name ModusPonens = named "MODUS-PONENS"
rule_name Symmetry = named "SYMMETRY"
rule_name Transitivity = named "TRANSITIVITY"
rule_name Replace = named "REPLACE"

-- a1 = b1 .. an = bn
abbrev pub equalities : Terms → Terms → List Formula
equalities (More a ts) (More b us) = Equal a b ∷ equalities ts us
equalities _ _ = []

-- The table of rules: a rule, its conclusion, the conclusions it is drawn from, the extras. IF has a row of its own for REPLACE.
pub data Derives (axioms theorems : Object) (A : ArityTable) (P : Profile) : Rule → Formula → List Formula → Object → Type 0 where
  by_method : (m : Method) (F : Formula) (Fs : List Formula) (x : Object) → Follows axioms theorems A P m F Fs x → Derives axioms theorems A P (By m) F Fs x
  by_commuting : (F G : Formula) → Derives axioms theorems A P CommuteOr (Or G F) (Or F G ∷ []) NIL
  by_modus_ponens : (F G : Formula) → Derives axioms theorems A P ModusPonens G (F ∷ Or (Not F) G ∷ []) NIL
  by_symmetry : (a b : Term) → Derives axioms theorems A P Symmetry (Equal b a) (Equal a b ∷ []) NIL
  by_transitivity : (a b c : Term) → Derives axioms theorems A P Transitivity (Equal a c) (Equal a b ∷ Equal b c ∷ []) NIL
  by_replacing : (f : Name) (ts us : Terms) → is_function_name f ≡ true → count ts ≡ count us → Derives axioms theorems A P Replace (Equal (Call f ts) (Call f us)) (equalities ts us) NIL
  by_replacing_if : (a b c d e f : Term) → Derives axioms theorems A P Replace (Equal (If a b c) (If d e f)) (equalities (three_terms a b c) (three_terms d e f)) NIL

-- The object p is a derivation of F; the object ps is a proper list of derivations of Fs.
mutual
  pub data IsDerivation (axioms theorems : Object) (A : ArityTable) (P : Profile) : Object → Formula → Type 0 where
    derivation : (p ps extras : Object) (r : Rule) (F : Formula) (Fs : List Formula) → HasMembers p (Symbol (rule_name r)) (formula_object F) ps extras → IsFormula A F → AreDerivations axioms theorems A P ps Fs → Derives axioms theorems A P r F Fs extras → IsDerivation axioms theorems A P p F

  pub data AreDerivations (axioms theorems : Object) (A : ArityTable) (P : Profile) : Object → List Formula → Type 0 where
    no_derivations : AreDerivations axioms theorems A P NIL []
    more_derivations : (p ps : Object) (F : Formula) (Fs : List Formula) → IsDerivation axioms theorems A P p F → AreDerivations axioms theorems A P ps Fs → AreDerivations axioms theorems A P (Pair p ps) (F ∷ Fs)

-- The derivation p turns to q, a proof by the twelve methods of the same formula; what is such a proof already stays.
pub record Turns (axioms theorems : Object) (A : ArityTable) (P : Profile) (p q : Object) : Type 0 where
  pub formula : Formula
  pub derived : IsDerivation axioms theorems A P p formula
  pub proved : Proves axioms theorems A P q formula
  pub stays : Proves axioms theorems A P p formula → q ≡ p
  -- an event may hold q where it may hold p
  pub in_range : is_out_of_range p ≡ false → is_out_of_range q ≡ false
