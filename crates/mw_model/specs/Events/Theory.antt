-- Theories: the initial one of each profile, and what makes one sound.
use Rattle.std.specs.Prelude.{◌≡◌, ℕ, List, [], ◌∷◌, ◌++◌, length, Option, Some, None}
use Rattle.mw_model.specs.Terms.Object.{Name, Object, Pair, named, NIL, Member}
use Rattle.mw_model.specs.Terms.Term.{Term, Constant, Call, Formula, Equal, Not, Or, formula_object, IsFormula}
use Rattle.mw_model.specs.Values.Primitive.{Profile}
use Rattle.mw_model.specs.Values.Definition.{Function, Block, Definitions, definitions, arity_table, IsWellMade, block_axioms}
use Rattle.mw_model.specs.Values.Value.{IsTotal}
use Rattle.mw_model.specs.Values.Truth.{IsTrueIn}
use Rattle.mw_model.specs.Events.Evaluation.{code_of}
use Rattle.mw_model.specs.Proofs.Axioms.{primitive_axioms}
use Rattle.mw_model.specs.Events.Writing.{terms, var, call}
use Rattle.mw_model.specs.BuiltIns.BuiltIn.{built_in}

-- The axioms and the theorems are proper lists of formulas, what was added last in front. The arity table is that of
-- the definitions. Without a checker of its own a theory uses the built-in one.
pub record Theory : Type 0 where
  pub axioms : Object
  pub theorems : Object
  pub definitions : Definitions
  pub checker : Option Name
  pub level : ℕ

-- formulas in order, each added to the front
abbrev pub add_formulas : List Formula → Object → Object
add_formulas [] x = x
add_formulas (F ∷ Fs) x = add_formulas Fs (Pair (formula_object F) x)

abbrev pub axioms_of : Profile → List Block → Object
axioms_of P [] = add_formulas (primitive_axioms P) NIL
axioms_of P (B ∷ D) = add_formulas (block_axioms B) (axioms_of P D)

abbrev pub initial : Profile → Theory
initial P =
    record { axioms = axioms_of P (built_in P); theorems = NIL; definitions = definitions P (built_in P); checker = None; level = 1 }

-- The claim of a checker f: (f x axioms thms atbl) = 'nil or not (logic.provablep (logic.conclusion x) axioms thms atbl) = 'nil.
abbrev pub on_the_theory : Name → Term → Term
on_the_theory f x = Call f (terms (x ∷ var "AXIOMS" ∷ var "THMS" ∷ var "ATBL" ∷ []))

abbrev pub claim : Name → Formula
claim f =
    Or (Equal (on_the_theory f (var "X")) (Constant NIL))
    (Not (Equal (on_the_theory (named "LOGIC.PROVABLEP") (call "LOGIC.CONCLUSION" (var "X" ∷ []))) (Constant NIL)))

-- newer blocks stand before these
abbrev pub BeginsWith : List Block → List Block → Type 0
BeginsWith old D = (newer : List Block) × (D ≡ newer ++ old)

-- each member is the object of a formula under the arity table that is true
abbrev pub AreTrueFormulas : Definitions → Object → Type 0
AreTrueFormulas D list = (x : Object) → Member x list → (F : Formula) × (formula_object F ≡ x) × IsFormula (arity_table D) F × IsTrueIn D F

-- the checker is built-in, or a function of four formals whose claim is a theorem
abbrev pub IsClaimed : Theory → Option Name → Type 0
IsClaimed t None = Unit {0}
IsClaimed t (Some f) = (h : Function) × (code_of t.definitions.blocks f ≡ Some h) × (length h.formals ≡ 4) × Member (formula_object (claim f)) t.theorems

pub record IsSound (t : Theory) : Type 0 where
  -- the definitions are well made, and begin with the built-in ones of their profile
  pub made : IsWellMade t.definitions
  pub begun : BeginsWith (built_in t.definitions.profile) t.definitions.blocks
  -- each term has exactly one value
  pub total : IsTotal t.definitions
  pub axioms_true : AreTrueFormulas t.definitions t.axioms
  pub theorems_true : AreTrueFormulas t.definitions t.theorems
  pub claimed : IsClaimed t t.checker
