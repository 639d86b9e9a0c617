-- Conclusions that may be meant, by method, and whether a reference is one.
use Rattle.std.specs.Prelude.{◌≡◌, ℕ, ◌<◌, Bool, true, false, List, [], ◌∷◌, length, All, Option, Some, None, option_map}
use Rattle.mw_model.specs.Terms.Object.{Object, Pair}
use Rattle.mw_model.specs.Terms.Term.{ArityTable, Term, Terms, Constant, If, Call, Lambda, Formula, Equal, Not, Or, terms_object, formula_object}
use Rattle.mw_model.specs.Terms.Reading.{map2}
use Rattle.mw_model.specs.Terms.Substitution.{substitute, substitute_formula, substitution_of, actuals_for}
use Rattle.mw_model.specs.Values.Primitive.{Profile, primitive_named, apply, choose}
use Rattle.mw_model.specs.Proofs.Proof.{Method, Axiom, Theorem, PropositionalSchema, FunctionalEquality, BetaReduction, BaseEval, Expansion, Contraction, Associativity, Cut, Instantiation, Induction, unless_equal, three_terms}
use Rattle.mw_model.specs.Proofs.Judgment.{last_disjunct, constant_values}
use Rattle.mw_model.specs.Events.Fate.{is_out_of_range}
use Rattle.mw_model.specs.Laws.Rules.{not_object, equal_object}
use Rattle.mw_heap.specs.Objects.{object_at, IsIn}
use Rattle.mw_term.specs.Marking.{ObjectMark, AreMarks}

-- the reference leads to the formula; there is none where there is no formula, or one that holds a natural past the range
abbrev pub IsCandidate : List Object → Option Formula → Option ℕ → Type 0
IsCandidate os None None = Unit {0}
IsCandidate os None (Some r) = ⊥
IsCandidate os (Some G) None = is_out_of_range (formula_object G) ≡ true
IsCandidate os (Some G) (Some r) = IsIn os r × (object_at os r ≡ formula_object G)

-- the sides of a disjunction
abbrev pub sides : Formula → Option (Formula × Formula)
sides (Or G H) = Some (G, H)
sides (Equal a b) = None
sides (Not G) = None

abbrev pub AreSides : List Object → Option (Formula × Formula) → Option (ℕ × ℕ) → Type 0
AreSides os None None = Unit {0}
AreSides os (Some p) (Some q) = (object_at os q.0 ≡ formula_object p.0) × (object_at os q.1 ≡ formula_object p.1)
AreSides os _ _ = ⊥

abbrev pub schema_of : Formula → Option Formula
schema_of (Or F G) = Some (Or (Not G) G)
schema_of _ = None

abbrev pub expansion_of : Formula → Formula → Option Formula
expansion_of (Or G H) F = Some (Or G F)
expansion_of _ F = None

abbrev pub contraction_of : Formula → Option Formula
contraction_of (Or G H) = Some G
contraction_of _ = None

abbrev pub associativity_of : Formula → Option Formula
associativity_of (Or G (Or H K)) = Some (Or (Or G H) K)
associativity_of _ = None

abbrev pub cut_of : Formula → Formula → Option Formula
cut_of (Or G H) (Or K L) = Some (Or H L)
cut_of _ _ = None

-- the actuals of a call, and whether it is one of IF
abbrev pub actuals : Term → Option (Bool × Terms)
actuals (Call f ts) = Some (false, ts)
actuals (If a b c) = Some (true, three_terms a b c)
actuals _ = None

abbrev pub AreActuals : List Object → Option (Bool × Terms) → Option (Bool × ℕ) → Type 0
AreActuals os None None = Unit {0}
AreActuals os (Some p) (Some q) = (q.0 ≡ p.0) × (object_at os q.1 ≡ terms_object p.1)
AreActuals os _ _ = ⊥

abbrev pub unless_calls : Option (Bool × Terms) → Option (Bool × Terms) → Formula → Option Formula
unless_calls (Some (true, ts)) (Some (true, us)) E = Some (unless_equal ts us E)
unless_calls (Some (false, ts)) (Some (false, us)) E = Some (unless_equal ts us E)
unless_calls _ _ E = None

-- of a formula that is an equation of two calls
abbrev pub equality_of : Formula → Option Formula
equality_of (Equal t u) = unless_calls (actuals t) (actuals u) (Equal t u)
equality_of _ = None

-- not a1 = b1, .. for two lists of terms
abbrev pub inequalities_in : Object → Object → List Object
inequalities_in (Pair a ts) (Pair b us) = not_object (equal_object a b) ∷ inequalities_in ts us
inequalities_in _ _ = []

abbrev pub beta_of : Formula → Option Formula
beta_of (Equal (Lambda xs b ts) r) = Some (Equal (Lambda xs b ts) (substitute (actuals_for xs ts) b))
beta_of _ = None

-- a call of a primitive function, or of IF, at constants, and its value
abbrev pub value_of_call : Profile → Term → Option Object
value_of_call P (Call f ts) = map2 apply (primitive_named P f) (constant_values ts)
value_of_call P (If (Constant a) (Constant b) (Constant c)) = Some (choose a b c)
value_of_call P _ = None

abbrev pub computed_of : Profile → Formula → Option Formula
computed_of P (Equal t r) = option_map (λ v. Equal t (Constant v)) (value_of_call P t)
computed_of P _ = None

-- the reference leads to the value; there is none where there is no value, or one past the range
abbrev pub IsValue : List Object → Option Object → Option ℕ → Type 0
IsValue os None None = Unit {0}
IsValue os None (Some r) = ⊥
IsValue os (Some v) None = is_out_of_range v ≡ true
IsValue os (Some v) (Some r) = IsIn os r × (object_at os r ≡ v)

-- by a method that has premises, from their conclusions and the extras
abbrev pub one_of : Method → Formula → Formula → Object → Option Formula
one_of Expansion F G x = expansion_of F G
one_of Contraction F G x = contraction_of G
one_of Associativity F G x = associativity_of G
one_of Instantiation F G x = option_map (λ s. substitute_formula s G) (substitution_of x)
one_of _ F G x = None

abbrev pub by_premises : Method → Formula → List Formula → Object → Option Formula
by_premises m F [] x = None
by_premises Cut F (G ∷ []) x = None
by_premises Cut F (G ∷ H ∷ Fs) x = cut_of G H
by_premises m F (G ∷ Fs) x = one_of m F G x

abbrev pub meant_of : Profile → Method → Formula → List Formula → Object → Option Formula
meant_of P PropositionalSchema F Fs x = schema_of F
meant_of P FunctionalEquality F Fs x = equality_of (last_disjunct F)
meant_of P BetaReduction F Fs x = beta_of F
meant_of P BaseEval F Fs x = computed_of P F
meant_of P Axiom F Fs x = None
meant_of P Theorem F Fs x = None
meant_of P Induction F Fs x = None
meant_of P m F Fs x = by_premises m F Fs x

-- the reference leads to the formula, where there is one
abbrev pub IsMended : List Object → Option Formula → Option ℕ → Type 0
IsMended os None None = Unit {0}
IsMended os (Some G) (Some r) = IsIn os r × (object_at os r ≡ formula_object G)
IsMended os _ _ = ⊥

-- The conclusion of a step, those of its subproofs and its extras are in the heap, whose objects have their marks, and so have the extras.
pub record AreStepParts (os : List Object) (x : ℕ) (xs : List ℕ) (e : ℕ) (ms : List ObjectMark) : Type 0 where
  pub conclusion : IsIn os x
  pub conclusions : All (IsIn os) xs
  pub extras : IsIn os e
  pub marked : e < length ms
  pub marks : (A : ArityTable) × AreMarks A os ms
