-- The words of the logic, and where they stand in a heap that keeps them.
use Rattle.std.specs.Prelude.{◌≡◌, ℕ, Bool, true, List, map, codes}
use Rattle.mw_model.specs.Terms.Object.{Object, Symbol, name_of_bytes}
use Rattle.mw_heap.specs.Objects.{object_at, IsIn}
use Rattle.mw_heap.specs.Cells.{objects, IsSound}
use Rattle.mw_heap.specs.Lengths.{length_of}
use Rattle.mw_heap.specs.declared.store.cell.Cell.{Cell}
use Rattle.mw_heap.specs.declared.store.lengths.Length.{Length}
use Rattle.mw_heap.specs.declared.vocabulary.word.Word.{Word}
use Rattle.mw_heap.specs.declared.vocabulary.word.Word.TheVariants as word

abbrev pub word_bytes : Word → List ℕ
word_bytes word.Nil = codes "NIL"
word_bytes word.T = codes "T"
word_bytes word.Quote = codes "QUOTE"
word_bytes word.Lambda = codes "LAMBDA"
word_bytes word.If = codes "IF"
word_bytes word.Pequal = codes "PEQUAL*"
word_bytes word.Pnot = codes "PNOT*"
word_bytes word.Por = codes "POR*"
word_bytes word.And = codes "AND"
word_bytes word.Or = codes "OR"
word_bytes word.Cond = codes "COND"
word_bytes word.List = codes "LIST"
word_bytes word.Let = codes "LET"
word_bytes word.LetStar = codes "LET*"
word_bytes word.First = codes "FIRST"
word_bytes word.Second = codes "SECOND"
word_bytes word.Third = codes "THIRD"
word_bytes word.Fourth = codes "FOURTH"
word_bytes word.Fifth = codes "FIFTH"
word_bytes word.Verify = codes "VERIFY"
word_bytes word.Define = codes "DEFINE"
word_bytes word.DefineAll = codes "DEFINE-ALL"
word_bytes word.Skolem = codes "SKOLEM"
word_bytes word.Switch = codes "SWITCH"
word_bytes word.Eval = codes "EVAL"
word_bytes word.Print = codes "PRINT"
word_bytes word.Profile = codes "PROFILE"
word_bytes word.Axiom = codes "AXIOM"
word_bytes word.Theorem = codes "THEOREM"
word_bytes word.PropositionalSchema = codes "PROPOSITIONAL-SCHEMA"
word_bytes word.FunctionalEquality = codes "FUNCTIONAL-EQUALITY"
word_bytes word.BetaReduction = codes "BETA-REDUCTION"
word_bytes word.BaseEval = codes "BASE-EVAL"
word_bytes word.Expansion = codes "EXPANSION"
word_bytes word.Contraction = codes "CONTRACTION"
word_bytes word.Associativity = codes "ASSOCIATIVITY"
word_bytes word.Cut = codes "CUT"
word_bytes word.Instantiation = codes "INSTANTIATION"
word_bytes word.Induction = codes "INDUCTION"
word_bytes word.Ordp = codes "ORDP"
word_bytes word.OrdLess = codes "ORD<"
word_bytes word.Step = codes "STEP"
word_bytes word.CommuteOr = codes "COMMUTE-OR"
word_bytes word.ModusPonens = codes "MODUS-PONENS"
word_bytes word.Symmetry = codes "SYMMETRY"
word_bytes word.Transitivity = codes "TRANSITIVITY"
word_bytes word.Replace = codes "REPLACE"
word_bytes word.Car = codes "CAR"
word_bytes word.Cdr = codes "CDR"
word_bytes word.Cons = codes "CONS"

-- the symbol that the word is
abbrev pub word_object : Word → Object
word_object w = Symbol (name_of_bytes (word_bytes w))

abbrev pub place_of : Word → ℕ
place_of word.Nil = 0
place_of word.T = 1
place_of word.Quote = 2
place_of word.Lambda = 3
place_of word.If = 4
place_of word.Pequal = 5
place_of word.Pnot = 6
place_of word.Por = 7
place_of word.And = 8
place_of word.Or = 9
place_of word.Cond = 10
place_of word.List = 11
place_of word.Let = 12
place_of word.LetStar = 13
place_of word.First = 14
place_of word.Second = 15
place_of word.Third = 16
place_of word.Fourth = 17
place_of word.Fifth = 18
place_of word.Verify = 19
place_of word.Define = 20
place_of word.DefineAll = 21
place_of word.Skolem = 22
place_of word.Switch = 23
place_of word.Eval = 24
place_of word.Print = 25
place_of word.Profile = 26
place_of word.Axiom = 27
place_of word.Theorem = 28
place_of word.PropositionalSchema = 29
place_of word.FunctionalEquality = 30
place_of word.BetaReduction = 31
place_of word.BaseEval = 32
place_of word.Expansion = 33
place_of word.Contraction = 34
place_of word.Associativity = 35
place_of word.Cut = 36
place_of word.Instantiation = 37
place_of word.Induction = 38
place_of word.Ordp = 39
place_of word.OrdLess = 40
place_of word.Step = 41
place_of word.CommuteOr = 42
place_of word.ModusPonens = 43
place_of word.Symmetry = 44
place_of word.Transitivity = 45
place_of word.Replace = 46
place_of word.Car = 47
place_of word.Cdr = 48
place_of word.Cons = 49

abbrev pub word_count : ℕ
word_count = 50

-- each word stands in its place, if this is known
abbrev pub KeepsWords : Bool → List Object → Type 0
KeepsWords known os = known ≡ true → (w : Word) → IsIn os (place_of w) × (object_at os (place_of w) ≡ word_object w)

-- a sound heap, whose objects have these lengths, and which may be known to keep the words
pub record IsKept (naturals : List ℕ) (names : List (List ℕ)) (cells : List Cell) (lengths : List Length) (known : Bool) : Type 0 where
  pub sound : IsSound naturals names cells
  pub measured : lengths ≡ map length_of (objects naturals names cells)
  pub words : KeepsWords known (objects naturals names cells)
