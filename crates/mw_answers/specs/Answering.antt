-- What the answering of a book keeps, what is read and answered of a piece, and where the book ends.
use Rattle.std.specs.Prelude.{◌≡◌, ℕ, ◌+◌, ◌<◌, ◌≤◌, List, ◌++◌, length, take, drop, Option, Some, None}
use Rattle.mw_model.specs.Terms.Object.{Object}
use Rattle.mw_model.specs.Texts.Lexemes.{Fault, fault}
use Rattle.mw_model.specs.Texts.Grammar.{book, trees}
use Rattle.mw_model.specs.Reports.Request.{Request}
use Rattle.mw_port.specs.Ports.{Takes as SinkTakes, HasEnded}
use Rattle.mw_read.specs.Kinds.{kind_of}
use Rattle.mw_read.specs.Standing.{Stands, Follows, work}
use Rattle.mw_read.specs.declared.parser.Parser.{Parser}
use Rattle.mw_read.specs.declared.step.SyntaxKind.{SyntaxKind}
use Rattle.mw_answers.specs.declared.reading.Taken.{Taken}
use Rattle.mw_answers.specs.declared.reading.Taken.TheVariants as takings
use Rattle.mw_answers.specs.Statuses.{Has, AreAnswers}

-- From the data given to more: where those were answered, these are, and what was written is the expected output with the lines.
pub record Answers {A : Type 0} (lines : A → List ℕ) (answered : A → Request → List Object → Type 0) (old : A) (given : List Object) (new : A) (more : List Object) : Type 0 where
  pub known : (q : Request) → answered old q given → answered new q more
  pub expected : (q : Request) → answered old q given → (written : List ℕ) → AreAnswers q given (written ++ lines old) → AreAnswers q more (written ++ lines new)

-- The request is one that these make, and what holds there holds of the data: a way to say for which request data were answered.
abbrev pub AnsweredBy : {P : Type 0} → (P → Request) → (P → List Object → Type 0) → Request → List Object → Type 0
AnsweredBy {P} make holds q given = (p : P) × (q ≡ make p) × holds p given

-- data were answered for some request
abbrev pub HasAnswered : {A : Type 0} → (A → Request → List Object → Type 0) → A → Type 0
HasAnswered answered a = (q : Request) × (given : List Object) × answered a q given

-- a fault of the text as the grammar has it
abbrev pub fault_of : Option (SyntaxKind × ℕ) → Option Fault
fault_of None = None
fault_of (Some f) = Some (fault (kind_of f.0) f.1)

-- The data of the first bytes of a piece were answered, and the parser stands after those bytes.
pub record Taking {A : Type 0} (objects : A → List Object) (lines : A → List ℕ) (count : A → ℕ) (answered : A → Request → List Object → Type 0) (old : A) (p : Parser) (piece : List ℕ) (new : A) (q : Parser) (at : ℕ) : Type 0 where
  pub within : at ≤ length piece
  pub reads : (g : List ℕ) (given : List Object) → Stands (objects old) p g given → (more : List Object) × Answers lines answered old given new more × Stands (objects new) q (g ++ take at piece) more
  pub known : HasAnswered answered new
  pub follows : Follows q (drop at piece)
  pub counted : count new + work q (drop at piece) ≤ count old + work p piece

-- Bytes of a piece were taken, so that less is left to do, or what stands before the first fault of the book.
abbrev pub HasTaken : {A : Type 0} → (A → List Object) → (A → List ℕ) → (A → ℕ) → (A → Request → List Object → Type 0) → Taken → A → Parser → List ℕ → A → Parser → Type 0
HasTaken objects lines count answered (takings.Bytes n) old p piece new q = Taking objects lines count answered old p piece new q n × (work q (drop n piece) < work p piece)
HasTaken objects lines count answered (takings.Fault kind offset) old p piece new q =
    (g : List ℕ) (given : List Object) → Stands (objects old) p g given → (more : List Object) × Answers lines answered old given new more × ((rest : List ℕ) → trees (g ++ (piece ++ rest)) ≡ book more (Some (fault (kind_of kind) offset)))

-- the first data of the book of these bytes
abbrev pub IsBegunBy : List ℕ → List Object → Type 0
IsBegunBy bytes given = (more : List Object) × ((trees bytes).events ≡ given ++ more)

-- the first data of the book, whatever follows these bytes
abbrev pub AreFirst : List ℕ → List Object → Type 0
AreFirst g given = (rest : List ℕ) → IsBegunBy (g ++ rest) given

-- However far the book was read: what was written is, with the lines, the expected output for first data.
abbrev pub AreExpectedFirst : {A : Type 0} → (A → List ℕ) → (A → Request → List Object → Type 0) → A → List Object → (List Object → Type 0) → A → Type 0
AreExpectedFirst lines answered old given First new =
    (more : List Object) × First more × ((q : Request) → answered old q given → (written : List ℕ) → AreAnswers q given (written ++ lines old) → AreAnswers q more (written ++ lines new))

-- After bytes g, of which these data were given, the book has ended.
abbrev pub Ends : {A : Type 0} → (A → List ℕ) → (A → Request → List Object → Type 0) → Option (SyntaxKind × ℕ) → A → List ℕ → List Object → A → Type 0
Ends lines answered f old g given new = (more : List Object) × Answers lines answered old given new more × (trees g ≡ book more (fault_of f))

-- The book was read to its end or its first fault, its data were answered, and the answers are written.
pub record ReadWhole {A : Type 0} (answered : A → Request → List Object → Type 0) (q : Request) (old_book new_book old new : Option (List ℕ)) (fault : Option (SyntaxKind × ℕ)) (a : A) : Type 0 where
  pub bytes : List ℕ
  pub has : Has old_book bytes
  pub ended : fault ≡ None → HasEnded new_book
  pub given : List Object
  pub read : trees bytes ≡ book given (fault_of fault)
  pub known : answered a q given
  pub written : List ℕ
  pub takes : SinkTakes old new written
  pub expected : AreAnswers q given written
