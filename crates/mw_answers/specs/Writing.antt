-- What is answered and written of a piece of a book, and of its end.
use Rattle.std.specs.Prelude.{◌≡◌, ℕ, ◌+◌, ◌≤◌, ◌⊎◌, List, [], ◌++◌, length, take, drop, Option, Some, None}
use Rattle.mw_model.specs.Terms.Object.{Object}
use Rattle.mw_model.specs.Texts.Grammar.{book, trees}
use Rattle.mw_model.specs.Reports.Request.{Request}
use Rattle.mw_port.specs.Ports.{Rises, Takes}
use Rattle.mw_port.specs.declared.sink.Halt.{Halt}
use Rattle.mw_port.specs.declared.sink.Halt.TheVariants as halt
use Rattle.mw_read.specs.Standing.{Stands, Follows, work}
use Rattle.mw_read.specs.declared.parser.Parser.{Parser}
use Rattle.mw_read.specs.declared.step.SyntaxKind.{SyntaxKind}
use Rattle.mw_answers.specs.Answering.{HasAnswered, fault_of}
use Rattle.mw_answers.specs.Statuses.{TakesSome, AreAnswers}
use Rattle.mw_answers.specs.declared.status.Status.{Status as Ending}
use Rattle.mw_answers.specs.declared.status.Status.TheVariants as ending

-- how the program ends where a write moved nothing
abbrev pub halted : Halt → Ending
halted halt.Failed = ending.WriteFault
halted halt.Memory = ending.Memory

-- where the data given were answered, this text after their answers makes those to more
abbrev pub GoesOn : {A : Type 0} → (A → Request → List Object → Type 0) → A → List Object → List Object → List ℕ → Type 0
GoesOn answered old given more text = (q : Request) → answered old q given → (written : List ℕ) → AreAnswers q given written → AreAnswers q more (written ++ text)

-- From the data given to more, with the text of their answers.
pub record Writes {A : Type 0} (answered : A → Request → List Object → Type 0) (old : A) (given : List Object) (new : A) (more : List Object) (text : List ℕ) : Type 0 where
  pub known : (q : Request) → answered old q given → answered new q more
  pub expected : GoesOn answered old given more text

-- The same of two states at once.
abbrev pub Puts : {A B : Type 0} → (A → B → Request → List Object → Type 0) → A → B → List Object → A → B → List Object → List ℕ → Type 0
Puts {A} {B} answered old old_store given new new_store more text =
    Writes {A = A × B} (λ a. answered a.0 a.1) (old, old_store) given (new, new_store) more text

-- The data of the first bytes of a piece were answered, the answers were written, and the parser stands after those bytes.
pub record Writing {A : Type 0} (objects : A → List Object) (lines : A → List ℕ) (count : A → ℕ) (answered : A → Request → List Object → Type 0) (old : A) (p : Parser) (piece : List ℕ) (before : Option (List ℕ)) (new : A) (q : Parser) (at : ℕ) (after : Option (List ℕ)) : Type 0 where
  pub within : at ≤ length piece
  pub reads : (g : List ℕ) (given : List Object) → Stands (objects old) p g given → (more : List Object) × (text : List ℕ) × Takes before after text × Writes answered old given new more text × Stands (objects new) q (g ++ take at piece) more
  pub known : HasAnswered answered new
  pub follows : Follows q (drop at piece)
  pub counted : count new + work q (drop at piece) ≤ count old + work p piece
  pub none_left : lines new ≡ []

-- The answers to a piece were written: to all its data, or to those before the first fault of the book.
abbrev pub HasWritten : {A : Type 0} → (A → List Object) → (A → List ℕ) → (A → ℕ) → (A → Request → List Object → Type 0) → Option (SyntaxKind × ℕ) → A → Parser → List ℕ → Option (List ℕ) → A → Parser → Option (List ℕ) → Type 0
HasWritten objects lines count answered None old p piece before new q after = Writing objects lines count answered old p piece before new q (length piece) after
HasWritten objects lines count answered (Some f) old p piece before new q after =
    (lines new ≡ []) × ((g : List ℕ) (given : List Object) → Stands (objects old) p g given → (more : List Object) × (text : List ℕ) × Takes before after text × Writes answered old given new more text × ((rest : List ℕ) → trees (g ++ (piece ++ rest)) ≡ book more (fault_of (Some f))))

-- After bytes g, of which these data were given, the book has ended, and the answers were written.
abbrev pub EndsWritten : {A : Type 0} → (A → Request → List Object → Type 0) → Option (SyntaxKind × ℕ) → A → List ℕ → List Object → Option (List ℕ) → A → Option (List ℕ) → Type 0
EndsWritten answered f old g given before new after =
    (more : List Object) × (text : List ℕ) × Takes before after text × Writes answered old given new more text × (trees g ≡ book more (fault_of f))

-- A write stopped, or memory ran out: of the text of answers to first data of the book the sink took a part, and where memory ran out all of it,
-- unless the sink counted a shortage.
abbrev pub StopsWritten : {A : Type 0} → (A → Request → List Object → Type 0) → Ending → A → List Object → (List Object → Type 0) → Option (List ℕ) → Option (List ℕ) → (old_shortages new_shortages : ℕ) → Type 0
StopsWritten answered e old given First before after m n =
    (more : List Object) × First more × (text : List ℕ) × GoesOn answered old given more text × TakesSome before after text × (e ≡ ending.Memory → Rises m n ⊎ Takes before after text)
