-- What a parser has read: the bytes so far, and the data given of them.
use Rattle.std.specs.Prelude.{◌≡◌, ℕ, ◌+◌, ◌-◌, ◌*◌, ◌<◌, ◌≤◌, Bool, true, false, List, [], ◌∷◌, ◌++◌, length, take, drop, Option, Some, None}
use Rattle.mw_model.specs.Terms.Object.{Object}
use Rattle.mw_model.specs.Texts.Lexemes.{fault, Ending, Ends, Goes}
use Rattle.mw_model.specs.Texts.Grammar.{book, reading, limit, trees}
use Rattle.mw_model.specs.Events.Fate.{is_out_of_range}
use Rattle.mw_heap.specs.Objects.{object_at, IsIn}
use Rattle.mw_read.specs.Machine.{State}
use Rattle.mw_read.specs.Resume.{onward}
use Rattle.mw_read.specs.Kinds.{kind_of}
use Rattle.mw_read.specs.Piles.{fault_of}
use Rattle.mw_read.specs.Held.{Holds}
use Rattle.mw_read.specs.Shown.{ShowsEvent}
use Rattle.mw_read.specs.Parsing.{meaning_of, Fits, IsParser, IsStarted, Advances, EndsAt, is_inside, offset_of, weight}
use Rattle.mw_read.specs.declared.parser.Parser.{Parser}
use Rattle.mw_read.specs.declared.step.Outcome.{Outcome}
use Rattle.mw_read.specs.declared.step.Outcome.TheVariants as outcomes
use Rattle.mw_read.specs.declared.step.Step.{Step}
use Rattle.mw_read.specs.declared.step.Step.TheVariants as steps

-- n bytes of the piece were taken
pub record Reached (old : Parser) (piece : List ℕ) (n : ℕ) (new : Parser) : Type 0 where
  pub offset : offset_of new ≡ offset_of old + n
  pub left : Fits new.begun Goes (drop n piece)
  pub started : IsStarted new.begun new.token.items
  pub fits : (e : Ending) (x : List ℕ) → Fits new.begun e x → Fits old.begun e (take n piece ++ x)
  pub less : weight new.begun ≤ weight old.begun + 2 * n
  pub stops : 0 < n → is_inside new.begun ≡ true → n ≡ length piece

abbrev pub Reaches : Outcome → Parser → List ℕ → ℕ → Parser → Type 0
Reaches (outcomes.Fault f) old piece n new = Unit {0}
Reaches outcomes.Pending old piece n new = Reached old piece n new
Reaches (outcomes.Datum r) old piece n new = Reached old piece n new × (weight new.begun < weight old.begun + 2 * n) × EndsAt new.begun piece n

-- Bytes g were read, and these data of them given: whatever may follow, the book is those data and what is still to come.
pub record Stands (os : List Object) (p : Parser) (g : List ℕ) (given : List Object) : Type 0 where
  pub state : State
  pub holds : Holds os p.stack state
  pub parser : IsParser os p
  pub started : IsStarted p.begun p.token.items
  pub offset : offset_of p ≡ length g
  pub short : length g ≤ limit
  pub goes_on : p.ended ≡ None
  pub means : (e : Ending) (x : List ℕ) → Fits p.begun e x → reading e (g ++ x) ≡ onward given (meaning_of e state p x)

abbrev pub IsStanding : List Object → Parser → Type 0
IsStanding os p = (g : List ℕ) × (given : List Object) × Stands os p g given

-- the answers after which no other comes
abbrev pub IsLast : Step → Type 0
IsLast (steps.Syntax k o) = Unit {0}
IsLast steps.Memory = Unit {0}
IsLast s = ⊥

-- the answer, where no other comes after it
abbrev pub lasting : Step → Option Step
lasting (steps.Syntax k o) = Some (steps.Syntax k o)
lasting steps.Memory = Some steps.Memory
lasting s = None

-- the parser answers this from then on
abbrev pub HasEndedWith : Step → Parser → Type 0
HasEndedWith s p = p.ended ≡ Some s

-- The answer was a fault of the book, or out of memory.
abbrev pub HasEnded : Parser → Type 0
HasEnded p = (s : Step) × IsLast s × HasEndedWith s p

-- These bytes may follow, as far as a book may reach.
abbrev pub Follows : Parser → List ℕ → Type 0
Follows p x = Fits p.begun Goes (take (limit - offset_of p) x)

abbrev pub IsFree : Parser → Type 0
IsFree p = (x : List ℕ) → Follows p x

-- the end of the input, for the text that has begun
abbrev pub Lasts : List Object → State → Parser → Outcome → Parser → Type 0
Lasts os t old (outcomes.Fault f) new = meaning_of Ends t old [] ≡ book [] (Some (fault_of f))
Lasts os t old outcomes.Pending new =
    Advances os t old [] outcomes.Pending 0 new × (is_inside new.begun ≡ false) × (offset_of new ≡ offset_of old) × ((e : Ending) (x : List ℕ) → Fits new.begun e x → Fits old.begun e x)
Lasts os t old (outcomes.Datum r) new =
    (is_inside old.begun ≡ true) × Advances os t old [] (outcomes.Datum r) 0 new × IsStarted new.begun new.token.items × (offset_of new ≡ offset_of old) × (weight new.begun < weight old.begun)

-- the step gives the datum of the reference, where the flag says whether a part was cut
abbrev pub Tells : List Object → Bool → ℕ → Step → Type 0
Tells os big x (steps.Datum r) = (big ≡ false) × (r ≡ x)
Tells os big x (steps.TooBig w l) = (big ≡ true) × ShowsEvent os w l (object_at os x)
Tells os big x s = ⊥

-- the step gives the datum y
abbrev pub Gives : List Object → Object → Step → Type 0
Gives os y (steps.Datum r) = IsIn os r × (object_at os r ≡ y) × (is_out_of_range y ≡ false)
Gives os y (steps.TooBig w l) = (is_out_of_range y ≡ true) × ShowsEvent os w l y
Gives os y s = ⊥

-- what is left to do: two for each byte, and one where a text may end
abbrev pub work : Parser → List ℕ → ℕ
work p x = weight p.begun + 2 * length x

-- After g and the first n bytes of the piece datum y was given: it is complete there, and ends there. What stands then stands in any heap.
pub record GivesAfter (old : Parser) (g : List ℕ) (given : List Object) (piece : List ℕ) (y : Object) (n : ℕ) (p : Parser) : Type 0 where
  pub taken : n ≤ length piece
  pub complete : reading Ends (g ++ take n piece) ≡ book (given ++ y ∷ []) None
  pub ends : EndsAt p.begun piece n
  pub stands : (os : List Object) → Stands os p (g ++ take n piece) (given ++ y ∷ [])
  pub left : Follows p (drop n piece)
  pub less : work p (drop n piece) < work old piece

-- what a step says of g, the data given of it, and a piece after it
abbrev pub Says : List Object → Parser → List ℕ → List Object → List ℕ → Step → ℕ → Parser → Type 0
Says os old g given piece (steps.Datum r) n p = (y : Object) × Gives os y (steps.Datum r) × GivesAfter old g given piece y n p
Says os old g given piece (steps.TooBig w l) n p = (y : Object) × Gives os y (steps.TooBig w l) × GivesAfter old g given piece y n p
Says os old g given piece steps.More n p = (n ≡ length piece) × Stands os p (g ++ piece) given × IsFree p × (reading Goes (g ++ piece) ≡ book given None)
Says os old g given piece steps.End n p = ⊥
Says os old g given piece (steps.Syntax k o) n p = (rest : List ℕ) → trees (g ++ (piece ++ rest)) ≡ book given (Some (fault (kind_of k) o))
Says os old g given piece steps.Memory n p = Unit {0}

-- Where the book ends after g, datum y was given. What stands then stands in any heap.
pub record GivesLast (old : Parser) (g : List ℕ) (given : List Object) (y : Object) (p : Parser) : Type 0 where
  pub stands : (os : List Object) → Stands os p g (given ++ y ∷ [])
  pub less : work p [] < work old []

-- what the end of the book says of g and the data given of it
abbrev pub Finishes : List Object → Parser → List ℕ → List Object → Step → Parser → Type 0
Finishes os old g given (steps.Datum r) p = (y : Object) × Gives os y (steps.Datum r) × GivesLast old g given y p
Finishes os old g given (steps.TooBig w l) p = (y : Object) × Gives os y (steps.TooBig w l) × GivesLast old g given y p
Finishes os old g given steps.More p = ⊥
Finishes os old g given steps.End p = Stands os p g given × (trees g ≡ book given None)
Finishes os old g given (steps.Syntax k o) p = trees g ≡ book given (Some (fault (kind_of k) o))
Finishes os old g given steps.Memory p = Unit {0}
