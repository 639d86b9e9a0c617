-- What a parser stands for: what is open, and the text that has begun.
use Rattle.std.specs.Prelude.{◌≡◌, ℕ, suc, ◌+◌, ◌*◌, ◌<◌, ◌≤◌, ◌⊎◌, Bool, true, false, List, [], ◌∷◌, ◌++◌, length, take, drop, get_or, Some, if◌then◌else◌}
use Rattle.mw_model.specs.Terms.Object.{Object, is_name_byte}
use Rattle.mw_model.specs.Texts.Lexemes as lex
use Rattle.mw_model.specs.Texts.Lexemes.{class, Lexeme, Stray, fault, TOKEN, Ending, Ends, Goes, is_constituent, is_digit, is_white, glued, glued_bar, lexemes_from}
use Rattle.std.specs.List.{list_all}
use Rattle.mw_model.specs.Texts.Grammar.{Book, book, and_events}
use Rattle.mw_read.specs.Machine.{State, Idle}
use Rattle.mw_read.specs.Resume.{resume}
use Rattle.mw_read.specs.Piles.{pile_of, is_ready, fault_of}
use Rattle.mw_read.specs.Stacks.{IsStack}
use Rattle.mw_read.specs.Held.{Holds, Completes}
use Rattle.mw_read.specs.declared.parser.Begun.{Begun}
use Rattle.mw_read.specs.declared.parser.Begun.TheVariants.{Nothing, Comment, Token, Bars, Barred, Hash, AfterToken, AfterBar}
use Rattle.mw_read.specs.declared.parser.Parser.{Parser}
use Rattle.mw_read.specs.declared.step.Outcome.{Outcome}
use Rattle.mw_read.specs.declared.step.Outcome.TheVariants as outcomes

-- the lexemes of these bytes at o, directly after an atom
abbrev pub after : (ℕ → Bool) → Ending → ℕ → List ℕ → List Lexeme
after bad e o [] = lexemes_from e o 0 []
after bad e o (b ∷ x) = if bad b then Stray (fault TOKEN o) ∷ lexemes_from e o 0 (b ∷ x) else lexemes_from e o 0 (b ∷ x)

-- the lexemes of the text that has begun and the bytes after it
abbrev pub ahead : Ending → Begun → List ℕ → ℕ → List ℕ → List Lexeme
ahead e AfterToken t o x = after glued e o x
ahead e AfterBar t o x = after glued_bar e o x
ahead e Nothing t o x = lexemes_from e o 0 x
ahead e Comment t o x = lexemes_from e o 0 (59 ∷ x)
ahead e Token t o x = lexemes_from e o 0 (t ++ x)
ahead e Bars t o x = lexemes_from e o 0 (124 ∷ (t ++ x))
ahead e Barred t o x = lexemes_from e o 0 (124 ∷ (t ++ 124 ∷ x))
ahead e Hash t o x = lexemes_from e o 0 (35 ∷ (t ++ x))

-- what the book comes to where these bytes follow
abbrev pub meaning_of : Ending → State → Parser → List ℕ → Book
meaning_of e s p x = resume s (ahead e p.begun p.token.items p.start x)

-- After a datum that is complete something follows, or the end; a token does not go on.
abbrev pub Fits : Begun → Ending → List ℕ → Type 0
Fits AfterToken e (b ∷ x) = is_constituent b ≡ false
Fits AfterToken Goes [] = ⊥
Fits AfterToken Ends [] = Unit {0}
Fits AfterBar e (b ∷ x) = Unit {0}
Fits AfterBar Goes [] = ⊥
Fits AfterBar Ends [] = Unit {0}
Fits m e x = Unit {0}

-- the bytes that begin or go on with a text
abbrev pub IsText : Begun → List ℕ → Type 0
IsText Token t = list_all is_constituent t ≡ true
IsText Bars t = list_all is_name_byte t ≡ true
IsText Barred t = (list_all is_name_byte t ≡ true) × (0 < length t)
IsText Hash t = (list_all is_digit t ≡ true) × (length t ≤ 9)
IsText m t = Unit {0}

-- a datum has begun
abbrev pub is_inside : Begun → Bool
is_inside Token = true
is_inside Bars = true
is_inside Barred = true
is_inside Hash = true
is_inside m = false

pub record IsParser (os : List Object) (p : Parser) : Type 0 where
  pub stack : IsStack os p.stack
  pub text : IsText p.begun p.token.items
  pub ready : is_inside p.begun ≡ true → is_ready (pile_of os p.stack.layers.items) ≡ false

-- What a parser does with the first n bytes of the rest, or with all that it saw of it.
abbrev pub Advances : List Object → State → Parser → List ℕ → Outcome → ℕ → Parser → Type 0
Advances os t old rest outcomes.Pending n new =
    (u : State) × Holds os new.stack u × IsParser os new × ((e : Ending) (z : List ℕ) → Fits new.begun e z → meaning_of e t old (take n rest ++ z) ≡ meaning_of e u new z)
Advances os t old rest (outcomes.Datum r) n new =
    (x : Object) × Completes os new.stack r x × IsParser os new × ((e : Ending) (z : List ℕ) → Fits new.begun e z → meaning_of e t old (take n rest ++ z) ≡ and_events x (meaning_of e Idle new z))
Advances os t old rest (outcomes.Fault f) n new = (e : Ending) (x : List ℕ) → meaning_of e t old (rest ++ x) ≡ book [] (Some (fault_of f))

-- the label of n digits has ended with byte b, unless it is a fault
abbrev pub EndsHash : Outcome → ℕ → ℕ → Parser → Parser → Type 0
EndsHash (outcomes.Fault f) n b old new = Unit {0}
EndsHash r n b old new = (new.begun ≡ Nothing) × (new.start ≡ old.start + 2 + n) × (is_white b ≡ false)

-- the number of bytes taken, where a text of n bytes has begun at o
abbrev pub offset_at : Begun → ℕ → ℕ → ℕ
offset_at Nothing n o = o
offset_at Comment n o = o + 1
offset_at Token n o = o + n
offset_at Bars n o = o + n + 1
offset_at Barred n o = o + n + 2
offset_at Hash n o = o + n + 1
offset_at AfterToken n o = o
offset_at AfterBar n o = o

abbrev pub offset_of : Parser → ℕ
offset_of p = offset_at p.begun (length p.token.items) p.start

-- a text that may end with no further byte
abbrev pub weight : Begun → ℕ
weight Token = 1
weight Barred = 1
weight m = 0

-- a token that has begun has a byte
abbrev pub IsStarted : Begun → List ℕ → Type 0
IsStarted Token t = 0 < length t
IsStarted m t = Unit {0}

-- no text goes on here
abbrev pub IsBetween : Begun → Type 0
IsBetween Nothing = Unit {0}
IsBetween AfterToken = Unit {0}
IsBetween AfterBar = Unit {0}
IsBetween m = ⊥

-- No text goes on after the first n bytes, and the last of them, if there is one, is no white space.
pub record EndsAt (m : Begun) (rest : List ℕ) (n : ℕ) : Type 0 where
  pub between : IsBetween m
  pub last : (k : ℕ) → n ≡ suc k → is_white (get_or rest k 0) ≡ false

-- n bytes of the rest were taken, and what is left may follow
pub record Moved (old : Parser) (rest : List ℕ) (n : ℕ) (new : Parser) : Type 0 where
  pub offset : offset_of new ≡ offset_of old + n
  pub left : Fits new.begun Goes (drop n rest)
  pub started : IsStarted new.begun new.token.items
  -- a byte was taken, or a text has ended
  pub less : 0 < length rest → weight new.begun < weight old.begun + 2 * n
  -- a text that goes on took all that there is
  pub stops : is_inside new.begun ≡ true → n ≡ length rest

-- a datum ends where what was taken ends
abbrev pub Moves : Outcome → Parser → List ℕ → ℕ → Parser → Type 0
Moves (outcomes.Fault f) old rest n new = Unit {0}
Moves outcomes.Pending old rest n new = Moved old rest n new
Moves (outcomes.Datum r) old rest n new = Moved old rest n new × EndsAt new.begun rest n

-- Does g say whether byte b may not stand after what was read?
abbrev pub IsAfter : Begun → Bool → ℕ → Type 0
IsAfter Nothing g b = g ≡ false
IsAfter AfterToken g b = g ≡ glued b
IsAfter AfterBar g b = g ≡ glued_bar b
IsAfter m g b = ⊥

-- the first byte is of this class
abbrev pub IsFirst : lex.Class → List ℕ → Type 0
IsFirst k [] = ⊥
IsFirst k (b ∷ x) = class b ≡ k

-- these bytes begin such a text
abbrev pub Begins : Begun → List ℕ → Type 0
Begins Bars x = IsFirst lex.Bar x
Begins Hash x = IsFirst lex.Hash x
Begins Token x = IsFirst lex.Constituent x
Begins m x = ⊥

-- One byte of white space after what was read was taken, where one stands there, and else nothing.
abbrev pub PassesWhite : Parser → List ℕ → ℕ → Parser → Type 0
PassesWhite old rest n new =
    ((n ≡ 0) × (new ≡ old) × (IsBetween old.begun → IsFirst lex.White rest → ⊥)) ⊎ ((n ≡ 1) × (new ≡ record old { begun = Nothing; start = old.start + 1 }) × IsBetween old.begun × IsFirst lex.White rest)
