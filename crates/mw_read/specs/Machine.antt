-- What is open, and what a lexeme makes of it.
use Rattle.std.specs.Prelude.{ℕ, Bool, true, false, List, [], ◌∷◌, Option, Some, None, if◌then◌else◌}
use Rattle.mw_model.specs.Terms.Object.{Object, Pair, NIL}
use Rattle.mw_model.specs.Texts.Lexemes.{Lexeme, Atom, Open, Close, Dot, Quote, Mark, Ref, Wrong, Stray, End, Fault, fault, SyntaxKind, END, CLOSE, DOT, LABEL}
use Rattle.mw_model.specs.Texts.Grammar.{Labels, Unused, Label, is_begun, labelled, complete, quoted}

-- what is open, the innermost first
pub data Frame : Type 0 where
  -- a list with these members so far, the last first
  Members : List Object → Frame
  -- and a dot after them
  Tailed : List Object → Frame
  Quoting : Frame
  Marking : ℕ → Frame

pub data State : Type 0 where
  Idle : State
  Within : Frame → List Frame → Labels → State
  -- a list with a datum after its dot
  Full : List Object → Object → List Frame → Labels → State
  Broken : Fault → State

abbrev pub labels_of : State → Labels
labels_of Idle = Unused
labels_of (Within f s ls) = ls
labels_of (Full xs x s ls) = ls
labels_of (Broken f) = Unused

abbrev pub IsSound : State → Type 0
IsSound (Broken f) = ⊥
IsSound t = Unit {0}

-- after a dot and its datum nothing may begin
abbrev pub is_full : State → Bool
is_full Idle = false
is_full (Within f s ls) = false
is_full (Full xs x s ls) = true
is_full (Broken f) = false

-- a dot may stand after a member of a list
abbrev pub is_after_member : State → Bool
is_after_member (Within (Members (x ∷ xs)) s ls) = true
is_after_member t = false

pub record Turn : Type 0 where
  pub events : List Object
  pub state : State

abbrev pub quiet : State → Turn
quiet s = record { events = []; state = s }

abbrev pub event : Object → Turn
event x = record { events = x ∷ []; state = Idle }

abbrev pub broken : SyntaxKind → ℕ → Turn
broken k o = quiet (Broken (fault k o))

abbrev pub fill : List Object → Object → Object
fill [] y = y
fill (x ∷ xs) y = fill xs (Pair x y)

-- a datum is complete
abbrev pub given : Object → List Frame → Labels → Turn
given x [] ls = event x
given x (Members xs ∷ s) ls = quiet (Within (Members (x ∷ xs)) s ls)
given x (Tailed xs ∷ s) ls = quiet (Full xs x s ls)
given x (Quoting ∷ s) ls = given (quoted x) s ls
given x (Marking n ∷ s) ls = given x s (complete n x ls)

abbrev pub refer : ℕ → Option Object → List Frame → Labels → Turn
refer o (Some x) s ls = given x s ls
refer o None s ls = broken LABEL o

-- a lexeme where a datum may begin
abbrev pub taken : List Frame → Labels → Lexeme → Turn
taken s ls (Atom o x) = given x s ls
taken s ls (Open o) = quiet (Within (Members []) s ls)
taken s ls (Close o) = broken CLOSE o
taken s ls (Dot o) = broken DOT o
taken s ls (Quote o) = quiet (Within Quoting s ls)
taken s ls (Mark o n) = if is_begun n ls then broken LABEL o else quiet (Within (Marking n) s (Label n None ls))
taken s ls (Ref o n) = refer o (labelled n ls) s ls
taken s ls (Wrong o (Some f)) = quiet (Broken f)
taken s ls (Wrong o None) = quiet Idle
taken s ls (Stray f) = quiet (Broken f)
taken s ls (End f) = quiet Idle

abbrev pub within : Frame → List Frame → Labels → Lexeme → Turn
within (Members xs) s ls (Close o) = given (fill xs NIL) s ls
within (Members (x ∷ xs)) s ls (Dot o) = quiet (Within (Tailed (x ∷ xs)) s ls)
within (Tailed xs) s ls (Close o) = broken DOT o
within f s ls l = taken (f ∷ s) ls l

abbrev pub offset : Lexeme → ℕ
offset (Atom o x) = o
offset (Open o) = o
offset (Close o) = o
offset (Dot o) = o
offset (Quote o) = o
offset (Mark o n) = o
offset (Ref o n) = o
offset (Wrong o s) = o
offset (Stray f) = f.offset
offset (End s) = 0

abbrev pub filled : List Object → Object → List Frame → Labels → Lexeme → Turn
filled xs x s ls (Close o) = given (fill xs x) s ls
filled xs x s ls (Stray f) = quiet (Broken f)
filled xs x s ls l = broken DOT (offset l)

abbrev pub on : State → Lexeme → Turn
on Idle l = taken [] Unused l
on (Within f s ls) l = within f s ls l
on (Full xs x s ls) l = filled xs x s ls l
on (Broken f) l = quiet (Broken f)

-- the fault of a book that ends at o in this state
abbrev pub end_fault : State → ℕ → Option Fault
end_fault Idle o = None
end_fault (Within f s ls) o = Some (fault END o)
end_fault (Full xs x s ls) o = Some (fault END o)
end_fault (Broken f) o = Some f
