-- Naturals past 128 bits in what is open: the code has 0 in their place and remembers that it did.
use Rattle.std.specs.Prelude.{Bool, false, ◌||◌, List, [], ◌∷◌, Option, Some, None}
use Rattle.mw_model.specs.Terms.Object.{Object}
use Rattle.mw_model.specs.Texts.Lexemes.{Lexeme, Atom}
use Rattle.mw_model.specs.Events.Fate.{is_out_of_range}
use Rattle.mw_lex.specs.Tokens.{clamp}
use Rattle.mw_model.specs.Texts.Grammar.{Labels, Unused, Label}
use Rattle.mw_read.specs.Machine.{Frame, Members, Tailed, Quoting, Marking, State, Idle, Within, Full, Broken, Turn}

abbrev pub clamp_all : List Object → List Object
clamp_all [] = []
clamp_all (x ∷ xs) = clamp x ∷ clamp_all xs

abbrev pub clamp_some : Option Object → Option Object
clamp_some None = None
clamp_some (Some x) = Some (clamp x)

abbrev pub clamp_labels : Labels → Labels
clamp_labels Unused = Unused
clamp_labels (Label n x ls) = Label n (clamp_some x) (clamp_labels ls)

abbrev pub clamp_frame : Frame → Frame
clamp_frame (Members xs) = Members (clamp_all xs)
clamp_frame (Tailed xs) = Tailed (clamp_all xs)
clamp_frame Quoting = Quoting
clamp_frame (Marking n) = Marking n

abbrev pub clamp_frames : List Frame → List Frame
clamp_frames [] = []
clamp_frames (f ∷ s) = clamp_frame f ∷ clamp_frames s

abbrev pub clamp_state : State → State
clamp_state Idle = Idle
clamp_state (Within f s ls) = Within (clamp_frame f) (clamp_frames s) (clamp_labels ls)
clamp_state (Full xs x s ls) = Full (clamp_all xs) (clamp x) (clamp_frames s) (clamp_labels ls)
clamp_state (Broken f) = Broken f

abbrev pub clamp_turn : Turn → Turn
clamp_turn t = record { events = clamp_all t.events; state = clamp_state t.state }

abbrev pub clamp_lexeme : Lexeme → Lexeme
clamp_lexeme (Atom o x) = Atom o (clamp x)
clamp_lexeme l = l

-- are labelled objects such?
abbrev pub some_big : Option Object → Bool
some_big None = false
some_big (Some x) = is_out_of_range x

abbrev pub labels_big : Labels → Bool
labels_big Unused = false
labels_big (Label n x ls) = some_big x || labels_big ls

abbrev pub lexeme_big : Lexeme → Bool
lexeme_big (Atom o x) = is_out_of_range x
lexeme_big l = false

-- the flag: something open holds such a natural
abbrev pub any_big : List Object → Bool
any_big [] = false
any_big (x ∷ xs) = is_out_of_range x || any_big xs

abbrev pub frame_big : Frame → Bool
frame_big (Members xs) = any_big xs
frame_big (Tailed xs) = any_big xs
frame_big Quoting = false
frame_big (Marking n) = false

abbrev pub frames_big : List Frame → Bool
frames_big [] = false
frames_big (f ∷ s) = frame_big f || frames_big s

abbrev pub state_big : State → Bool
state_big Idle = false
state_big (Within f s ls) = frame_big f || frames_big s
state_big (Full xs x s ls) = is_out_of_range x || (any_big xs || frames_big s)
state_big (Broken f) = false

-- the flag of a turn: of its event, if there is one, and else of what is open
abbrev pub turn_big : Turn → Bool
turn_big t = any_big t.events || state_big t.state
