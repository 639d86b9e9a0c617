-- What the reader's stack stands for.
use Rattle.std.specs.Prelude.{◌≡◌, ℕ, ◌<◌, Bool, true, false, List, [], ◌∷◌, ◌++◌, length, Option}
use Rattle.mw_model.specs.Terms.Object.{Object}
use Rattle.mw_model.specs.Texts.Grammar.{Labels, Unused}
use Rattle.mw_read.specs.Kinds.{kind_of}
use Rattle.mw_read.specs.Named.{Agree, IsListed}
use Rattle.mw_read.specs.Machine.{Frame, Members, Tailed, Quoting, Marking, State, Idle, Within, Full, Broken, Turn, event, given, quiet, fill}
use Rattle.mw_heap.specs.Objects.{object_at, IsIn, Grows}
use Rattle.mw_model.specs.Texts.Lexemes as lex
use Rattle.mw_read.specs.declared.step.Fault as code
use Rattle.mw_read.specs.declared.step.Outcome.{Outcome}
use Rattle.mw_read.specs.declared.step.Outcome.TheVariants as outcomes
use Rattle.mw_read.specs.declared.stack.Layer.{Layer}
use Rattle.mw_read.specs.declared.stack.Layer.TheVariants as layers

-- what is open: frames, or frames with a list that has the datum after its dot
pub data Pile : Type 0 where
  Frames : List Frame → Pile
  Ready : List Object → Object → List Frame → Pile

abbrev pub piled : List Object → Pile → Layer → Pile
piled os (Frames s) layers.Opening = Frames (Members [] ∷ s)
piled os (Frames s) layers.Quote = Frames (Quoting ∷ s)
piled os (Frames s) (layers.Mark n) = Frames (Marking n ∷ s)
piled os (Frames (Members xs ∷ s)) (layers.Item r) = Frames (Members (object_at os r ∷ xs) ∷ s)
piled os (Frames (Members xs ∷ s)) layers.Dot = Frames (Tailed xs ∷ s)
piled os (Frames (Members xs ∷ s)) (layers.Last r) = Ready xs (object_at os r) s
piled os t l = t

-- may the layer lie there?
abbrev pub MayLie : Pile → Layer → Type 0
MayLie (Frames s) layers.Opening = Unit {0}
MayLie (Frames s) layers.Quote = Unit {0}
MayLie (Frames s) (layers.Mark n) = Unit {0}
MayLie (Frames (Members xs ∷ s)) (layers.Item r) = Unit {0}
MayLie (Frames (Members (x ∷ xs) ∷ s)) layers.Dot = Unit {0}
MayLie (Frames (Members (x ∷ xs) ∷ s)) (layers.Last r) = Unit {0}
MayLie t l = ⊥

abbrev pub pile_on : List Object → Pile → List Layer → Pile
pile_on os t [] = t
pile_on os t (l ∷ ls) = pile_on os (piled os t l) ls

abbrev pub LieOn : List Object → Pile → List Layer → Type 0
LieOn os t [] = Unit {0}
LieOn os t (l ∷ ls) = MayLie t l × LieOn os (piled os t l) ls

abbrev pub IsUnder : ℕ → Layer → Type 0
IsUnder n (layers.Item r) = r < n
IsUnder n (layers.Last r) = r < n
IsUnder n l = Unit {0}

abbrev pub AreUnder : ℕ → List Layer → Type 0
AreUnder n [] = Unit {0}
AreUnder n (l ∷ ls) = IsUnder n l × AreUnder n ls

abbrev pub pile_of : List Object → List Layer → Pile
pile_of os ls = pile_on os (Frames []) ls

pub record IsPile (os : List Object) (ls : List Layer) : Type 0 where
  pub lie : LieOn os (Frames []) ls
  pub under : AreUnder (length os) ls

-- the turn of a datum that is complete here
abbrev pub give_to : Pile → Object → Labels → Turn
give_to (Frames s) y ls = given y s ls
give_to (Ready xs x s) y ls = quiet (Full xs x s ls)

-- a pile and labels that are in this state
abbrev pub Shows : List Object → Pile → List (ℕ × Option ℕ) → State → Type 0
Shows os p m Idle = (p ≡ Frames []) × Agree os m Unused
Shows os p m (Within f s ls) = (p ≡ Frames (f ∷ s)) × Agree os m ls
Shows os p m (Full xs x s ls) = (p ≡ Ready xs x s) × Agree os m ls
Shows os p m (Broken f) = ⊥

abbrev pub fault_of : code.Fault → lex.Fault
fault_of f = lex.fault (kind_of f.kind) f.offset

-- the outcome is that of the turn
abbrev pub Does : List Object → List Layer → List (ℕ × Option ℕ) → Outcome → Turn → Type 0
Does os ls m outcomes.Pending t = ([] ≡ t.events) × Shows os (pile_of os ls) m t.state
Does os ls m (outcomes.Datum r) t = (t ≡ event (object_at os r)) × Shows os (pile_of os ls) m Idle
Does os ls m (outcomes.Fault f) t = t ≡ quiet (Broken (fault_of f))

-- its datum is of the heap
abbrev pub HoldsDatum : List Object → Outcome → Type 0
HoldsDatum os outcomes.Pending = Unit {0}
HoldsDatum os (outcomes.Datum r) = IsIn os r
HoldsDatum os (outcomes.Fault f) = Unit {0}

abbrev pub IsFrames : Pile → Type 0
IsFrames (Frames s) = Unit {0}
IsFrames (Ready xs x s) = ⊥

-- inside a list: its members so far, made a list that ends in y, and what is round it
abbrev pub IsInList : Pile → Type 0
IsInList (Frames (Members xs ∷ s)) = Unit {0}
IsInList t = ⊥

abbrev pub members_of : Pile → Object → Object
members_of (Frames (Members xs ∷ s)) y = fill xs y
members_of t y = y

abbrev pub frames_round : Pile → List Frame
frames_round (Frames (Members xs ∷ s)) = s
frames_round t = []

-- the turn where the innermost list ends in y
abbrev pub closed_with : Pile → Object → Labels → Turn
closed_with p y ls = given (members_of p y) (frames_round p) ls

abbrev pub is_last : Layer → Bool
is_last (layers.Last r) = true
is_last l = false

abbrev pub is_item : Layer → Bool
is_item (layers.Item r) = true
is_item l = false

-- has the innermost list the datum after its dot?
abbrev pub is_ready : Pile → Bool
is_ready (Frames s) = false
is_ready (Ready xs x s) = true

-- does a member of a list stand directly before?
abbrev pub has_member : Pile → Bool
has_member (Frames (Members (x ∷ xs) ∷ s)) = true
has_member p = false

abbrev pub EndsWith : List Layer → Layer → Type 0
EndsWith ls l = (rest : List Layer) × (ls ≡ rest ++ l ∷ [])

-- what giving a datum keeps
pub record Gives (old : List Object) (before : List Layer) (labels : List (ℕ × Option ℕ)) (first : ℕ) (os : List Object) (ls : List Layer) (m : List (ℕ × Option ℕ)) (x : ℕ) : Type 0 where
  pub pile : IsPile os ls
  pub waits : IsFrames (pile_of os ls)
  pub listed : x < length os
  pub kept : Grows old os
  pub tags : IsListed (length os) m
  pub turns : (ks : Labels) → Agree old labels ks →
      (js : Labels) × Agree os m js × (give_to (pile_of os ls) (object_at os x) js ≡ give_to (pile_of old before) (object_at old first) ks)
