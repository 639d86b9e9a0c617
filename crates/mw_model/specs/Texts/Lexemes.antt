-- Lexemes: what the bytes of a book are cut into, each with its offset.
use Rattle.std.specs.Prelude.{ℕ, zero, suc, ◌+◌, ◌-◌, ◌*◌, Bool, false, ◌&&◌, not, eqb, ltb, leb, List, [], ◌∷◌, ◌++◌, length, map, Option, Some, None, if◌then◌else◌, ◌||◌}
use Rattle.std.specs.List.{list_all, list_any}
use Rattle.mw_model.specs.Terms.Object.{Object, Natural, Symbol, is_name_byte, name_of_bytes, same_bytes}

-- classes of bytes
abbrev pub is_white : ℕ → Bool
is_white b = list_any (eqb b) (9 ∷ 10 ∷ 12 ∷ 13 ∷ 32 ∷ [])

abbrev pub is_digit : ℕ → Bool
is_digit b = leb 48 b && leb b 57

abbrev pub is_small : ℕ → Bool
is_small b = leb 97 b && leb b 122

abbrev pub is_capital : ℕ → Bool
is_capital b = leb 65 b && leb b 90

-- ! $ % & * + - . / < = > ? @ [ ] ^ _ { } ~
abbrev pub is_mark : ℕ → Bool
is_mark b = list_any (eqb b) (33 ∷ 36 ∷ 37 ∷ 38 ∷ 42 ∷ 43 ∷ 45 ∷ 46 ∷ 47 ∷ 60 ∷ 61 ∷ 62 ∷ 63 ∷ 64 ∷ 91 ∷ 93 ∷ 94 ∷ 95 ∷ 123 ∷ 125 ∷ 126 ∷ [])

abbrev pub is_constituent : ℕ → Bool
is_constituent b = is_digit b || (is_capital b || (is_small b || is_mark b))

abbrev pub is_dot : ℕ → Bool
is_dot b = eqb b 46

abbrev pub is_inside_comment : ℕ → Bool
is_inside_comment b = not (eqb b 10)

-- the longest run of bytes of a class at the front, and what follows it
abbrev pub run_of : (ℕ → Bool) → List ℕ → List ℕ
run_of p [] = []
run_of p (b ∷ bs) = if p b then b ∷ run_of p bs else []

abbrev pub after_run : (ℕ → Bool) → List ℕ → List ℕ
after_run p [] = []
after_run p (b ∷ bs) = if p b then after_run p bs else b ∷ bs

-- letters are raised, digits read as a decimal number
abbrev pub raised : ℕ → ℕ
raised b = if is_small b then b - 32 else b

abbrev pub decimal_from : ℕ → List ℕ → ℕ
decimal_from n [] = n
decimal_from n (d ∷ ds) = decimal_from (10 * n + (d - 48)) ds

abbrev pub decimal_value : List ℕ → ℕ
decimal_value ds = decimal_from 0 ds

-- a token that begins as a number does and isn't all digits
abbrev pub is_sign : ℕ → Bool
is_sign b = eqb b 43 || eqb b 45

abbrev pub digit_first : List ℕ → Bool
digit_first [] = false
digit_first (b ∷ bs) = is_digit b

abbrev pub like_number : List ℕ → Bool
like_number [] = false
like_number (b ∷ bs) = is_digit b || (is_sign b && digit_first bs)

-- a datum, a dot alone, or neither
pub data TokenForm : Type 0 where
  Whole : Object → TokenForm
  Point : TokenForm
  Bad : TokenForm

abbrev pub token_form_else : List ℕ → TokenForm
token_form_else t =
    if like_number t then Bad else
    if same_bytes t (46 ∷ []) then Point else
    if list_all is_dot t then Bad else Whole (Symbol (name_of_bytes (map raised t)))

abbrev pub token_form : List ℕ → TokenForm
token_form t = if list_all is_digit t then Whole (Natural (decimal_value t)) else token_form_else t

pub data SyntaxKind : Type 0 where
  END CLOSE DOT TOKEN BYTE LABEL LENGTH : SyntaxKind

pub record Fault : Type 0 where
  pub kind : SyntaxKind
  pub offset : ℕ

abbrev pub fault : SyntaxKind → ℕ → Fault
fault k o = record { kind = k; offset = o }

-- Lexemes begin with the offset of their first byte.
pub data Lexeme : Type 0 where
  Atom : ℕ → Object → Lexeme
  Open Close Dot Quote : ℕ → Lexeme
  Mark Ref : ℕ → ℕ → Lexeme
  -- begins a datum here, and never ends it: a fault, or None where more bytes may follow
  Wrong : ℕ → Option Fault → Lexeme
  -- a byte that may not stand here
  Stray : Fault → Lexeme
  -- the end of the bytes; inside a datum it is this fault, or None where more bytes may follow
  End : Option Fault → Lexeme

-- Does the input end where the bytes end, or may more bytes follow?
pub data Ending : Type 0 where
  Ends Goes : Ending

-- something unfinished at the end of the bytes, at offset o
abbrev pub unfinished : Ending → ℕ → Option Fault
unfinished Ends o = Some (fault END o)
unfinished Goes o = None

-- what may not stand directly after a token, or after a closing bar
abbrev pub glued : ℕ → Bool
glued b = eqb b 124 || eqb b 35

abbrev pub glued_bar : ℕ → Bool
glued_bar b = glued b || is_constituent b

-- the atom x, whose end the byte after it, or the end of input, shows
abbrev pub atom : Ending → (ℕ → Bool) → ℕ → Object → ℕ → List ℕ → List Lexeme
atom Ends bad o x end [] = Atom o x ∷ []
atom Goes bad o x end [] = Wrong o None ∷ []
atom e bad o x end (b ∷ bs) = if bad b then Atom o x ∷ Stray (fault TOKEN end) ∷ [] else Atom o x ∷ []

abbrev pub dot : Ending → ℕ → List ℕ → List Lexeme
dot Ends o [] = Dot o ∷ []
dot Goes o [] = Wrong o None ∷ []
dot e o (b ∷ bs) = if glued b then Wrong o (Some (fault TOKEN (o + 1))) ∷ [] else Dot o ∷ []

abbrev pub refused : Ending → ℕ → List ℕ → List Lexeme
refused Goes o [] = Wrong o None ∷ []
refused e o rest = Wrong o (Some (fault TOKEN o)) ∷ []

-- a token t at o, and the bytes after it
abbrev pub token : Ending → ℕ → List ℕ → TokenForm → List ℕ → List Lexeme
token e o t (Whole x) rest = atom e glued o x (o + length t) rest
token e o t Point rest = dot e o rest
token e o t Bad rest = refused e o rest

-- a closing bar after an opening one at o and the name n, and the bytes after it
abbrev pub bar_closed : Ending → ℕ → List ℕ → List ℕ → List Lexeme
bar_closed e o [] rest = Wrong o (Some (fault TOKEN o)) ∷ []
bar_closed e o (c ∷ n) rest = atom e glued_bar o (Symbol (name_of_bytes (c ∷ n))) (o + 2 + length (c ∷ n)) rest

-- an opening bar at o, the name bytes n after it, and the bytes after these
abbrev pub barred : Ending → ℕ → List ℕ → List ℕ → List Lexeme
barred e o n [] = Wrong o (unfinished e (o + 1 + length n)) ∷ []
barred e o n (b ∷ bs) = if eqb b 124 then bar_closed e o n bs else Wrong o (Some (fault BYTE (o + 1 + length n))) ∷ []

-- a # at o, the digits d after it, at most nine, and the bytes after these
abbrev pub label : Ending → ℕ → List ℕ → List ℕ → List Lexeme
label e o d [] = Wrong o (unfinished e (o + 1 + length d)) ∷ []
label e o [] (b ∷ bs) = Wrong o (Some (fault LABEL o)) ∷ []
label e o (c ∷ d) (b ∷ bs) =
    if eqb b 61 then Mark o (decimal_value (c ∷ d)) ∷ [] else
    if eqb b 35 then Ref o (decimal_value (c ∷ d)) ∷ [] else
    Wrong o (Some (fault LABEL o)) ∷ []

abbrev pub hashed : Ending → ℕ → List ℕ → List ℕ → List Lexeme
hashed e o d rest = if ltb 9 (length d) then Wrong o (Some (fault LABEL o)) ∷ [] else label e o d rest

-- the kinds of bytes outside bars and comments
pub data Class : Type 0 where
  White Semicolon Opening Closing Apostrophe Bar Hash Constituent Other : Class

abbrev pub class_else : ℕ → Class
class_else b =
    if is_white b then White else
    if eqb b 59 then Semicolon else
    if eqb b 40 then Opening else
    if eqb b 41 then Closing else
    if eqb b 39 then Apostrophe else
    if eqb b 124 then Bar else
    if eqb b 35 then Hash else Other

abbrev pub class : ℕ → Class
class b = if is_constituent b then Constituent else class_else b

-- the piece that begins with byte b at o, with bs after it: its lexemes, and how many bytes of bs it takes
abbrev pub piece : Class → Ending → ℕ → ℕ → List ℕ → List Lexeme
piece Opening e o b bs = Open o ∷ []
piece Closing e o b bs = Close o ∷ []
piece Apostrophe e o b bs = Quote o ∷ []
piece Bar e o b bs = barred e o (run_of is_name_byte bs) (after_run is_name_byte bs)
piece Hash e o b bs = hashed e o (run_of is_digit bs) (after_run is_digit bs)
piece Constituent e o b bs = let t = b ∷ run_of is_constituent bs in token e o t (token_form t) (after_run is_constituent bs)
piece Other e o b bs = Stray (fault BYTE o) ∷ []
piece _ e o b bs = []

abbrev pub extent : Class → List ℕ → ℕ
extent Semicolon bs = length (run_of is_inside_comment bs)
extent Bar bs = suc (length (run_of is_name_byte bs))
extent Hash bs = suc (length (run_of is_digit bs))
extent Constituent bs = length (run_of is_constituent bs)
extent _ bs = 0

-- the lexemes of the bytes, which lie at o, but for those of the first n bytes, which are taken
abbrev pub lexemes_from : Ending → ℕ → ℕ → List ℕ → List Lexeme
lexemes_from e o n [] = End (unfinished e o) ∷ []
lexemes_from e o (suc n) (b ∷ bs) = lexemes_from e (suc o) n bs
lexemes_from e o zero (b ∷ bs) = piece (class b) e o b bs ++ lexemes_from e (suc o) (extent (class b) bs) bs

abbrev pub lexemes : Ending → List ℕ → List Lexeme
lexemes e bytes = lexemes_from e 0 0 bytes
