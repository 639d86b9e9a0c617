-- The report on a book.
use Rattle.std.specs.Prelude.{ℕ, suc, ◌+◌, Bool, true, false, cond, eqb, ltb, List, [], ◌∷◌, ◌++◌, length, Option, Some, None, codes}
use Rattle.mw_model.specs.Terms.Object.{Name, Object, Symbol, Pair, named}
use Rattle.mw_model.specs.Terms.Term.{is_among}
use Rattle.mw_model.specs.Values.Primitive.{One}
use Rattle.mw_model.specs.Texts.Lexemes.{SyntaxKind, END, CLOSE, DOT, TOKEN, BYTE, LABEL, LENGTH, Fault}
use Rattle.mw_model.specs.Texts.Grammar.{Book, trees}
use Rattle.mw_model.specs.Texts.Printing.{numeral, name_text}
use Rattle.mw_model.specs.Events.Theory.{Theory, initial}
use Rattle.mw_model.specs.Events.Refusal.{Fate, Accepted, Refused, reason_of}
use Rattle.mw_model.specs.Events.Fate.{fate, next, after, longest}

-- joined by single spaces
abbrev pub spaced : List ℕ → List ℕ → List ℕ
spaced a b = a ++ 32 ∷ b

abbrev pub joined : List (List ℕ) → List ℕ
joined [] = []
joined (w ∷ []) = w
joined (w ∷ ws) = spaced w (joined ws)

-- a line of words
abbrev pub sentence : List (List ℕ) → List ℕ
sentence ws = joined ws ++ 10 ∷ []

abbrev pub dash : List ℕ
dash = 45 ∷ []

-- a text that is not too long
abbrev pub short : List ℕ → List ℕ
short text = cond (ltb longest (length text)) dash text

abbrev pub symbol_text : Object → List ℕ
symbol_text (Symbol s) = short (name_text s)
symbol_text _ = dash

-- the first member of the event, where that is a symbol
abbrev pub word_text : Object → List ℕ
word_text (Pair w r) = symbol_text w
word_text _ = dash

-- the second member, where that is a symbol and the event begins with one of these words
abbrev pub labelled_words : List Name
labelled_words = named "VERIFY" ∷ named "DEFINE" ∷ named "SKOLEM" ∷ named "SWITCH" ∷ []

abbrev pub label_text : Object → List ℕ
label_text (Pair (Symbol w) (Pair x r)) = cond (is_among w labelled_words) (symbol_text x) dash
label_text _ = dash

-- the value that an event shows, where it shows one
abbrev pub and_value : List ℕ → List ℕ
and_value [] = []
and_value (b ∷ bs) = 32 ∷ b ∷ bs

abbrev pub fate_text : Fate → List ℕ
fate_text (Accepted value) = codes "accepted" ++ and_value value
fate_text (Refused r) = spaced (codes "refused") (reason_of r)

-- the line of event number k
abbrev pub line : ℕ → Object → Fate → List ℕ
line k e f = sentence (numeral k ∷ word_text e ∷ label_text e ∷ fate_text f ∷ [])

abbrev pub lines : ℕ → Theory → List Object → ℕ → List ℕ
lines k t [] N = []
lines k t (e ∷ es) N = line k e (fate t e N) ++ lines (suc k) (next t e N) es N

abbrev pub is_accepted : Fate → Bool
is_accepted (Accepted value) = true
is_accepted (Refused r) = false

abbrev pub refused_among : Theory → List Object → ℕ → ℕ
refused_among t [] N = 0
refused_among t (e ∷ es) N = cond (is_accepted (fate t e N)) 0 1 + refused_among (next t e N) es N

abbrev pub accepted_among : Theory → List Object → ℕ → ℕ
accepted_among t [] N = 0
accepted_among t (e ∷ es) N = cond (is_accepted (fate t e N)) 1 0 + accepted_among (next t e N) es N

abbrev pub kind_word : SyntaxKind → List ℕ
kind_word END = codes "END"
kind_word CLOSE = codes "CLOSE"
kind_word DOT = codes "DOT"
kind_word TOKEN = codes "TOKEN"
kind_word BYTE = codes "BYTE"
kind_word LABEL = codes "LABEL"
kind_word LENGTH = codes "LENGTH"

-- how a book ends
pub data Status : Type 0 where
  Done SomeRefused : Status
  Syntax : SyntaxKind → ℕ → Status

abbrev pub status_of : Option Fault → ℕ → Status
status_of (Some f) refused = Syntax f.kind f.offset
status_of None refused = cond (eqb refused 0) Done SomeRefused

abbrev pub last_line_of : Option Fault → List ℕ → List ℕ
last_line_of (Some f) summary = sentence (codes "syntax" ∷ kind_word f.kind ∷ codes "at" ∷ numeral f.offset ∷ [])
last_line_of None summary = summary

-- events E accepted A refused R level L
abbrev pub summary : List Object → ℕ → List ℕ
summary es N =
    let t = initial One in
    sentence (codes "events" ∷ numeral (length es) ∷ codes "accepted" ∷ numeral (accepted_among t es N) ∷
    codes "refused" ∷ numeral (refused_among t es N) ∷ codes "level" ∷ numeral (after t es N).level ∷ [])

abbrev pub last_line : Book → ℕ → List ℕ
last_line b N = last_line_of b.fault (summary b.events N)

-- the text and the status, for the bytes of a book and a step limit
pub record Report : Type 0 where
  pub text : List ℕ
  pub status : Status

abbrev pub report_of : Book → ℕ → Report
report_of b N = record { text = lines 1 (initial One) b.events N ++ last_line b N; status = status_of b.fault (refused_among (initial One) b.events N) }

abbrev pub report : List ℕ → ℕ → Report
report bytes N = report_of (trees bytes) N
