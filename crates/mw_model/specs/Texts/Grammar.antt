-- The grammar on lexemes: data, labels, and the first fault of a book.
use Rattle.std.specs.Prelude.{ℕ, zero, suc, ◌^◌, Bool, true, false, eqb, leb, List, [], ◌∷◌, length, take, Option, Some, None, if◌then◌else◌}
use Rattle.mw_model.specs.Terms.Object.{Object, Pair, symbol, NIL, list2}
use Rattle.mw_model.specs.Texts.Lexemes.{Lexeme, Atom, Open, Close, Dot, Quote, Mark, Ref, Wrong, Stray, End, Fault, fault, SyntaxKind, CLOSE, DOT, LABEL, LENGTH, Ending, Ends, Goes, lexemes}

-- the labels begun in a datum, the last one first; None until the labelled datum is complete
pub data Labels : Type 0 where
  Unused : Labels
  Label : ℕ → Option Object → Labels → Labels

abbrev pub is_begun : ℕ → Labels → Bool
is_begun n Unused = false
is_begun n (Label m x ls) = if eqb n m then true else is_begun n ls

abbrev pub labelled : ℕ → Labels → Option Object
labelled n Unused = None
labelled n (Label m x ls) = if eqb n m then x else labelled n ls

abbrev pub complete : ℕ → Object → Labels → Labels
complete n x Unused = Unused
complete n x (Label m y ls) = if eqb n m then Label m (Some x) ls else Label m y (complete n x ls)

-- What reading at the front of the lexemes comes to: an object, with the labels and the lexemes after it;
-- or the fault that ends the book, None where more bytes may follow.
pub data Read : Type 0 where
  Got : Object → Labels → List Lexeme → Read
  Stop : Option Fault → Read

abbrev pub and_then : Read → (Object → Labels → List Lexeme → Read) → Read
and_then (Got x ls r) f = f x ls r
and_then (Stop s) f = Stop s

abbrev pub quoted : Object → Object
quoted x = list2 (symbol "QUOTE") x

-- what is made of the parts
abbrev pub quoting : Object → Labels → List Lexeme → Read
quoting x ls r = Got (quoted x) ls r

abbrev pub labelling : ℕ → Object → Labels → List Lexeme → Read
labelling n x ls r = Got x (complete n x ls) r

abbrev pub pairing : Object → Object → Labels → List Lexeme → Read
pairing x y ls r = Got (Pair x y) ls r

abbrev pub and_tail : (Labels → List Lexeme → Read) → Object → Labels → List Lexeme → Read
and_tail tail x ls r = and_then (tail ls r) (pairing x)

abbrev pub halt : SyntaxKind → ℕ → Read
halt k o = Stop (Some (fault k o))

-- after the datum that follows a dot only a closing may come
abbrev pub closing : Object → Labels → List Lexeme → Read
closing x ls [] = Stop None
closing x ls (Close o ∷ r) = Got x ls r
closing x ls (Stray f ∷ r) = Stop (Some f)
closing x ls (End s ∷ r) = Stop s
closing x ls (Atom o y ∷ r) = halt DOT o
closing x ls (Open o ∷ r) = halt DOT o
closing x ls (Dot o ∷ r) = halt DOT o
closing x ls (Quote o ∷ r) = halt DOT o
closing x ls (Mark o n ∷ r) = halt DOT o
closing x ls (Ref o n ∷ r) = halt DOT o
closing x ls (Wrong o s ∷ r) = halt DOT o

abbrev pub reference : ℕ → Option Object → Labels → List Lexeme → Read
reference o (Some x) ls r = Got x ls r
reference o None ls r = halt LABEL o

-- which part of a datum is read
pub data Part : Type 0 where
  -- a datum
  Datum : Part
  -- what follows an opening, or a member of a list: the tail, up to its closing
  First Tail : Part
  -- what follows a dot
  Last : Part

abbrev pub read : ℕ → Part → Labels → List Lexeme → Read
read zero p ls r = Stop None
read (suc k) p ls [] = Stop None
read (suc k) Datum ls (Atom o x ∷ r) = Got x ls r
read (suc k) Datum ls (Open o ∷ r) = read k First ls r
read (suc k) Datum ls (Quote o ∷ r) = and_then (read k Datum ls r) quoting
read (suc k) Datum ls (Mark o n ∷ r) =
    let more = and_then (read k Datum (Label n None ls) r) (labelling n) in if is_begun n ls then halt LABEL o else more
read (suc k) Datum ls (Ref o n ∷ r) = reference o (labelled n ls) ls r
read (suc k) Datum ls (Close o ∷ r) = halt CLOSE o
read (suc k) Datum ls (Dot o ∷ r) = halt DOT o
read (suc k) Datum ls (Wrong o s ∷ r) = Stop s
read (suc k) Datum ls (Stray f ∷ r) = Stop (Some f)
read (suc k) Datum ls (End s ∷ r) = Stop s
read (suc k) First ls (Close o ∷ r) = Got NIL ls r
read (suc k) First ls r = and_then (read k Datum ls r) (and_tail (read k Tail))
read (suc k) Tail ls (Close o ∷ r) = Got NIL ls r
read (suc k) Tail ls (Dot o ∷ r) = read k Last ls r
read (suc k) Tail ls r = and_then (read k Datum ls r) (and_tail (read k Tail))
read (suc k) Last ls (Close o ∷ r) = halt DOT o
read (suc k) Last ls r = and_then (read k Datum ls r) closing

-- the events of a book, and its first fault; no fault also where more bytes may follow
pub record Book : Type 0 where
  pub events : List Object
  pub fault : Option Fault

abbrev pub book : List Object → Option Fault → Book
book xs s = record { events = xs; fault = s }

abbrev pub and_events : Object → Book → Book
and_events x b = book (x ∷ b.events) b.fault

-- two for each lexeme, and one
abbrev pub enough : List Lexeme → ℕ
enough [] = 1
enough (l ∷ r) = suc (suc (enough r))

-- what is read at the front, and the data after it
abbrev pub and_data : (List Lexeme → Book) → Read → Book
and_data more (Got x ls r) = and_events x (more r)
and_data more (Stop s) = book [] s

abbrev pub data_of : ℕ → List Lexeme → Book
data_of zero r = book [] None
data_of (suc k) [] = book [] None
data_of (suc k) (End s ∷ r) = book [] None
data_of (suc k) r = and_data (data_of k) (read (enough r) Datum Unused r)

-- the bytes read as a book's beginning or as a whole book
abbrev pub reading : Ending → List ℕ → Book
reading e bytes = let r = lexemes e bytes in data_of (enough r) r

abbrev pub limit : ℕ
limit = 2 ^ 40

abbrev pub cut_short : Book → Book
cut_short b = elim b.fault [ Some f ↦ b | None ↦ book b.events (Some (fault LENGTH limit)) ]

-- The events of a book and its first fault. A fault that is met before the book is too long comes first.
abbrev pub trees : List ℕ → Book
trees bytes = if leb (length bytes) limit then reading Ends bytes else cut_short (reading Goes (take limit bytes))
