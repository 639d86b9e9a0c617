-- What a state means: the rest of the grammar's reading.
use Rattle.std.specs.Prelude.{List, [], ◌∷◌, Some}
use Rattle.mw_model.specs.Terms.Object.{Object}
use Rattle.mw_model.specs.Texts.Lexemes.{Lexeme}
use Rattle.mw_model.specs.Texts.Grammar.{Labels, Read, Got, and_then, quoting, closing, labelling, Part, Datum, First, Tail, Last, read, enough, Book, book, and_events, and_data, data_of}
use Rattle.mw_read.specs.Machine.{Frame, Members, Tailed, Quoting, Marking, State, Idle, Within, Full, Broken, Turn, fill}

abbrev pub reads : Part → Labels → List Lexeme → Read
reads p ls r = read (enough r) p ls r

-- the data after a datum
abbrev pub rest : List Lexeme → Book
rest r = data_of (enough r) r

abbrev pub filling : List Object → Object → Labels → List Lexeme → Read
filling xs y ls r = Got (fill xs y) ls r

-- the rest of the datum that a frame has begun
abbrev pub waits : Frame → Labels → List Lexeme → Read
waits (Members []) ls r = reads First ls r
waits (Members (x ∷ xs)) ls r = and_then (reads Tail ls r) (filling (x ∷ xs))
waits (Tailed xs) ls r = and_then (reads Last ls r) (filling xs)
waits Quoting ls r = and_then (reads Datum ls r) quoting
waits (Marking n) ls r = and_then (reads Datum ls r) (labelling n)

-- the same, once the frame has been given a datum
abbrev pub hand : Frame → Object → Labels → List Lexeme → Read
hand (Members xs) x ls r = and_then (reads Tail ls r) (filling (x ∷ xs))
hand (Tailed xs) x ls r = and_then (closing x ls r) (filling xs)
hand Quoting x ls r = quoting x ls r
hand (Marking n) x ls r = labelling n x ls r

-- what a reading in the innermost frame makes of the book
abbrev pub unwind : List Frame → Read → Book
unwind [] m = and_data rest m
unwind (f ∷ s) m = unwind s (and_then m (hand f))

abbrev pub resume : State → List Lexeme → Book
resume Idle r = rest r
resume (Within f s ls) r = unwind s (waits f ls r)
resume (Full xs x s ls) r = unwind s (and_then (closing x ls r) (filling xs))
resume (Broken f) r = book [] (Some f)

abbrev pub onward : List Object → Book → Book
onward [] b = b
onward (x ∷ xs) b = and_events x (onward xs b)

-- the rest of the book after a turn
abbrev pub following : Turn → List Lexeme → Book
following t r = onward t.events (resume t.state r)
