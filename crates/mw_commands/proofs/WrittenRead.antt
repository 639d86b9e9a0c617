-- Data that are written, one on each line, perhaps with comments between, are read as just these data.
use Rattle.std.proofs.Common.{◌≡◌, ℕ, zero, suc, ◌+◌, ◌≤◌, ◌<◌, Bool, true, false, ltb, List, [], ◌∷◌, ◌++◌, length, Option, Some, None, ◌⊎◌, inl, inr, refl, sym, ap, ap₂, ◌∙◌, subst, arith, append_assoc, length-append, zero-le, if◌then◌else◌}
use Rattle.std.proofs.lemmas.Bool.{and_right}
use Rattle.mw_model.specs.Terms.Object.{Object, Pair}
use Rattle.mw_model.specs.Values.Value.{pick}
use Rattle.mw_model.specs.Events.Fate.{longest}
use Rattle.mw_model.specs.Texts.Lexemes.{Lexeme, LABEL, Atom, Open, Close, Dot, Quote, Mark, Ref, Wrong, Stray, End, Fault, Ends, lexemes, lexemes_from, class, piece, extent, is_inside_comment}
use Rattle.mw_model.specs.Texts.Grammar.{Labels, Label, Unused, Read, Got, Stop, and_then, quoting, labelling, pairing, and_tail, halt, closing, reference, Part, Datum, First, Tail, Last, read, labelled, is_begun, Book, book, and_events, enough, and_data, data_of, reading}
use Rattle.mw_model.specs.Texts.Printing.{text_of}
use Rattle.mw_model.specs.Texts.Written.{IsLabelled, IsWritten, IsDatumLine, IsBookText, no_lines, datum_line, comment_line}
use Rattle.mw_model.specs.Texts.Pieces.{InOrder}
use Rattle.mw_model.proofs.Locality.{Alike, atoms, opens, closes, dots, quotes, marks, refs, AllAlike, none_alike, more_alike, Taken, taken}
use Rattle.mw_model.proofs.TextReadBack.{reading-text_of}
use Rattle.mw_model.proofs.Lexing.{run_of-append, lexemes_from-taken}
use Rattle.mw_commands.proofs.LexingLines.{no_newline, NoEnd, piece_no_end, has_comment, line}

-- each fault is said, and there is one end
abbrev IsFinal : List Lexeme → Type 0
IsFinal [] = ⊥
IsFinal (End None ∷ L) = ⊥
IsFinal (End (Some f) ∷ []) = Unit {0}
IsFinal (End (Some f) ∷ (l ∷ L)) = ⊥
IsFinal (Wrong o None ∷ L) = ⊥
IsFinal (Wrong o (Some f) ∷ L) = IsFinal L
IsFinal (l ∷ L) = IsFinal L

final_rest : (L M r : List Lexeme) → AllAlike L M → IsFinal (L ++ r) → IsFinal r
final_rest L M r none_alike f = f
final_rest L M r (more_alike l m L' M' a h) f = final_rest L' M' r h (final_later l m (L' ++ r) a f)
  where
    final_later : (l m : Lexeme) (K : List Lexeme) → Alike l m → IsFinal (l ∷ K) → IsFinal K
    final_later (Atom o x) m K a f = f
    final_later (Open o) m K a f = f
    final_later (Close o) m K a f = f
    final_later (Dot o) m K a f = f
    final_later (Quote o) m K a f = f
    final_later (Mark o n) m K a f = f
    final_later (Ref o n) m K a f = f
    final_later (Wrong o s) m K a f = elim a [ ]
    final_later (Stray g) m K a f = elim a [ ]
    final_later (End s) m K a f = elim a [ ]

-- how many steps are enough
abbrev steps : Part → ℕ → ℕ
steps Datum n = n + n
steps First n = suc (n + n)
steps Tail n = suc (n + n)
steps Last n = suc (n + n)

-- with enough steps reading never stops without a reason
then_stops : (m : Read) (f : Object → Labels → List Lexeme → Read) → and_then m f ≡ Stop None → (m ≡ Stop None) ⊎ ((x : Object) × (ls : Labels) × (r : List Lexeme) × (m ≡ Got x ls r) × (f x ls r ≡ Stop None))
then_stops (Got x ls r) f h = inr (x, ls, r, refl, h)
then_stops (Stop s) f h = inl h

closing_stops : (x : Object) (ls : Labels) (r : List Lexeme) → IsFinal r → closing x ls r ≡ Stop None → ⊥
closing_stops x ls [] f h = f
closing_stops x ls (Close o ∷ r) f h = cc
closing_stops x ls (Stray g ∷ r) f h = cc
closing_stops x ls (End None ∷ r) f h = f
closing_stops x ls (End (Some g) ∷ r) f h = cc
closing_stops x ls (_ ∷ r) f h = cc

-- what is left after something that is taken
left_final : (p : Part) (ls : Labels) (L : List Lexeme) (x : Object) (after : Labels) (r : List Lexeme) → Taken p ls L x after r → IsFinal L → IsFinal r × (length r < length L)
left_final p ls L x after r t f =
    (final_rest t.front t.front r t.clean (subst IsFinal t.is f), omega (arith, t.some, ap length t.is, length-append t.front r))

list_stops : (k : ℕ) (p : Part) (ls : Labels) (L : List Lexeme) → IsFinal L → steps First (length L) ≤ suc k → and_then (read k Datum ls L) (and_tail (read k Tail)) ≡ Stop None → (read k Datum ls L ≡ Stop None → ⊥) → ((ls : Labels) (r : List Lexeme) → IsFinal r → steps Tail (length r) ≤ k → read k Tail ls r ≡ Stop None → ⊥) → ⊥
list_stops k p ls L f n h a b = elim (then_stops (read k Datum ls L) (and_tail (read k Tail)) h) as (λ o. ⊥) [ inl e ↦ a e | inr e ↦ later e.0 e.1 e.2 e.3 e.4 ]
  where
    later : (x : Object) (after : Labels) (r : List Lexeme) → read k Datum ls L ≡ Got x after r → and_then (read k Tail after r) (pairing x) ≡ Stop None → ⊥
    later x after r e g =
        let l = left_final Datum ls L x after r (taken k Datum ls L x after r e) f in
        elim (then_stops (read k Tail after r) (pairing x) g) as (λ o. ⊥) [ inl u ↦ b after r l.0 (omega (arith, l.1)) u | inr u ↦ (let w : Got (Pair x u.0) u.1 u.2 ≡ Stop None = u.4 in cc) ]

last_stops : (k : ℕ) (ls : Labels) (L : List Lexeme) → IsFinal L → and_then (read k Datum ls L) closing ≡ Stop None → (read k Datum ls L ≡ Stop None → ⊥) → ⊥
last_stops k ls L f h a = elim (then_stops (read k Datum ls L) closing h) as (λ o. ⊥) [ inl e ↦ a e | inr e ↦ closing_stops e.0 e.1 e.2 (left_final Datum ls L e.0 e.1 e.2 (taken k Datum ls L e.0 e.1 e.2 e.3) f).0 e.4 ]

quote_stops : (m : Read) → and_then m quoting ≡ Stop None → m ≡ Stop None
quote_stops (Got x ls r) h = cc
quote_stops (Stop s) h = h

mark_stops : (b : Bool) (o n : ℕ) (m : Read) → (if b then halt LABEL o else and_then m (labelling n)) ≡ Stop None → m ≡ Stop None
mark_stops true o n m h = cc
mark_stops false o n (Got x ls r) h = cc
mark_stops false o n (Stop s) h = h

ref_stops : (o : ℕ) (y : Option Object) (ls : Labels) (r : List Lexeme) → reference o y ls r ≡ Stop None → ⊥
ref_stops o None ls r h = cc
ref_stops o (Some x) ls r h = cc

says_why : (k : ℕ) (p : Part) (ls : Labels) (L : List Lexeme) → IsFinal L → steps p (length L) ≤ k → read k p ls L ≡ Stop None → ⊥
says_why k p ls [] f n h = f
says_why zero Datum ls (l ∷ L) f n h = omega arith
says_why zero First ls (l ∷ L) f n h = omega arith
says_why zero Tail ls (l ∷ L) f n h = omega arith
says_why zero Last ls (l ∷ L) f n h = omega arith
says_why (suc k) Datum ls (Atom o y ∷ L) f n h = cc
says_why (suc k) Datum ls (Open o ∷ L) f n h = says_why k First ls L f (omega arith) h
says_why (suc k) Datum ls (Quote o ∷ L) f n h = says_why k Datum ls L f (omega arith) (quote_stops (read k Datum ls L) h)
says_why (suc k) Datum ls (Mark o m ∷ L) f n h = says_why k Datum (Label m None ls) L f (omega arith) (mark_stops (is_begun m ls) o m (read k Datum (Label m None ls) L) h)
says_why (suc k) Datum ls (Ref o m ∷ L) f n h = ref_stops o (labelled m ls) ls L h
says_why (suc k) Datum ls (Wrong o None ∷ L) f n h = f
says_why (suc k) Datum ls (Wrong o (Some g) ∷ L) f n h = cc
says_why (suc k) Datum ls (End None ∷ L) f n h = f
says_why (suc k) Datum ls (End (Some g) ∷ L) f n h = cc
says_why (suc k) Datum ls (_ ∷ L) f n h = cc
says_why (suc k) First ls (Close o ∷ L) f n h = cc
says_why (suc k) First ls (l ∷ L) f n h = list_stops k First ls (l ∷ L) f n h (λ e. says_why k Datum ls (l ∷ L) f (omega arith) e) (λ ms r g m e. says_why k Tail ms r g m e)
says_why (suc k) Tail ls (Close o ∷ L) f n h = cc
says_why (suc k) Tail ls (Dot o ∷ L) f n h = says_why k Last ls L f (omega arith) h
says_why (suc k) Tail ls (l ∷ L) f n h = list_stops k Tail ls (l ∷ L) f n h (λ e. says_why k Datum ls (l ∷ L) f (omega arith) e) (λ ms r g m e. says_why k Tail ms r g m e)
says_why (suc k) Last ls (Close o ∷ L) f n h = cc
says_why (suc k) Last ls (l ∷ L) f n h = last_stops k ls (l ∷ L) f h (λ e. says_why k Datum ls (l ∷ L) f (omega arith) e)

-- ---- the lexemes of a text

said_final : (P X : List Lexeme) → NoEnd P → IsFinal X → IsFinal (P ++ X)
said_final [] X n f = f
said_final (Atom o x ∷ P) X n f = said_final P X n f
said_final (Open o ∷ P) X n f = said_final P X n f
said_final (Close o ∷ P) X n f = said_final P X n f
said_final (Dot o ∷ P) X n f = said_final P X n f
said_final (Quote o ∷ P) X n f = said_final P X n f
said_final (Mark o m ∷ P) X n f = said_final P X n f
said_final (Ref o m ∷ P) X n f = said_final P X n f
said_final (Wrong o None ∷ P) X n f = absurd n
said_final (Wrong o (Some g) ∷ P) X n f = said_final P X n f
said_final (Stray g ∷ P) X n f = said_final P X n f
said_final (End s ∷ P) X n f = absurd n

final : (t : List ℕ) (o n : ℕ) → IsFinal (lexemes_from Ends o n t)
final [] o n = tt
final (b ∷ t) o (suc n) = final t (suc o) n
final (b ∷ t) o zero = said_final (piece (class b) Ends o b t) (lexemes_from Ends (suc o) (extent (class b) t) t) (piece_no_end (class b) b t o) (final t (suc o) (extent (class b) t))

-- ---- data

pub enough_is : (L : List Lexeme) → enough L ≡ suc (length L + length L)
enough_is [] = refl
enough_is (l ∷ L) = let e = enough_is L in omega arith

no_book : (x : Object) (xs : List Object) (b : Book) → and_events x b ≡ book [] None → ⊥
no_book x xs b h = let e : x ∷ b.events ≡ [] = ap (λ z. z.events) h in cc

stopped_alone : (k : ℕ) (L : List Lexeme) → IsFinal L → steps Datum (length L) ≤ k → (m : Read) → read k Datum Unused L ≡ m → (more : List Lexeme → Book) → and_data more m ≡ book [] None → ⊥
stopped_alone k L f n (Got x ls r) e more h = no_book x [] (more r) h
stopped_alone k L f n (Stop s) e more h = says_why k Datum Unused L f n (e ∙ ap Stop (ap (λ z. z.fault) h))

ends_alone : (k : ℕ) (L : List Lexeme) → IsFinal L → length L ≤ k → data_of k L ≡ book [] None → (s : Option Fault) × (L ≡ End s ∷ [])
ends_alone k [] f n h = absurd f
ends_alone zero (l ∷ L) f n h = absurd (omega arith)
ends_alone (suc k) (End None ∷ L) f n h = absurd f
ends_alone (suc k) (End (Some g) ∷ []) f n h = (Some g, refl)
ends_alone (suc k) (End (Some g) ∷ (l ∷ L)) f n h = absurd f
ends_alone (suc k) (l ∷ L) f n h = absurd (stopped_alone (enough (l ∷ L)) (l ∷ L) f (omega (arith, enough_is L)) (read (enough (l ∷ L)) Datum Unused (l ∷ L)) refl (data_of k) h)

pub record OneDatum (L : List Lexeme) (x : Object) : Type 0 where
  pub after : Labels
  pub s : Option Fault
  pub one : Taken Datum Unused L x after (End s ∷ [])

read_one : (k : ℕ) (L : List Lexeme) (x : Object) → IsFinal L → length L ≤ suc k → (m : Read) → read (enough L) Datum Unused L ≡ m → and_data (data_of k) m ≡ book (x ∷ []) None → OneDatum L x
read_one k L x f n (Got y ls r) e h =
    let same : y ≡ x = (let q : y ∷ (data_of k r).events ≡ x ∷ [] = ap (λ z. z.events) h in cc) in
    let none : (data_of k r).events ≡ [] = (let q : y ∷ (data_of k r).events ≡ x ∷ [] = ap (λ z. z.events) h in cc) in
    let t = taken (enough L) Datum Unused L y ls r e in
    let l = left_final Datum Unused L y ls r t f in
    let a = ends_alone k r l.0 (omega (arith, l.1)) (ap₂ book none (ap (λ z. z.fault) h)) in
    record { after = ls; s = a.0; one = subst (λ z. Taken Datum Unused L z ls (End a.0 ∷ [])) same (subst (λ z. Taken Datum Unused L y ls z) a.1 t) }
read_one k L x f n (Stop s) e h = let q : [] ≡ x ∷ [] = ap (λ z. z.events) h in cc

one_datum : (k : ℕ) (L : List Lexeme) (x : Object) → IsFinal L → length L ≤ k → data_of k L ≡ book (x ∷ []) None → OneDatum L x
one_datum k [] x f n h = absurd f
one_datum zero (l ∷ L) x f n h = absurd (omega arith)
one_datum (suc k) (End s ∷ L) x f n h = let q : [] ≡ x ∷ [] = ap (λ z. z.events) h in cc
one_datum (suc k) (l ∷ L) x f n h = read_one k (l ∷ L) x f n (read (enough (l ∷ L)) Datum Unused (l ∷ L)) refl h

-- ---- lines

pub alike_length : (L M : List Lexeme) → AllAlike L M → length M ≡ length L
alike_length L M none_alike = refl
alike_length L M (more_alike l m L' M' a h) = ap suc (alike_length L' M' h)

data_begin : (k : ℕ) (l m : Lexeme) (N : List Lexeme) → Alike l m → data_of (suc k) (m ∷ N) ≡ and_data (data_of k) (read (enough (m ∷ N)) Datum Unused (m ∷ N))
data_begin k l m N (atoms o p x) = refl
data_begin k l m N (opens o p) = refl
data_begin k l m N (closes o p) = refl
data_begin k l m N (dots o p) = refl
data_begin k l m N (quotes o p) = refl
data_begin k l m N (marks o p n) = refl
data_begin k l m N (refs o p n) = refl

data_alike : (k : ℕ) (L K N : List Lexeme) → AllAlike L K → 0 < length L → data_of (suc k) (K ++ N) ≡ and_data (data_of k) (read (enough (K ++ N)) Datum Unused (K ++ N))
data_alike k L K N none_alike s = absurd (omega arith)
data_alike k L K N (more_alike l m L' K' a h) s = data_begin k l m (K' ++ N) a

-- these lexemes, with enough steps, are read as just these data
abbrev pub ReadAs : List Lexeme → List Object → Type 0
ReadAs L xs = (k : ℕ) → length L ≤ k → data_of k L ≡ book xs None

before_others : (k : ℕ) (x : Object) (xs : List Object) (L K N : List Lexeme) (after : Labels) (r : List Lexeme) → Taken Datum Unused L x after r → (front : List Lexeme) → AllAlike front K → 0 < length front → read (enough (K ++ N)) Datum Unused (K ++ N) ≡ Got x after N → ReadAs N xs → length (K ++ N) ≤ k → data_of k (K ++ N) ≡ book (x ∷ xs) None
before_others zero x xs L K N after r t front a s e h n = absurd (omega (arith, length-append K N, alike_length front K a))
before_others (suc k) x xs L K N after r t front a s e h n =
    data_alike k front K N a s ∙ (ap (and_data (data_of k)) e ∙ ap (and_events x) (h k (omega (arith, length-append K N, alike_length front K a))))

-- the one datum of a text, from its bytes
pub datum_read : (x : Object) (t : List ℕ) → reading Ends t ≡ book (x ∷ []) None → OneDatum (lexemes Ends t) x
datum_read x t h = let L = lexemes Ends t in one_datum (enough L) L x (final t 0 0) (omega (arith, enough_is L)) h

-- lexemes alike those of a datum are read as it, and then comes what is read of the others
pub datum_first : (x : Object) (xs : List Object) (L : List Lexeme) (d : OneDatum L x) (K N : List Lexeme) → AllAlike d.one.front K → ReadAs N xs → ReadAs (K ++ N) (x ∷ xs)
datum_first x xs L d K N a more k n =
    before_others k x xs L K N d.after (End d.s ∷ []) d.one d.one.front a d.one.some
    (d.one.reads (enough (K ++ N)) K N a (omega (arith, enough_is (K ++ N), length-append K N, alike_length d.one.front K a))) more n

pub nothing_read : (s : Option Fault) → ReadAs (End s ∷ []) []
nothing_read s zero n = absurd (omega arith)
nothing_read s (suc k) n = refl

pub line_read : (x : Object) (xs : List Object) (t rest : List ℕ) → reading Ends t ≡ book (x ∷ []) None → ((o : ℕ) → ReadAs (lexemes_from Ends o 0 rest) xs) → (o : ℕ) → ReadAs (lexemes_from Ends o 0 (t ++ 10 ∷ rest)) (x ∷ xs)
line_read x xs t rest h more o =
    let d = datum_read x t h in
    let l = line 10 (refl, refl) rest t 0 o 0 d.one.front d.s zero-le (and_right (has_comment 0 t) false refl) d.one.is d.one.clean in
    subst (λ z. ReadAs z (x ∷ xs)) (sym l.cut) (datum_first x xs (lexemes Ends t) d l.lexed (lexemes_from Ends (suc (o + length t)) 0 rest) l.alike (more (suc (o + length t))))

-- what is written for a datum is read as just this
pub written_is_read : (x : Object) (first next : ℕ) (t : List ℕ) → IsWritten x first t next → reading Ends t ≡ book (x ∷ []) None
written_is_read x first next t h = go (ltb longest (length (text_of x))) h.0
  where
    go : (b : Bool) → pick b (IsLabelled x first t next) ((t ≡ text_of x) × (next ≡ first)) → reading Ends t ≡ book (x ∷ []) None
    go true l = l.reads
    go false p = ap (reading Ends) p.0 ∙ reading-text_of x

pub datum_line_read : (x : Object) (xs : List Object) (line rest : List ℕ) → IsDatumLine x line → ((o : ℕ) → ReadAs (lexemes_from Ends o 0 rest) xs) → (o : ℕ) → ReadAs (lexemes_from Ends o 0 (line ++ rest)) (x ∷ xs)
datum_line_read x xs line rest l more o =
    let is : line ++ rest ≡ l.0 ++ 10 ∷ rest = ap (λ z. z ++ rest) l.3 ∙ append_assoc l.0 (10 ∷ []) rest in
    subst (λ z. ReadAs (lexemes_from Ends o 0 z) (x ∷ xs)) (sym is) (line_read x xs l.0 rest (written_is_read x 1 l.1 l.0 l.2) more o)

comment_read : (xs : List Object) (c rest : List ℕ) → no_newline c ≡ true → ((o : ℕ) → ReadAs (lexemes_from Ends o 0 rest) xs) → (o : ℕ) → ReadAs (lexemes_from Ends o 0 (59 ∷ (c ++ 10 ∷ rest))) xs
comment_read xs c rest h more o =
    let cut : lexemes_from Ends o 0 (59 ∷ (c ++ 10 ∷ rest)) ≡ lexemes_from Ends (suc (suc o + length c)) 0 rest =
    ap (λ z. lexemes_from Ends (suc o) (length z) (c ++ 10 ∷ rest)) (run_of-append is_inside_comment c (10 ∷ rest) h refl) ∙ lexemes_from-taken Ends c (10 ∷ rest) (suc o) in
    subst (λ z. ReadAs z xs) (sym cut) (more (suc (suc o + length c)))

pub text_read : (xs : List Object) (text : List ℕ) → IsBookText xs text → (o : ℕ) → ReadAs (lexemes_from Ends o 0 text) xs
text_read xs text no_lines o = nothing_read _
text_read xs text (datum_line x ys line rest l w) o = datum_line_read x ys line rest l (text_read ys rest w) o
text_read xs text (comment_line ys c rest h w) o = comment_read ys c rest h (text_read ys rest w) o

pub whole_read : (xs : List Object) (text : List ℕ) → ((o : ℕ) → ReadAs (lexemes_from Ends o 0 text) xs) → reading Ends text ≡ book xs None
whole_read xs text h = h 0 (enough (lexemes Ends text)) (omega (arith, enough_is (lexemes Ends text)))

-- a text of data and comments is read as just these data
pub text_is_read : (xs : List Object) (text : List ℕ) → IsBookText xs text → reading Ends text ≡ book xs None
text_is_read xs text w = whole_read xs text (text_read xs text w)

-- data alone
pub lines_are_text : (xs : List Object) (text : List ℕ) → InOrder IsDatumLine xs text → IsBookText xs text
lines_are_text [] text e = subst (IsBookText []) (sym e) no_lines
lines_are_text (x ∷ xs) text w = subst (IsBookText (x ∷ xs)) (sym w.2) (datum_line x xs w.0 w.1 w.3 (lines_are_text xs w.1 w.4))
