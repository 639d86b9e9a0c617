-- What is read of bytes after which more may follow is read whatever follows: complete data, and a fault that is found.
use Rattle.std.proofs.Common.{◌≡◌, ℕ, zero, suc, ◌≤◌, ◌<◌, Bool, true, false, List, [], ◌∷◌, ◌++◌, Option, Some, None, refl, sym, ap, subst, arith, if◌then◌else◌}
use Rattle.mw_model.specs.Terms.Object.{Object, Pair, NIL}
use Rattle.mw_model.specs.Texts.Lexemes.{Lexeme, Atom, Open, Close, Dot, Quote, Mark, Ref, Wrong, Stray, End, Fault, fault, CLOSE, DOT, LABEL, Ending, Goes, lexemes}
use Rattle.mw_model.specs.Texts.Grammar.{Labels, Unused, Label, Read, Got, Stop, and_then, quoted, quoting, labelling, pairing, and_tail, halt, closing, reference, complete, Part, Datum, First, Tail, Last, read, labelled, is_begun, Book, book, and_events, enough, and_data, data_of, reading}
use Rattle.mw_model.proofs.LexemesGrow.{BeginsAt, GrowInto, ended, completed, kept, lexemes_grow}

-- ---- what is read at the front

-- A reading that stops with no fault may become any other.
pub data ReadGrows : Read → Read → Type 0 where
  unread : (m : Read) → ReadGrows (Stop None) m
  faulty : (f : Fault) → ReadGrows (Stop (Some f)) (Stop (Some f))
  got : (x : Object) (ls : Labels) (L M : List Lexeme) → GrowInto L M → ReadGrows (Got x ls L) (Got x ls M)

stops : (s : Option Fault) → ReadGrows (Stop s) (Stop s)
stops None = unread (Stop None)
stops (Some f) = faulty f

and_then_grows : (m n : Read) (f g : Object → Labels → List Lexeme → Read) → ReadGrows m n → ((x : Object) (ls : Labels) (L M : List Lexeme) → GrowInto L M → ReadGrows (f x ls L) (g x ls M)) → ReadGrows (and_then m f) (and_then n g)
and_then_grows m n f g (unread k) h = unread (and_then k g)
and_then_grows m n f g (faulty s) h = faulty s
and_then_grows m n f g (got x ls L M r) h = h x ls L M r

-- After the datum that follows a dot even a lexeme that is not complete is a fault. The fault tells only its offset, so it is
-- the same whatever the lexeme becomes.
closing_halts : (o : ℕ) (l : Lexeme) (M : List Lexeme) (x : Object) (ls : Labels) → BeginsAt o l → closing x ls (l ∷ M) ≡ halt DOT o
closing_halts o (Atom p y) M x ls b = ap (halt DOT) b
closing_halts o (Dot p) M x ls b = ap (halt DOT) b
closing_halts o (Mark p n) M x ls b = ap (halt DOT) b
closing_halts o (Ref p n) M x ls b = ap (halt DOT) b
closing_halts o (Wrong p s) M x ls b = ap (halt DOT) b
closing_halts o (_) M x ls b = absurd b

closing_grows : (x : Object) (ls : Labels) (L M : List Lexeme) → GrowInto L M → ReadGrows (closing x ls L) (closing x ls M)
closing_grows x ls L M (ended l N) = unread (closing x ls (l ∷ N))
closing_grows x ls L M (completed o l K N b r) = subst (ReadGrows (halt DOT o)) (sym (closing_halts o l N x ls b)) (faulty (fault DOT o))
closing_grows x ls L M (kept (Close o) K N r) = got x ls K N r
closing_grows x ls L M (kept (Stray f) K N r) = faulty f
closing_grows x ls L M (kept (End s) K N r) = stops s
closing_grows x ls L M (kept (Atom o y) K N r) = faulty (fault DOT o)
closing_grows x ls L M (kept (Open o) K N r) = faulty (fault DOT o)
closing_grows x ls L M (kept (Dot o) K N r) = faulty (fault DOT o)
closing_grows x ls L M (kept (Quote o) K N r) = faulty (fault DOT o)
closing_grows x ls L M (kept (Mark o n) K N r) = faulty (fault DOT o)
closing_grows x ls L M (kept (Ref o n) K N r) = faulty (fault DOT o)
closing_grows x ls L M (kept (Wrong o s) K N r) = faulty (fault DOT o)

-- at the end, and at a lexeme that is not complete, nothing is read
end_unread : (k : ℕ) (p : Part) (ls : Labels) → read k p ls (End None ∷ []) ≡ Stop None
end_unread zero p ls = refl
end_unread (suc k) Datum ls = refl
end_unread (suc k) First ls = ap (λ m. and_then m (and_tail (read k Tail))) (end_unread k Datum ls)
end_unread (suc k) Tail ls = ap (λ m. and_then m (and_tail (read k Tail))) (end_unread k Datum ls)
end_unread (suc k) Last ls = ap (λ m. and_then m closing) (end_unread k Datum ls)

begun_unread : (k : ℕ) (p : Part) (ls : Labels) (o : ℕ) (L : List Lexeme) → read k p ls (Wrong o None ∷ L) ≡ Stop None
begun_unread zero p ls o L = refl
begun_unread (suc k) Datum ls o L = refl
begun_unread (suc k) First ls o L = ap (λ m. and_then m (and_tail (read k Tail))) (begun_unread k Datum ls o L)
begun_unread (suc k) Tail ls o L = ap (λ m. and_then m (and_tail (read k Tail))) (begun_unread k Datum ls o L)
begun_unread (suc k) Last ls o L = ap (λ m. and_then m closing) (begun_unread k Datum ls o L)

mark_grows : (v : Bool) (o n : ℕ) (a b : Read) → ReadGrows a b → ReadGrows (if v then halt LABEL o else and_then a (labelling n)) (if v then halt LABEL o else and_then b (labelling n))
mark_grows true o n a b r = faulty (fault LABEL o)
mark_grows false o n a b r = and_then_grows a b (labelling n) (labelling n) r (λ x ls L M s. got x (complete n x ls) L M s)

reference_grows : (o : ℕ) (x : Option Object) (ls : Labels) (L M : List Lexeme) → GrowInto L M → ReadGrows (reference o x ls L) (reference o x ls M)
reference_grows o None ls L M g = faulty (fault LABEL o)
reference_grows o (Some x) ls L M g = got x ls L M g

-- the members of a list
members_grow : (k j : ℕ) (ls : Labels) (L M : List Lexeme) → ReadGrows (read k Datum ls L) (read j Datum ls M) → ((ms : Labels) (A B : List Lexeme) → GrowInto A B → ReadGrows (read k Tail ms A) (read j Tail ms B)) → ReadGrows (and_then (read k Datum ls L) (and_tail (read k Tail))) (and_then (read j Datum ls M) (and_tail (read j Tail)))
members_grow k j ls L M d t =
    and_then_grows (read k Datum ls L) (read j Datum ls M) (and_tail (read k Tail)) (and_tail (read j Tail)) d
    (λ x ms A B s. and_then_grows (read k Tail ms A) (read j Tail ms B) (pairing x) (pairing x) (t ms A B s) (λ y ns C D q. got (Pair x y) ns C D q))

-- With k steps or more. These may be too few: then the reading stops with no fault.
read_grows : (k j : ℕ) (p : Part) (ls : Labels) (L M : List Lexeme) → k ≤ j → GrowInto L M → ReadGrows (read k p ls L) (read j p ls M)
read_grows zero j p ls L M l g = unread (read j p ls M)
read_grows (suc k) zero p ls L M l g = absurd (omega arith)
read_grows (suc k) (suc j) p ls L M l (ended m N) = subst (λ a. ReadGrows a (read (suc j) p ls (m ∷ N))) (sym (end_unread (suc k) p ls)) (unread (read (suc j) p ls (m ∷ N)))
read_grows (suc k) (suc j) p ls L M l (completed o m K N b r) = subst (λ a. ReadGrows a (read (suc j) p ls (m ∷ N))) (sym (begun_unread (suc k) p ls o K)) (unread (read (suc j) p ls (m ∷ N)))
read_grows (suc k) (suc j) Datum ls L M l (kept (Atom o x) K N r) = got x ls K N r
read_grows (suc k) (suc j) Datum ls L M l (kept (Open o) K N r) = read_grows k j First ls K N (omega arith) r
read_grows (suc k) (suc j) Datum ls L M l (kept (Quote o) K N r) = and_then_grows (read k Datum ls K) (read j Datum ls N) quoting quoting (read_grows k j Datum ls K N (omega arith) r) (λ x ms A B s. got (quoted x) ms A B s)
read_grows (suc k) (suc j) Datum ls L M l (kept (Mark o n) K N r) = mark_grows (is_begun n ls) o n (read k Datum (Label n None ls) K) (read j Datum (Label n None ls) N) (read_grows k j Datum (Label n None ls) K N (omega arith) r)
read_grows (suc k) (suc j) Datum ls L M l (kept (Ref o n) K N r) = reference_grows o (labelled n ls) ls K N r
read_grows (suc k) (suc j) Datum ls L M l (kept (Close o) K N r) = faulty (fault CLOSE o)
read_grows (suc k) (suc j) Datum ls L M l (kept (Dot o) K N r) = faulty (fault DOT o)
read_grows (suc k) (suc j) Datum ls L M l (kept (Wrong o s) K N r) = stops s
read_grows (suc k) (suc j) Datum ls L M l (kept (Stray f) K N r) = faulty f
read_grows (suc k) (suc j) Datum ls L M l (kept (End s) K N r) = stops s
read_grows (suc k) (suc j) First ls L M l (kept (Close o) K N r) = got NIL ls K N r
read_grows (suc k) (suc j) First ls L M l (kept m K N r) = members_grow k j ls (m ∷ K) (m ∷ N) (read_grows k j Datum ls (m ∷ K) (m ∷ N) (omega arith) (kept m K N r)) (λ ms A B s. read_grows k j Tail ms A B (omega arith) s)
read_grows (suc k) (suc j) Tail ls L M l (kept (Close o) K N r) = got NIL ls K N r
read_grows (suc k) (suc j) Tail ls L M l (kept (Dot o) K N r) = read_grows k j Last ls K N (omega arith) r
read_grows (suc k) (suc j) Tail ls L M l (kept m K N r) = members_grow k j ls (m ∷ K) (m ∷ N) (read_grows k j Datum ls (m ∷ K) (m ∷ N) (omega arith) (kept m K N r)) (λ ms A B s. read_grows k j Tail ms A B (omega arith) s)
read_grows (suc k) (suc j) Last ls L M l (kept (Close o) K N r) = faulty (fault DOT o)
read_grows (suc k) (suc j) Last ls L M l (kept m K N r) = and_then_grows (read k Datum ls (m ∷ K)) (read j Datum ls (m ∷ N)) closing closing (read_grows k j Datum ls (m ∷ K) (m ∷ N) (omega arith) (kept m K N r)) closing_grows

-- ---- all the data

pub record BookGrows (a b : Book) : Type 0 where
  pub more : List Object
  pub events : b.events ≡ a.events ++ more
  pub same : (f : Fault) → a.fault ≡ Some f → b ≡ a

from_none : (b : Book) → BookGrows (book [] None) b
from_none b = record { more = b.events; events = refl; same = λ f h. cc }

and_data_grows : (m n : Read) (f g : List Lexeme → Book) → ReadGrows m n → ((L M : List Lexeme) → GrowInto L M → BookGrows (f L) (g M)) → BookGrows (and_data f m) (and_data g n)
and_data_grows m n f g (unread a) h = from_none (and_data g a)
and_data_grows m n f g (faulty s) h = record { more = []; events = refl; same = λ t e. refl }
and_data_grows m n f g (got x ls L M r) h = let b = h L M r in record { more = b.more; events = ap (λ u. x ∷ u) b.events; same = λ s e. ap (and_events x) (b.same s e) }

enough_some : (L : List Lexeme) → 0 < enough L
enough_some [] = omega arith
enough_some (l ∷ L) = omega arith

enough_grows : (L M : List Lexeme) → GrowInto L M → enough L ≤ enough M
enough_grows L M (ended l N) = let s = enough_some N in omega arith
enough_grows L M (completed o l K N b r) = let h = enough_grows K N r in omega arith
enough_grows L M (kept l K N r) = let h = enough_grows K N r in omega arith

data_grow : (k j : ℕ) (L M : List Lexeme) → k ≤ j → GrowInto L M → BookGrows (data_of k L) (data_of j M)
data_grow zero j L M l g = from_none (data_of j M)
data_grow (suc k) zero L M l g = absurd (omega arith)
data_grow (suc k) (suc j) L M l (ended m N) = from_none (data_of (suc j) (m ∷ N))
data_grow (suc k) (suc j) L M l (completed o m K N b r) = from_none (data_of (suc j) (m ∷ N))
data_grow (suc k) (suc j) L M l (kept (End s) K N r) = from_none (book [] None)
data_grow (suc k) (suc j) L M l (kept m K N r) =
    and_data_grows (read (enough (m ∷ K)) Datum Unused (m ∷ K)) (read (enough (m ∷ N)) Datum Unused (m ∷ N)) (data_of k) (data_of j)
    (read_grows (enough (m ∷ K)) (enough (m ∷ N)) Datum Unused (m ∷ K) (m ∷ N) (enough_grows (m ∷ K) (m ∷ N) (kept m K N r)) (kept m K N r))
    (λ A B s. data_grow k j A B (omega arith) s)

pub reading_grows : (e : Ending) (g h : List ℕ) → BookGrows (reading Goes g) (reading e (g ++ h))
reading_grows e g h =
    let L = lexemes Goes g in
    let M = lexemes e (g ++ h) in
    let r = lexemes_grow e 0 0 g h in data_grow (enough L) (enough M) L M (enough_grows L M r) r
