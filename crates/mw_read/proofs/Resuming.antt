-- A lexeme moves a state as the grammar wants.
use Rattle.std.proofs.Common.{◌≡◌, ℕ, suc, Bool, true, false, List, [], ◌∷◌, ◌++◌, Option, Some, None, refl, ap, ◌∙◌, if◌then◌else◌}
use Rattle.mw_model.specs.Terms.Object.{Object, NIL}
use Rattle.mw_model.specs.Texts.Lexemes.{Lexeme, Atom, Open, Close, Dot, Quote, Mark, Ref, Wrong, Stray, End, Fault, fault, DOT, CLOSE, LABEL}
use Rattle.mw_model.specs.Texts.Grammar.{Labels, Label, Unused, Read, Got, Stop, and_then, quoted, pairing, and_tail, halt, closing, labelling, reference, Datum, Tail, read, labelled, is_begun, complete, enough, Book, book, and_events}
use Rattle.mw_read.specs.Machine.{Frame, Members, Tailed, Quoting, Marking, State, Idle, Within, Full, Broken, quiet, broken, fill, given, refer, taken, within, filled, on}
use Rattle.mw_read.specs.Resume.{reads, rest, filling, waits, hand, unwind, resume, onward, following}
use Rattle.mw_read.proofs.Fuel.{reads_quote, reads_open, reads_mark, reads_dot, reads_pair, reads_last, rest_step}

and_then_assoc : (m : Read) (f g : Object → Labels → List Lexeme → Read) → and_then (and_then m f) g ≡ and_then m (λ x ls r. and_then (f x ls r) g)
and_then_assoc (Got x ls r) f g = refl
and_then_assoc (Stop s) f g = refl

and_then_ext : (m : Read) (f g : Object → Labels → List Lexeme → Read) → ((x : Object) (ls : Labels) (r : List Lexeme) → f x ls r ≡ g x ls r) → and_then m f ≡ and_then m g
and_then_ext (Got x ls r) f g h = h x ls r
and_then_ext (Stop s) f g h = refl

-- a fault inside a datum is the book's
pub unwind_stop : (s : List Frame) (f : Option Fault) → unwind s (Stop f) ≡ book [] f
unwind_stop [] f = refl
unwind_stop (g ∷ s) f = unwind_stop s f

pub unwind_got : (s : List Frame) (x : Object) (ls : Labels) (r : List Lexeme) → unwind s (Got x ls r) ≡ following (given x s ls) r
unwind_got [] x ls r = refl
unwind_got (Members xs ∷ s) x ls r = refl
unwind_got (Tailed xs ∷ s) x ls r = refl
unwind_got (Quoting ∷ s) x ls r = unwind_got s (quoted x) ls r
unwind_got (Marking n ∷ s) x ls r = unwind_got s x (complete n x ls) r

-- what may follow here, but for closings, dots and ends
-- a list's members
members_then : (x : Object) (xs : List Object) (m : Read) →
    and_then (and_then m (and_tail (reads Tail))) (filling (x ∷ xs)) ≡ and_then m (hand (Members (x ∷ xs)))
members_then x xs m =
    and_then_assoc m (and_tail (reads Tail)) (filling (x ∷ xs))
    ∙ and_then_ext m _ (hand (Members (x ∷ xs))) (λ y ls r. and_then_assoc (reads Tail ls r) (pairing y) (filling (x ∷ xs)))

tailed_then : (xs : List Object) (m : Read) → and_then (and_then m closing) (filling xs) ≡ and_then m (hand (Tailed xs))
tailed_then xs m = and_then_assoc m closing (filling xs)

member : (x : Object) (xs : List Object) (ls : Labels) (l : Lexeme) (r : List Lexeme) →
    and_then (and_then (read (suc (enough r)) Datum ls (l ∷ r)) (and_tail (read (suc (enough r)) Tail))) (filling (x ∷ xs)) ≡ and_then (reads Datum ls (l ∷ r)) (hand (Members (x ∷ xs)))
member x xs ls l r = ap (λ v. and_then v (filling (x ∷ xs))) (reads_pair l ls r) ∙ members_then x xs (reads Datum ls (l ∷ r))

last : (xs : List Object) (ls : Labels) (l : Lexeme) (r : List Lexeme) →
    and_then (and_then (read (suc (enough r)) Datum ls (l ∷ r)) closing) (filling xs) ≡ and_then (reads Datum ls (l ∷ r)) (hand (Tailed xs))
last xs ls l r = ap (λ v. and_then v (filling xs)) (reads_last l ls r) ∙ tailed_then xs (reads Datum ls (l ∷ r))

-- a lexeme that is complete
abbrev pub IsSolid : Lexeme → Type 0
IsSolid (Wrong o None) = ⊥
IsSolid (Wrong o (Some f)) = Unit {0}
IsSolid (End s) = ⊥
IsSolid (Atom o x) = Unit {0}
IsSolid (Open o) = Unit {0}
IsSolid (Close o) = Unit {0}
IsSolid (Dot o) = Unit {0}
IsSolid (Quote o) = Unit {0}
IsSolid (Mark o n) = Unit {0}
IsSolid (Ref o n) = Unit {0}
IsSolid (Stray f) = Unit {0}

take_mark : (b : Bool) (o n : ℕ) (s : List Frame) (ls : Labels) (r : List Lexeme) →
    unwind s (if b then halt LABEL o else and_then (reads Datum (Label n None ls) r) (labelling n))
    ≡ following (if b then broken LABEL o else quiet (Within (Marking n) s (Label n None ls))) r
take_mark true o n s ls r = unwind_stop s (Some (fault LABEL o))
take_mark false o n s ls r = refl

take_ref : (y : Option Object) (o : ℕ) (s : List Frame) (ls : Labels) (r : List Lexeme) → unwind s (reference o y ls r) ≡ following (refer o y s ls) r
take_ref (Some x) o s ls r = unwind_got s x ls r
take_ref None o s ls r = unwind_stop s (Some (fault LABEL o))

take_step : (l : Lexeme) → IsSolid l → (s : List Frame) (ls : Labels) (r : List Lexeme) → unwind s (reads Datum ls (l ∷ r)) ≡ following (taken s ls l) r
take_step (Atom o x) h s ls r = unwind_got s x ls r
take_step (Open o) h s ls r = ap (unwind s) (reads_open o ls r)
take_step (Close o) h s ls r = unwind_stop s (Some (fault CLOSE o))
take_step (Dot o) h s ls r = unwind_stop s (Some (fault DOT o))
take_step (Quote o) h s ls r = ap (unwind s) (reads_quote o ls r)
take_step (Mark o n) h s ls r = ap (unwind s) (reads_mark o n ls r) ∙ take_mark (is_begun n ls) o n s ls r
take_step (Ref o n) h s ls r = take_ref (labelled n ls) o s ls r
take_step (Wrong o (Some f)) h s ls r = unwind_stop s (Some f)
take_step (Wrong o None) h s ls r = absurd h
take_step (Stray f) h s ls r = unwind_stop s (Some f)
take_step (End f) h s ls r = absurd h

within_step : (f : Frame) (s : List Frame) (ls : Labels) (l : Lexeme) → IsSolid l → (r : List Lexeme) → unwind s (waits f ls (l ∷ r)) ≡ following (within f s ls l) r
within_step (Members []) s ls (Close o) h r = unwind_got s NIL ls r
within_step (Members (x ∷ xs)) s ls (Close o) h r = unwind_got s (fill (x ∷ xs) NIL) ls r
within_step (Members (x ∷ xs)) s ls (Dot o) h r = ap (λ v. unwind s (and_then v (filling (x ∷ xs)))) (reads_dot o ls r)
within_step (Tailed xs) s ls (Close o) h r = unwind_stop s (Some (fault DOT o))
within_step (Members []) s ls l h r = ap (unwind s) (reads_pair l ls r) ∙ take_step l h (Members [] ∷ s) ls r
within_step (Members (x ∷ xs)) s ls l h r = ap (unwind s) (member x xs ls l r) ∙ take_step l h (Members (x ∷ xs) ∷ s) ls r
within_step (Tailed xs) s ls l h r = ap (unwind s) (last xs ls l r) ∙ take_step l h (Tailed xs ∷ s) ls r
within_step Quoting s ls l h r = take_step l h (Quoting ∷ s) ls r
within_step (Marking n) s ls l h r = take_step l h (Marking n ∷ s) ls r

full_step : (xs : List Object) (x : Object) (s : List Frame) (ls : Labels) (l : Lexeme) → IsSolid l → (r : List Lexeme) →
    unwind s (and_then (closing x ls (l ∷ r)) (filling xs)) ≡ following (filled xs x s ls l) r
full_step xs x s ls (Close o) h r = unwind_got s (fill xs x) ls r
full_step xs x s ls (Stray f) h r = unwind_stop s (Some f)
full_step xs x s ls (End f) h r = absurd h
full_step xs x s ls (Atom o y) h r = unwind_stop s (Some (fault DOT o))
full_step xs x s ls (Open o) h r = unwind_stop s (Some (fault DOT o))
full_step xs x s ls (Dot o) h r = unwind_stop s (Some (fault DOT o))
full_step xs x s ls (Quote o) h r = unwind_stop s (Some (fault DOT o))
full_step xs x s ls (Mark o n) h r = unwind_stop s (Some (fault DOT o))
full_step xs x s ls (Ref o n) h r = unwind_stop s (Some (fault DOT o))
full_step xs x s ls (Wrong o f) h r = unwind_stop s (Some (fault DOT o))

idle_step : (l : Lexeme) → IsSolid l → (r : List Lexeme) → rest (l ∷ r) ≡ following (taken [] Unused l) r
idle_step (End f) h r = absurd h
idle_step (Atom o x) h r = rest_step (Atom o x) r ∙ take_step (Atom o x) h [] Unused r
idle_step l h r = rest_step l r ∙ take_step l h [] Unused r

pub on_step : (t : State) (l : Lexeme) → IsSolid l → (r : List Lexeme) → resume t (l ∷ r) ≡ following (on t l) r
on_step Idle l h r = idle_step l h r
on_step (Within f s ls) l h r = within_step f s ls l h r
on_step (Full xs x s ls) l h r = full_step xs x s ls l h r
on_step (Broken f) l h r = refl

pub onward_append : (xs ys : List Object) (b : Book) → onward (xs ++ ys) b ≡ onward xs (onward ys b)
onward_append [] ys b = refl
onward_append (x ∷ xs) ys b = ap (and_events x) (onward_append xs ys b)
