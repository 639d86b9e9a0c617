-- What bytes that may not begin, or that end, make of the book.
use Rattle.std.proofs.Common.{◌≡◌, ℕ, suc, ◌+◌, Bool, true, false, List, [], ◌∷◌, ◌++◌, length, Option, Some, None, refl, ap, ◌∙◌, if◌then◌else◌, eqb, ltb, true≢false}
use Rattle.mw_model.specs.Terms.Object.{Object, Symbol, is_name_byte, name_of_bytes}
use Rattle.mw_model.specs.Texts.Lexemes.{Lexeme, Atom, Open, Close, Dot, Quote, Mark, Ref, Wrong, Stray, End, Fault, fault, END, DOT, TOKEN, Ending, Ends, Goes, run_of, after_run, is_constituent, is_digit, TokenForm, Whole, Point, Bad, token_form, token, dot, refused, barred, hashed, label, atom, glued, glued_bar, Class, Bar, Hash, Constituent, class, piece, extent, lexemes_from}
use Rattle.mw_model.specs.Texts.Grammar.{Labels, book, and_events}
use Rattle.mw_read.specs.Machine.{Frame, Members, Tailed, Quoting, Marking, State, Idle, Within, Full, Broken, is_full, IsSound, end_fault}
use Rattle.mw_read.specs.Resume.{resume, onward}
use Rattle.mw_read.proofs.Resuming.{unwind_stop}
use Rattle.mw_lex.proofs.Lexemes.{piece_lexemes}

pub onward_book : (xs ys : List Object) (f : Option Fault) → onward xs (book ys f) ≡ book (xs ++ ys) f
onward_book [] ys f = refl
onward_book (x ∷ xs) ys f = ap (and_events x) (onward_book xs ys f)

-- what begins a datum at o
abbrev Begins : ℕ → List Lexeme → Type 0
Begins o (Atom p x ∷ r) = p ≡ o
Begins o (Dot p ∷ r) = p ≡ o
Begins o (Mark p n ∷ r) = p ≡ o
Begins o (Ref p n ∷ r) = p ≡ o
Begins o (Wrong p s ∷ r) = p ≡ o
Begins o ls = ⊥

begins_atom : (e : Ending) (bad : ℕ → Bool) (o : ℕ) (x : Object) (end : ℕ) (r : List ℕ) → Begins o (atom e bad o x end r)
begins_atom Ends bad o x end [] = refl
begins_atom Goes bad o x end [] = refl
begins_atom e bad o x end (b ∷ bs) = go (bad b)
  where
    go : (v : Bool) → Begins o (if v then Atom o x ∷ Stray (fault TOKEN end) ∷ [] else Atom o x ∷ [])
    go true = refl
    go false = refl

begins_dot : (e : Ending) (o : ℕ) (r : List ℕ) → Begins o (dot e o r)
begins_dot Ends o [] = refl
begins_dot Goes o [] = refl
begins_dot e o (b ∷ bs) = go (glued b)
  where
    go : (v : Bool) → Begins o (if v then Wrong o (Some (fault TOKEN (o + 1))) ∷ [] else Dot o ∷ [])
    go true = refl
    go false = refl

begins_refused : (e : Ending) (o : ℕ) (r : List ℕ) → Begins o (refused e o r)
begins_refused Ends o [] = refl
begins_refused Goes o [] = refl
begins_refused Ends o (b ∷ bs) = refl
begins_refused Goes o (b ∷ bs) = refl

begins_token : (e : Ending) (o : ℕ) (t : List ℕ) (f : TokenForm) (r : List ℕ) → Begins o (token e o t f r)
begins_token e o t (Whole x) r = begins_atom e glued o x (o + length t) r
begins_token e o t Point r = begins_dot e o r
begins_token e o t Bad r = begins_refused e o r

begins_if : (o : ℕ) (v : Bool) (l l' : List Lexeme) → Begins o l → Begins o l' → Begins o (if v then l else l')
begins_if o true l l' h h' = h
begins_if o false l l' h h' = h'

begins_barred : (e : Ending) (o : ℕ) (n r : List ℕ) → Begins o (barred e o n r)
begins_barred e o n [] = refl
begins_barred e o [] (b ∷ bs) = begins_if o (eqb b 124) _ _ refl refl
begins_barred e o (c ∷ cs) (b ∷ bs) = begins_if o (eqb b 124) _ _ (begins_atom e glued_bar o (Symbol (name_of_bytes (c ∷ cs))) (o + 2 + length (c ∷ cs)) bs) refl

begins_label : (e : Ending) (o : ℕ) (d r : List ℕ) → Begins o (label e o d r)
begins_label e o d [] = refl
begins_label e o [] (b ∷ bs) = refl
begins_label e o (c ∷ d) (b ∷ bs) = begins_if o (eqb b 61) _ _ refl (begins_if o (eqb b 35) _ _ refl refl)

begins_hashed : (e : Ending) (o : ℕ) (d r : List ℕ) → Begins o (hashed e o d r)
begins_hashed e o d r = begins_if o (ltb 9 (length d)) _ _ refl (begins_label e o d r)

-- the classes of bytes that begin a text of more than one byte
abbrev pub BeginsText : Class → Type 0
BeginsText Bar = Unit {0}
BeginsText Hash = Unit {0}
BeginsText Constituent = Unit {0}
BeginsText k = ⊥

begins_piece : (e : Ending) (o b : ℕ) (x : List ℕ) (k : Class) → BeginsText k → Begins o (piece k e o b x)
begins_piece e o b x Bar t = begins_barred e o (run_of is_name_byte x) (after_run is_name_byte x)
begins_piece e o b x Hash t = begins_hashed e o (run_of is_digit x) (after_run is_digit x)
begins_piece e o b x Constituent t = begins_token e o (b ∷ run_of is_constituent x) (token_form (b ∷ run_of is_constituent x)) (after_run is_constituent x)
begins_piece e o b x k t = absurd t

full_begins : (xs : List Object) (x : Object) (s : List Frame) (ls : Labels) (o : ℕ) (l r : List Lexeme) → Begins o l →
    resume (Full xs x s ls) (l ++ r) ≡ book [] (Some (fault DOT o))
full_begins xs x s ls o [] r h = absurd h
full_begins xs x s ls o (Atom p y ∷ l) r h = unwind_stop s (Some (fault DOT p)) ∙ ap (λ q. book [] (Some (fault DOT q))) h
full_begins xs x s ls o (Dot p ∷ l) r h = unwind_stop s (Some (fault DOT p)) ∙ ap (λ q. book [] (Some (fault DOT q))) h
full_begins xs x s ls o (Mark p n ∷ l) r h = unwind_stop s (Some (fault DOT p)) ∙ ap (λ q. book [] (Some (fault DOT q))) h
full_begins xs x s ls o (Ref p n ∷ l) r h = unwind_stop s (Some (fault DOT p)) ∙ ap (λ q. book [] (Some (fault DOT q))) h
full_begins xs x s ls o (Wrong p y ∷ l) r h = unwind_stop s (Some (fault DOT p)) ∙ ap (λ q. book [] (Some (fault DOT q))) h
full_begins xs x s ls o (Open p ∷ l) r h = absurd h
full_begins xs x s ls o (Close p ∷ l) r h = absurd h
full_begins xs x s ls o (Quote p ∷ l) r h = absurd h
full_begins xs x s ls o (Stray f ∷ l) r h = absurd h
full_begins xs x s ls o (End y ∷ l) r h = absurd h

-- after a dot's datum no text may begin
pub full_piece : (e : Ending) (xs : List Object) (y : Object) (s : List Frame) (ls : Labels) (o b : ℕ) (x : List ℕ) (k : Class) → class b ≡ k → BeginsText k →
    resume (Full xs y s ls) (lexemes_from e o 0 (b ∷ x)) ≡ book [] (Some (fault DOT o))
full_piece e xs y s ls o b x k h t =
    ap (resume (Full xs y s ls)) (piece_lexemes e o b x k h) ∙ full_begins xs y s ls o (piece k e o b x) (lexemes_from e (suc o) (extent k x) x) (begins_piece e o b x k t)

-- nothing more comes of bytes that end in a datum, where more may follow
pub stopped : (s : State) (o : ℕ) (r : List Lexeme) → is_full s ≡ false → IsSound s → resume s (Wrong o None ∷ r) ≡ book [] None
stopped Idle o r h k = refl
stopped (Within (Members []) s ls) o r h k = unwind_stop s None
stopped (Within (Members (y ∷ ys)) s ls) o r h k = unwind_stop s None
stopped (Within (Tailed ys) s ls) o r h k = unwind_stop s None
stopped (Within Quoting s ls) o r h k = unwind_stop s None
stopped (Within (Marking n) s ls) o r h k = unwind_stop s None
stopped (Full ys y s ls) o r h k = absurd (true≢false h)
stopped (Broken g) o r h k = absurd k

pub ended : (s : State) (r : List Lexeme) → IsSound s → resume s (End None ∷ r) ≡ book [] None
ended Idle r k = refl
ended (Within (Members []) s ls) r k = unwind_stop s None
ended (Within (Members (y ∷ ys)) s ls) r k = unwind_stop s None
ended (Within (Tailed ys) s ls) r k = unwind_stop s None
ended (Within Quoting s ls) r k = unwind_stop s None
ended (Within (Marking n) s ls) r k = unwind_stop s None
ended (Full ys y s ls) r k = unwind_stop s None
ended (Broken g) r k = absurd k

-- the end of the input
pub ended_at : (s : State) (o : ℕ) (r : List Lexeme) → resume s (End (Some (fault END o)) ∷ r) ≡ book [] (end_fault s o)
ended_at Idle o r = refl
ended_at (Within (Members []) s ls) o r = unwind_stop s (Some (fault END o))
ended_at (Within (Members (y ∷ ys)) s ls) o r = unwind_stop s (Some (fault END o))
ended_at (Within (Tailed ys) s ls) o r = unwind_stop s (Some (fault END o))
ended_at (Within Quoting s ls) o r = unwind_stop s (Some (fault END o))
ended_at (Within (Marking n) s ls) o r = unwind_stop s (Some (fault END o))
ended_at (Full ys y s ls) o r = unwind_stop s (Some (fault END o))
ended_at (Broken g) o r = refl
