-- A lexeme makes of a clamped state what it makes of the state, clamped.
use Rattle.std.proofs.Common.{◌≡◌, ℕ, Bool, true, false, ◌||◌, List, [], ◌∷◌, Option, Some, None, refl, sym, ap, ◌∙◌, if◌then◌else◌, eqb, true≢false}
use Rattle.mw_model.specs.Terms.Object.{Object, Pair, NIL}
use Rattle.mw_model.specs.Texts.Lexemes.{Lexeme, Atom, Open, Close, Dot, Quote, Mark, Ref, Wrong, Stray, End, LABEL}
use Rattle.mw_model.specs.Texts.Grammar.{Labels, Unused, Label, is_begun, labelled, complete, quoted}
use Rattle.mw_read.specs.Machine.{Frame, Members, Tailed, Quoting, Marking, State, Idle, Within, Full, Broken, quiet, broken, fill, given, refer, taken, within, filled, on, Turn, labels_of, IsSound}
use Rattle.mw_model.specs.Events.Fate.{is_out_of_range}
use Rattle.mw_lex.specs.Tokens.{clamp}
use Rattle.mw_read.specs.Clamp.{some_big, labels_big, lexeme_big, state_big, clamp_all, clamp_some, clamp_labels, clamp_frame, clamp_frames, clamp_state, clamp_turn, clamp_lexeme, any_big, frames_big, turn_big}

fill_clamp : (xs : List Object) (y : Object) → fill (clamp_all xs) (clamp y) ≡ clamp (fill xs y)
fill_clamp [] y = refl
fill_clamp (x ∷ xs) y = fill_clamp xs (Pair x y)

begun_clamp : (n : ℕ) (ls : Labels) → is_begun n (clamp_labels ls) ≡ is_begun n ls
begun_clamp n Unused = refl
begun_clamp n (Label m x ls) = ap (λ u. if eqb n m then true else u) (begun_clamp n ls)

named_clamp : (n : ℕ) (ls : Labels) → labelled n (clamp_labels ls) ≡ clamp_some (labelled n ls)
named_clamp n Unused = refl
named_clamp n (Label m x ls) = go (named_clamp n ls) (eqb n m)
  where
    go : labelled n (clamp_labels ls) ≡ clamp_some (labelled n ls) → (b : Bool) → (if b then clamp_some x else labelled n (clamp_labels ls)) ≡ clamp_some (if b then x else labelled n ls)
    go h true = refl
    go h false = h

complete_clamp : (n : ℕ) (x : Object) (ls : Labels) → complete n (clamp x) (clamp_labels ls) ≡ clamp_labels (complete n x ls)
complete_clamp n x Unused = refl
complete_clamp n x (Label m y ls) = go (complete_clamp n x ls) (eqb n m)
  where
    go : complete n (clamp x) (clamp_labels ls) ≡ clamp_labels (complete n x ls) → (b : Bool) →
        (if b then Label m (Some (clamp x)) (clamp_labels ls) else Label m (clamp_some y) (complete n (clamp x) (clamp_labels ls)))
        ≡ clamp_labels (if b then Label m (Some x) ls else Label m y (complete n x ls))
    go h true = refl
    go h false = ap (Label m (clamp_some y)) h

given_clamp : (x : Object) (s : List Frame) (ls : Labels) → given (clamp x) (clamp_frames s) (clamp_labels ls) ≡ clamp_turn (given x s ls)
given_clamp x [] ls = refl
given_clamp x (Members xs ∷ s) ls = refl
given_clamp x (Tailed xs ∷ s) ls = refl
given_clamp x (Quoting ∷ s) ls = given_clamp (quoted x) s ls
given_clamp x (Marking n ∷ s) ls = ap (given (clamp x) (clamp_frames s)) (complete_clamp n x ls) ∙ given_clamp x s (complete n x ls)

refer_clamp : (o : ℕ) (y : Option Object) (s : List Frame) (ls : Labels) → refer o (clamp_some y) (clamp_frames s) (clamp_labels ls) ≡ clamp_turn (refer o y s ls)
refer_clamp o None s ls = refl
refer_clamp o (Some x) s ls = given_clamp x s ls

mark_clamp : (b : Bool) (o n : ℕ) (s : List Frame) (ls : Labels) →
    (if b then broken LABEL o else quiet (Within (Marking n) (clamp_frames s) (Label n None (clamp_labels ls)))) ≡ clamp_turn (if b then broken LABEL o else quiet (Within (Marking n) s (Label n None ls)))
mark_clamp true o n s ls = refl
mark_clamp false o n s ls = refl

take_clamp : (s : List Frame) (ls : Labels) (l : Lexeme) → taken (clamp_frames s) (clamp_labels ls) (clamp_lexeme l) ≡ clamp_turn (taken s ls l)
take_clamp s ls (Atom o x) = given_clamp x s ls
take_clamp s ls (Open o) = refl
take_clamp s ls (Close o) = refl
take_clamp s ls (Dot o) = refl
take_clamp s ls (Quote o) = refl
take_clamp s ls (Mark o n) =
    ap (λ b. if b then broken LABEL o else quiet (Within (Marking n) (clamp_frames s) (Label n None (clamp_labels ls)))) (begun_clamp n ls) ∙ mark_clamp (is_begun n ls) o n s ls
take_clamp s ls (Ref o n) = ap (λ y. refer o y (clamp_frames s) (clamp_labels ls)) (named_clamp n ls) ∙ refer_clamp o (labelled n ls) s ls
take_clamp s ls (Wrong o (Some f)) = refl
take_clamp s ls (Wrong o None) = refl
take_clamp s ls (Stray f) = refl
take_clamp s ls (End f) = refl

within_clamp : (f : Frame) (s : List Frame) (ls : Labels) (l : Lexeme) → within (clamp_frame f) (clamp_frames s) (clamp_labels ls) (clamp_lexeme l) ≡ clamp_turn (within f s ls l)
within_clamp (Members []) s ls (Close o) = given_clamp NIL s ls
within_clamp (Members (x ∷ xs)) s ls (Close o) = ap (λ y. given y (clamp_frames s) (clamp_labels ls)) (fill_clamp (x ∷ xs) NIL) ∙ given_clamp (fill (x ∷ xs) NIL) s ls
within_clamp (Members (x ∷ xs)) s ls (Dot o) = refl
within_clamp (Tailed xs) s ls (Close o) = refl
within_clamp (Members []) s ls l = take_clamp (Members [] ∷ s) ls l
within_clamp (Members (x ∷ xs)) s ls l = take_clamp (Members (x ∷ xs) ∷ s) ls l
within_clamp (Tailed xs) s ls l = take_clamp (Tailed xs ∷ s) ls l
within_clamp Quoting s ls l = take_clamp (Quoting ∷ s) ls l
within_clamp (Marking n) s ls l = take_clamp (Marking n ∷ s) ls l

filled_clamp : (xs : List Object) (x : Object) (s : List Frame) (ls : Labels) (l : Lexeme) →
    filled (clamp_all xs) (clamp x) (clamp_frames s) (clamp_labels ls) (clamp_lexeme l) ≡ clamp_turn (filled xs x s ls l)
filled_clamp xs x s ls (Close o) = ap (λ y. given y (clamp_frames s) (clamp_labels ls)) (fill_clamp xs x) ∙ given_clamp (fill xs x) s ls
filled_clamp xs x s ls (Stray f) = refl
filled_clamp xs x s ls l = refl

pub on_clamp : (t : State) (l : Lexeme) → on (clamp_state t) (clamp_lexeme l) ≡ clamp_turn (on t l)
on_clamp Idle l = take_clamp [] Unused l
on_clamp (Within f s ls) l = within_clamp f s ls l
on_clamp (Full xs x s ls) l = filled_clamp xs x s ls l
on_clamp (Broken f) l = refl

-- the flag
or_assoc : (a b c : Bool) → ((a || b) || c) ≡ (a || (b || c))
or_assoc true b c = refl
or_assoc false b c = refl

or_swap : (a b c : Bool) → (a || (b || c)) ≡ (b || (a || c))
or_swap true true c = refl
or_swap true false c = refl
or_swap false b c = refl

or_false : (a : Bool) → (a || false) ≡ a
or_false true = refl
or_false false = refl

fill_big : (xs : List Object) (y : Object) → is_out_of_range (fill xs y) ≡ (any_big xs || is_out_of_range y)
fill_big [] y = refl
fill_big (x ∷ xs) y = fill_big xs (Pair x y) ∙ or_swap (any_big xs) (is_out_of_range x) (is_out_of_range y) ∙ sym (or_assoc (is_out_of_range x) (any_big xs) (is_out_of_range y))

-- a complete datum passes its flag on, to the event or to what is open
pub given_big : (x : Object) (s : List Frame) (ls : Labels) → turn_big (given x s ls) ≡ (is_out_of_range x || frames_big s)
given_big x [] ls = or_false (is_out_of_range x || false)
given_big x (Members xs ∷ s) ls = or_assoc (is_out_of_range x) (any_big xs) (frames_big s)
given_big x (Tailed xs ∷ s) ls = refl
given_big x (Quoting ∷ s) ls = given_big (quoted x) s ls ∙ ap (λ u. u || frames_big s) (or_false (is_out_of_range x))
given_big x (Marking n ∷ s) ls = given_big x s (complete n x ls)

or_comm : (a b : Bool) → (a || b) ≡ (b || a)
or_comm true true = refl
or_comm true false = refl
or_comm false true = refl
or_comm false false = refl

-- a lexeme that is complete and no fault that ends a datum
abbrev pub IsWhole : Lexeme → Type 0
IsWhole (Wrong o f) = ⊥
IsWhole (End f) = ⊥
IsWhole l = Unit {0}

-- labelled data are parts of what is open
abbrev pub Covers : Bool → Labels → Type 0
Covers b ls = labels_big ls ≡ true → b ≡ true

or_left : (a b : Bool) → a ≡ true → (a || b) ≡ true
or_left a b h = ap (λ u. u || b) h

or_right : (a b : Bool) → b ≡ true → (a || b) ≡ true
or_right a b h = or_comm a b ∙ or_left b a h

or_either : {P : Type 0} (a b : Bool) → (a ≡ true → P) → (b ≡ true → P) → (a || b) ≡ true → P
or_either true b f g h = f refl
or_either false b f g h = g h

complete_big : (n : ℕ) (x : Object) (ls : Labels) → labels_big (complete n x ls) ≡ true → (is_out_of_range x || labels_big ls) ≡ true
complete_big n x Unused h = absurd (true≢false (sym h))
complete_big n x (Label m y ls) h = go (complete_big n x ls) (eqb n m) h
  where
    here : is_out_of_range x ≡ true → (is_out_of_range x || (some_big y || labels_big ls)) ≡ true
    here p = or_left (is_out_of_range x) (some_big y || labels_big ls) p

    there : labels_big ls ≡ true → (is_out_of_range x || (some_big y || labels_big ls)) ≡ true
    there p = or_right (is_out_of_range x) (some_big y || labels_big ls) (or_right (some_big y) (labels_big ls) p)

    go : (labels_big (complete n x ls) ≡ true → (is_out_of_range x || labels_big ls) ≡ true) → (b : Bool) → labels_big (if b then Label m (Some x) ls else Label m y (complete n x ls)) ≡ true →
        (is_out_of_range x || (some_big y || labels_big ls)) ≡ true
    go f true h = or_either (is_out_of_range x) (labels_big ls) here there h
    go f false h =
        or_either (some_big y) (labels_big (complete n x ls)) (λ p. or_right (is_out_of_range x) (some_big y || labels_big ls) (or_left (some_big y) (labels_big ls) p))
        (λ p. or_either (is_out_of_range x) (labels_big ls) here there (f p)) h

-- of the state after a datum is given
given_covers : (x : Object) (s : List Frame) (ls : Labels) → Covers (is_out_of_range x || frames_big s) ls → Covers (is_out_of_range x || frames_big s) (labels_of (given x s ls).state)
given_covers x [] ls c h = absurd (true≢false (sym h))
given_covers x (Members xs ∷ s) ls c h = c h
given_covers x (Tailed xs ∷ s) ls c h = c h
given_covers x (Quoting ∷ s) ls c h =
    ap (λ u. u || frames_big s) (sym (or_false (is_out_of_range x))) ∙ given_covers (quoted x) s ls (λ k. ap (λ u. u || frames_big s) (or_false (is_out_of_range x)) ∙ c k) h
given_covers x (Marking n ∷ s) ls c h =
    given_covers x s (complete n x ls)
    (λ k. or_either (is_out_of_range x) (labels_big ls) (or_left (is_out_of_range x) (frames_big s)) c (complete_big n x ls k)) h

-- the flag of a turn, where the state's flag and that of the lexeme come together
abbrev pub Flags : Bool → Turn → Type 0
Flags b t = IsSound t.state → (turn_big t ≡ b) × Covers b (labels_of t.state)

given_flags : (x : Object) (s : List Frame) (ls : Labels) (b : Bool) → (is_out_of_range x || frames_big s) ≡ b → Covers b ls → Flags b (given x s ls)
given_flags x s ls b e c k = (
  given_big x s ls ∙ e,
  λ h. sym e ∙ given_covers x s ls (λ j. e ∙ c j) h,
)

labelled_big : (n : ℕ) (ls : Labels) (x : Object) → labelled n ls ≡ Some x → is_out_of_range x ≡ true → labels_big ls ≡ true
labelled_big n Unused x h b = absurd cc
labelled_big n (Label m y ls) x h b = go (labelled_big n ls x) (eqb n m) h
  where
    go : (labelled n ls ≡ Some x → is_out_of_range x ≡ true → labels_big ls ≡ true) → (v : Bool) → (if v then y else labelled n ls) ≡ Some x → (some_big y || labels_big ls) ≡ true
    go f true e = or_left (some_big y) (labels_big ls) (ap some_big e ∙ b)
    go f false e = or_right (some_big y) (labels_big ls) (f e b)

absorbs : (a b : Bool) → (a ≡ true → b ≡ true) → (a || b) ≡ b
absorbs true b h = sym (h refl)
absorbs false b h = refl

refer_flags : (o : ℕ) (y : Option Object) (s : List Frame) (ls : Labels) (b : Bool) → frames_big s ≡ b → Covers b ls → ((x : Object) → y ≡ Some x → is_out_of_range x ≡ true → labels_big ls ≡ true) → Flags b (refer o y s ls)
refer_flags o None s ls b e c f k = absurd k
refer_flags o (Some x) s ls b e c f k =
    given_flags x s ls b (absorbs (is_out_of_range x) (frames_big s) (λ h. e ∙ c (f x refl h)) ∙ e) c k

mark_flags : (v : Bool) (o n : ℕ) (s : List Frame) (ls : Labels) (b : Bool) → frames_big s ≡ b → Covers b ls → Flags b (if v then broken LABEL o else quiet (Within (Marking n) s (Label n None ls)))
mark_flags true o n s ls b e c k = absurd k
mark_flags false o n s ls b e c k = (e, c)

taken_flags : (s : List Frame) (ls : Labels) (l : Lexeme) (b : Bool) → (lexeme_big l || frames_big s) ≡ b → Covers b ls → IsWhole l → Flags b (taken s ls l)
taken_flags s ls (Atom o x) b e c w k = given_flags x s ls b e c k
taken_flags s ls (Open o) b e c w k = (e, c)
taken_flags s ls (Close o) b e c w k = absurd k
taken_flags s ls (Dot o) b e c w k = absurd k
taken_flags s ls (Quote o) b e c w k = (e, c)
taken_flags s ls (Mark o n) b e c w k = mark_flags (is_begun n ls) o n s ls b e c k
taken_flags s ls (Ref o n) b e c w k = refer_flags o (labelled n ls) s ls b e c (labelled_big n ls) k
taken_flags s ls (Wrong o f) b e c w k = absurd w
taken_flags s ls (Stray f) b e c w k = absurd k
taken_flags s ls (End f) b e c w k = absurd w

within_flags : (f : Frame) (s : List Frame) (ls : Labels) (l : Lexeme) (b : Bool) → (lexeme_big l || frames_big (f ∷ s)) ≡ b → Covers b ls → IsWhole l → Flags b (within f s ls l)
within_flags (Members []) s ls (Close o) b e c w k = given_flags NIL s ls b e c k
within_flags (Members (x ∷ xs)) s ls (Close o) b e c w k =
    given_flags (fill (x ∷ xs) NIL) s ls b (ap (λ u. u || frames_big s) (fill_big (x ∷ xs) NIL ∙ or_false (any_big (x ∷ xs))) ∙ e) c k
within_flags (Members (x ∷ xs)) s ls (Dot o) b e c w k = (e, c)
within_flags (Tailed xs) s ls (Close o) b e c w k = absurd k
within_flags (Members []) s ls l b e c w k = taken_flags (Members [] ∷ s) ls l b e c w k
within_flags (Members (x ∷ xs)) s ls l b e c w k = taken_flags (Members (x ∷ xs) ∷ s) ls l b e c w k
within_flags (Tailed xs) s ls l b e c w k = taken_flags (Tailed xs ∷ s) ls l b e c w k
within_flags Quoting s ls l b e c w k = taken_flags (Quoting ∷ s) ls l b e c w k
within_flags (Marking n) s ls l b e c w k = taken_flags (Marking n ∷ s) ls l b e c w k

filled_flags : (xs : List Object) (x : Object) (s : List Frame) (ls : Labels) (l : Lexeme) (b : Bool) → (is_out_of_range x || (any_big xs || frames_big s)) ≡ b → Covers b ls → IsWhole l → Flags b (filled xs x s ls l)
filled_flags xs x s ls (Close o) b e c w k =
    given_flags (fill xs x) s ls b
    (ap (λ u. u || frames_big s) (fill_big xs x ∙ or_comm (any_big xs) (is_out_of_range x)) ∙ or_assoc (is_out_of_range x) (any_big xs) (frames_big s) ∙ e) c k
filled_flags xs x s ls (Stray f) b e c w k = absurd k
filled_flags xs x s ls l b e c w k = absurd k

pub on_flags : (t : State) (l : Lexeme) → Covers (state_big t) (labels_of t) → IsWhole l → Flags (state_big t || lexeme_big l) (on t l)
on_flags Idle l c w k = taken_flags [] Unused l (lexeme_big l) (or_false (lexeme_big l)) (λ h. absurd (true≢false (sym h))) w k
on_flags (Within f s ls) l c w k =
    within_flags f s ls l (frames_big (f ∷ s) || lexeme_big l) (or_comm (lexeme_big l) (frames_big (f ∷ s))) (λ h. or_left (frames_big (f ∷ s)) (lexeme_big l) (c h)) w k
on_flags (Full xs x s ls) l c w k = full l w k
  where
    full : (l : Lexeme) → IsWhole l → Flags ((is_out_of_range x || (any_big xs || frames_big s)) || lexeme_big l) (filled xs x s ls l)
    full (Close o) w k = filled_flags xs x s ls (Close o) _ (sym (or_false (is_out_of_range x || (any_big xs || frames_big s)))) (λ h. or_left (is_out_of_range x || (any_big xs || frames_big s)) false (c h)) w k
    full (Stray f) w k = absurd k
    full l w k = absurd k
on_flags (Broken f) l c w k = absurd k
