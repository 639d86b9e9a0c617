-- The end of a token, a name between bars, a label: what it makes of the book.
use Rattle.std.proofs.Common.{◌≡◌, ℕ, suc, ◌+◌, ◌<◌, Bool, true, false, List, [], ◌∷◌, ◌++◌, length, map, eqb, ◌&&◌, Some, refl, sym, ap, ◌∙◌, arith, true≢false, if◌then◌else◌, append_assoc, append-nil}
use Rattle.std.proofs.lemmas.Bool.{and_parts}
use Rattle.mw_model.specs.Terms.Object.{Object, Natural, Symbol, name_of_bytes, is_name_byte}
use Rattle.mw_model.specs.Texts.Lexemes.{Lexeme, Atom, Dot, Wrong, Stray, Fault, fault, TOKEN, BYTE, Ending, Ends, Goes, is_constituent, TokenForm, Whole, Point, Bad, token_form, token, atom, glued, glued_bar, class, class_else, Constituent, lexemes_from, is_digit, is_dot, like_number, decimal_value, raised}
use Rattle.std.specs.List.{list_all}
use Rattle.mw_model.specs.Texts.Grammar.{book, and_events}
use Rattle.mw_read.specs.Machine.{State, Idle, Within, Full, Broken, Members, Tailed, Quoting, Marking, Turn, quiet, event, on, is_full, IsSound}
use Rattle.mw_read.specs.Resume.{resume, following}
use Rattle.mw_read.specs.Lexing.{token_lexeme}
use Rattle.mw_read.specs.Parsing.{after, Fits}
use Rattle.mw_read.specs.declared.parser.Begun.TheVariants.{AfterToken, AfterBar}
use Rattle.mw_read.proofs.Resuming.{on_step, IsSolid}
use Rattle.mw_lex.proofs.Lexemes.{token_lexemes, token_ends, barred_lexemes, barred_end, bar_lexemes, barred_fault}

pub constituent_class : (b : ℕ) → is_constituent b ≡ true → class b ≡ Constituent
constituent_class b h = ap (λ v. if v then Constituent else class_else b) h

if_append : (v : Bool) (a b c : List Lexeme) → (if v then a else b) ++ c ≡ (if v then a ++ c else b ++ c)
if_append true a b c = refl
if_append false a b c = refl

if_front : (v : Bool) (l : Lexeme) (a b : List Lexeme) → (if v then l ∷ a else l ∷ b) ≡ l ∷ (if v then a else b)
if_front true l a b = refl
if_front false l a b = refl

-- an atom and what stands after it
pub atom_after : (e : Ending) (bad : ℕ → Bool) (o : ℕ) (y : Object) (end b : ℕ) (x : List ℕ) →
    atom Goes bad o y end (b ∷ []) ++ lexemes_from e end 0 (b ∷ x) ≡ Atom o y ∷ after bad e end (b ∷ x)
atom_after e bad o y end b x =
    let r = lexemes_from e end 0 (b ∷ x) in
    if_append (bad b) (Atom o y ∷ Stray (fault TOKEN end) ∷ []) (Atom o y ∷ []) r ∙ if_front (bad b) (Atom o y) (Stray (fault TOKEN end) ∷ r) r

-- the token's lexeme, and whatever lexemes after it
token_first : (o : ℕ) (g : Bool) (t : List ℕ) (f : TokenForm) (b : ℕ) → glued b ≡ g → (more : List Lexeme) × (token Goes o t f (b ∷ []) ≡ token_lexeme o g f ∷ more)
token_first o g t (Whole y) b h = ((if glued b then Stray (fault TOKEN (o + length t)) ∷ [] else []), if_front (glued b) (Atom o y) (Stray (fault TOKEN (o + length t)) ∷ []) [])
token_first o g t Point b h = ([], ap (λ v. if v then Wrong o (Some (fault TOKEN (o + 1))) ∷ [] else Dot o ∷ []) h ∙ one g (Wrong o (Some (fault TOKEN (o + 1)))) (Dot o))
  where
    one : (v : Bool) (l k : Lexeme) → (if v then l ∷ [] else k ∷ []) ≡ (if v then l else k) ∷ []
    one true l k = refl
    one false l k = refl
token_first o g t Bad b h = ([], refl)

pub token_solid : (o : ℕ) (g : Bool) (f : TokenForm) → IsSolid (token_lexeme o g f)
token_solid o g (Whole y) = tt
token_solid o true Point = tt
token_solid o false Point = tt
token_solid o g Bad = tt

-- a fault that the token is, whatever follows the byte after it
pub token_faults : (e : Ending) (s : State) (o b : ℕ) (g : Bool) (t x : List ℕ) (f : Fault) → 0 < length t → list_all is_constituent t ≡ true → is_constituent b ≡ false → glued b ≡ g →
    on s (token_lexeme o g (token_form t)) ≡ quiet (Broken f) → resume s (lexemes_from e o 0 (t ++ b ∷ x)) ≡ book [] (Some f)
token_faults e s o b g [] x f l a n h q = absurd (omega arith)
token_faults e s o b g (c ∷ t) x f l a n h q =
    let k = and_parts (is_constituent c) (list_all is_constituent t) a in
    let m = token_first o g (c ∷ t) (token_form (c ∷ t)) b h in
    let r = lexemes_from e (o + length (c ∷ t)) 0 (b ∷ x) in
    ap (resume s) (token_lexemes e x o b c t (constituent_class c k.0) k.1 n ∙ ap (λ u. u ++ r) m.1)
    ∙ on_step s (token_lexeme o g (token_form (c ∷ t))) (token_solid o g (token_form (c ∷ t))) (m.0 ++ r)
    ∙ ap (λ (u : Turn). following u (m.0 ++ r)) q

-- a token whose datum is whole, and whatever may follow it
pub token_whole : (e : Ending) (o : ℕ) (t z : List ℕ) (y : Object) → 0 < length t → list_all is_constituent t ≡ true → token_form t ≡ Whole y → Fits AfterToken e z →
    lexemes_from e o 0 (t ++ z) ≡ Atom o y ∷ after glued e (o + length t) z
token_whole e o [] z y l a w h = absurd (omega arith)
token_whole Goes o (c ∷ t) [] y l a w h = absurd h
token_whole Ends o (c ∷ t) [] y l a w h =
    let k = and_parts (is_constituent c) (list_all is_constituent t) a in
    ap (λ u. lexemes_from Ends o 0 (c ∷ u)) (append-nil t)
    ∙ token_ends Ends o c t (constituent_class c k.0) k.1
    ∙ ap (λ f. token Ends o (c ∷ t) f [] ++ lexemes_from Ends (o + length (c ∷ t)) 0 []) w
token_whole e o (c ∷ t) (b ∷ x) y l a w h =
    let k = and_parts (is_constituent c) (list_all is_constituent t) a in
    let end = o + length (c ∷ t) in
    token_lexemes e x o b c t (constituent_class c k.0) k.1 h
    ∙ ap (λ f. token Goes o (c ∷ t) f (b ∷ []) ++ lexemes_from e end 0 (b ∷ x)) w
    ∙ atom_after e glued o y end b x

pub wrong_breaks : (s : State) (o : ℕ) (f : Fault) → is_full s ≡ false → IsSound s → on s (Wrong o (Some f)) ≡ quiet (Broken f)
wrong_breaks Idle o f h k = refl
wrong_breaks (Within (Members []) s ls) o f h k = refl
wrong_breaks (Within (Members (y ∷ ys)) s ls) o f h k = refl
wrong_breaks (Within (Tailed ys) s ls) o f h k = refl
wrong_breaks (Within Quoting s ls) o f h k = refl
wrong_breaks (Within (Marking n) s ls) o f h k = refl
wrong_breaks (Full xs x s ls) o f h k = absurd (true≢false h)
wrong_breaks (Broken g) o f h k = absurd k

pub stray_breaks : (s : State) (f : Fault) → IsSound s → on s (Stray f) ≡ quiet (Broken f)
stray_breaks Idle f k = refl
stray_breaks (Within (Members []) s ls) f k = refl
stray_breaks (Within (Members (y ∷ ys)) s ls) f k = refl
stray_breaks (Within (Tailed ys) s ls) f k = refl
stray_breaks (Within Quoting s ls) f k = refl
stray_breaks (Within (Marking n) s ls) f k = refl
stray_breaks (Full xs x s ls) f k = refl
stray_breaks (Broken g) f k = absurd k

no_point : (number name : Object) (p q r s : Bool) → (if p then Whole number else (if q then Bad else (if r && false then Point else (if s then Bad else Whole name)))) ≡ Point → ⊥
no_point number name true q r s e = cc
no_point number name false true r s e = cc
no_point number name false false true true e = cc
no_point number name false false true false e = cc
no_point number name false false false true e = cc
no_point number name false false false false e = cc

point_one : (t : List ℕ) → token_form t ≡ Point → length t ≡ 1
point_one [] h = absurd cc
point_one (b ∷ []) h = refl
point_one (b ∷ c ∷ t) h =
    absurd (no_point (Natural (decimal_value (b ∷ c ∷ t))) (Symbol (name_of_bytes (map raised (b ∷ c ∷ t)))) (list_all is_digit (b ∷ c ∷ t)) (like_number (b ∷ c ∷ t)) (eqb b 46) (list_all is_dot (b ∷ c ∷ t)) h)

-- a dot that is taken, and whatever may follow it
pub token_dot : (e : Ending) (s u : State) (o : ℕ) (t z : List ℕ) → 0 < length t → list_all is_constituent t ≡ true → token_form t ≡ Point → is_full s ≡ false → IsSound s → on s (Dot o) ≡ quiet u → IsSound u →
    Fits AfterToken e z → resume s (lexemes_from e o 0 (t ++ z)) ≡ resume u (after glued e (o + length t) z)
token_dot e s u o [] z l a w f k q v h = absurd (omega arith)
token_dot Goes s u o (c ∷ t) [] l a w f k q v h = absurd h
token_dot Ends s u o (c ∷ t) [] l a w f k q v h =
    let m = and_parts (is_constituent c) (list_all is_constituent t) a in
    ap (λ u. resume s (lexemes_from Ends o 0 (c ∷ u))) (append-nil t)
    ∙ ap (resume s) (token_ends Ends o c t (constituent_class c m.0) m.1 ∙ ap (λ f. token Ends o (c ∷ t) f [] ++ lexemes_from Ends (o + length (c ∷ t)) 0 []) w)
    ∙ on_step s (Dot o) tt (lexemes_from Ends (o + length (c ∷ t)) 0 [])
    ∙ ap (λ (w : Turn). following w (lexemes_from Ends (o + length (c ∷ t)) 0 [])) q
token_dot e s u o (c ∷ t) (b ∷ x) l a w f k q v h =
    let m = and_parts (is_constituent c) (list_all is_constituent t) a in
    let end = o + length (c ∷ t) in
    let r = lexemes_from e end 0 (b ∷ x) in
    ap (resume s) (token_lexemes e x o b c t (constituent_class c m.0) m.1 h ∙ ap (λ f. token Goes o (c ∷ t) f (b ∷ []) ++ r) w)
    ∙ go (glued b) end (omega (arith, point_one (c ∷ t) w)) r
  where
    go : (g : Bool) (end : ℕ) → end ≡ o + 1 → (r : List Lexeme) → resume s ((if g then Wrong o (Some (fault TOKEN (o + 1))) ∷ [] else Dot o ∷ []) ++ r) ≡ resume u (if g then Stray (fault TOKEN end) ∷ r else r)
    go true end i r =
        on_step s (Wrong o (Some (fault TOKEN (o + 1)))) tt r
        ∙ ap (λ (w : Turn). following w r) (wrong_breaks s o (fault TOKEN (o + 1)) f k)
        ∙ ap (λ n. book [] (Some (fault TOKEN n))) (sym i)
        ∙ sym (on_step u (Stray (fault TOKEN end)) tt r ∙ ap (λ (w : Turn). following w r) (stray_breaks u (fault TOKEN end) v))
    go false end i r = on_step s (Dot o) tt r ∙ ap (λ (w : Turn). following w r) q

-- an event
pub following_event : (w : Turn) (x : Object) (r : List Lexeme) → w ≡ event x → following w r ≡ and_events x (resume Idle r)
following_event w x r q = ap (λ (u : Turn). following u r) q

-- a name between bars, and whatever may follow it
pub bars_whole : (e : Ending) (o : ℕ) (t z : List ℕ) → 0 < length t → list_all is_name_byte t ≡ true → Fits AfterBar e z →
    lexemes_from e o 0 (124 ∷ (t ++ 124 ∷ z)) ≡ Atom o (Symbol (name_of_bytes t)) ∷ after glued_bar e (o + 2 + length t) z
bars_whole e o [] z l a h = absurd (omega arith)
bars_whole Goes o (c ∷ n) [] l a h = absurd h
bars_whole Ends o (c ∷ n) [] l a h =
    barred_end Ends o c n a
bars_whole e o (c ∷ n) (b ∷ x) l a h =
    let t = c ∷ n in
    ap (λ y. lexemes_from e o 0 (124 ∷ y)) (sym (append_assoc t (124 ∷ []) (b ∷ x)))
    ∙ barred_lexemes e x o b c n a
    ∙ atom_after e glued_bar o (Symbol (name_of_bytes t)) (o + 2 + length t) b x

-- a byte that no name may hold
pub bars_faults : (e : Ending) (s : State) (o b : ℕ) (t x : List ℕ) → list_all is_name_byte t ≡ true → is_name_byte b ≡ false → eqb b 124 ≡ false → is_full s ≡ false → IsSound s →
    resume s (lexemes_from e o 0 (124 ∷ (t ++ b ∷ x))) ≡ book [] (Some (fault BYTE (o + 1 + length t)))
bars_faults e s o b t x a n q f k =
    let r = lexemes_from e (suc o) (suc (length t)) (t ++ b ∷ x) in
    ap (resume s) (bar_lexemes e x o b t a n ∙ ap (λ u. u ++ r) (barred_fault e x o b t q))
    ∙ on_step s (Wrong o (Some (fault BYTE (o + 1 + length t)))) tt r
    ∙ ap (λ (w : Turn). following w r) (wrong_breaks s o (fault BYTE (o + 1 + length t)) f k)

-- bars with nothing between them
pub bars_empty : (e : Ending) (s : State) (o : ℕ) (x : List ℕ) → is_full s ≡ false → IsSound s → resume s (lexemes_from e o 0 (124 ∷ 124 ∷ x)) ≡ book [] (Some (fault TOKEN o))
bars_empty e s o x f k =
    on_step s (Wrong o (Some (fault TOKEN o))) tt (lexemes_from e (suc (suc o)) 0 x) ∙ ap (λ (w : Turn). following w (lexemes_from e (suc (suc o)) 0 x)) (wrong_breaks s o (fault TOKEN o) f k)
