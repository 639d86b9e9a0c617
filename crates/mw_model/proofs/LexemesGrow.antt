-- The lexemes of bytes after which more may follow are, whatever follows, the first lexemes of all the bytes, but for a last
-- one that is not complete. What that one becomes begins at the same offset.
use Rattle.std.proofs.Common.{◌≡◌, ℕ, zero, suc, ◌+◌, ◌≤◌, ◌<◌, Bool, true, false, eqb, ltb, List, [], ◌∷◌, ◌++◌, length, Some, None, refl, sym, ap, ap₂, ◌∙◌, subst, arith, length-append, ltb-true, lt-ltb, if◌then◌else◌}
use Rattle.mw_model.specs.Terms.Object.{Object, Symbol, is_name_byte, name_of_bytes}
use Rattle.mw_model.specs.Texts.Lexemes.{Lexeme, fault, TOKEN, BYTE, LABEL, Atom, Dot, Mark, Ref, Wrong, Stray, End, Ending, Ends, Goes, Class, White, Semicolon, Opening, Closing, Apostrophe, Bar, Hash, Constituent, Other, class, piece, extent, lexemes_from, run_of, after_run, is_constituent, is_digit, is_inside_comment, glued, glued_bar, atom, token, TokenForm, Whole, Point, Bad, token_form, bar_closed, barred, label, hashed, decimal_value}
use Rattle.mw_model.proofs.LexingPieces.{run_and_after}

-- ---- lexemes that grow

-- a lexeme at this offset that neither closes a list nor ends the bytes
abbrev pub BeginsAt : ℕ → Lexeme → Type 0
BeginsAt o (Atom p x) = p ≡ o
BeginsAt o (Dot p) = p ≡ o
BeginsAt o (Mark p n) = p ≡ o
BeginsAt o (Ref p n) = p ≡ o
BeginsAt o (Wrong p s) = p ≡ o
BeginsAt o _ = ⊥

pub data GrowInto : List Lexeme → List Lexeme → Type 0 where
  ended : (l : Lexeme) (L : List Lexeme) → GrowInto (End None ∷ []) (l ∷ L)
  completed : (o : ℕ) (l : Lexeme) (L M : List Lexeme) → BeginsAt o l → GrowInto L M → GrowInto (Wrong o None ∷ L) (l ∷ M)
  kept : (l : Lexeme) (L M : List Lexeme) → GrowInto L M → GrowInto (l ∷ L) (l ∷ M)

kept_all : (P L M : List Lexeme) → GrowInto L M → GrowInto (P ++ L) (P ++ M)
kept_all [] L M g = g
kept_all (l ∷ P) L M g = kept l (P ++ L) (P ++ M) (kept_all P L M g)

ended_by : (L : List Lexeme) → 0 < length L → GrowInto (End None ∷ []) L
ended_by [] s = absurd (omega arith)
ended_by (l ∷ L) s = ended l L

abbrev BeginAt : ℕ → List Lexeme → Type 0
BeginAt o [] = ⊥
BeginAt o (l ∷ L) = BeginsAt o l

completed_by : (o : ℕ) (P L : List Lexeme) → BeginAt o P → 0 < length L → GrowInto (Wrong o None ∷ End None ∷ []) (P ++ L)
completed_by o [] L a s = absurd a
completed_by o (l ∷ P) L a s = completed o l (End None ∷ []) (P ++ L) a (ended_by (P ++ L) (omega (arith, length-append P L)))

-- ---- a run that ends before the bytes do is the same before more bytes

module _ (p : ℕ → Bool) (more : List ℕ) where
  run_more : (bs : List ℕ) → 0 < length (after_run p bs) → run_of p (bs ++ more) ≡ run_of p bs
  run_more [] s = absurd (omega arith)
  run_more (b ∷ bs) s = go (p b) s (run_more bs)
    where
      go : (v : Bool) → 0 < length (if v then after_run p bs else b ∷ bs) → (0 < length (after_run p bs) → run_of p (bs ++ more) ≡ run_of p bs) → (if v then b ∷ run_of p (bs ++ more) else []) ≡ (if v then b ∷ run_of p bs else [])
      go true s r = ap (λ u. b ∷ u) (r s)
      go false s r = refl

  after_more : (bs : List ℕ) → 0 < length (after_run p bs) → after_run p (bs ++ more) ≡ after_run p bs ++ more
  after_more [] s = absurd (omega arith)
  after_more (b ∷ bs) s = go (p b) s (after_more bs)
    where
      go : (v : Bool) → 0 < length (if v then after_run p bs else b ∷ bs) → (0 < length (after_run p bs) → after_run p (bs ++ more) ≡ after_run p bs ++ more) → (if v then after_run p (bs ++ more) else b ∷ (bs ++ more)) ≡ (if v then after_run p bs else b ∷ bs) ++ more
      go true s r = r s
      go false s r = refl

  run_longer : (bs : List ℕ) → length (run_of p bs) ≤ length (run_of p (bs ++ more))
  run_longer [] = omega arith
  run_longer (b ∷ bs) = go (p b) (run_longer bs)
    where
      go : (v : Bool) → length (run_of p bs) ≤ length (run_of p (bs ++ more)) → length (if v then b ∷ run_of p bs else []) ≤ length (if v then b ∷ run_of p (bs ++ more) else [])
      go true r = omega arith
      go false r = omega arith

-- ---- a lexeme with a byte after it is the same whatever follows; with none it may become another at its offset

atom_more : (e : Ending) (bad : ℕ → Bool) (o : ℕ) (x : Object) (end b : ℕ) (bs more : List ℕ) → atom e bad o x end (b ∷ (bs ++ more)) ≡ atom Goes bad o x end (b ∷ bs)
atom_more Ends bad o x end b bs more = refl
atom_more Goes bad o x end b bs more = refl

atom_begins : (e : Ending) (bad : ℕ → Bool) (o : ℕ) (x : Object) (end : ℕ) (bs : List ℕ) → BeginAt o (atom e bad o x end bs)
atom_begins Ends bad o x end [] = refl
atom_begins Goes bad o x end [] = refl
atom_begins e bad o x end (b ∷ bs) = subst (BeginAt o) (sym (atom_more e bad o x end b [] bs)) (go (bad b))
  where
    go : (v : Bool) → BeginAt o (if v then Atom o x ∷ Stray (fault TOKEN end) ∷ [] else Atom o x ∷ [])
    go true = refl
    go false = refl

token_more : (e : Ending) (o : ℕ) (t : List ℕ) (f : TokenForm) (b : ℕ) (bs more : List ℕ) → token e o t f (b ∷ (bs ++ more)) ≡ token Goes o t f (b ∷ bs)
token_more e o t (Whole x) b bs more = atom_more e glued o x (o + length t) b bs more
token_more Ends o t Point b bs more = refl
token_more Goes o t Point b bs more = refl
token_more Ends o t Bad b bs more = refl
token_more Goes o t Bad b bs more = refl

token_unended : (o : ℕ) (t : List ℕ) (f : TokenForm) → token Goes o t f [] ≡ Wrong o None ∷ []
token_unended o t (Whole x) = refl
token_unended o t Point = refl
token_unended o t Bad = refl

token_begins : (e : Ending) (o : ℕ) (t : List ℕ) (f : TokenForm) (bs : List ℕ) → BeginAt o (token e o t f bs)
token_begins e o t (Whole x) bs = atom_begins e glued o x (o + length t) bs
token_begins Ends o t Point [] = refl
token_begins Goes o t Point [] = refl
token_begins e o t Point (b ∷ bs) = subst (BeginAt o) (sym (token_more e o t Point b [] bs)) (go (glued b))
  where
    go : (v : Bool) → BeginAt o (if v then Wrong o (Some (fault TOKEN (o + 1))) ∷ [] else Dot o ∷ [])
    go true = refl
    go false = refl
token_begins Ends o t Bad [] = refl
token_begins Goes o t Bad [] = refl
token_begins Ends o t Bad (b ∷ bs) = refl
token_begins Goes o t Bad (b ∷ bs) = refl

barred_more : (e : Ending) (o : ℕ) (n : List ℕ) (b c : ℕ) (bs more : List ℕ) → barred e o n (b ∷ c ∷ (bs ++ more)) ≡ barred Goes o n (b ∷ c ∷ bs)
barred_more e o n b c bs more = go (eqb b 124) n
  where
    go : (v : Bool) (m : List ℕ) → (if v then bar_closed e o m (c ∷ (bs ++ more)) else Wrong o (Some (fault BYTE (o + 1 + length n))) ∷ []) ≡ (if v then bar_closed Goes o m (c ∷ bs) else Wrong o (Some (fault BYTE (o + 1 + length n))) ∷ [])
    go true [] = refl
    go true (d ∷ m) = atom_more e glued_bar o (Symbol (name_of_bytes (d ∷ m))) (o + 2 + length (d ∷ m)) c bs more
    go false m = refl

barred_begins : (e : Ending) (o : ℕ) (n bs : List ℕ) → BeginAt o (barred e o n bs)
barred_begins e o n [] = refl
barred_begins e o n (b ∷ bs) = go (eqb b 124) n
  where
    go : (v : Bool) (m : List ℕ) → BeginAt o (if v then bar_closed e o m bs else Wrong o (Some (fault BYTE (o + 1 + length n))) ∷ [])
    go true [] = refl
    go true (d ∷ m) = atom_begins e glued_bar o (Symbol (name_of_bytes (d ∷ m))) (o + 2 + length (d ∷ m)) bs
    go false m = refl

-- a bar or a wrong byte after the name, and no byte after that
barred_grows : (e : Ending) (o : ℕ) (n : List ℕ) (b : ℕ) (more : List ℕ) (L : List Lexeme) → 0 < length L → GrowInto (barred Goes o n (b ∷ []) ++ End None ∷ []) (barred e o n (b ∷ more) ++ L)
barred_grows e o n b more L s = go (eqb b 124) n
  where
    go : (v : Bool) (m : List ℕ) → GrowInto ((if v then bar_closed Goes o m [] else Wrong o (Some (fault BYTE (o + 1 + length n))) ∷ []) ++ End None ∷ []) ((if v then bar_closed e o m more else Wrong o (Some (fault BYTE (o + 1 + length n))) ∷ []) ++ L)
    go true [] = kept (Wrong o (Some (fault TOKEN o))) (End None ∷ []) L (ended_by L s)
    go true (d ∷ m) = let end = o + 2 + length (d ∷ m) in let x = Symbol (name_of_bytes (d ∷ m)) in completed_by o (atom e glued_bar o x end more) L (atom_begins e glued_bar o x end more) s
    go false m = kept (Wrong o (Some (fault BYTE (o + 1 + length n)))) (End None ∷ []) L (ended_by L s)

hashed_more : (e : Ending) (o : ℕ) (d : List ℕ) (b : ℕ) (bs more : List ℕ) → hashed e o d (b ∷ (bs ++ more)) ≡ hashed Goes o d (b ∷ bs)
hashed_more e o [] b bs more = refl
hashed_more e o (c ∷ d) b bs more = refl

label_begins : (e : Ending) (o : ℕ) (d bs : List ℕ) → BeginAt o (label e o d bs)
label_begins e o d [] = refl
label_begins e o [] (b ∷ bs) = refl
label_begins e o (c ∷ d) (b ∷ bs) = go (eqb b 61) (eqb b 35)
  where
    go : (v w : Bool) → BeginAt o (if v then Mark o (decimal_value (c ∷ d)) ∷ [] else (if w then Ref o (decimal_value (c ∷ d)) ∷ [] else Wrong o (Some (fault LABEL o)) ∷ []))
    go true w = refl
    go false true = refl
    go false false = refl

hashed_begins : (e : Ending) (o : ℕ) (d bs : List ℕ) → BeginAt o (hashed e o d bs)
hashed_begins e o d bs = go (ltb 9 (length d))
  where
    go : (v : Bool) → BeginAt o (if v then Wrong o (Some (fault LABEL o)) ∷ [] else label e o d bs)
    go true = refl
    go false = label_begins e o d bs

-- Too many digits are a fault even where more may follow, and stay one.
hashed_grows : (e : Ending) (o : ℕ) (d c bs : List ℕ) (L : List Lexeme) → length d ≤ length c → 0 < length L → GrowInto (hashed Goes o d [] ++ End None ∷ []) (hashed e o c bs ++ L)
hashed_grows e o d c bs L l s = go (ltb 9 (length d)) refl
  where
    go : (v : Bool) → ltb 9 (length d) ≡ v → GrowInto ((if v then Wrong o (Some (fault LABEL o)) ∷ [] else label Goes o d []) ++ End None ∷ []) (hashed e o c bs ++ L)
    go true h =
        let many : 9 < length c = omega (arith, ltb-true 9 (length d) h) in
        subst (λ v. GrowInto (Wrong o (Some (fault LABEL o)) ∷ End None ∷ []) ((if v then Wrong o (Some (fault LABEL o)) ∷ [] else label e o c bs) ++ L)) (sym (lt-ltb 9 (length c) many)) (kept (Wrong o (Some (fault LABEL o))) (End None ∷ []) L (ended_by L s))
    go false h = completed_by o (hashed e o c bs) L (hashed_begins e o c bs) s

-- ---- pieces

-- The piece is the same before more bytes, or it takes the bytes to their end and grows.
data PieceGrows (c : Class) (e : Ending) (o b : ℕ) (bs more : List ℕ) : Type 0 where
  same : piece c e o b (bs ++ more) ≡ piece c Goes o b bs → extent c (bs ++ more) ≡ extent c bs → PieceGrows c e o b bs more
  last : length bs ≤ extent c bs → ((L : List Lexeme) → 0 < length L → GrowInto (piece c Goes o b bs ++ End None ∷ []) (piece c e o b (bs ++ more) ++ L)) → PieceGrows c e o b bs more

comment_grows : (e : Ending) (o b : ℕ) (bs more : List ℕ) → PieceGrows Semicolon e o b bs more
comment_grows e o b bs more = go (after_run is_inside_comment bs) refl
  where
    all : length (run_of is_inside_comment bs) + length (after_run is_inside_comment bs) ≡ length bs
    all = run_and_after is_inside_comment bs

    go : (r : List ℕ) → after_run is_inside_comment bs ≡ r → PieceGrows Semicolon e o b bs more
    go [] h = last (omega (arith, all, ap length h)) ended_by
    go (c ∷ r) h = same refl (ap length (run_more is_inside_comment more bs (omega (arith, ap length h))))

bars_grow : (e : Ending) (o b : ℕ) (bs more : List ℕ) → PieceGrows Bar e o b bs more
bars_grow e o b bs more = go (after_run is_name_byte bs) refl
  where
    all : length (run_of is_name_byte bs) + length (after_run is_name_byte bs) ≡ length bs
    all = run_and_after is_name_byte bs

    go : (r : List ℕ) → after_run is_name_byte bs ≡ r → PieceGrows Bar e o b bs more
    go [] h =
        last (omega (arith, all, ap length h))
        (λ L s. subst (λ u. GrowInto (barred Goes o (run_of is_name_byte bs) u ++ End None ∷ []) (piece Bar e o b (bs ++ more) ++ L)) (sym h)
        (completed_by o (piece Bar e o b (bs ++ more)) L (barred_begins e o (run_of is_name_byte (bs ++ more)) (after_run is_name_byte (bs ++ more))) s))
    go (c ∷ r) h =
        let some : 0 < length (after_run is_name_byte bs) = omega (arith, ap length h) in
        let run = run_more is_name_byte more bs some in
        let rest = after_more is_name_byte more bs some ∙ ap (λ u. u ++ more) h in
        ended c r h run rest
      where
        ended : (c : ℕ) (r : List ℕ) → after_run is_name_byte bs ≡ c ∷ r → run_of is_name_byte (bs ++ more) ≡ run_of is_name_byte bs → after_run is_name_byte (bs ++ more) ≡ c ∷ (r ++ more) → PieceGrows Bar e o b bs more
        ended c [] h run rest =
            last (omega (arith, all, ap length h))
            (λ L s. subst (λ u. GrowInto (barred Goes o (run_of is_name_byte bs) u ++ End None ∷ []) (piece Bar e o b (bs ++ more) ++ L)) (sym h)
            (subst (λ u. GrowInto (barred Goes o (run_of is_name_byte bs) (c ∷ []) ++ End None ∷ []) (u ++ L)) (sym (ap₂ (barred e o) run rest))
            (barred_grows e o (run_of is_name_byte bs) c more L s)))
        ended c (d ∷ r) h run rest =
            same (ap₂ (barred e o) run rest ∙ barred_more e o (run_of is_name_byte bs) c d r more ∙ sym (ap (barred Goes o (run_of is_name_byte bs)) h)) (ap (λ u. suc (length u)) run)

hash_grows : (e : Ending) (o b : ℕ) (bs more : List ℕ) → PieceGrows Hash e o b bs more
hash_grows e o b bs more = go (after_run is_digit bs) refl
  where
    all : length (run_of is_digit bs) + length (after_run is_digit bs) ≡ length bs
    all = run_and_after is_digit bs

    go : (r : List ℕ) → after_run is_digit bs ≡ r → PieceGrows Hash e o b bs more
    go [] h =
        last (omega (arith, all, ap length h))
        (λ L s. subst (λ u. GrowInto (hashed Goes o (run_of is_digit bs) u ++ End None ∷ []) (piece Hash e o b (bs ++ more) ++ L)) (sym h)
        (hashed_grows e o (run_of is_digit bs) (run_of is_digit (bs ++ more)) (after_run is_digit (bs ++ more)) L (run_longer is_digit more bs) s))
    go (c ∷ r) h =
        let some : 0 < length (after_run is_digit bs) = omega (arith, ap length h) in
        let run = run_more is_digit more bs some in
        let rest = after_more is_digit more bs some ∙ ap (λ u. u ++ more) h in
        same (ap₂ (hashed e o) run rest ∙ hashed_more e o (run_of is_digit bs) c r more ∙ sym (ap (hashed Goes o (run_of is_digit bs)) h)) (ap (λ u. suc (length u)) run)

-- a token that begins with byte b, and the bytes after it
abbrev of_token : Ending → ℕ → ℕ → List ℕ → List ℕ → List Lexeme
of_token e o b t rest = token e o (b ∷ t) (token_form (b ∷ t)) rest

token_grows : (e : Ending) (o b : ℕ) (bs more : List ℕ) → PieceGrows Constituent e o b bs more
token_grows e o b bs more = go (after_run is_constituent bs) refl
  where
    all : length (run_of is_constituent bs) + length (after_run is_constituent bs) ≡ length bs
    all = run_and_after is_constituent bs

    go : (r : List ℕ) → after_run is_constituent bs ≡ r → PieceGrows Constituent e o b bs more
    go [] h =
        last (omega (arith, all, ap length h))
        (λ L s. subst (λ u. GrowInto (u ++ End None ∷ []) (piece Constituent e o b (bs ++ more) ++ L))
        (sym (ap (of_token Goes o b (run_of is_constituent bs)) h ∙ token_unended o (b ∷ run_of is_constituent bs) (token_form (b ∷ run_of is_constituent bs))))
        (completed_by o (piece Constituent e o b (bs ++ more)) L (token_begins e o (b ∷ run_of is_constituent (bs ++ more)) (token_form (b ∷ run_of is_constituent (bs ++ more))) (after_run is_constituent (bs ++ more))) s))
    go (c ∷ r) h =
        let some : 0 < length (after_run is_constituent bs) = omega (arith, ap length h) in
        let run = run_more is_constituent more bs some in
        let rest = after_more is_constituent more bs some ∙ ap (λ u. u ++ more) h in
        same
        (ap₂ (of_token e o b) run rest ∙ token_more e o (b ∷ run_of is_constituent bs) (token_form (b ∷ run_of is_constituent bs)) c r more ∙ sym (ap (of_token Goes o b (run_of is_constituent bs)) h))
        (ap length run)

piece_grows : (c : Class) (e : Ending) (o b : ℕ) (bs more : List ℕ) → PieceGrows c e o b bs more
piece_grows White e o b bs more = same refl refl
piece_grows Semicolon e o b bs more = comment_grows e o b bs more
piece_grows Opening e o b bs more = same refl refl
piece_grows Closing e o b bs more = same refl refl
piece_grows Apostrophe e o b bs more = same refl refl
piece_grows Bar e o b bs more = bars_grow e o b bs more
piece_grows Hash e o b bs more = hash_grows e o b bs more
piece_grows Constituent e o b bs more = token_grows e o b bs more
piece_grows Other e o b bs more = same refl refl

-- ---- all the bytes

lexemes_some : (e : Ending) (o n : ℕ) (bs : List ℕ) → 0 < length (lexemes_from e o n bs)
lexemes_some e o n [] = omega arith
lexemes_some e o (suc n) (b ∷ bs) = lexemes_some e (suc o) n bs
lexemes_some e o zero (b ∷ bs) =
    let r = lexemes_some e (suc o) (extent (class b) bs) bs in omega (arith, r, length-append (piece (class b) e o b bs) (lexemes_from e (suc o) (extent (class b) bs) bs))

all_taken : (o n : ℕ) (bs : List ℕ) → length bs ≤ n → lexemes_from Goes o n bs ≡ End None ∷ []
all_taken o n [] l = refl
all_taken o zero (b ∷ bs) l = absurd (omega arith)
all_taken o (suc n) (b ∷ bs) l = all_taken (suc o) n bs (omega arith)

pub lexemes_grow : (e : Ending) (o n : ℕ) (bs more : List ℕ) → GrowInto (lexemes_from Goes o n bs) (lexemes_from e o n (bs ++ more))
lexemes_grow e o n [] more = ended_by (lexemes_from e o n more) (lexemes_some e o n more)
lexemes_grow e o (suc n) (b ∷ bs) more = lexemes_grow e (suc o) n bs more
lexemes_grow e o zero (b ∷ bs) more = go (class b) (piece_grows (class b) e o b bs more) (lexemes_grow e (suc o) (extent (class b) bs) bs more)
  where
    go : (c : Class) → PieceGrows c e o b bs more → GrowInto (lexemes_from Goes (suc o) (extent c bs) bs) (lexemes_from e (suc o) (extent c bs) (bs ++ more)) →
        GrowInto (piece c Goes o b bs ++ lexemes_from Goes (suc o) (extent c bs) bs) (piece c e o b (bs ++ more) ++ lexemes_from e (suc o) (extent c (bs ++ more)) (bs ++ more))
    go c (same p x) r =
        let L = lexemes_from Goes (suc o) (extent c bs) bs in
        let M = lexemes_from e (suc o) (extent c bs) (bs ++ more) in
        subst (λ P. GrowInto (piece c Goes o b bs ++ lexemes_from Goes (suc o) (extent c bs) bs) (P ++ lexemes_from e (suc o) (extent c (bs ++ more)) (bs ++ more))) (sym p)
        (subst (λ n. GrowInto (piece c Goes o b bs ++ lexemes_from Goes (suc o) (extent c bs) bs) (piece c Goes o b bs ++ lexemes_from e (suc o) n (bs ++ more))) (sym x)
        (kept_all (piece c Goes o b bs) L M r))
    go c (last l f) r =
        let M = lexemes_from e (suc o) (extent c (bs ++ more)) (bs ++ more) in
        subst (λ L. GrowInto (piece c Goes o b bs ++ L) (piece c e o b (bs ++ more) ++ M)) (sym (all_taken (suc o) (extent c bs) bs l))
        (f M (lexemes_some e (suc o) (extent c (bs ++ more)) (bs ++ more)))
