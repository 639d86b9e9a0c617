-- The lexemes of a piece of text, and of the bytes after it.
use Rattle.std.proofs.Common.{◌≡◌, ℕ, zero, suc, ◌+◌, ◌≤◌, true, false, List, [], ◌∷◌, ◌++◌, length, Some, None, refl, sym, ap, ap₂, ◌∙◌, if◌then◌else◌, eqb, ltb, arith, le_refl}
use Rattle.mw_model.specs.Terms.Object.{Symbol, is_name_byte, name_of_bytes}
use Rattle.mw_model.specs.Texts.Lexemes.{Wrong, End, fault, TOKEN, BYTE, LABEL, Ending, Goes, Ends, unfinished, is_constituent, is_digit, TokenForm, Whole, Point, Bad, token_form, token, barred, hashed, label, atom, glued_bar, Class, Constituent, class, piece, extent, lexemes_from}
use Rattle.std.specs.List.{list_all}
use Rattle.mw_lex.proofs.Runs.{length_more, more_text, run_all, after_all, run_end, after_end}

-- a piece by the class of its first byte
pub piece_lexemes : (e : Ending) (o b : ℕ) (x : List ℕ) (k : Class) → class b ≡ k → lexemes_from e o 0 (b ∷ x) ≡ piece k e o b x ++ lexemes_from e (suc o) (extent k x) x
piece_lexemes e o b x k h = ap (λ c. piece c e o b x ++ lexemes_from e (suc o) (extent c x) x) h

-- bytes that are taken
pub skip : (e : Ending) (t y : List ℕ) (o : ℕ) → lexemes_from e o (length t) (t ++ y) ≡ lexemes_from e (o + length t) 0 y
skip e [] y o = ap (λ n. lexemes_from e n 0 y) (omega arith)
skip e (c ∷ t) y o = skip e t y (suc o) ∙ ap (λ n. lexemes_from e n 0 y) (omega arith)

skip_all : (e : Ending) (t : List ℕ) (o k : ℕ) → length t ≤ k → lexemes_from e o k t ≡ End (unfinished e (o + length t)) ∷ []
skip_all e [] o k h = ap (λ n. End (unfinished e n) ∷ []) (omega arith)
skip_all e (c ∷ t) o zero h = absurd (omega arith)
skip_all e (c ∷ t) o (suc k) h = skip_all e t (suc o) k (omega arith) ∙ ap (λ n. End (unfinished e n) ∷ []) (omega arith)

pub token_next : (e : Ending) (o : ℕ) (t : List ℕ) (f : TokenForm) (b : ℕ) (x : List ℕ) → token e o t f (b ∷ x) ≡ token Goes o t f (b ∷ [])
token_next e o t (Whole y) b x = refl
token_next e o t Point b x = refl
token_next Goes o t Bad b x = refl
token_next Ends o t Bad b x = refl

-- a token, whole
pub token_lexemes : (e : Ending) (x : List ℕ) (o b c : ℕ) (t : List ℕ) → class c ≡ Constituent → list_all is_constituent t ≡ true → is_constituent b ≡ false →
    lexemes_from e o 0 (c ∷ (t ++ b ∷ x)) ≡ token Goes o (c ∷ t) (token_form (c ∷ t)) (b ∷ []) ++ lexemes_from e (o + length (c ∷ t)) 0 (b ∷ x)
token_lexemes e x o b c t q h f =
    let y = t ++ b ∷ x in
    ap (λ k. piece k e o c y ++ lexemes_from e (suc o) (extent k y) y) q
    ∙ ap₂ (λ u v. token e o (c ∷ u) (token_form (c ∷ u)) v ++ lexemes_from e (suc o) (length u) y) (run_all is_constituent t b x h f) (after_all is_constituent t b x h f)
    ∙ ap₂ (λ u v. u ++ v) (token_next e o (c ∷ t) (token_form (c ∷ t)) b x)
    (skip e t (b ∷ x) (suc o) ∙ ap (λ n. lexemes_from e n 0 (b ∷ x)) (omega arith))

-- a token where the bytes end
pub token_ends : (e : Ending) (o c : ℕ) (t : List ℕ) → class c ≡ Constituent → list_all is_constituent t ≡ true →
    lexemes_from e o 0 (c ∷ t) ≡ token e o (c ∷ t) (token_form (c ∷ t)) [] ++ (End (unfinished e (o + suc (length t))) ∷ [])
token_ends e o c t q h =
    ap (λ k. piece k e o c t ++ lexemes_from e (suc o) (extent k t) t) q
    ∙ ap₂ (λ u v. token e o (c ∷ u) (token_form (c ∷ u)) v ++ lexemes_from e (suc o) (length u) t) (run_end is_constituent t h) (after_end is_constituent t h)
    ∙ ap (λ u. token e o (c ∷ t) (token_form (c ∷ t)) [] ++ u) (skip_all e t (suc o) (length t) (le_refl _) ∙ ap (λ n. End (unfinished e n) ∷ []) (omega arith))

pub token_open : (o : ℕ) (t : List ℕ) (f : TokenForm) → token Goes o t f [] ≡ Wrong o None ∷ []
token_open o t (Whole x) = refl
token_open o t Point = refl
token_open o t Bad = refl

-- a bar opens, up to a byte that no name may hold
pub bar_lexemes : (e : Ending) (x : List ℕ) (o b : ℕ) (n : List ℕ) → list_all is_name_byte n ≡ true → is_name_byte b ≡ false →
    lexemes_from e o 0 (124 ∷ (n ++ b ∷ x)) ≡ barred e o n (b ∷ x) ++ lexemes_from e (suc o) (suc (length n)) (n ++ b ∷ x)
bar_lexemes e x o b n h f =
    let y = n ++ b ∷ x in
    ap₂ (λ u v. barred e o u v ++ lexemes_from e (suc o) (suc (length u)) y) (run_all is_name_byte n b x h f) (after_all is_name_byte n b x h f)

pub barred_fault : (e : Ending) (x : List ℕ) (o b : ℕ) (n : List ℕ) → eqb b 124 ≡ false → barred e o n (b ∷ x) ≡ Wrong o (Some (fault BYTE (o + 1 + length n))) ∷ []
barred_fault e x o b [] h = ap (λ v. if v then Wrong o (Some (fault TOKEN o)) ∷ [] else Wrong o (Some (fault BYTE (o + 1 + 0))) ∷ []) h
barred_fault e x o b (c ∷ n) h =
    ap (λ v. if v then atom e glued_bar o (Symbol (name_of_bytes (c ∷ n))) (o + 2 + length (c ∷ n)) x else Wrong o (Some (fault BYTE (o + 1 + length (c ∷ n)))) ∷ []) h

-- after a closing bar
pub barred_lexemes : (e : Ending) (x : List ℕ) (o b c : ℕ) (n : List ℕ) → list_all is_name_byte (c ∷ n) ≡ true →
    lexemes_from e o 0 (124 ∷ (((c ∷ n) ++ 124 ∷ []) ++ b ∷ x))
    ≡ atom Goes glued_bar o (Symbol (name_of_bytes (c ∷ n))) (o + 2 + length (c ∷ n)) (b ∷ []) ++ lexemes_from e (o + 2 + length (c ∷ n)) 0 (b ∷ x)
barred_lexemes e x o b c n h =
    let m = c ∷ n in
    ap (λ y. lexemes_from e o 0 (124 ∷ y)) (more_text m 124 (b ∷ x))
    ∙ bar_lexemes e (b ∷ x) o 124 m h refl
    ∙ ap (λ u. atom Goes glued_bar o (Symbol (name_of_bytes m)) (o + 2 + length m) (b ∷ []) ++ u)
    (ap (λ y. lexemes_from e (suc o) (suc (length m)) y) (sym (more_text m 124 (b ∷ x)))
    ∙ ap (λ k. lexemes_from e (suc o) k ((m ++ 124 ∷ []) ++ b ∷ x)) (sym (length_more m 124))
    ∙ skip e (m ++ 124 ∷ []) (b ∷ x) (suc o)
    ∙ ap (λ k. lexemes_from e k 0 (b ∷ x)) (omega (arith, length_more m 124)))

-- a name between bars where the bytes end, before its closing bar
pub bars_end : (e : Ending) (o : ℕ) (n : List ℕ) → list_all is_name_byte n ≡ true → lexemes_from e o 0 (124 ∷ n) ≡ barred e o n [] ++ (End (unfinished e (o + suc (length n))) ∷ [])
bars_end e o n h =
    ap₂ (λ u v. barred e o u v ++ lexemes_from e (suc o) (suc (length u)) n) (run_end is_name_byte n h) (after_end is_name_byte n h)
    ∙ ap (λ u. barred e o n [] ++ u) (skip_all e n (suc o) (suc (length n)) (omega arith) ∙ ap (λ n. End (unfinished e n) ∷ []) (omega arith))

-- and after it
pub barred_end : (e : Ending) (o c : ℕ) (n : List ℕ) → list_all is_name_byte (c ∷ n) ≡ true →
    lexemes_from e o 0 (124 ∷ ((c ∷ n) ++ 124 ∷ []))
    ≡ atom e glued_bar o (Symbol (name_of_bytes (c ∷ n))) (o + 2 + length (c ∷ n)) [] ++ (End (unfinished e (o + 2 + length (c ∷ n))) ∷ [])
barred_end e o c n h =
    let m = c ∷ n in
    bar_lexemes e [] o 124 m h refl
    ∙ ap (λ u. atom e glued_bar o (Symbol (name_of_bytes m)) (o + 2 + length m) [] ++ u)
    (skip_all e (m ++ 124 ∷ []) (suc o) (suc (length m)) (omega (arith, length_more m 124)) ∙ ap (λ k. End (unfinished e k) ∷ []) (omega (arith, length_more m 124)))

label_next : (e : Ending) (o : ℕ) (d : List ℕ) (b : ℕ) (x : List ℕ) → label e o d (b ∷ x) ≡ label Goes o d (b ∷ [])
label_next e o [] b x = refl
label_next e o (c ∷ d) b x = refl

hashed_next : (e : Ending) (o : ℕ) (d : List ℕ) (b : ℕ) (x : List ℕ) → hashed e o d (b ∷ x) ≡ hashed Goes o d (b ∷ [])
hashed_next e o d b x = ap (λ u. if ltb 9 (length d) then Wrong o (Some (fault LABEL o)) ∷ [] else u) (label_next e o d b x)

-- a label or a reference, whole
pub hash_lexemes : (e : Ending) (x : List ℕ) (o b : ℕ) (d : List ℕ) → list_all is_digit d ≡ true → is_digit b ≡ false →
    lexemes_from e o 0 (35 ∷ (d ++ b ∷ x)) ≡ hashed Goes o d (b ∷ []) ++ lexemes_from e (o + 2 + length d) 0 x
hash_lexemes e x o b d h f =
    let y = d ++ b ∷ x in
    ap₂ (λ u v. hashed e o u v ++ lexemes_from e (suc o) (suc (length u)) y) (run_all is_digit d b x h f) (after_all is_digit d b x h f)
    ∙ ap₂ (λ u v. u ++ v) (hashed_next e o d b x)
    (ap (λ y. lexemes_from e (suc o) (suc (length d)) y) (sym (more_text d b x))
    ∙ ap (λ k. lexemes_from e (suc o) k ((d ++ b ∷ []) ++ x)) (sym (length_more d b))
    ∙ skip e (d ++ b ∷ []) x (suc o)
    ∙ ap (λ k. lexemes_from e k 0 x) (omega (arith, length_more d b)))

-- its digits where the bytes end
pub hash_end : (e : Ending) (o : ℕ) (d : List ℕ) → list_all is_digit d ≡ true → lexemes_from e o 0 (35 ∷ d) ≡ hashed e o d [] ++ (End (unfinished e (o + suc (length d))) ∷ [])
hash_end e o d h =
    ap₂ (λ u v. hashed e o u v ++ lexemes_from e (suc o) (suc (length u)) d) (run_end is_digit d h) (after_end is_digit d h)
    ∙ ap (λ u. hashed e o d [] ++ u) (skip_all e d (suc o) (suc (length d)) (omega arith) ∙ ap (λ n. End (unfinished e n) ∷ []) (omega arith))
