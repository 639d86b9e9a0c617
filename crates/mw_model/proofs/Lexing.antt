-- A token, or a name in bars, with a delimiter or the end after it is one lexeme.
pub use Rattle.mw_model.proofs.Names.{name_of_bytes-bytes}
use Rattle.std.proofs.Common.{◌≡◌, ℕ, suc, ◌+◌, Bool, true, false, ◌||◌, ◌&&◌, List, [], ◌∷◌, ◌++◌, length, refl, sym, ap, ap₂, ◌∙◌, if◌then◌else◌, arith, append_assoc, length-append}
use Rattle.std.proofs.lemmas.Bool.{and_parts, both_ways}
use Rattle.mw_model.specs.Terms.Object.{Object, Symbol, Name, is_name, is_name_byte, name_of_bytes}
use Rattle.mw_model.specs.Texts.Lexemes.{Atom, Stray, fault, TOKEN, Ending, Ends, Goes, lexemes_from, class_else, Constituent, piece, extent, token, atom, barred, glued, glued_bar, run_of, after_run, is_constituent, Whole, token_form}
use Rattle.std.specs.List.{list_all}

-- nothing, or a byte that is not of the class
abbrev pub StopsRun : (ℕ → Bool) → List ℕ → Type 0
StopsRun p [] = Unit {0}
StopsRun p (b ∷ y) = p b ≡ false

pub run_of-append : (p : ℕ → Bool) (t z : List ℕ) → list_all p t ≡ true → StopsRun p z → run_of p (t ++ z) ≡ t
run_of-append p [] [] h f = refl
run_of-append p [] (b ∷ y) h f = ap (λ v. if v then b ∷ run_of p y else []) f
run_of-append p (c ∷ t) z h f =
    let a = and_parts (p c) (list_all p t) h in
    ap (λ v. if v then c ∷ run_of p (t ++ z) else []) a.0 ∙ ap (λ u. c ∷ u) (run_of-append p t z a.1 f)

pub after_run-append : (p : ℕ → Bool) (t z : List ℕ) → list_all p t ≡ true → StopsRun p z → after_run p (t ++ z) ≡ z
after_run-append p [] [] h f = refl
after_run-append p [] (b ∷ y) h f = ap (λ v. if v then after_run p y else b ∷ y) f
after_run-append p (c ∷ t) z h f =
    let a = and_parts (p c) (list_all p t) h in
    ap (λ v. if v then after_run p (t ++ z) else c ∷ (t ++ z)) a.0 ∙ after_run-append p t z a.1 f

-- bytes that are taken
pub lexemes_from-taken : (e : Ending) (t y : List ℕ) (o : ℕ) → lexemes_from e o (length t) (t ++ y) ≡ lexemes_from e (o + length t) 0 y
lexemes_from-taken e [] y o = ap (λ n. lexemes_from e n 0 y) (omega arith)
lexemes_from-taken e (c ∷ t) y o = lexemes_from-taken e t y (suc o) ∙ ap (λ n. lexemes_from e n 0 y) (omega arith)

-- what ends a token and a bar: the end, or such a byte
abbrev pub Delimits : Ending → List ℕ → Type 0
Delimits Ends [] = Unit {0}
Delimits Goes [] = ⊥
Delimits e (b ∷ y) = (is_constituent b ≡ false) × (glued b ≡ false)

delimits-stops : (e : Ending) (z : List ℕ) → Delimits e z → StopsRun is_constituent z
delimits-stops Ends [] d = tt
delimits-stops Goes [] d = tt
delimits-stops Ends (b ∷ y) d = d.0
delimits-stops Goes (b ∷ y) d = d.0

abbrev IsAllowed : (ℕ → Bool) → Ending → List ℕ → Type 0
IsAllowed bad Ends [] = Unit {0}
IsAllowed bad Goes [] = ⊥
IsAllowed bad e (b ∷ y) = bad b ≡ false

delimits-glued : (e : Ending) (z : List ℕ) → Delimits e z → IsAllowed glued e z
delimits-glued Ends [] d = tt
delimits-glued Goes [] d = absurd d
delimits-glued Ends (b ∷ y) d = d.1
delimits-glued Goes (b ∷ y) d = d.1

delimits-glued_bar : (e : Ending) (z : List ℕ) → Delimits e z → IsAllowed glued_bar e z
delimits-glued_bar Ends [] d = tt
delimits-glued_bar Goes [] d = absurd d
delimits-glued_bar Ends (b ∷ y) d = ap₂ (λ u v. u || v) d.1 d.0
delimits-glued_bar Goes (b ∷ y) d = ap₂ (λ u v. u || v) d.1 d.0

atom-allowed : (e : Ending) (bad : ℕ → Bool) (o : ℕ) (x : Object) (end : ℕ) (z : List ℕ) → IsAllowed bad e z → atom e bad o x end z ≡ Atom o x ∷ []
atom-allowed Ends bad o x end [] h = refl
atom-allowed Goes bad o x end [] h = absurd h
atom-allowed Ends bad o x end (b ∷ y) h = ap (λ v. if v then Atom o x ∷ Stray (fault TOKEN end) ∷ [] else Atom o x ∷ []) h
atom-allowed Goes bad o x end (b ∷ y) h = ap (λ v. if v then Atom o x ∷ Stray (fault TOKEN end) ∷ [] else Atom o x ∷ []) h

-- a token that stands for an atom
pub lexemes_from-token : (e : Ending) (o c : ℕ) (t z : List ℕ) (x : Object) → list_all is_constituent (c ∷ t) ≡ true → token_form (c ∷ t) ≡ Whole x → Delimits e z →
    lexemes_from e o 0 ((c ∷ t) ++ z) ≡ Atom o x ∷ lexemes_from e (o + length (c ∷ t)) 0 z
lexemes_from-token e o c t z x h f d =
    let a = and_parts (is_constituent c) (list_all is_constituent t) h in
    let y = t ++ z in
    ap (λ k. piece k e o c y ++ lexemes_from e (suc o) (extent k y) y) (ap (λ v. if v then Constituent else class_else c) a.0)
    ∙ ap₂ (λ u v. token e o (c ∷ u) (token_form (c ∷ u)) v ++ lexemes_from e (suc o) (length u) y)
    (run_of-append is_constituent t z a.1 (delimits-stops e z d)) (after_run-append is_constituent t z a.1 (delimits-stops e z d))
    ∙ ap (λ g. token e o (c ∷ t) g z ++ lexemes_from e (suc o) (length t) y) f
    ∙ ap₂ (λ u v. u ++ v) (atom-allowed e glued o x (o + length (c ∷ t)) z (delimits-glued e z d))
    (lexemes_from-taken e t z (suc o) ∙ ap (λ n. lexemes_from e n 0 z) (omega arith))

-- a name in bars
are_name_bytes-all : (n : List ℕ) → list_all is_name_byte n ≡ list_all is_name_byte n
are_name_bytes-all [] = refl
are_name_bytes-all (c ∷ n) = ap (λ v. is_name_byte c && v) (are_name_bytes-all n)

length-more : (n : List ℕ) (b : ℕ) → suc (length n) ≡ length (n ++ b ∷ [])
length-more n b = omega (arith, length-append n (b ∷ []))

pub lexemes_from-bars : (e : Ending) (o : ℕ) (s : Name) (n z : List ℕ) → s.bytes ≡ n → Delimits e z →
    lexemes_from e o 0 ((124 ∷ (n ++ 124 ∷ [])) ++ z) ≡ Atom o (Symbol s) ∷ lexemes_from e (o + length (124 ∷ (n ++ 124 ∷ []))) 0 z
lexemes_from-bars e o s [] z q d = absurd (both_ways (is_name s.bytes) (ap is_name q) s.valid)
lexemes_from-bars e o s (c ∷ n) z q d =
    let m = c ∷ n in
    let y = (m ++ 124 ∷ []) ++ z in
    let assoc : y ≡ m ++ 124 ∷ z = append_assoc m (124 ∷ []) z in
    let are : list_all is_name_byte m ≡ true = sym (ap (λ v. is_name_byte c && v) (are_name_bytes-all n)) ∙ sym (ap is_name q) ∙ s.valid in
    ap (λ y. barred e o (run_of is_name_byte y) (after_run is_name_byte y) ++ lexemes_from e (suc o) (suc (length (run_of is_name_byte y))) y) assoc
    ∙ ap₂ (λ u v. barred e o u v ++ lexemes_from e (suc o) (suc (length u)) (m ++ 124 ∷ z)) (run_of-append is_name_byte m (124 ∷ z) are refl) (after_run-append is_name_byte m (124 ∷ z) are refl)
    ∙ ap₂ (λ u v. u ++ v)
    (atom-allowed e glued_bar o (Symbol (name_of_bytes m)) (o + 2 + length m) z (delimits-glued_bar e z d) ∙ ap (λ n. Atom o (Symbol n) ∷ []) (ap name_of_bytes (sym q) ∙ name_of_bytes-bytes s))
    (ap₂ (λ k y. lexemes_from e (suc o) k y) (length-more m 124) (sym assoc)
    ∙ lexemes_from-taken e (m ++ 124 ∷ []) z (suc o)
    ∙ ap (λ k. lexemes_from e k 0 z) (omega arith))
