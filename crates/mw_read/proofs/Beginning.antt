-- What a byte makes of a parser where no text has begun.
use Rattle.std.proofs.Common.{◌≡◌, ℕ, zero, suc, ◌+◌, ◌-◌, ◌<◌, ◌≤◌, Bool, true, false, List, [], ◌∷◌, ◌++◌, length, take, drop, get_or, Some, Result, Ok, Err, IfOk, refl, sym, ap, ◌∙◌, subst, arith, true≢false, if◌then◌else◌}
use Rattle.std.proofs.lemmas.List.{take_all, length-drop}
use Rattle.mw_model.specs.Terms.Object.{Object}
use Rattle.mw_model.specs.Texts.Lexemes.{Lexeme, Stray, Fault, fault, DOT, TOKEN, BYTE, Ending, Goes, glued, glued_bar, is_constituent, is_white, Class, class, piece, extent, lexemes_from}
use Rattle.mw_model.specs.Texts.Lexemes as lex
use Rattle.mw_model.specs.Texts.Grammar.{book, and_events}
use Rattle.mw_read.specs.Machine.{State, Idle, Within, Full, Broken, Turn, on, is_full, IsSound}
use Rattle.mw_read.specs.Resume.{resume, onward, following}
use Rattle.mw_read.specs.Held.{Holds, Took}
use Rattle.mw_read.specs.Parsing.{ahead, meaning_of, IsText, is_inside, Advances, IsAfter, IsFirst, Begins, Moves, Moved, offset_of, offset_at, weight}
use Rattle.mw_read.specs.declared.parser.Begun.{Begun}
use Rattle.mw_read.specs.declared.parser.Begun.TheVariants.{Nothing, Comment, Token, Bars, Barred, Hash, AfterToken, AfterBar}
use Rattle.mw_read.specs.declared.parser.Parser.{Parser}
use Rattle.mw_read.specs.declared.step.Outcome.{Outcome}
use Rattle.mw_read.specs.declared.step.Outcome.TheVariants as outcomes
use Rattle.mw_read.proofs.Resuming.{on_step, IsSolid}
use Rattle.mw_lex.proofs.Lexemes.{piece_lexemes}
use Rattle.mw_read.proofs.Bytes.{full_piece}
use Rattle.mw_read.proofs.Bare.{take_cut}
use Rattle.mw_read.proofs.Hashes.{free_parser}
use Rattle.mw_read.proofs.Parsing.{stray_breaks, following_event}

-- what is left after n bytes, as a slice says it
pub rest_is : (n : ℕ) (xs : List ℕ) → take (length xs - n) (drop n xs) ≡ drop n xs
rest_is n xs = take_all (length xs - n) (drop n xs) (omega (arith, length-drop n xs))

pub if_ok_more : {T E : Type 0} (P Q : T → Type 0) (r : Result T E) → ((x : T) → P x → Q x) → IfOk r P → IfOk r Q
if_ok_more P Q (Ok x) f p = f x p
if_ok_more P Q (Err e) f p = p

pub if_ok_both : {T E : Type 0} (P Q R : T → Type 0) (r : Result T E) → ((x : T) → P x → Q x → R x) → IfOk r P → IfOk r Q → IfOk r R
if_ok_both P Q R (Ok x) f p q = f x p q
if_ok_both P Q R (Err e) f p q = p

-- what is read from one parser is read from another
pub carry : (os : List Object) (t : State) (old mid new : Parser) (rest more : List ℕ) (r : Outcome) (n m : ℕ) →
    ((e : Ending) (z : List ℕ) → meaning_of e t old (take m more ++ z) ≡ meaning_of e t mid (take n rest ++ z)) →
    ((e : Ending) (z : List ℕ) → meaning_of e t old (more ++ z) ≡ meaning_of e t mid (rest ++ z)) →
    Advances os t mid rest r n new → Advances os t old more r m new
carry os t old mid new rest more outcomes.Pending n m f g q = (q.0, q.1, q.2, λ e z fit. f e z ∙ q.3 e z fit)
carry os t old mid new rest more (outcomes.Datum r) n m f g q = (q.0, q.1, q.2, λ e z fit. f e z ∙ q.3 e z fit)
carry os t old mid new rest more (outcomes.Fault r) n m f g q = λ e z. g e z ∙ q e z

-- a lexeme that ends where no text has begun
ends_free : (os : List Object) (t : State) (old new : Parser) (rest : List ℕ) (n : ℕ) (l : Lexeme) (r : Outcome) → new.begun ≡ Nothing →
    ((e : Ending) (z : List ℕ) → meaning_of e t old (take n rest ++ z) ≡ following (on t l) (lexemes_from e new.start 0 z)) → Took os new.stack r (on t l) → Advances os t old rest r n new
ends_free os t old new rest n l outcomes.Pending i m q =
    let w = on t l in (
      w.state,
      q.1,
      free_parser os new i q.1.stack,
      λ e z fit.
          m e z
          ∙ ap (λ (u : List Object). onward u (resume w.state (lexemes_from e new.start 0 z))) q.0
          ∙ sym (ap (λ u. resume w.state (ahead e u new.token.items new.start z)) i),
    )
ends_free os t old new rest n l (outcomes.Datum r) i m q = (
  q.0,
  q.2,
  free_parser os new i q.2.stack,
  λ e z fit.
      m e z
      ∙ following_event (on t l) q.0 (lexemes_from e new.start 0 z) q.1
      ∙ ap (and_events q.0) (sym (ap (λ u. resume Idle (ahead e u new.token.items new.start z)) i)),
)
ends_free os t old new rest n l (outcomes.Fault f) i m q = λ e z.
    ap (meaning_of e t old) (take_cut [] rest n z)
    ∙ m e (drop n rest ++ z)
    ∙ ap (λ (u : Turn). following u (lexemes_from e new.start 0 (drop n rest ++ z))) q

pub at_nothing : (e : Ending) (t : State) (p : Parser) (x : List ℕ) → p.begun ≡ Nothing → meaning_of e t p x ≡ resume t (lexemes_from e p.start 0 x)
at_nothing e t p x h = ap (λ m. resume t (ahead e m p.token.items p.start x)) h

-- a lexeme of one byte
pub lexeme_advances : (os : List Object) (t : State) (old new : Parser) (rest : List ℕ) (r : Outcome) (k : Class) (l : Lexeme) → 0 < length rest → old.begun ≡ Nothing → new.begun ≡ Nothing →
    new.start ≡ old.start + 1 → class (get_or rest 0 0) ≡ k → IsSolid l →
    ((e : Ending) (b : ℕ) (x : List ℕ) → piece k e old.start b x ++ lexemes_from e (suc old.start) (extent k x) x ≡ l ∷ lexemes_from e (suc old.start) 0 x) →
    Took os new.stack r (on t l) → Advances os t old rest r 1 new
lexeme_advances os t old new [] r k l some h i s c w f q = absurd (omega arith)
lexeme_advances os t old new (b ∷ rest) r k l some h i s c w f q =
    ends_free os t old new (b ∷ rest) 1 l r i
    (λ e z.
    at_nothing e t old (b ∷ z) h
    ∙ ap (resume t) (piece_lexemes e old.start b z k c ∙ f e b z)
    ∙ on_step t l w (lexemes_from e (suc old.start) 0 z)
    ∙ ap (λ o. following (on t l) (lexemes_from e o 0 z)) (let o : suc old.start ≡ new.start = omega (arith, s) in o))
    q

-- white space
pub white_advances : (os : List Object) (t : State) (old new : Parser) (rest : List ℕ) → 0 < length rest → old.begun ≡ Nothing → new.begun ≡ Nothing → new.start ≡ old.start + 1 → class (get_or rest 0 0) ≡ lex.White →
    Holds os new.stack t → Advances os t old rest outcomes.Pending 1 new
white_advances os t old new [] some h i s c q = absurd (omega arith)
white_advances os t old new (b ∷ rest) some h i s c q = (
  t,
  q,
  free_parser os new i q.stack,
  λ e z fit.
      at_nothing e t old (b ∷ z) h
      ∙ ap (resume t) (piece_lexemes e old.start b z lex.White c)
      ∙ ap (λ o. resume t (lexemes_from e o 0 z)) (let o : suc old.start ≡ new.start = omega (arith, s) in o)
      ∙ sym (at_nothing e t new z i),
)

-- a comment begins
pub comment_advances : (os : List Object) (t : State) (old new : Parser) (rest : List ℕ) → 0 < length rest → old.begun ≡ Nothing → new.begun ≡ Comment → new.start ≡ old.start → class (get_or rest 0 0) ≡ lex.Semicolon →
    Holds os new.stack t → Advances os t old rest outcomes.Pending 1 new
comment_advances os t old new [] some h i s c q = absurd (omega arith)
comment_advances os t old new (b ∷ rest) some h i s c q = (
  t,
  q,
  record {
    stack = q.stack;
    text = subst (λ m. IsText m new.token.items) (sym i) tt;
    ready = λ r. absurd (true≢false (sym r ∙ ap is_inside i));
  },
  λ e z fit.
      at_nothing e t old (b ∷ z) h
      ∙ ap (resume t) (piece_lexemes e old.start b z lex.Semicolon c ∙ sym (piece_lexemes e old.start 59 z lex.Semicolon refl))
      ∙ ap (λ o. resume t (lexemes_from e o 0 (59 ∷ z))) (sym s)
      ∙ sym (ap (λ m. resume t (ahead e m new.token.items new.start z)) i),
)

pub first_is : (k : Class) (rest : List ℕ) → 0 < length rest → class (get_or rest 0 0) ≡ k → IsFirst k rest
first_is k [] some c = absurd (omega arith)
first_is k (b ∷ rest) some c = c

-- a byte that may not stand here
pub byte_faults : (e : Ending) (t : State) (old : Parser) (rest z : List ℕ) → 0 < length rest → old.begun ≡ Nothing → class (get_or rest 0 0) ≡ lex.Other → IsSound t →
    meaning_of e t old (rest ++ z) ≡ book [] (Some (fault BYTE old.start))
byte_faults e t old [] z some h c k = absurd (omega arith)
byte_faults e t old (b ∷ rest) z some h c k =
    let r = lexemes_from e (suc old.start) 0 (rest ++ z) in
    at_nothing e t old (b ∷ (rest ++ z)) h
    ∙ ap (resume t) (piece_lexemes e old.start b (rest ++ z) lex.Other c)
    ∙ on_step t (Stray (fault BYTE old.start)) tt r
    ∙ ap (λ (u : Turn). following u r) (stray_breaks t (fault BYTE old.start) k)

-- after a dot's datum no text may begin
pub begun_full : (m : Begun) (e : Ending) (t : State) (o : ℕ) (rest z : List ℕ) → Begins m rest → is_full t ≡ true → resume t (lexemes_from e o 0 (rest ++ z)) ≡ book [] (Some (fault DOT o))
begun_full Bars e (Full xs y s ls) o (b ∷ rest) z h f = full_piece e xs y s ls o b (rest ++ z) lex.Bar h tt
begun_full Hash e (Full xs y s ls) o (b ∷ rest) z h f = full_piece e xs y s ls o b (rest ++ z) lex.Hash h tt
begun_full Token e (Full xs y s ls) o (b ∷ rest) z h f = full_piece e xs y s ls o b (rest ++ z) lex.Constituent h tt
begun_full m e Idle o rest z h f = absurd (true≢false (sym f))
begun_full m e (Within g s ls) o rest z h f = absurd (true≢false (sym f))
begun_full m e (Broken g) o rest z h f = absurd (true≢false (sym f))
begun_full m e (Full xs y s ls) o rest z h f = absurd h

pub offset_is : (p : Parser) (m : Begun) (n o : ℕ) → p.begun ≡ m → length p.token.items ≡ n → p.start ≡ o → offset_of p ≡ offset_at m n o
offset_is p m n o h i j = ap (λ u. offset_at u (length p.token.items) p.start) h ∙ ap (λ u. offset_at m u p.start) i ∙ ap (offset_at m n) j

pub weight_small : (m : Begun) → weight m ≤ 1
weight_small Nothing = omega arith
weight_small Comment = omega arith
weight_small Token = omega arith
weight_small Bars = omega arith
weight_small Barred = omega arith
weight_small Hash = omega arith
weight_small AfterToken = omega arith
weight_small AfterBar = omega arith

-- what stands directly after
after_is : (m : Begun) (g : Bool) (e : Ending) (t : List ℕ) (o b : ℕ) (y : List ℕ) → IsAfter m g b →
    ahead e m t o (b ∷ y) ≡ (if g then Stray (fault TOKEN o) ∷ lexemes_from e o 0 (b ∷ y) else lexemes_from e o 0 (b ∷ y))
after_is Nothing g e t o b y h = sym (ap (λ v. if v then Stray (fault TOKEN o) ∷ lexemes_from e o 0 (b ∷ y) else lexemes_from e o 0 (b ∷ y)) h)
after_is AfterToken g e t o b y h = sym (ap (λ v. if v then Stray (fault TOKEN o) ∷ lexemes_from e o 0 (b ∷ y) else lexemes_from e o 0 (b ∷ y)) h)
after_is AfterBar g e t o b y h = sym (ap (λ v. if v then Stray (fault TOKEN o) ∷ lexemes_from e o 0 (b ∷ y) else lexemes_from e o 0 (b ∷ y)) h)
after_is m g e t o b y h = absurd h

pub glued_faults : (e : Ending) (t : State) (old : Parser) (rest z : List ℕ) → 0 < length rest → IsAfter old.begun true (get_or rest 0 0) → IsSound t → meaning_of e t old (rest ++ z) ≡ book [] (Some (fault TOKEN old.start))
glued_faults e t old [] z some h k = absurd (omega arith)
glued_faults e t old (b ∷ rest) z some h k =
    let r = lexemes_from e old.start 0 (b ∷ (rest ++ z)) in
    ap (resume t) (after_is old.begun true e old.token.items old.start b (rest ++ z) h)
    ∙ on_step t (Stray (fault TOKEN old.start)) tt r
    ∙ ap (λ (u : Turn). following u r) (stray_breaks t (fault TOKEN old.start) k)

-- nothing is glued
module _ (os : List Object) (t : State) (old mid new : Parser) (i : mid.begun ≡ Nothing) (s : mid.start ≡ old.start) where
  pub same_after : (b : ℕ) → IsAfter old.begun false b → (e : Ending) (y : List ℕ) → meaning_of e t old (b ∷ y) ≡ meaning_of e t mid (b ∷ y)
  same_after b h e y =
      ap (resume t) (after_is old.begun false e old.token.items old.start b y h)
      ∙ ap (λ o. resume t (lexemes_from e o 0 (b ∷ y))) (sym s)
      ∙ sym (at_nothing e t mid (b ∷ y) i)

  some_taken : (rest : List ℕ) (n : ℕ) → 0 < length rest → Moved mid rest n new → 0 < n
  some_taken rest n l m = let w : weight mid.begun ≡ 0 = ap weight i in omega (arith, m.less l, w)

  same_take : (b : ℕ) (rest : List ℕ) (n : ℕ) → 0 < n → IsAfter old.begun false b → (e : Ending) (z : List ℕ) → meaning_of e t old (take n (b ∷ rest) ++ z) ≡ meaning_of e t mid (take n (b ∷ rest) ++ z)
  same_take b rest zero l h e z = absurd (omega arith)
  same_take b rest (suc n) l h e z = same_after b h e (take n rest ++ z)

  pub after_advances : (rest : List ℕ) (r : Outcome) (n : ℕ) → 0 < length rest → IsAfter old.begun false (get_or rest 0 0) → Moves r mid rest n new → Advances os t mid rest r n new → Advances os t old rest r n new
  after_advances [] r n l h m q = absurd (omega arith)
  after_advances (b ∷ rest) outcomes.Pending n l h m q = (q.0, q.1, q.2, λ e z fit. same_take b rest n (some_taken (b ∷ rest) n l m) h e z ∙ q.3 e z fit)
  after_advances (b ∷ rest) (outcomes.Datum x) n l h m q = (q.0, q.1, q.2, λ e z fit. same_take b rest n (some_taken (b ∷ rest) n l m.0) h e z ∙ q.3 e z fit)
  after_advances (b ∷ rest) (outcomes.Fault f) n l h m q = λ e z. same_after b h e (rest ++ z) ∙ q e z
