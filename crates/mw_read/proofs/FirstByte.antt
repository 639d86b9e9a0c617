-- What the first byte of a text makes of a parser.
use Rattle.std.proofs.Common.{◌≡◌, ℕ, zero, suc, ◌+◌, ◌-◌, ◌<◌, ◌≤◌, false, List, [], ◌∷◌, ◌++◌, length, take, drop, get_or, refl, sym, ap, ◌∙◌, subst, arith}
use Rattle.std.proofs.lemmas.List.{length-drop, drop_all}
use Rattle.std.proofs.lemmas.Grind.{get_or_after_one}
use Rattle.mw_model.specs.Terms.Object.{Object}
use Rattle.mw_model.specs.Texts.Lexemes.{Ending, Goes, is_constituent, is_white, class, piece, extent, lexemes_from}
use Rattle.mw_model.specs.Texts.Lexemes as lex
use Rattle.mw_read.specs.Machine.{State, on}
use Rattle.mw_read.specs.Resume.{resume}
use Rattle.mw_read.specs.Held.{Holds, Took}
use Rattle.mw_lex.specs.Runs.{StartsWith}
use Rattle.mw_read.specs.Piles.{pile_of, is_ready}
use Rattle.mw_read.specs.Stacks.{IsStack}
use Rattle.mw_read.specs.Parsing.{ahead, meaning_of, Fits, IsText, IsParser, Advances, Begins, EndsAt, Moves, Moved, offset_of, offset_at}
use Rattle.mw_read.specs.declared.parser.Begun.{Begun}
use Rattle.mw_read.specs.declared.parser.Begun.TheVariants.{Nothing, Token, Bars, Hash}
use Rattle.mw_read.specs.declared.parser.Parser.{Parser}
use Rattle.mw_read.specs.declared.step.Outcome.{Outcome}
use Rattle.mw_read.specs.declared.step.Outcome.TheVariants as outcomes
use Rattle.mw_lex.proofs.Lexemes.{piece_lexemes}
use Rattle.mw_lex.proofs.Classes as classes
use Rattle.mw_read.proofs.Beginning.{lexeme_advances, rest_is, carry, at_nothing, offset_is, weight_small}
use Rattle.mw_read.proofs.White.{class_shows, begins_shows}
use Rattle.mw_read.proofs.Moving.{byte_moves}
use Rattle.mw_read.proofs.Resuming.{IsSolid}

-- a lexeme of one byte was taken
pub byte_taken : (os0 os : List Object) (old new : Parser) (rest : List ℕ) (r : Outcome) (k : lex.Class) (l : lex.Lexeme) → 0 < length rest → old.begun ≡ Nothing → new.begun ≡ Nothing → new.start ≡ old.start + 1 →
    class (get_or rest 0 0) ≡ k → (k ≡ lex.White → ⊥) → IsSolid l →
    ((e : Ending) (b : ℕ) (x : List ℕ) → piece k e old.start b x ++ lexemes_from e (suc old.start) (extent k x) x ≡ l ∷ lexemes_from e (suc old.start) 0 x) →
    ((t : State) → Holds os0 old.stack t → Took os new.stack r (on t l)) → Moves r old rest 1 new × ((t : State) → Holds os0 old.stack t → Advances os t old rest r 1 new)
byte_taken os0 os old new rest r k l some h i s c bare solid pieces took = (
  byte_moves r old new rest h i s (class_shows (get_or rest 0 0) k c bare),
  λ t q. lexeme_advances os t old new rest r k l some h i s c solid pieces (took t q),
)

pub begins_some : (m : Begun) (rest : List ℕ) → Begins m rest → 0 < length rest
begins_some Bars (b ∷ rest) h = omega arith
begins_some Hash (b ∷ rest) h = omega arith
begins_some Token (b ∷ rest) h = omega arith
begins_some Bars [] h = absurd h
begins_some Hash [] h = absurd h
begins_some Token [] h = absurd h
begins_some m rest h = absurd h

-- a text after a byte that says of what kind it is
abbrev pub IsMarked : Begun → Type 0
IsMarked Bars = Unit {0}
IsMarked Hash = Unit {0}
IsMarked m = ⊥

marked_ahead : (m : Begun) (e : Ending) (o b : ℕ) (y rest : List ℕ) → IsMarked m → Begins m (b ∷ rest) → lexemes_from e o 0 (b ∷ y) ≡ ahead e m [] o y
marked_ahead Bars e o b y rest k c = piece_lexemes e o b y lex.Bar c
marked_ahead Hash e o b y rest k c = piece_lexemes e o b y lex.Hash c
marked_ahead m e o b y rest k c = absurd k

marked_at : (m : Begun) (o : ℕ) → IsMarked m → offset_at m 0 o ≡ o + 1
marked_at Bars o k = omega arith
marked_at Hash o k = omega arith
marked_at m o k = absurd k

take_next : (b : ℕ) (rest : List ℕ) (n : ℕ) → take (n + 1) (b ∷ rest) ≡ b ∷ take n rest
take_next b rest n = ap (λ k. take k (b ∷ rest)) (let o : n + 1 ≡ suc n = omega arith in o)

drop_next : (rest : List ℕ) (n : ℕ) → drop n (drop 1 rest) ≡ drop (n + 1) rest
drop_next [] n = drop_all n [] (omega arith) ∙ sym (drop_all (n + 1) [] (omega arith))
drop_next (b ∷ rest) n = ap (λ k. drop k (b ∷ rest)) (let o : suc n ≡ n + 1 = omega arith in o)

-- a name between bars or a label begins
pub marked_begin : (os : List Object) (t : State) (old mid new : Parser) (rest : List ℕ) (r : Outcome) (n : ℕ) → old.begun ≡ Nothing → mid.token.items ≡ [] → mid.start ≡ old.start → IsMarked mid.begun → Begins mid.begun rest →
    Advances os t mid (drop 1 rest) r n new → Advances os t old rest r (n + 1) new
marked_begin os t old mid new [] r n h j s k c q = absurd (omega (arith, begins_some mid.begun [] c))
marked_begin os t old mid new (b ∷ rest) r n h j s k c q =
    carry os t old mid new rest (b ∷ rest) r n (n + 1) (λ e z. ap (λ u. meaning_of e t old (u ++ z)) (take_next b rest n) ∙ same e (take n rest ++ z)) (λ e z. same e (rest ++ z)) q
  where
    same : (e : Ending) (y : List ℕ) → meaning_of e t old (b ∷ y) ≡ meaning_of e t mid y
    same e y =
        at_nothing e t old (b ∷ y) h
        ∙ ap (resume t) (marked_ahead mid.begun e old.start b y rest k c)
        ∙ ap (λ o. resume t (ahead e mid.begun [] o y)) (sym s)
        ∙ sym (ap (λ u. resume t (ahead e mid.begun u mid.start y)) j)

-- a token begins
pub token_begin : (os : List Object) (t : State) (old mid new : Parser) (rest : List ℕ) (r : Outcome) (n : ℕ) → old.begun ≡ Nothing → mid.begun ≡ Token → mid.token.items ≡ [] → mid.start ≡ old.start →
    Advances os t mid rest r n new → Advances os t old rest r n new
token_begin os t old mid new rest r n h i j s q = carry os t old mid new rest rest r n n (λ e z. same e (take n rest ++ z)) (λ e z. same e (rest ++ z)) q
  where
    same : (e : Ending) (y : List ℕ) → meaning_of e t old y ≡ meaning_of e t mid y
    same e y =
        at_nothing e t old y h
        ∙ ap (λ o. resume t (lexemes_from e o 0 y)) (sym s)
        ∙ sym (ap (λ m. resume t (ahead e m mid.token.items mid.start y)) i ∙ ap (λ u. resume t (lexemes_from e mid.start 0 (u ++ y))) j)

module _ (old mid : Parser) (h : old.begun ≡ Nothing) (j : mid.token.items ≡ []) (s : mid.start ≡ old.start) where
  pub marked_offset : IsMarked mid.begun → offset_of mid ≡ offset_of old + 1
  marked_offset k = offset_is mid mid.begun 0 old.start refl (ap length j) s ∙ marked_at mid.begun old.start k ∙ sym (ap (λ n. n + 1) (offset_is old Nothing (length old.token.items) old.start h refl refl))

  pub token_offset : mid.begun ≡ Token → offset_of mid ≡ offset_of old
  token_offset i = offset_is mid Token 0 old.start i (ap length j) s ∙ (let e : old.start + 0 ≡ old.start = omega arith in e) ∙ sym (offset_is old Nothing (length old.token.items) old.start h refl refl)

moved_past : (old mid new : Parser) (rest : List ℕ) (n : ℕ) → offset_of mid ≡ offset_of old + 1 → 0 < length rest → Moved mid (drop 1 rest) n new → Moved old rest (n + 1) new
moved_past old mid new rest n o some m = record {
  offset = (let k : offset_of new ≡ offset_of old + (n + 1) = omega (arith, o, m.offset) in k);
  left = subst (λ u. Fits new.begun Goes u) (drop_next rest n) m.left;
  started = m.started;
  less = λ l. omega (arith, weight_small new.begun);
  stops = λ q. omega (arith, m.stops q, length-drop 1 rest, some);
}

ends_past : (m : Begun) (rest : List ℕ) (n : ℕ) → is_white (get_or rest 0 0) ≡ false → EndsAt m (drop 1 rest) n → EndsAt m rest (n + 1)
ends_past m rest n w e = record { between = e.between; last = last }
  where
    last : (k : ℕ) → n + 1 ≡ suc k → is_white (get_or rest k 0) ≡ false
    last zero h = w
    last (suc k) h = ap is_white (ap (λ i. get_or rest i 0) (let j : suc k ≡ 1 + k = omega arith in j) ∙ sym (get_or_after_one rest k 0)) ∙ e.last k (omega (arith, h))

pub moves_past : (r : Outcome) (old mid new : Parser) (rest : List ℕ) (n : ℕ) → offset_of mid ≡ offset_of old + 1 → 0 < length rest → is_white (get_or rest 0 0) ≡ false → Moves r mid (drop 1 rest) n new → Moves r old rest (n + 1) new
moves_past outcomes.Pending old mid new rest n o some w m = moved_past old mid new rest n o some m
moves_past (outcomes.Datum x) old mid new rest n o some w m = (moved_past old mid new rest n o some m.0, ends_past new.begun rest n w m.1)
moves_past (outcomes.Fault f) old mid new rest n o some w m = tt

moved_on : (old mid new : Parser) (rest : List ℕ) (n : ℕ) → offset_of mid ≡ offset_of old → 0 < n → Moved mid rest n new → Moved old rest n new
moved_on old mid new rest n o s m = record {
  offset = (let k : offset_of new ≡ offset_of old + n = omega (arith, o, m.offset) in k);
  left = m.left;
  started = m.started;
  less = λ l. omega (arith, weight_small new.begun);
  stops = m.stops;
}

pub moves_on : (r : Outcome) (old mid new : Parser) (rest : List ℕ) (n : ℕ) → offset_of mid ≡ offset_of old → 0 < n → Moves r mid rest n new → Moves r old rest n new
moves_on outcomes.Pending old mid new rest n o s m = moved_on old mid new rest n o s m
moves_on (outcomes.Datum x) old mid new rest n o s m = (moved_on old mid new rest n o s m.0, m.1)
moves_on (outcomes.Fault f) old mid new rest n o s m = tt

pub is_token : (m : Begun) (rest : List ℕ) → Begins m rest → (m ≡ Bars → ⊥) → (m ≡ Hash → ⊥) → (m ≡ Token) × StartsWith is_constituent rest
is_token Token (b ∷ rest) h f g = (refl, classes.constituent_class b h)
is_token Bars rest h f g = absurd (f refl)
is_token Hash rest h f g = absurd (g refl)
is_token m rest h f g = absurd h

-- the parser where a text begins
pub parser_begins : (os : List Object) (p : Parser) (m : Begun) → p.begun ≡ m → p.token.items ≡ [] → IsText m [] → IsStack os p.stack → is_ready (pile_of os p.stack.layers.items) ≡ false → IsParser os p
parser_begins os p m b i t s n = record {
  stack = s;
  text = subst (λ k. IsText k p.token.items) (sym b) (subst (λ x. IsText m x) (sym i) t);
  ready = λ _. n;
}

-- what the bytes after the first one do
pub first_advances : (os0 os : List Object) (old mid new : Parser) (rest : List ℕ) (r : Outcome) (n : ℕ) → old.begun ≡ Nothing → mid.token.items ≡ [] → mid.start ≡ old.start → IsMarked mid.begun → Begins mid.begun rest →
    n ≤ length (take (length rest - 1) (drop 1 rest)) → Moves r mid (take (length rest - 1) (drop 1 rest)) n new → ((t : State) → Holds os0 old.stack t → Advances os t mid (take (length rest - 1) (drop 1 rest)) r n new) →
    (n + 1 ≤ length rest) × Moves r old rest (n + 1) new × ((t : State) → Holds os0 old.stack t → Advances os t old rest r (n + 1) new)
first_advances os0 os old mid new rest r n h j s k c l m f =
    let some = begins_some mid.begun rest c in (
      omega (arith, l, ap length (rest_is 1 rest), length-drop 1 rest, some),
      moves_past r old mid new rest n (marked_offset old mid h j s k) some (begins_shows mid.begun rest c) (subst (λ u. Moves r mid u n new) (rest_is 1 rest) m),
      λ t q. marked_begin os t old mid new rest r n h j s k c (subst (λ u. Advances os t mid u r n new) (rest_is 1 rest) (f t q)),
    )
