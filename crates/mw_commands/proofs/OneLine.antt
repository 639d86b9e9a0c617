-- The text of an object is one line, and so is what a comment says of a datum.
use Rattle.std.proofs.Common.{◌≡◌, ℕ, ◌<◌, ◌≤◌, Bool, true, false, ◌&&◌, not, cond, eqb, ltb, leb, List, [], ◌∷◌, ◌++◌, length, refl, ap, arith, if◌then◌else◌}
use Rattle.std.proofs.lemmas.Bool.{and_parts, and_from, leb-true, ne_eqb}
use Rattle.mw_model.specs.Terms.Object.{Name, Object, Natural, Symbol, Pair, is_name, is_name_byte, same_name, nil_name}
use Rattle.mw_model.specs.Values.Value.{pick}
use Rattle.mw_model.specs.Events.Fate.{longest}
use Rattle.mw_model.specs.Texts.Lexemes.{SyntaxKind, END, CLOSE, DOT, TOKEN, BYTE, LABEL, LENGTH, is_digit}
use Rattle.std.specs.List.{list_all}
use Rattle.mw_model.specs.Texts.Printing.{numeral, is_bare, name_text, end_text, text_of, tail_text}
use Rattle.mw_model.specs.Reports.Report.{dash, spaced, symbol_text, word_text, labelled_words, label_text, kind_word}
use Rattle.mw_model.specs.Events.Refusal.{Refusal, RANGE, EVENT, NAME, FORMALS, TERM, FORMULA, VARIABLES, NESTED, COUNT, CONCLUSION, PROOF, NILVALUE, STEPS, OVERFLOW, WITNESS, CLAIM, CHECKER, LONG, PROFILE, reason_of}
use Rattle.mw_model.specs.Terms.Term.{is_among}
use Rattle.mw_model.specs.Texts.Written.{IsLabelled, IsWritten}
use Rattle.mw_model.proofs.Numerals.{numeral_is, all_are-append}
use Rattle.mw_commands.proofs.LexingLines.{no_newline}

pub joined_line : (t u : List ℕ) → no_newline t ≡ true → no_newline u ≡ true → no_newline (t ++ u) ≡ true
joined_line t u h k = all_are-append (λ b. not (eqb b 10)) t u h k

pub spaced_line : (t u : List ℕ) → no_newline t ≡ true → no_newline u ≡ true → no_newline (spaced t u) ≡ true
spaced_line t u h k = joined_line t (32 ∷ u) h k

-- bytes of a class without the newline
class_line : (p : ℕ → Bool) → ((b : ℕ) → p b ≡ true → not (eqb b 10) ≡ true) → (t : List ℕ) → list_all p t ≡ true → no_newline t ≡ true
class_line p f [] h = refl
class_line p f (b ∷ t) h = let q = and_parts (p b) (list_all p t) h in and_from (not (eqb b 10)) (no_newline t) (f b q.0) (class_line p f t q.1)

past_newline : (n b : ℕ) → 10 < n → leb n b ≡ true → not (eqb b 10) ≡ true
past_newline n b l h = let m : n ≤ b = leb-true n b h in ap not (ne_eqb b 10 (λ e. omega arith))

digit_line : (b : ℕ) → is_digit b ≡ true → not (eqb b 10) ≡ true
digit_line b h = past_newline 48 b (omega arith) (and_parts (leb 48 b) (leb b 57) h).0

name_byte_line : (b : ℕ) → is_name_byte b ≡ true → not (eqb b 10) ≡ true
name_byte_line b h = past_newline 32 b (omega arith) (and_parts (leb 32 b) (leb b 126 && (not (eqb b 92) && not (eqb b 124))) h).0

pub numeral_line : (n : ℕ) → no_newline (numeral n) ≡ true
numeral_line n = class_line is_digit digit_line (numeral n) (numeral_is n).0

name_bytes_line : (t : List ℕ) → list_all is_name_byte t ≡ true → no_newline t ≡ true
name_bytes_line [] h = refl
name_bytes_line (b ∷ t) h = let p = and_parts (is_name_byte b) (list_all is_name_byte t) h in and_from (not (eqb b 10)) (no_newline t) (name_byte_line b p.0) (name_bytes_line t p.1)

bytes_line : (t : List ℕ) → is_name t ≡ true → no_newline t ≡ true
bytes_line [] h = refl
bytes_line (b ∷ t) h = name_bytes_line (b ∷ t) h

name_line : (s : Name) → no_newline (name_text s) ≡ true
name_line s = go (is_bare s) (bytes_line s.bytes s.valid)
  where
    go : (v : Bool) → no_newline s.bytes ≡ true → no_newline (if v then s.bytes else 124 ∷ (s.bytes ++ 124 ∷ [])) ≡ true
    go true h = h
    go false h = joined_line s.bytes (124 ∷ []) h refl

end_line : (b : Bool) (t : List ℕ) → no_newline t ≡ true → no_newline (end_text b t) ≡ true
end_line true t h = refl
end_line false t h = joined_line t (41 ∷ []) h refl

mutual
  pub text_line : (x : Object) → no_newline (text_of x) ≡ true
  text_line (Natural n) = numeral_line n
  text_line (Symbol s) = name_line s
  text_line (Pair a d) = joined_line (text_of a) (tail_text d) (text_line a) (tail_line d)

  tail_line : (x : Object) → no_newline (tail_text x) ≡ true
  tail_line (Natural n) = end_line false (numeral n) (numeral_line n)
  tail_line (Symbol s) = end_line (same_name s nil_name) (name_text s) (name_line s)
  tail_line (Pair a d) = joined_line (text_of a) (tail_text d) (text_line a) (tail_line d)

-- what is written for an object, with labels too
pub written_line : (x : Object) (first next : ℕ) (t : List ℕ) → IsWritten x first t next → no_newline t ≡ true
written_line x first next t h = go (ltb longest (length (text_of x))) h.0
  where
    go : (b : Bool) → pick b (IsLabelled x first t next) ((t ≡ text_of x) × (next ≡ first)) → no_newline t ≡ true
    go true l = l.one_line
    go false p = rw p.0 (text_line x)

symbol_line : (x : Object) → no_newline (symbol_text x) ≡ true
symbol_line (Natural n) = refl
symbol_line (Pair a b) = refl
symbol_line (Symbol s) = go (ltb longest (length (name_text s)))
  where
    go : (b : Bool) → no_newline (cond b (45 ∷ []) (name_text s)) ≡ true
    go true = refl
    go false = name_line s

pub word_line : (x : Object) → no_newline (word_text x) ≡ true
word_line (Pair w r) = symbol_line w
word_line (Natural n) = refl
word_line (Symbol s) = refl

pub label_line : (x : Object) → no_newline (label_text x) ≡ true
label_line (Natural n) = refl
label_line (Symbol s) = refl
label_line (Pair (Natural n) r) = refl
label_line (Pair (Pair a b) r) = refl
label_line (Pair (Symbol w) (Natural n)) = refl
label_line (Pair (Symbol w) (Symbol s)) = refl
label_line (Pair (Symbol w) (Pair x r)) = go (is_among w labelled_words)
  where
    go : (b : Bool) → no_newline (cond b (symbol_text x) dash) ≡ true
    go true = symbol_line x
    go false = refl

pub reason_line : (r : Refusal) → no_newline (reason_of r) ≡ true
reason_line RANGE = refl
reason_line EVENT = refl
reason_line NAME = refl
reason_line FORMALS = refl
reason_line TERM = refl
reason_line FORMULA = refl
reason_line VARIABLES = refl
reason_line NESTED = refl
reason_line COUNT = refl
reason_line CONCLUSION = refl
reason_line PROOF = refl
reason_line NILVALUE = refl
reason_line STEPS = refl
reason_line OVERFLOW = refl
reason_line WITNESS = refl
reason_line CLAIM = refl
reason_line CHECKER = refl
reason_line LONG = refl
reason_line PROFILE = refl

pub kind_line : (k : SyntaxKind) → no_newline (kind_word k) ≡ true
kind_line END = refl
kind_line CLOSE = refl
kind_line DOT = refl
kind_line TOKEN = refl
kind_line BYTE = refl
kind_line LABEL = refl
kind_line LENGTH = refl
