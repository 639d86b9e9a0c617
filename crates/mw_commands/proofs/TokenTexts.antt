-- Texts of words, parentheses, quotes and spaces: their lexemes are seen from what they are made of.
use Rattle.std.proofs.Common.{◌≡◌, ℕ, suc, ◌+◌, Bool, true, false, ◌&&◌, List, [], ◌∷◌, ◌++◌, length, refl, ap, ◌∙◌, length-append}
use Rattle.std.proofs.lemmas.Bool.{and_parts}
use Rattle.std.specs.List.{list_all}
use Rattle.mw_model.specs.Terms.Object.{Object, Natural}
use Rattle.mw_model.specs.Texts.Lexemes.{Lexeme, Atom, Open, Close, Quote, End, Ends, Whole, is_constituent, lexemes_from, token_form, unfinished}
use Rattle.mw_model.specs.Texts.Printing.{numeral}
use Rattle.mw_model.proofs.Lexing.{Delimits, lexemes_from-token}
use Rattle.mw_model.proofs.AtomText.{IsAtom, natural_atom}

-- a word stands for an atom
pub data Token : Type 0 where
  Word : (t : List ℕ) (x : Object) → IsAtom x t → Token
  Opening Closing Apostrophe Space : Token

abbrev pub name : (c : ℕ) (t : List ℕ) (x : Object) → list_all is_constituent (c ∷ t) ≡ true → token_form (c ∷ t) ≡ Whole x → Token
name c t x h f = Word (c ∷ t) x (λ e o z d. lexemes_from-token e o c t z x h f d)

abbrev pub number : ℕ → Token
number n = Word (numeral n) (Natural n) (natural_atom n)

abbrev pub text : List Token → List ℕ
text [] = []
text (Word t x a ∷ T) = t ++ text T
text (Opening ∷ T) = 40 ∷ text T
text (Closing ∷ T) = 41 ∷ text T
text (Apostrophe ∷ T) = 39 ∷ text T
text (Space ∷ T) = 32 ∷ text T

abbrev pub lexed : ℕ → List Token → List Lexeme
lexed o [] = End (unfinished Ends o) ∷ []
lexed o (Word t x a ∷ T) = Atom o x ∷ lexed (o + length t) T
lexed o (Opening ∷ T) = Open o ∷ lexed (suc o) T
lexed o (Closing ∷ T) = Close o ∷ lexed (suc o) T
lexed o (Apostrophe ∷ T) = Quote o ∷ lexed (suc o) T
lexed o (Space ∷ T) = lexed (suc o) T

-- no word stands right after another
abbrev pub begins_apart : List Token → Bool
begins_apart [] = true
begins_apart (Word t x a ∷ T) = false
begins_apart (Opening ∷ T) = true
begins_apart (Closing ∷ T) = true
begins_apart (Apostrophe ∷ T) = true
begins_apart (Space ∷ T) = true

abbrev pub are_apart : List Token → Bool
are_apart [] = true
are_apart (Word t x a ∷ T) = begins_apart T && are_apart T
are_apart (Opening ∷ T) = are_apart T
are_apart (Closing ∷ T) = are_apart T
are_apart (Apostrophe ∷ T) = are_apart T
are_apart (Space ∷ T) = are_apart T

delimits : (T : List Token) → begins_apart T ≡ true → Delimits Ends (text T)
delimits [] h = tt
delimits (Word t x a ∷ T) h = cc
delimits (Opening ∷ T) h = (refl, refl)
delimits (Closing ∷ T) h = (refl, refl)
delimits (Apostrophe ∷ T) h = (refl, refl)
delimits (Space ∷ T) h = (refl, refl)

pub text_lexed : (T : List Token) (o : ℕ) → are_apart T ≡ true → lexemes_from Ends o 0 (text T) ≡ lexed o T
text_lexed [] o h = refl
text_lexed (Word t x a ∷ T) o h = let p = and_parts (begins_apart T) (are_apart T) h in a Ends o (text T) (delimits T p.0) ∙ ap (λ L. Atom o x ∷ L) (text_lexed T (o + length t) p.1)
text_lexed (Opening ∷ T) o h = ap (λ L. Open o ∷ L) (text_lexed T (suc o) h)
text_lexed (Closing ∷ T) o h = ap (λ L. Close o ∷ L) (text_lexed T (suc o) h)
text_lexed (Apostrophe ∷ T) o h = ap (λ L. Quote o ∷ L) (text_lexed T (suc o) h)
text_lexed (Space ∷ T) o h = text_lexed T (suc o) h

-- ---- how long it is

abbrev pub size : List Token → ℕ
size [] = 0
size (Word t x a ∷ T) = length t + size T
size (Opening ∷ T) = suc (size T)
size (Closing ∷ T) = suc (size T)
size (Apostrophe ∷ T) = suc (size T)
size (Space ∷ T) = suc (size T)

pub text_size : (T : List Token) → length (text T) ≡ size T
text_size [] = refl
text_size (Word t x a ∷ T) = length-append t (text T) ∙ ap (λ n. length t + n) (text_size T)
text_size (Opening ∷ T) = ap suc (text_size T)
text_size (Closing ∷ T) = ap suc (text_size T)
text_size (Apostrophe ∷ T) = ap suc (text_size T)
text_size (Space ∷ T) = ap suc (text_size T)
