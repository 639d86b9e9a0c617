-- What is written for an object: its text where that is short, and else a text in which labels name again what repeats.
use Rattle.std.specs.Prelude.{◌≡◌, ℕ, zero, suc, ◌+◌, ◌^◌, ◌<◌, ◌≤◌, true, not, eqb, ltb, List, [], ◌∷◌, ◌++◌, length, sum_by, None, codes}
use Rattle.mw_model.specs.Terms.Object.{Object, Natural, Symbol, Pair, symbol, same_object}
use Rattle.mw_model.specs.Terms.Term.{firsts}
use Rattle.mw_model.specs.Values.Value.{pick}
use Rattle.mw_model.specs.Texts.Lexemes.{Lexeme, Mark, Ends, lexemes}
use Rattle.std.specs.List.{list_all}
use Rattle.mw_model.specs.Texts.Grammar.{book, reading}
use Rattle.mw_model.specs.Texts.Printing.{numeral, name_text, text_of}
use Rattle.mw_model.specs.Events.Fate.{longest}

-- the labels that a text begins, in order
abbrev pub labels_begun : List Lexeme → List ℕ
labels_begun [] = []
labels_begun (Mark o n ∷ r) = n ∷ labels_begun r
labels_begun (_ ∷ r) = labels_begun r

-- this count of numbers, from the first one on
abbrev pub upwards : ℕ → ℕ → List ℕ
upwards first zero = []
upwards first (suc k) = first ∷ upwards (suc first) k

-- a text with labels, numbered upwards from the first one; the next one is the first that is unused
pub record IsLabelled (x : Object) (first : ℕ) (text : List ℕ) (next : ℕ) : Type 0 where
  -- it is read as just x
  pub reads : reading Ends text ≡ book (x ∷ []) None
  -- and leaves no comment open: what stands after it is read too
  pub reads_on : reading Ends (text ++ codes " a") ≡ book (x ∷ symbol "A" ∷ []) None
  pub one_line : list_all (λ b. not (eqb b 10)) text ≡ true
  pub labels : ℕ
  pub numbered : labels_begun (lexemes Ends text) ≡ upwards first labels
  pub unused : next ≡ first + labels

-- ---- how long a text with labels may be

-- the pairs in x, as often as they occur
abbrev pub pairs_in : Object → List Object
pairs_in (Pair a b) = Pair a b ∷ (pairs_in a ++ pairs_in b)
pairs_in (Natural n) = []
pairs_in (Symbol s) = []

abbrev pub distinct_pairs : Object → List Object
distinct_pairs x = firsts same_object (pairs_in x)

abbrev pub atom_length : Object → ℕ
atom_length (Natural n) = length (numeral n)
atom_length (Symbol s) = length (name_text s)
atom_length (Pair a b) = 0

-- 40 bytes for a pair, and the text of each atom that it holds
abbrev pub pair_room : Object → ℕ
pair_room (Pair a b) = 40 + (atom_length a + atom_length b)
pair_room (Natural n) = 0
pair_room (Symbol s) = 0

-- of an atom the length of its text
abbrev pub room : Object → ℕ
room x = atom_length x + sum_by pair_room (distinct_pairs x)

-- labels have at most nine digits; where they suffice for all distinct pairs, a text with labels is no longer than this
abbrev pub IsCompact : Object → ℕ → List ℕ → Type 0
IsCompact x first text = longest < length (text_of x) → first + length (distinct_pairs x) < 10 ^ 9 → length text ≤ room x

-- ---- what is written

-- what is owed for x, where the labels before the first one are in use
abbrev pub IsWritten : Object → ℕ → List ℕ → ℕ → Type 0
IsWritten x first text next = pick (ltb longest (length (text_of x))) (IsLabelled x first text next) ((text ≡ text_of x) × (next ≡ first)) × IsCompact x first text

-- the datum x on a line of its own
abbrev pub IsDatumLine : Object → List ℕ → Type 0
IsDatumLine x line = (text : List ℕ) × (next : ℕ) × IsWritten x 1 text next × (line ≡ text ++ 10 ∷ [])

-- a text of lines, each with a datum or a comment: a book of these data
pub data IsBookText : List Object → List ℕ → Type 0 where
  no_lines : IsBookText [] []
  datum_line : (x : Object) (xs : List Object) (line rest : List ℕ) → IsDatumLine x line → IsBookText xs rest → IsBookText (x ∷ xs) (line ++ rest)
  comment_line : (xs : List Object) (text rest : List ℕ) → list_all (λ b. not (eqb b 10)) text ≡ true → IsBookText xs rest → IsBookText xs (59 ∷ (text ++ 10 ∷ rest))

-- data one after another, a space before each, labels running on
abbrev pub AreWritten : List Object → ℕ → List ℕ → Type 0
AreWritten [] first text = text ≡ []
AreWritten (x ∷ xs) first text = (one rest : List ℕ) × (next : ℕ) × (text ≡ 32 ∷ (one ++ rest)) × IsWritten x first one next × AreWritten xs next rest
