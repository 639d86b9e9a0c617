-- The lines of the trial book, each as a text of words, and the event that it is read as.
use Rattle.std.proofs.Common.{◌≡◌, ℕ, ◌+◌, ◌<◌, ◌≤◌, List, [], ◌∷◌, ◌++◌, length, None, codes, refl, sym, ap, ◌∙◌, append_assoc, arith}
use Rattle.mw_model.specs.Terms.Object.{Object, Natural, named, symbol, list1, list2, list3, list4}
use Rattle.mw_model.specs.Terms.Term.{Formula, Equal, Not, Or, Call, Constant, Variable, formula_object}
use Rattle.mw_model.specs.Proofs.Proof.{constants}
use Rattle.mw_model.specs.Texts.Lexemes.{Ends, lexemes}
use Rattle.mw_model.specs.Texts.Grammar.{book, data_of, enough, reading}
use Rattle.mw_model.specs.Texts.Printing.{numeral}
use Rattle.mw_model.specs.Reports.Trial.{sum_formula, x_formula, odd_line, even_line}
use Rattle.mw_commands.proofs.TokenTexts.{Token, Opening, Closing, Apostrophe, Space, name, number, text, lexed, text_lexed, text_size}

-- ---- formulas and proofs

-- a + b = c, and x = a
abbrev pub sum_claim : ℕ → ℕ → Formula
sum_claim a b = Equal (Call (named "+") (constants (Natural a ∷ Natural b ∷ []))) (Constant (Natural (a + b)))

abbrev pub x_claim : ℕ → Formula
x_claim a = Equal (Variable (named "X")) (Constant (Natural a))

abbrev pub sum_proof : ℕ → ℕ → Object
sum_proof a b = list2 (symbol "BASE-EVAL") (formula_object (sum_claim a b))

abbrev pub or_proof : Formula → Formula → Object → Object
or_proof F G p =
    list3 (symbol "CUT") (formula_object (Or F G))
    (list2 (list3 (symbol "EXPANSION") (formula_object (Or G F)) (list1 p)) (list2 (symbol "PROPOSITIONAL-SCHEMA") (formula_object (Or (Not G) G))))

abbrev pub trial_theorem : Formula → Object → Object
trial_theorem F p = list4 (symbol "VERIFY") (symbol "TRIAL") (formula_object F) p

-- ---- words

abbrev verify : Token
verify = name 118 (codes "erify") (symbol "VERIFY") refl refl

abbrev trial : Token
trial = name 116 (codes "rial") (symbol "TRIAL") refl refl

abbrev equation : Token
equation = name 112 (codes "equal*") (symbol "PEQUAL*") refl refl

abbrev negation : Token
negation = name 112 (codes "not*") (symbol "PNOT*") refl refl

abbrev disjunction : Token
disjunction = name 112 (codes "or*") (symbol "POR*") refl refl

abbrev plus : Token
plus = name 43 [] (symbol "+") refl refl

abbrev variable : Token
variable = name 120 [] (symbol "X") refl refl

abbrev base_eval : Token
base_eval = name 98 (codes "ase-eval") (symbol "BASE-EVAL") refl refl

abbrev cut : Token
cut = name 99 (codes "ut") (symbol "CUT") refl refl

abbrev expansion : Token
expansion = name 101 (codes "xpansion") (symbol "EXPANSION") refl refl

abbrev schema : Token
schema = name 112 (codes "ropositional-schema") (symbol "PROPOSITIONAL-SCHEMA") refl refl

-- each with what stands after it
abbrev sum_words : ℕ → ℕ → List Token → List Token
sum_words a b T =
    Opening ∷ equation ∷ Space ∷ Opening ∷ plus ∷ Space ∷ Apostrophe ∷ number a ∷ Space ∷ Apostrophe ∷ number b ∷ Closing ∷ Space ∷ Apostrophe ∷ number (a + b) ∷ Closing ∷ T

abbrev x_words : ℕ → List Token → List Token
x_words a T = Opening ∷ equation ∷ Space ∷ variable ∷ Space ∷ Apostrophe ∷ number a ∷ Closing ∷ T

sum_text : (a b : ℕ) (T : List Token) (z : List ℕ) → text T ≡ z → text (sum_words a b T) ≡ sum_formula a b ++ z
sum_text a b T z e =
    let last = codes ")" in
    let second = codes ") '" ++ (numeral (a + b) ++ last) in
    let first = codes " '" ++ (numeral b ++ second) in
    ap (λ t. codes "(pequal* (+ '" ++ (numeral a ++ (codes " '" ++ (numeral b ++ (codes ") '" ++ (numeral (a + b) ++ (codes ")" ++ t))))))) e
    ∙ ap (λ t. codes "(pequal* (+ '" ++ (numeral a ++ (codes " '" ++ (numeral b ++ (codes ") '" ++ t))))) (sym (append_assoc (numeral (a + b)) last z))
    ∙ ap (λ t. codes "(pequal* (+ '" ++ (numeral a ++ (codes " '" ++ t))) (sym (append_assoc (numeral b) second z))
    ∙ ap (λ t. codes "(pequal* (+ '" ++ t) (sym (append_assoc (numeral a) first z))

x_text : (a : ℕ) (T : List Token) (z : List ℕ) → text T ≡ z → text (x_words a T) ≡ x_formula a ++ z
x_text a T z e =
    ap (λ t. codes "(pequal* x '" ++ (numeral a ++ (codes ")" ++ t))) e
    ∙ ap (λ t. codes "(pequal* x '" ++ t) (sym (append_assoc (numeral a) (codes ")") z))

-- a text of words is read as its words say
words_read : (T : List Token) (t : List ℕ) (y : Object) → text T ≡ t → lexemes Ends (text T) ≡ lexed 0 T → data_of (enough (lexed 0 T)) (lexed 0 T) ≡ book (y ∷ []) None → reading Ends t ≡ book (y ∷ []) None
words_read T t y is cut read = ap (reading Ends) (sym is) ∙ (ap (λ L. data_of (enough L) L) cut ∙ read)

-- ---- a line with an odd number

module _ (a b : ℕ) where
  abbrev odd_end : List Token
  odd_end = Closing ∷ Closing ∷ []

  abbrev odd_proof : List Token
  odd_proof = Space ∷ Opening ∷ base_eval ∷ Space ∷ sum_words a b odd_end

  abbrev odd_words : List Token
  odd_words = Opening ∷ verify ∷ Space ∷ trial ∷ Space ∷ sum_words a b odd_proof

  odd_text : text odd_words ≡ odd_line (sum_formula a b)
  odd_text =
      ap (λ t. codes "(verify trial " ++ t) (sum_text a b odd_proof _
      (ap (λ t. codes " (base-eval " ++ t) (sum_text a b odd_end _ refl)))

  pub odd_short : length (numeral a) ≤ 9 → length (numeral b) ≤ 9 → length (numeral (a + b)) ≤ 9 → length (odd_line (sum_formula a b)) < 500
  odd_short h k l = omega (arith, ap length odd_text, text_size odd_words, h, k, l)

  pub odd_read : reading Ends (odd_line (sum_formula a b)) ≡ book (trial_theorem (sum_claim a b) (sum_proof a b) ∷ []) None
  odd_read = words_read odd_words (odd_line (sum_formula a b)) _ odd_text (text_lexed odd_words 0 refl) refl

-- ---- a line with an even number

module _ (a b : ℕ) where
  abbrev schema_end : List Token
  schema_end = Closing ∷ Closing ∷ Closing ∷ Closing ∷ Closing ∷ []

  abbrev schema_second : List Token
  schema_second = Closing ∷ Space ∷ x_words a schema_end

  abbrev schema_first : List Token
  schema_first = Closing ∷ Closing ∷ Closing ∷ Space ∷ Opening ∷ schema ∷ Space ∷ Opening ∷ disjunction ∷ Space ∷ Opening ∷ negation ∷ Space ∷ x_words a schema_second

  abbrev expansion_premise : List Token
  expansion_premise = Closing ∷ Space ∷ Opening ∷ Opening ∷ base_eval ∷ Space ∷ sum_words a b schema_first

  abbrev expansion_second : List Token
  expansion_second = Space ∷ sum_words a b expansion_premise

  abbrev expansion_first : List Token
  expansion_first = Closing ∷ Space ∷ Opening ∷ Opening ∷ expansion ∷ Space ∷ Opening ∷ disjunction ∷ Space ∷ x_words a expansion_second

  abbrev cut_second : List Token
  cut_second = Space ∷ x_words a expansion_first

  abbrev cut_first : List Token
  cut_first = Closing ∷ Space ∷ Opening ∷ cut ∷ Space ∷ Opening ∷ disjunction ∷ Space ∷ sum_words a b cut_second

  abbrev claim_second : List Token
  claim_second = Space ∷ x_words a cut_first

  abbrev even_words : List Token
  even_words = Opening ∷ verify ∷ Space ∷ trial ∷ Space ∷ Opening ∷ disjunction ∷ Space ∷ sum_words a b claim_second

  even_text : text even_words ≡ even_line (sum_formula a b) (x_formula a)
  even_text =
      ap (λ t. codes "(verify trial (por* " ++ t) (sum_text a b claim_second _
      (ap (λ t. codes " " ++ t) (x_text a cut_first _
      (ap (λ t. codes ") (cut (por* " ++ t) (sum_text a b cut_second _
      (ap (λ t. codes " " ++ t) (x_text a expansion_first _
      (ap (λ t. codes ") ((expansion (por* " ++ t) (x_text a expansion_second _
      (ap (λ t. codes " " ++ t) (sum_text a b expansion_premise _
      (ap (λ t. codes ") ((base-eval " ++ t) (sum_text a b schema_first _
      (ap (λ t. codes "))) (propositional-schema (por* (pnot* " ++ t) (x_text a schema_second _
      (ap (λ t. codes ") " ++ t) (x_text a schema_end _ refl)))))))))))))))))

  pub even_short : length (numeral a) ≤ 9 → length (numeral b) ≤ 9 → length (numeral (a + b)) ≤ 9 → length (even_line (sum_formula a b) (x_formula a)) < 500
  even_short h k l = omega (arith, ap length even_text, text_size even_words, h, k, l)

  pub even_read : reading Ends (even_line (sum_formula a b) (x_formula a)) ≡ book (trial_theorem (Or (sum_claim a b) (x_claim a)) (or_proof (sum_claim a b) (x_claim a) (sum_proof a b)) ∷ []) None
  even_read = words_read even_words (even_line (sum_formula a b) (x_formula a)) _ even_text (text_lexed even_words 0 refl) refl
