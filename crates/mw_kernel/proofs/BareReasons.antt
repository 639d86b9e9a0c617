-- The line of a reason that has no parts.
use Rattle.std.proofs.Common.{◌≡◌, ℕ, ◌<◌, ◌≤◌, ◌^◌, not, List, [], ◌∷◌, ◌++◌, length, codes, refl, sym, ap, ◌∙◌, subst, arith, append_assoc, length-append}
use Rattle.std.proofs.lemmas.Bool.{le-ltb}
use Rattle.std.proofs.lemmas.Fmt.{length-decimal-le_wide}
use Rattle.mw_model.specs.Terms.Object.{Object, Natural, Symbol, Pair, NIL, symbol, name_of_bytes}
use Rattle.mw_model.specs.Events.Fate.{longest}
use Rattle.mw_model.specs.Events.Refusal.{Refusal, RANGE, EVENT, NAME, FORMALS, TERM, FORMULA, VARIABLES, NESTED, COUNT, CONCLUSION, PROOF, NILVALUE, STEPS, OVERFLOW, WITNESS, CLAIM, CHECKER, LONG, PROFILE, reason_of}
use Rattle.mw_model.specs.Texts.Printing.{numeral, name_text, text_of}
use Rattle.mw_model.specs.Texts.Written.{IsDatumLine}
use Rattle.mw_model.proofs.Numerals.{numeral-decimal}
use Rattle.mw_commands.proofs.WrittenData.{short_line}
use Rattle.mw_kernel.specs.Explained.{PutsLine}

-- its text is the word, which is short
record IsWord (r : Refusal) : Type 0 where
  text : name_text (name_of_bytes (reason_of r)) ≡ reason_of r
  short : length (reason_of r) ≤ 10

reason_is_word : (r : Refusal) → IsWord r
reason_is_word RANGE = record { text = refl; short = omega arith }
reason_is_word EVENT = record { text = refl; short = omega arith }
reason_is_word NAME = record { text = refl; short = omega arith }
reason_is_word FORMALS = record { text = refl; short = omega arith }
reason_is_word TERM = record { text = refl; short = omega arith }
reason_is_word FORMULA = record { text = refl; short = omega arith }
reason_is_word VARIABLES = record { text = refl; short = omega arith }
reason_is_word NESTED = record { text = refl; short = omega arith }
reason_is_word COUNT = record { text = refl; short = omega arith }
reason_is_word CONCLUSION = record { text = refl; short = omega arith }
reason_is_word PROOF = record { text = refl; short = omega arith }
reason_is_word NILVALUE = record { text = refl; short = omega arith }
reason_is_word STEPS = record { text = refl; short = omega arith }
reason_is_word OVERFLOW = record { text = refl; short = omega arith }
reason_is_word WITNESS = record { text = refl; short = omega arith }
reason_is_word CLAIM = record { text = refl; short = omega arith }
reason_is_word CHECKER = record { text = refl; short = omega arith }
reason_is_word LONG = record { text = refl; short = omega arith }
reason_is_word PROFILE = record { text = refl; short = omega arith }

numeral_short : (n : ℕ) → n < 2 ^ 64 → length (numeral n) ≤ 64
numeral_short n h =
    let w : n < 10 ^ 64 = omega (arith, h) in
    subst (λ t. length t ≤ 64) (sym (numeral-decimal n w)) (length-decimal-le_wide 64 n (omega arith) w w)

joined : (old a r : List ℕ) → (((old ++ a) ++ 32 ∷ []) ++ r) ++ 41 ∷ 10 ∷ [] ≡ old ++ ((a ++ 32 ∷ (r ++ 41 ∷ [])) ++ 10 ∷ [])
joined old a r = simp append_assoc

module _ (k : ℕ) (r : Refusal) where
  abbrev why_bare : Object
  why_bare = Pair (symbol "WHY") (Pair (Natural k) (Pair (Symbol (name_of_bytes (reason_of r))) NIL))

  abbrev front : List ℕ
  front = codes "(WHY " ++ numeral k

  bare_text : text_of why_bare ≡ front ++ 32 ∷ (reason_of r ++ 41 ∷ [])
  bare_text = ap (λ t. front ++ 32 ∷ (t ++ 41 ∷ [])) (reason_is_word r).text

  bare_short : k < 2 ^ 64 → length (text_of why_bare) ≤ longest
  bare_short h = subst (λ t. length t ≤ longest) (sym bare_text)
      (omega (arith, length-append front (32 ∷ (reason_of r ++ 41 ∷ [])), length-append (codes "(WHY ") (numeral k), length-append (reason_of r) (41 ∷ []), numeral_short k h, (reason_is_word r).short))

  bare_line : k < 2 ^ 64 → IsDatumLine why_bare (text_of why_bare ++ 10 ∷ [])
  bare_line h = short_line why_bare (ap not (le-ltb longest (length (text_of why_bare)) (bare_short h)))

  appended : (old : List ℕ) → (((old ++ front) ++ 32 ∷ []) ++ reason_of r) ++ 41 ∷ 10 ∷ [] ≡ old ++ (text_of why_bare ++ 10 ∷ [])
  appended old = joined old front (reason_of r) ∙ ap (λ t. old ++ (t ++ 10 ∷ [])) (sym bare_text)

  pub puts_bare : k < 2 ^ 64 → (old new : List ℕ) → new ≡ (((old ++ front) ++ 32 ∷ []) ++ reason_of r) ++ 41 ∷ 10 ∷ [] → PutsLine why_bare old new
  puts_bare h old new is = (text_of why_bare ++ 10 ∷ [], bare_line h, is ∙ appended old)
