-- Bytes that are no white space.
use Rattle.std.proofs.Common.{◌≡◌, ℕ, zero, suc, Bool, true, false, ◌||◌, eqb, eqb-true, true≢false, List, [], ◌∷◌, take, get_or, refl, sym, ap, ◌∙◌, ◌⊎◌, inl, inr, if◌then◌else◌}
use Rattle.std.proofs.lemmas.Bool.{and_parts}
use Rattle.mw_model.specs.Texts.Lexemes.{Class, White, Constituent, class, class_else, is_constituent, is_white}
use Rattle.std.specs.List.{list_all}
use Rattle.mw_read.specs.Parsing.{Begins}
use Rattle.mw_read.specs.declared.parser.Begun.{Begun}
use Rattle.mw_read.specs.declared.parser.Begun.TheVariants as begun

either : (v w : Bool) → (v || w) ≡ true → (v ≡ true) ⊎ (w ≡ true)
either true w h = inl refl
either false w h = inr h

white_bare : (b : ℕ) → is_white b ≡ true → is_constituent b ≡ false
white_bare b h = elim (either (eqb b 9) _ h) [
  | inl e ↦ ap is_constituent (eqb-true b 9 e)
  | inr h ↦ elim (either (eqb b 10) _ h) [
    | inl e ↦ ap is_constituent (eqb-true b 10 e)
    | inr h ↦ elim (either (eqb b 12) _ h) [
      | inl e ↦ ap is_constituent (eqb-true b 12 e)
      | inr h ↦ elim (either (eqb b 13) _ h) [
        | inl e ↦ ap is_constituent (eqb-true b 13 e)
        | inr h ↦ elim (either (eqb b 32) _ h) [
          | inl e ↦ ap is_constituent (eqb-true b 32 e)
          | inr h ↦ absurd (true≢false (sym h))
        ]
      ]
    ]
  ]
]

white_if : (v : Bool) (k : Class) → v ≡ true → (if v then White else k) ≡ White
white_if true k e = refl
white_if false k e = absurd (true≢false (sym e))

-- a byte of another class
pub class_shows : (b : ℕ) (k : Class) → class b ≡ k → (k ≡ White → ⊥) → is_white b ≡ false
class_shows b k h n = go (is_white b) refl
  where
    white : is_white b ≡ true → class b ≡ White
    white e = ap (λ v. if v then Constituent else class_else b) (white_bare b e) ∙ white_if (is_white b) _ e

    go : (v : Bool) → is_white b ≡ v → is_white b ≡ false
    go true e = absurd (n (sym h ∙ white e))
    go false e = e

constituent_shows : (b : ℕ) → is_constituent b ≡ true → is_white b ≡ false
constituent_shows b h = go (is_white b) refl
  where
    go : (v : Bool) → is_white b ≡ v → is_white b ≡ false
    go true e = absurd (true≢false (sym h ∙ white_bare b e))
    go false e = e

-- the last byte of a token
pub token_shows : (rest : List ℕ) (k : ℕ) → list_all is_constituent (take (suc k) rest) ≡ true → is_white (get_or rest k 0) ≡ false
token_shows [] k a = refl
token_shows (b ∷ rest) zero a = constituent_shows b (and_parts (is_constituent b) _ a).0
token_shows (b ∷ rest) (suc k) a = token_shows rest k (and_parts (is_constituent b) _ a).1

-- the first byte of a text
pub begins_shows : (m : Begun) (rest : List ℕ) → Begins m rest → is_white (get_or rest 0 0) ≡ false
begins_shows begun.Bars (b ∷ rest) h = class_shows b _ h (λ e. cc)
begins_shows begun.Hash (b ∷ rest) h = class_shows b _ h (λ e. cc)
begins_shows begun.Token (b ∷ rest) h = class_shows b _ h (λ e. cc)
begins_shows begun.Bars [] h = refl
begins_shows begun.Hash [] h = refl
begins_shows begun.Token [] h = refl
begins_shows m rest h = absurd h
