use Rattle.std.proofs.Common.{◌≡◌, ◌∙◌, ◌+◌, ◌≤◌, ℕ, true, List, zero, suc, leb, leb-true, length, drop, drop-cons, add-one, get_or, refl, sym, arith}
use Rattle.std.proofs.lemmas.Bool.{and_parts}
use Rattle.mw_model.specs.Texts.Lexemes.{is_digit}
use Rattle.std.specs.List.{list_all}
use Rattle.mw_read.proofs.Digits.{decimal_next, power, power_more, power_small}
use Rattle.mw_request.proofs.number.decimal.Goals as goal

-- what at most twelve digits stay below
twelve_digits : (i : ℕ) → i ≤ 12 → power i ≤ 1000000000000
twelve_digits zero h = omega arith
twelve_digits (suc zero) h = omega arith
twelve_digits (suc (suc zero)) h = omega arith
twelve_digits (suc (suc (suc zero))) h = omega arith
twelve_digits (suc (suc (suc (suc i)))) h = let k = power_small i (omega arith) in omega (arith, k)

digit_below : (d : ℕ) → is_digit d ≡ true → d ≤ 57
digit_below d h = leb-true d 57 (and_parts (leb 48 d) (leb d 57) h).1

-- past a digit, the rest has to be digits
digits_past : (ds : List ℕ) (i : ℕ) → i + 1 ≤ length ds → is_digit (get_or ds i 0) ≡ true → list_all is_digit (drop i ds) ≡ list_all is_digit (drop (i + 1) ds)
digits_past ds i h digit = rw (drop-cons ds i 0 (omega arith), digit, add-one) refl

pub overflow_mul-number : goal.overflow_mul-number
overflow_mul-number c = let h = twelve_digits c.loop-byte.byte-index (omega arith) in omega (arith, h, c.loop-byte.invariant.below)

pub overflow_add-number : goal.overflow_add-number
overflow_add-number c =
    let h = twelve_digits c.loop-byte.byte-index (omega arith) in
    let digit : is_digit (get_or c.args.bytes.now c.loop-byte.byte-index 0) ≡ true = sym c.is_ascii_digit.ensures.value ∙ c.if-not-is_ascii_digit.false in
    let d = digit_below (get_or c.args.bytes.now c.loop-byte.byte-index 0) digit in
    omega (arith, h, d, c.loop-byte.invariant.below)

pub loop-byte-preserved : goal.loop-byte-preserved
loop-byte-preserved c =
    let bytes = c.args.bytes.now in
    let i = c.loop-byte.byte-index in
    let digit : is_digit (get_or bytes i 0) ≡ true = sym c.is_ascii_digit.ensures.value ∙ c.if-not-is_ascii_digit.false in
    let d = digit_below (get_or bytes i 0) digit in
    let more = power_more i in
    let e = decimal_next bytes i c.loop-byte-test.true in
    record {
      digits = c.loop-byte.invariant.digits ∙ digits_past bytes i (omega arith) digit;
      value = omega (arith, e, c.loop-byte.invariant.value);
      below = omega (arith, d, more, c.loop-byte.invariant.below);
    }
