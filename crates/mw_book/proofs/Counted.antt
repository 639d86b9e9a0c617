-- What one datum more adds, and the numbers of the last line.
use Rattle.std.proofs.Common.{◌≡◌, ℕ, suc, ◌+◌, ◌-◌, Bool, true, false, cond, not, List, [], ◌∷◌, ◌++◌, length, refl, sym, ap, ap₂, ◌∙◌, subst, arith, append-nil}
use Rattle.std.proofs.lemmas.List.{length_push}
use Rattle.mw_model.specs.Terms.Object.{Object}
use Rattle.mw_model.specs.Texts.Pieces.{how_many}
use Rattle.mw_commands.specs.Commands.TautologyBook.{OwesTautology, is_proved, tautology_summary}
use Rattle.mw_heap.specs.Contents.{Contents}
use Rattle.mw_taut.specs.Counts.{formulas_line}
use Rattle.mw_book.specs.Answered.{Answered, IsProving, ProvedFor}
use Rattle.mw_answers.specs.Writing.{Puts}
use Rattle.mw_book.specs.declared.taut.Proving.{Proving}
use Rattle.mw_answers.proofs.CallerLemmas.{how_many-append, answers_both}
use Rattle.mw_book.proofs.Proved.{proved_by}

abbrev pub is_unproved : Object → Bool
is_unproved x = not (is_proved x)

-- each datum is proved or not
all_counted : (xs : List Object) → how_many is_proved xs + how_many is_unproved xs ≡ length xs
all_counted [] = refl
all_counted (x ∷ xs) = go (is_proved x) (all_counted xs)
  where
    go : (b : Bool) → how_many is_proved xs + how_many is_unproved xs ≡ length xs → (cond b 1 0 + how_many is_proved xs) + (cond (not b) 1 0 + how_many is_unproved xs) ≡ suc (length xs)
    go true h = omega (arith, h)
    go false h = omega (arith, h)

pub summary_is : (j : Proving) (given : List Object) → Answered j given → formulas_line j.formulas (j.formulas - j.unproved) ≡ tautology_summary given ++ 10 ∷ []
summary_is j given h =
    let p : j.formulas - j.unproved ≡ how_many is_proved given = omega (arith, h.counted, h.unproved_counted, all_counted given) in
    ap₂ formulas_line h.counted p

-- a datum was answered by this piece
pub answers_one : (old new : Proving) (k l : Contents) (x : Object) (b : Bool) (piece : List ℕ) →
    OwesTautology (old.formulas + 1, x) piece → is_proved x ≡ b →
    new.formulas ≡ old.formulas + 1 →
    new.unproved ≡ old.unproved + cond b 0 1 →
    IsProving new l →
    (given : List Object) → Puts ProvedFor old k given new l (given ++ x ∷ []) piece
answers_one old new k l x b piece owed proved counted unproved proving given =
    proved_by old new k l given (given ++ x ∷ []) piece
    (λ h a. (
      proving,
      record {
        counted = counted ∙ ap (λ n. n + 1) a.counted ∙ sym (length_push given x);
        unproved_counted = unproved ∙ ap₂ (λ m n. m + n) a.unproved_counted (by_value b (is_proved x) proved) ∙ sym (how_many-append is_unproved given x);
      },
    ))
    (λ h a written expected.
    let number : old.formulas + 1 ≡ 1 + length given = omega (arith, a.counted) in
    let one = subst (λ n. OwesTautology (n, x) piece) number owed in
    answers_both given (x ∷ []) written piece expected (piece, [], sym (append-nil piece), one, refl))
  where
    by_value : (c d : Bool) → d ≡ c → ◌≡◌ {A = ℕ} (cond c 0 1) (cond (not d) 1 0)
    by_value true true e = refl
    by_value false false e = refl
    by_value true false e = cc
    by_value false true e = cc
