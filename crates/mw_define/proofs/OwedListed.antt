-- The list of the obligations of a block.
use Rattle.std.proofs.Common.{◌≡◌, ℕ, Bool, true, false, cond, List, [], length, Option, Some, None, inl, inr, refl, sym, ap, ◌∙◌, subst, true≢false, arith}
use Rattle.std.proofs.lemmas.Bool.{le-ltb}
use Rattle.mw_model.specs.Terms.Object.{Object}
use Rattle.mw_model.specs.Terms.Term.{Formula, firsts}
use Rattle.mw_model.specs.Terms.Same.{same_formula}
use Rattle.mw_model.specs.Events.Obligation.{owed, obligations}
use Rattle.mw_model.specs.Laws.RulesInduction.{formulas_object}
use Rattle.mw_translate.specs.Lets.{AreAllIn}
use Rattle.mw_define.specs.declared.draft.Draft.{Draft as Given}
use Rattle.mw_define.specs.declared.listed.Listed.{Listed}
use Rattle.mw_define.specs.declared.listed.Listed.TheVariants as listed
use Rattle.mw_define.specs.declared.obligations.Obligations.{Obligations}
use Rattle.mw_define.specs.declared.recursion.Recursion.{Recursion}
use Rattle.mw_define.specs.declared.recursion.Recursion.TheVariants as recursion
use Rattle.mw_define.specs.Blocks.{functions_at, measures_at}
use Rattle.mw_define.specs.Owed.{is_past, AreFirsts, AreOwed, OwesAll, OwesEach, IsListed, IsListedUnless, obligation_count, IsOwing}
use Rattle.mw_define.proofs.OwedSoFar.{owed-none, firsts-length, listed-formulas}

-- none is not past a bound
past-none : (most : Option ℕ) → is_past most 0 ≡ false
past-none None = refl
past-none (Some most) = le-ltb most 0 (omega arith)

-- all are kept, where too many are not
kept-all : (os : List Object) (o : Obligations) (Fs : List Formula) → is_past o.most (length o.formulas.keys) ≡ false → AreOwed os o Fs → AreFirsts os o.formulas.keys Fs
kept-all os o Fs few h =
    elim h [
      | inl k ↦ k
      | inr k ↦ absurd (true≢false (sym k.kept ∙ few))
    ]

-- as many are kept as there are, or both are past the bound
same-past : (os : List Object) (o : Obligations) (Fs : List Formula) → AreOwed os o Fs → is_past o.most (length o.formulas.keys) ≡ is_past o.most (length (firsts same_formula Fs))
same-past os o Fs h =
    elim h [
      | inl k ↦ ap (is_past o.most) (firsts-length os o.formulas.keys Fs k)
      | inr k ↦ k.kept ∙ sym k.distinct
    ]

module _ (old mid : List Object) (es : List Given) (none o : Obligations) (empty : none.formulas.keys ≡ []) where
  all-owed : (b : Bool) → OwesEach old mid es es none o b → AreOwed mid o (owed (functions_at old es) (measures_at old es) (functions_at old es))
  all-owed b h = h.adds.owed [] (owed-none old none empty)

  pub owed-in : (r : Recursion) → OwesAll old mid es none o r → r ≡ recursion.Present → is_past o.most (length o.formulas.keys) ≡ false → AreAllIn mid o.formulas.keys
  owed-in recursion.Nested h e few = cc
  owed-in recursion.Absent h e few = cc
  owed-in recursion.Present h e few = (kept-all mid o (owed (functions_at old es) (measures_at old es) (functions_at old es)) few (all-owed false h)).within

  module _ (new : List Object) where
    owing-present : OwesEach old mid es es none o false → (b : Bool) → is_past o.most (length o.formulas.keys) ≡ b → (l : Listed) → IsListedUnless b mid new o.formulas.keys l → IsOwing old new es none.most l
    owing-present h b e l is = go b e l is
      where
        Fs : List Formula
        Fs = owed (functions_at old es) (measures_at old es) (functions_at old es)

        are : obligations (functions_at old es) (measures_at old es) ≡ firsts same_formula Fs
        are = ap (λ c. cond c [] (firsts same_formula Fs)) h.empty

        counted : is_past none.most (obligation_count old es) ≡ is_past o.most (length o.formulas.keys)
        counted =
            ap (λ l. is_past none.most (length l)) are
            ∙ (ap (λ most. is_past most (length (firsts same_formula Fs))) (sym h.adds.most) ∙ sym (same-past mid o Fs (all-owed false h)))

        go : (b : Bool) → is_past o.most (length o.formulas.keys) ≡ b → (l : Listed) → IsListedUnless b mid new o.formulas.keys l → IsOwing old new es none.most l
        go true e l is = subst (IsOwing old new es none.most) (sym is) (h.flat, counted ∙ e)
        go false e listed.Nested is = absurd is
        go false e listed.TooMany is = absurd is
        go false e (listed.Formulas r) is = record {
          flat = h.flat;
          few = counted ∙ e;
          within = is.0;
          obligations = is.1 ∙ (listed-formulas mid o.formulas.keys (firsts same_formula Fs) (kept-all mid o Fs e (all-owed false h)).formulas ∙ sym (ap formulas_object are));
        }

    pub owed-listed : (r : Recursion) → OwesAll old mid es none o r → (l : Listed) → IsListed mid new r o l → IsOwing old new es none.most l
    owed-listed recursion.Nested h l is = subst (IsOwing old new es none.most) (sym is) h
    owed-listed recursion.Absent h listed.Nested is = absurd is
    owed-listed recursion.Absent h listed.TooMany is = absurd is
    owed-listed recursion.Absent h (listed.Formulas r) is =
        let Fs = firsts same_formula (owed (functions_at old es) (measures_at old es) (functions_at old es)) in
        record {
          flat = h.flat;
          few = ap (λ c. is_past none.most (length (cond c [] Fs))) h.empty ∙ past-none none.most;
          within = is.0;
          obligations = is.1 ∙ sym (ap (λ c. formulas_object (cond c [] Fs)) h.empty);
        }
    owed-listed recursion.Present h l is = owing-present h (is_past o.most (length o.formulas.keys)) refl l is
