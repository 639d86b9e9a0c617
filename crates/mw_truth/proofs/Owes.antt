-- What a block owes, from the list of its obligations.
use Rattle.std.proofs.Common.{◌≡◌, Bool, true, false, not, cond, List, [], ◌∷◌, map, filter, refl, sym, ◌∙◌, subst}
use Rattle.std.proofs.lemmas.Bool.{or_parts, false≢true, true≢false}
use Rattle.mw_model.specs.Terms.Term.{Formula, firsts}
use Rattle.mw_model.specs.Terms.Same.{same_formula}
use Rattle.mw_model.specs.Values.Primitive.{Profile}
use Rattle.mw_model.specs.Values.Definition.{Function}
use Rattle.mw_model.specs.Values.Value.{Calls}
use Rattle.mw_model.specs.Values.Truth.{TrueFor, Each}
use Rattle.mw_model.specs.Events.Obligation.{any_mentions, RecursiveCall, recursive_calls, some_nested, is_nested, Measures, measure_of, ordinal_formula, obligation, owed, is_empty, calls_none, obligations}
use Rattle.mw_model.proofs.SameTerms.{same_formula-eq}
use Rattle.mw_truth.proofs.Having.{each_left, each_right}
use Rattle.mw_truth.proofs.BlockTotal.{Owed}

-- what holds of the first of equal elements holds of each
module _ {X : Type 0} (Q : X → Type 0) (same : X → X → Bool) (means : (x y : X) → same x y ≡ true → x ≡ y) where
  unfilter : (x : X) → Q x → (ys : List X) → Each Q (filter (λ y. not (same x y)) ys) → Each Q ys
  unfilter x q [] h = tt
  unfilter x q (y ∷ ys) h = go (same x y) refl h (unfilter x q ys)
    where
      go : (b : Bool) → same x y ≡ b → Each Q (cond (not b) (y ∷ filter (λ z. not (same x z)) ys) (filter (λ z. not (same x z)) ys)) → (Each Q (filter (λ z. not (same x z)) ys) → Each Q ys) → Q y × Each Q ys
      go true e h ih = (subst Q (means x y e) q, ih h)
      go false e h ih = (h.0, ih h.1)

  pub each_firsts : (xs : List X) → Each Q (firsts same xs) → Each Q xs
  each_firsts [] h = tt
  each_firsts (x ∷ xs) h = (h.0, each_firsts xs (unfilter x h.0 (firsts same xs) h.1))

each_unmap : {X Y : Type 0} (Q : Y → Type 0) (f : X → Y) (xs : List X) → Each Q (map f xs) → Each (λ x. Q (f x)) xs
each_unmap Q f [] h = tt
each_unmap Q f (x ∷ xs) h = (h.0, each_unmap Q f xs h.1)

-- no call is nested
some_flat : (B : List Function) (rs : List RecursiveCall) → some_nested B rs ≡ false → Each (λ r. any_mentions B r.actuals ≡ false) rs
some_flat B [] n = tt
some_flat B (r ∷ rs) n = let p = or_parts (any_mentions B r.actuals) (some_nested B rs) n in (p.0, some_flat B rs p.1)

each_flat : (B hs : List Function) → is_nested B hs ≡ false → Each (λ h. Each (λ r. any_mentions B r.actuals ≡ false) (recursive_calls B h)) hs
each_flat B [] n = tt
each_flat B (h ∷ hs) n =
    let p = or_parts (some_nested B (recursive_calls B h)) (is_nested B hs) n in
    (some_flat B (recursive_calls B h) p.0, each_flat B hs p.1)

-- the two kinds of obligations
owed_parts : (Q : Formula → Type 0) (B : List Function) (M : Measures) (hs : List Function) → Each Q (owed B M hs) → Each (λ h. Q (ordinal_formula (measure_of M h.name))) hs × Each (λ h. Each (λ r. Q (obligation B M h r)) (recursive_calls B h)) hs
owed_parts Q B M [] t = (tt, tt)
owed_parts Q B M (h ∷ hs) t =
    let rest = owed_parts Q B M hs (each_right Q (map (obligation B M h) (recursive_calls B h)) (owed B M hs) t.1) in
    ((t.0, rest.0), (each_unmap Q (obligation B M h) (recursive_calls B h) (each_left Q (map (obligation B M h) (recursive_calls B h)) (owed B M hs) t.1), rest.1))

-- where no body calls the block
none_owed : (Q : Function → RecursiveCall → Type 0) (B hs : List Function) → calls_none B hs ≡ true → Each (λ h. Each (Q h) (recursive_calls B h)) hs
none_owed Q B [] c = tt
none_owed Q B (h ∷ hs) c = go (is_empty (recursive_calls B h)) refl c (none_owed Q B hs)
  where
    empty : (rs : List RecursiveCall) → is_empty rs ≡ true → Each (Q h) rs
    empty [] e = tt
    empty (r ∷ rs) e = absurd (false≢true e)

    go : (b : Bool) → is_empty (recursive_calls B h) ≡ b → cond b (calls_none B hs) false ≡ true → (calls_none B hs ≡ true → Each (λ h. Each (Q h) (recursive_calls B h)) hs) → Each (Q h) (recursive_calls B h) × Each (λ h. Each (Q h) (recursive_calls B h)) hs
    go true e c ih = (empty (recursive_calls B h) e, ih c)
    go false e c ih = absurd (false≢true c)

pub owed_from : (P : Profile) (C : Calls) (B : List Function) (M : Measures) → is_nested B B ≡ false → Each (TrueFor P C) (obligations B M) → Owed P C B M
owed_from P C B M n t = go (calls_none B B) refl t
  where
    go : (b : Bool) → calls_none B B ≡ b → Each (TrueFor P C) (cond b [] (firsts same_formula (owed B M B))) → Owed P C B M
    go true e t = record {
      flat = each_flat B B n;
      ordinal = λ f. absurd (true≢false (sym e ∙ f));
      falls = none_owed (λ h r. TrueFor P C (obligation B M h r)) B B e;
    }
    go false e t =
        let parts = owed_parts (TrueFor P C) B M B (each_firsts (TrueFor P C) same_formula same_formula-eq (owed B M B) t) in
        record { flat = each_flat B B n; ordinal = λ f. parts.0; falls = parts.1 }
