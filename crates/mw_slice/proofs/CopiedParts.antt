-- A copy of an object: each cell that was copied has a right copy, and the jobs that wait can be done.
use Rattle.std.proofs.Common.{◌≡◌, ℕ, ◌+◌, ◌<◌, Bool, true, false, cond, nat_eq, List, [], ◌∷◌, ◌++◌, map, Contains, Option, Some, None, is_some, inl, inr, refl, sym, ap, ◌∙◌, subst, arith, eqb-true, eq-eqb}
use Rattle.std.proofs.lemmas.List.{map-append, append-nil}
use Rattle.std.proofs.lemmas.List.Elements.{Contains-push_cases, Contains-append_left, Contains-append_right}
use Rattle.mw_model.specs.Terms.Object.{Object, Natural, Symbol, Pair, name_of_bytes, weight}
use Rattle.mw_model.specs.Values.Primitive.{is_symbol, name_of}
use Rattle.mw_model.proofs.Names.{name_of_bytes-bytes}
use Rattle.mw_heap.specs.Objects.{object_at, IsIn, Grows}
use Rattle.mw_heap.proofs.Objects.{IsIn-Grows, object_at-Grows}
use Rattle.mw_slice.specs.declared.copying.Job.{Job}
use Rattle.mw_slice.specs.declared.copying.Job.TheVariants.{Copy, Join}
use Rattle.mw_slice.specs.Copies.{copied_cell, copy_of, IsCopied, AreCopies, WillBeCopied, CanBeDone, AllCanBeDone, job_weight, jobs_weight, IsDone, GetsCopy}

pub copies-Grows : (from old new : List Object) (copies : List (Option ℕ)) → Grows old new → AreCopies from old copies → AreCopies from new copies
copies-Grows from old new copies g right x r h = let k = right x r h in (IsIn-Grows old new g r k.0, object_at-Grows old new g r k.0 ∙ k.1)

-- one copy more
module _ (from to : List Object) (old new : List (Option ℕ)) (x made : ℕ) (puts : (y : ℕ) → copy_of new y ≡ cond (nat_eq x y) (Some made) (copy_of old y)) where
  pub copies-put : IsIn to made → object_at to made ≡ object_at from x → AreCopies from to old → AreCopies from to new
  copies-put within same right y r h = go (nat_eq x y) refl (sym (puts y) ∙ h)
    where
      go : (b : Bool) → nat_eq x y ≡ b → cond b (Some made) (copy_of old y) ≡ Some r → IsIn to r × (object_at to r ≡ object_at from y)
      go true e f =
          let is : made ≡ r = cc in
          subst (λ q. IsIn to q × (object_at to q ≡ object_at from y)) is (within, same ∙ ap (object_at from) (eqb-true x y e))
      go false e f = right y r f

  kept-put : (y : ℕ) → IsCopied old y → IsCopied new y
  kept-put y c = go (nat_eq x y) refl
    where
      go : (b : Bool) → nat_eq x y ≡ b → IsCopied new y
      go true e = (made, puts y ∙ ap (λ b. cond b (Some made) (copy_of old y)) e)
      go false e = (c.0, puts y ∙ (ap (λ b. cond b (Some made) (copy_of old y)) e ∙ c.1))

  pub gets-put : GetsCopy old new x
  gets-put = record { kept = kept-put; copied = (made, puts x ∙ ap (λ b. cond b (Some made) (copy_of old x)) (eq-eqb x x refl)) }

pub symbol_copied : (x : Object) (bytes : List ℕ) → is_symbol x ≡ true → (name_of x).bytes ≡ bytes → Symbol (name_of_bytes bytes) ≡ x
symbol_copied (Natural n) bytes h e = cc
symbol_copied (Pair a d) bytes h e = cc
symbol_copied (Symbol s) bytes h e = ap (λ b. Symbol (name_of_bytes b)) (sym e) ∙ ap Symbol (name_of_bytes-bytes s)

-- ---- a job is done

some_weight : (x : Object) → 0 < weight x
some_weight (Natural n) = omega arith
some_weight (Symbol s) = omega arith
some_weight (Pair a b) = omega arith

module _ (from : List Object) (old new : List (Option ℕ)) (jobs : List Job) where
  pub done_alone : (job : Job) → ((y : ℕ) → IsCopied old y → IsCopied new y) → IsCopied new (copied_cell job) → IsDone from job old new jobs jobs
  done_alone job kept copied = record {
    more = [];
    longer = sym (append-nil jobs);
    kept = kept;
    possible = tt;
    copied = inl copied;
    lighter = some job;
  }
    where
      some : (job : Job) → 0 < job_weight from job
      some (Copy x) = let w = some_weight (object_at from x) in omega arith
      some (Join x a d) = omega arith

pub done_pair : (from : List Object) (copies : List (Option ℕ)) (jobs new_jobs : List Job) (x a d : ℕ) → object_at from x ≡ Pair (object_at from a) (object_at from d) → IsIn from a → IsIn from d → new_jobs ≡ jobs ++ Join x a d ∷ Copy d ∷ Copy a ∷ [] → IsDone from (Copy x) copies copies jobs new_jobs
done_pair from copies jobs new_jobs x a d pair a_in d_in e = record {
  more = Join x a d ∷ Copy d ∷ Copy a ∷ [];
  longer = e;
  kept = λ y c. c;
  possible = ((pair, inr (1, omega arith, refl), inr (0, omega arith, refl)), (d_in, (a_in, tt)));
  copied = inr (0, omega arith, refl);
  lighter = (let w = ap weight pair in omega arith);
}

-- a cell that has a copy
pub is_copied : (copies : List (Option ℕ)) (x : ℕ) → is_some (copy_of copies x) ≡ true → IsCopied copies x
is_copied copies x h = go (copy_of copies x) refl h
  where
    go : (o : Option ℕ) → copy_of copies x ≡ o → is_some o ≡ true → IsCopied copies x
    go None e k = cc
    go (Some r) e k = (r, e)

-- ---- the jobs that wait

jobs_weight-append : (from : List Object) (ps qs : List Job) → jobs_weight from (ps ++ qs) ≡ jobs_weight from ps + jobs_weight from qs
jobs_weight-append from [] qs = omega arith
jobs_weight-append from (p ∷ ps) qs = let ih = jobs_weight-append from ps qs in omega arith

pub jobs_fall : (from : List Object) (old new : List (Option ℕ)) (rest jobs was : List Job) (job : Job) → was ≡ rest ++ job ∷ [] → IsDone from job old new rest jobs → jobs_weight from jobs < jobs_weight from was
jobs_fall from old new rest jobs was job e d =
    let had = ap (jobs_weight from) e ∙ jobs_weight-append from rest (job ∷ []) in
    let has = ap (jobs_weight from) d.longer ∙ jobs_weight-append from rest d.more in
    let less = d.lighter in
    omega arith

pub last_possible : (from : List Object) (copies : List (Option ℕ)) (rest : List Job) (job : Job) → AllCanBeDone from copies (rest ++ job ∷ []) → CanBeDone from copies [] job
last_possible from copies [] job h = h.0
last_possible from copies (j ∷ rest) job h = last_possible from copies rest job h.1

module _ (from : List Object) (old new : List (Option ℕ)) (job : Job) (waited waiting : List Job) (d : IsDone from job old new waited waiting) where
  will_be-step : (rest : List Job) (x : ℕ) → WillBeCopied old (rest ++ job ∷ []) x → WillBeCopied new (rest ++ d.more) x
  will_be-step rest x (inl c) = inl (d.kept x c)
  will_be-step rest x (inr m) =
      elim (Contains-push_cases (map copied_cell rest) (copied_cell job) x (subst (λ l. Contains l x) (map-append copied_cell rest (job ∷ [])) m)) [
        | inl n ↦ inr (subst (λ l. Contains l x) (sym (map-append copied_cell rest d.more)) (Contains-append_left (map copied_cell rest) (map copied_cell d.more) x n))
        | inr e ↦ elim d.copied [
          | inl c ↦ inl (subst (IsCopied new) e c)
          | inr n ↦ inr (subst (λ l. Contains l x) (sym (map-append copied_cell rest d.more)) (Contains-append_right (map copied_cell rest) (map copied_cell d.more) x (subst (Contains (map copied_cell d.more)) e n)))
        ]
      ]

  possible-step : (rest : List Job) (j : Job) → CanBeDone from old (rest ++ job ∷ []) j → CanBeDone from new (rest ++ d.more) j
  possible-step rest (Copy x) h = h
  possible-step rest (Join x a b) h = (h.0, will_be-step rest a h.1, will_be-step rest b h.2)

  all_possible-step : (rest : List Job) → AllCanBeDone from old (rest ++ job ∷ []) → AllCanBeDone from new (rest ++ d.more)
  all_possible-step [] h = d.possible
  all_possible-step (j ∷ rest) h = (possible-step rest j h.0, all_possible-step rest h.1)

-- ---- copying

pub record IsCopying (from to : List Object) (root : ℕ) (copies : List (Option ℕ)) (jobs : List Job) : Type 0 where
  pub right : AreCopies from to copies
  pub possible : AllCanBeDone from copies jobs
  pub root_copied : WillBeCopied copies jobs root

pub copying_starts : (from to : List Object) (root : ℕ) (copies : List (Option ℕ)) (jobs : List Job) → IsIn from root → ((x : ℕ) → copy_of copies x ≡ None) → jobs ≡ Copy root ∷ [] → IsCopying from to root copies jobs
copying_starts from to root copies jobs within none f = subst (IsCopying from to root copies) (sym f) (record {
  right = λ x r h. let no = none x in cc;
  possible = (within, tt);
  root_copied = inr (0, omega arith, refl);
})

module _ (from to more_to : List Object) (root : ℕ) (old new : List (Option ℕ)) (job : Job) (rest jobs : List Job) where
  pub copying_goes : IsCopying from to root old (rest ++ job ∷ []) → AreCopies from more_to new → IsDone from job old new rest jobs → IsCopying from more_to root new jobs
  copying_goes c right d = record {
    right = right;
    possible = subst (AllCanBeDone from new) (sym d.longer) (all_possible-step from old new job rest jobs d rest c.possible);
    root_copied = subst (λ l. WillBeCopied new l root) (sym d.longer) (will_be-step from old new job rest jobs d rest root c.root_copied);
  }

pub copying_ends : (from to : List Object) (root : ℕ) (copies : List (Option ℕ)) (jobs : List Job) → IsCopying from to root copies jobs → jobs ≡ [] → IsCopied copies root
copying_ends from to root copies jobs c e = elim c.root_copied [ inl h ↦ h | inr m ↦ absurd (none (subst (λ l. Contains (map copied_cell l) root) e m)) ]
  where
    none : Contains [] root → ⊥
    none h = absurd (omega (arith, h.1))
