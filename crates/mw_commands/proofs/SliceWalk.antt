-- Where the events of a list are all accepted one after another, so are those of a slice.
use Rattle.std.proofs.Common.{◌≡◌, ℕ, suc, ◌+◌, ◌<◌, ◌≤◌, Bool, true, false, cond, leb, List, [], ◌∷◌, inl, inr, refl, sym, ap, ◌∙◌, subst, arith}
use Rattle.std.proofs.lemmas.Bool.{cases_Bool, leb-true, leb-false}
use Rattle.mw_model.specs.Terms.Object.{Object, NIL}
use Rattle.mw_model.specs.Values.Primitive.{Profile, One}
use Rattle.mw_model.specs.Values.Definition.{Block}
use Rattle.mw_model.specs.BuiltIns.BuiltIn.{built_in}
use Rattle.mw_model.specs.Events.Theory.{Theory, initial}
use Rattle.mw_model.specs.Events.Refusal.{accept}
use Rattle.mw_model.specs.Events.Fate.{happens}
use Rattle.mw_model.specs.Reports.Report.{is_accepted}
use Rattle.mw_commands.specs.Commands.Slice.{begins_with, event_at, rests_on, sets_profile}
use Rattle.mw_commands.proofs.SliceCourse.{Course, kept_course, left_course}
use Rattle.mw_commands.proofs.EventAgain.{EventFound, event_found}
use Rattle.mw_commands.proofs.FromNothing.{no_member}
use Rattle.mw_commands.proofs.SliceStep.{has_used}
use Rattle.mw_commands.proofs.Changes.{plain, profile_after, blocks_after, theorems_after, changed_plain}
use Rattle.mw_commands.proofs.AllAccepted.{AllAccepted}

-- the events at the places of the set, where the first one stands at place i
abbrev pub chosen : (ℕ → Bool) → ℕ → List Object → List Object
chosen S i [] = []
chosen S i (e ∷ es) = cond (S i) (e ∷ chosen S (suc i) es) (chosen S (suc i) es)

-- the rest of a list stands in it from place i on
abbrev pub StandsAt : List Object → ℕ → List Object → Type 0
StandsAt es i rest = (k : ℕ) → event_at es (i + k) ≡ event_at rest k

pub stands_first : (es : List Object) (i : ℕ) (e : Object) (rest : List Object) → StandsAt es i (e ∷ rest) → event_at es i ≡ e
stands_first es i e rest h = ap (event_at es) (omega arith) ∙ h 0

pub stands_rest : (es : List Object) (i : ℕ) (e : Object) (rest : List Object) → StandsAt es i (e ∷ rest) → StandsAt es (suc i) rest
stands_rest es i e rest h k = ap (event_at es) (omega arith) ∙ h (suc k)

pub none_chosen : (N : ℕ) (S : ℕ → Bool) (i : ℕ) (rest : List Object) (t : Theory) → ((j : ℕ) → i ≤ j → S j ≡ false) → AllAccepted N t (chosen S i rest)
none_chosen N S i [] t h = tt
none_chosen N S i (e ∷ rest) t h =
    let more = none_chosen N S (suc i) rest t (λ j l. h j (omega arith)) in
    subst (λ b. AllAccepted N t (cond b (e ∷ chosen S (suc i) rest) (chosen S (suc i) rest))) (sym (h i (omega arith))) more

pub beyond : (goal : ℕ) (S : ℕ → Bool) → ((j : ℕ) → S j ≡ true → j ≤ goal) → (i : ℕ) → goal < i → (j : ℕ) → i ≤ j → S j ≡ false
beyond goal S bounded i l j m = go (S j) refl
  where
    go : (b : Bool) → S j ≡ b → b ≡ false
    go true e = let k : j ≤ goal = bounded j e in absurd (omega arith)
    go false e = refl

-- what is known of the places of a slice before any switch
pub record IsClosed (es : List Object) (goal : ℕ) (S : ℕ → Bool) : Type 0 where
  pub closed : (i j : ℕ) → S i ≡ true → rests_on es i j ≡ true → S j ≡ true
  pub bounded : (j : ℕ) → S j ≡ true → j ≤ goal
  pub second : (j : ℕ) → j ≤ goal → sets_profile 2 (event_at es j) ≡ true → S j ≡ true
  pub no_switch : (j : ℕ) → j ≤ goal → begins_with "SWITCH" (event_at es j) ≡ false
  pub no_show : (j : ℕ) → S j ≡ true → (begins_with "EVAL" (event_at es j) ≡ false) × (begins_with "PRINT" (event_at es j) ≡ false)

module _ (N : ℕ) (es : List Object) (goal : ℕ) (S : ℕ → Bool) (h : IsClosed es goal S) where
  module _ (i : ℕ) (P : Profile) (D E : List Block) (th others : Object) (c : Course es S i P D E th others) (low : i ≤ goal) (accepted : is_accepted (happens (plain P D th) N (event_at es i)).0 ≡ true) where
    found : EventFound P D th N (event_at es i)
    found = event_found P D th N (event_at es i) (h.no_switch i low) accepted

    next_theory : (happens (plain P D th) N (event_at es i)).1 ≡ plain (profile_after found.change P) (blocks_after found.change D) (theorems_after found.change th)
    next_theory = found.leads ∙ changed_plain found.change P D th

    kept_happens : S i ≡ true → happens (plain P E others) N (event_at es i) ≡ accept (plain (profile_after found.change P) (blocks_after found.change E) (theorems_after found.change others))
    kept_happens k = let s = h.no_show i k in found.again E others (has_used es S h.closed i k P D E th others c) s.0 s.1 ∙ ap accept (changed_plain found.change P E others)

  abbrev Walk : List Object → ℕ → Type 0
  Walk rest i = (P : Profile) (D E : List Block) (th others : Object) → StandsAt es i rest → AllAccepted N (plain P D th) rest → Course es S i P D E th others → AllAccepted N (plain P E others) (chosen S i rest)

  one_step : (i : ℕ) (e : Object) (rest : List Object) → i ≤ goal → Walk rest (suc i) → Walk (e ∷ rest) i
  one_step i e rest low more P D E th others s a c = elim (cases_Bool (S i)) as (λ o. AllAccepted N u (chosen S i (e ∷ rest))) [ inl k ↦ kept k | inr k ↦ left k ]
    where
      u : Theory
      u = plain P E others

      is_e : event_at es i ≡ e
      is_e = stands_first es i e rest s

      accepted : is_accepted (happens (plain P D th) N (event_at es i)).0 ≡ true
      accepted = ap (λ z. is_accepted (happens (plain P D th) N z).0) is_e ∙ a.0

      f : EventFound P D th N (event_at es i)
      f = found i P D E th others c low accepted

      rest_accepted : AllAccepted N (plain (profile_after f.change P) (blocks_after f.change D) (theorems_after f.change th)) rest
      rest_accepted = subst (λ t. AllAccepted N t rest) (ap (λ z. (happens (plain P D th) N z).1) (sym is_e) ∙ next_theory i P D E th others c low accepted) a.1

      kept : S i ≡ true → AllAccepted N (plain P E others) (chosen S i (e ∷ rest))
      kept k =
          let is = ap (happens (plain P E others) N) (sym is_e) ∙ kept_happens i P D E th others c low accepted k in
          let later = more (profile_after f.change P) (blocks_after f.change D) (blocks_after f.change E) (theorems_after f.change th) (theorems_after f.change others) (stands_rest es i e rest s) rest_accepted (kept_course es S i P D E th others c f.change f.is_change) in
          subst (λ b. AllAccepted N (plain P E others) (cond b (e ∷ chosen S (suc i) rest) (chosen S (suc i) rest))) (sym k)
          (ap (λ z. is_accepted z.0) is, subst (λ t. AllAccepted N t (chosen S (suc i) rest)) (sym (ap (λ z. z.1) is)) later)

      left : S i ≡ false → AllAccepted N (plain P E others) (chosen S i (e ∷ rest))
      left k =
          let after = left_course es S i P D E th others c k (h.second i low) f.change f.is_change in
          let later = more (profile_after f.change P) (blocks_after f.change D) E (theorems_after f.change th) others (stands_rest es i e rest s) rest_accepted after.0 in
          subst (λ b. AllAccepted N (plain P E others) (cond b (e ∷ chosen S (suc i) rest) (chosen S (suc i) rest))) (sym k) (subst (λ Q. AllAccepted N (plain Q E others) (chosen S (suc i) rest)) after.1 later)

  walk : (rest : List Object) (i : ℕ) → Walk rest i
  walk [] i P D E th others s a c = tt
  walk (e ∷ rest) i P D E th others s a c =
      elim (cases_Bool (leb i goal)) as (λ o. AllAccepted N (plain P E others) (chosen S i (e ∷ rest))) [
        | inl l ↦ one_step i e rest (leb-true i goal l) (walk rest (suc i)) P D E th others s a c
        | inr g ↦ none_chosen N S i (e ∷ rest) (plain P E others) (beyond goal S h.bounded i (leb-false i goal g))
      ]

  begins : Course es S 0 One (built_in One) (built_in One) NIL NIL
  begins =
      record {
        arities_known = λ f. inl refl;
        axioms_known = λ x m. inl m;
        proved = λ x m. absurd (no_member x m);
        kept = λ j l s k. absurd (omega arith);
        begun = λ k. k;
        count = λ k. omega arith;
      }

  pub needed_accepted : AllAccepted N (initial One) es → AllAccepted N (initial One) (chosen S 0 es)
  needed_accepted a = walk es 0 One (built_in One) (built_in One) NIL NIL (λ k. ap (event_at es) (omega arith)) a begins
