-- One more condition and its case, while the heap stays: what they make of the premises that are left.
use Rattle.std.proofs.Common.{◌≡◌, ℕ, ◌+◌, ◌-◌, ◌<◌, ◌≤◌, Bool, true, false, List, length, take, drop, get_or, Option, Some, None, sym, ap, ◌∙◌, subst, arith}
use Rattle.std.proofs.lemmas.Bool.{and_parts}
use Rattle.mw_model.specs.Terms.Object.{Object, Pair, same_object}
use Rattle.mw_model.specs.Laws.RulesInduction.{length_object, steps_object, falls_object, all_falls_object}
use Rattle.mw_heap.specs.Objects.{object_at, IsIn}
use Rattle.mw_induct.specs.Conclusions.{conclusions_object, Takes}
use Rattle.mw_induct.specs.Scheme.{AreCases}
use Rattle.mw_induct.specs.Pairs.{are_lists_of_pairs, are_cases_of_pairs, AreSubstitutionsIn}
use Rattle.mw_induct.proofs.Forms.{step_object, steps_next, steps_other, all_falls_next}
use Rattle.mw_induct.proofs.Rests.{same_pair, next_conclusion, takes_none, takes_some, Takes-from, drop_after}

-- the conditions begin with q and go on with more, and the cases begin with s and go on with others
pub record IsNextCase (os : List Object) (conditions cases q more s others : ℕ) : Type 0 where
  pub condition : IsIn os q
  pub conditions_are : object_at os conditions ≡ Pair (object_at os q) (object_at os more)
  pub substitutions : AreSubstitutionsIn os s
  pub cases_are : object_at os cases ≡ Pair (object_at os s) (object_at os others)
  pub rest : AreCases os more others

module _ (os now : List Object) (same : now ≡ os) (conditions cases q more s others : ℕ) where
  pub next_case : AreCases os conditions cases → IsIn now q × IsIn now more × (object_at now conditions ≡ Pair (object_at now q) (object_at now more)) → IsIn now s × IsIn now others × (object_at now cases ≡ Pair (object_at now s) (object_at now others)) → IsNextCase os conditions cases q more s others
  next_case are condition group =
      let c = same_pair os now conditions q more same condition in
      let g = same_pair os now cases s others same group in
      let pairs = and_parts (are_lists_of_pairs (object_at os s)) (are_cases_of_pairs (object_at os others)) (ap are_cases_of_pairs (sym g.2) ∙ are.pairs) in
      let lengths : 1 + length_object (object_at os more) ≡ 1 + length_object (object_at os others) = ap length_object (sym c.2) ∙ (are.as_many ∙ ap length_object g.2) in
      record {
        condition = c.0;
        conditions_are = c.2;
        substitutions = (g.0, pairs.0);
        cases_are = g.2;
        rest = record { conditions_within = c.1; cases_within = g.1; as_many = omega (arith, lengths); pairs = pairs.1 };
      }

  module _ (n : IsNextCase os conditions cases q more s others) where
    -- the next conclusion is the step premise, or it is not
    module _ (a : ℕ) (xs : List ℕ) (i x : ℕ) (l : i < length xs) (is : x ≡ get_or xs i x) (b : Bool) (step : b ≡ same_object (object_at now x) (step_object (object_at now a) (object_at now q) (object_at now s))) where
      decided : (v : Bool) → b ≡ v → same_object (object_at os x) (step_object (object_at os a) (object_at os q) (object_at os s)) ≡ v
      decided v e = subst (λ h. same_object (object_at h x) (step_object (object_at h a) (object_at h q) (object_at h s)) ≡ v) same (sym step ∙ e)

      pub step_taken : b ≡ true → (rest : Object) → same_object (conclusions_object os (drop i xs)) (steps_object (object_at os a) (object_at os conditions) (object_at os cases) rest) ≡ same_object (conclusions_object os (drop (i + 1) xs)) (steps_object (object_at os a) (object_at os more) (object_at os others) rest)
      step_taken e rest = steps_next (object_at os a) (object_at os x) _ (object_at os q) (object_at os more) (object_at os s) (object_at os others) _ (object_at os conditions) (object_at os cases) rest (next_conclusion os xs i x l is) n.conditions_are n.cases_are (decided true e)

      pub step_refused : b ≡ false → (rest : Object) → same_object (conclusions_object os (drop i xs)) (steps_object (object_at os a) (object_at os conditions) (object_at os cases) rest) ≡ false
      step_refused e rest = steps_other (object_at os a) (object_at os x) _ (object_at os q) (object_at os more) (object_at os s) (object_at os others) _ (object_at os conditions) (object_at os cases) rest (next_conclusion os xs i x l is) n.conditions_are n.cases_are (decided false e)

    -- the conclusions that the falls of the next case take
    module _ (m : ℕ) (xs : List ℕ) (i : ℕ) (o : Option ℕ) (t : Takes (falls_object (object_at now m) (object_at now q) (object_at now s)) now (take (length xs - i) (drop i xs)) o) where
      falls : Takes (falls_object (object_at os m) (object_at os q) (object_at os s)) os (drop i xs) o
      falls = subst (λ h. Takes (falls_object (object_at h m) (object_at h q) (object_at h s)) h (drop i xs) o) same (Takes-from _ now i xs o t)

      next_falls : same_object (conclusions_object os (drop i xs)) (all_falls_object (object_at os m) (object_at os conditions) (object_at os cases)) ≡ same_object (conclusions_object os (drop i xs)) (falls_object (object_at os m) (object_at os q) (object_at os s) (all_falls_object (object_at os m) (object_at os more) (object_at os others)))
      next_falls = ap (same_object (conclusions_object os (drop i xs))) (all_falls_next (object_at os m) (object_at os q) (object_at os more) (object_at os s) (object_at os others) (object_at os conditions) (object_at os cases) n.conditions_are n.cases_are)

      pub falls_refused : o ≡ None → same_object (conclusions_object os (drop i xs)) (all_falls_object (object_at os m) (object_at os conditions) (object_at os cases)) ≡ false
      falls_refused e = next_falls ∙ takes_none (falls_object (object_at os m) (object_at os q) (object_at os s)) os (drop i xs) o e falls (all_falls_object (object_at os m) (object_at os more) (object_at os others))

      pub falls_taken : (k : ℕ) → o ≡ Some k → (k ≤ length (drop i xs)) × (same_object (conclusions_object os (drop i xs)) (all_falls_object (object_at os m) (object_at os conditions) (object_at os cases)) ≡ same_object (conclusions_object os (drop (i + k) xs)) (all_falls_object (object_at os m) (object_at os more) (object_at os others)))
      falls_taken k e =
          let some = takes_some (falls_object (object_at os m) (object_at os q) (object_at os s)) os (drop i xs) o k e falls in
          let rest = all_falls_object (object_at os m) (object_at os more) (object_at os others) in
          (some.0, next_falls ∙ (some.1 rest ∙ ap (λ ys. same_object (conclusions_object os ys) rest) (drop_after i k xs)))
