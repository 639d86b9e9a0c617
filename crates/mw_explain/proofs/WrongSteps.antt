-- What is shown of an induction, and of a step whose row does not hold.
use Rattle.std.proofs.Common.{◌≡◌, ℕ, true, List, [], ◌∷◌, Option, Some, None, option_map, refl, sym, ap, ap₂, ◌∙◌, subst}
use Rattle.std.specs.Prelude.{option_to_list}
use Rattle.mw_model.specs.Terms.Object.{Object, symbol, second_of, third_of, fourth_of}
use Rattle.mw_model.specs.Terms.Term.{ArityTable, Formula, is_formula, formula_object}
use Rattle.mw_model.specs.Terms.Reading.{formula_of, formula_under}
use Rattle.mw_model.specs.Values.Primitive.{Profile}
use Rattle.mw_model.specs.Proofs.Proof.{Method}
use Rattle.mw_model.specs.Proofs.Judgment.{judge_each}
use Rattle.mw_model.specs.Laws.RulesInduction.{formulas_object}
use Rattle.mw_model.proofs.ReadBack.{formula_back}
use Rattle.mw_heap.specs.Objects.{object_at}
use Rattle.mw_proof.specs.declared.members.Members.{Members}
use Rattle.mw_proof.specs.Members.{AreMembers}
use Rattle.mw_commands.specs.Commands.ExplanationSteps.{are_extras, mended, premises_wanted, wrong_induction}
use Rattle.mw_bad_steps.specs.Candidates.{IsMended}
use Rattle.mw_explain.specs.Extras.{premises_at, IsFound}
use Rattle.mw_explain.proofs.ExtrasExact.{premises_shown}
use Rattle.mw_bad_steps.proofs.MendedSteps.{that_some, formulas_object-listed}

-- ---- an induction

some_wanted : (o : Option (List Formula)) (y : Object) → option_map formulas_object o ≡ Some y → wrong_induction o ≡ symbol "PREMISES" ∷ y ∷ []
some_wanted None y h = cc
some_wanted (Some Fs) y h =
    let e : formulas_object Fs ≡ y = cc h in
    ap (λ z. symbol "PREMISES" ∷ z ∷ []) (sym (formulas_object-listed Fs) ∙ e)

none_wanted : (o : Option (List Formula)) → option_map formulas_object o ≡ None → wrong_induction o ≡ symbol "EXTRAS" ∷ []
none_wanted None h = refl
none_wanted (Some Fs) h = cc

found_some : (os : List Object) (o : Option Object) (r : ℕ) → IsFound os o (Some r) → o ≡ Some (object_at os r)
found_some os None r h = absurd h
found_some os (Some y) r h = ap Some (sym h.1)

found_none : (os : List Object) (o : Option Object) → IsFound os o None → o ≡ None
found_none os None h = refl
found_none os (Some y) h = absurd h

module _ (A : ArityTable) (os new : List Object) (p : ℕ) (mem : Members) (am : AreMembers os p mem) (F : Formula) (f : formula_under A (second_of (object_at os p)) ≡ Some F) (o : Option ℕ) (h : IsFound new (premises_at A (object_at os mem.conclusion) (object_at os mem.extras)) o) where
  abbrev Wanted : Option (List Formula)
  Wanted = premises_wanted A F (fourth_of (object_at os p))

  wanted : option_map formulas_object Wanted ≡ premises_at A (object_at os mem.conclusion) (object_at os mem.extras)
  wanted =
      let read = that_some (is_formula A) (formula_of (second_of (object_at os p))) F f in
      premises_shown A F read.1 (fourth_of (object_at os p)) ∙ ap₂ (premises_at A) (formula_back (second_of (object_at os p)) F read.0 ∙ sym am.conclusion_is) (sym am.extras_are)

  pub premises_wrong : (r : ℕ) → o ≡ Some r → wrong_induction Wanted ≡ symbol "PREMISES" ∷ object_at new r ∷ []
  premises_wrong r e = some_wanted Wanted (object_at new r) (wanted ∙ found_some new (premises_at A (object_at os mem.conclusion) (object_at os mem.extras)) r (subst (IsFound new (premises_at A (object_at os mem.conclusion) (object_at os mem.extras))) e h))

  pub extras_wrong : o ≡ None → wrong_induction Wanted ≡ symbol "EXTRAS" ∷ []
  extras_wrong e = none_wanted Wanted (wanted ∙ found_none new (premises_at A (object_at os mem.conclusion) (object_at os mem.extras)) (subst (IsFound new (premises_at A (object_at os mem.conclusion) (object_at os mem.extras))) e h))

-- ---- a row

pub mended_listed : (os : List Object) (o : Option Formula) (r : Option ℕ) → IsMended os o r → option_to_list (option_map formula_object o) ≡ option_to_list (option_map (object_at os) r)
mended_listed os None None h = refl
mended_listed os None (Some r) h = absurd h
mended_listed os (Some G) None h = absurd h
mended_listed os (Some G) (Some r) h = ap (λ y. y ∷ []) (sym h.1)

module _ (new : List Object) (m : Method) (F : Formula) (Fs : List Formula) (x : Object) (o : Option ℕ) where
  abbrev pub Mends : Object → Object → ArityTable → Profile → Type 0
  Mends ax th A P = formula_under A (second_of x) ≡ Some F → judge_each ax th A P (third_of x) ≡ Some Fs → are_extras A m (fourth_of x) ≡ true → IsMended new (mended ax th A P m F Fs (fourth_of x)) o

  pub mends_same : (ax th : Object) (A : ArityTable) (P : Profile) (bx uh : Object) (B : ArityTable) (Q : Profile) → ax ≡ bx → th ≡ uh → A ≡ B → P ≡ Q → Mends bx uh B Q → Mends ax th A P
  mends_same ax th A P bx uh B Q e f g h k =
      subst (λ z. Mends z th A P) (sym e) (subst (λ z. Mends bx z A P) (sym f) (subst (λ z. Mends bx uh z P) (sym g) (subst (λ z. Mends bx uh B z) (sym h) k)))
