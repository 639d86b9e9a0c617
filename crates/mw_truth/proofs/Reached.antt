-- The initial theories are sound, and so is each theory reached from the first under the built-in checker.
use Rattle.std.proofs.Common.{◌≡◌, ℕ, List, [], ◌∷◌, Option, Some, None, refl, sym, ◌∙◌, subst}
use Rattle.mw_model.specs.Terms.Object.{Object, Symbol, NIL, T, second_of, Member}
use Rattle.mw_model.specs.Terms.Term.{Constant, Formula, Equal, formula_object}
use Rattle.mw_model.specs.Values.Primitive.{Profile, One, Two}
use Rattle.mw_model.specs.Values.Definition.{arity_table}
use Rattle.mw_model.specs.Values.Truth.{IsTrueIn}
use Rattle.mw_model.specs.Proofs.Proof.{HasMembers, two, three, four, Proves, proof}
use Rattle.mw_model.specs.Proofs.Judgment.{judge}
use Rattle.mw_model.specs.BuiltIns.BuiltIn.{built_in, built_in_definitions}
use Rattle.mw_model.specs.Events.Theory.{Theory, initial, IsSound}
use Rattle.mw_model.specs.Events.Refusal.{Refusal, PROOF}
use Rattle.mw_model.specs.Events.Checking.{no_unless, judged_by}
use Rattle.mw_model.specs.Events.Fate.{next, after}
use Rattle.mw_model.specs.Reports.Keeping.{EventKeeps, EachKeeps}
use Rattle.mw_model.proofs.Names.{same_object-from}
use Rattle.mw_model.proofs.Read.{formula_object-one}
use Rattle.mw_model.proofs.Judging.{judge_good}
use Rattle.mw_model.proofs.BuiltInRead.{well_made}
use Rattle.mw_model.proofs.BuiltInTotal.{built_in_total, built_in_begins}
use Rattle.mw_truth.specs.Reached.{JudgesTruly, StaysBuiltIn}
use Rattle.mw_truth.proofs.MethodsTrue.{member_true}
use Rattle.mw_truth.proofs.ProofsTrue.{proved_true}
use Rattle.mw_truth.proofs.TrueLists.{none_true, axioms_of-true}
use Rattle.mw_truth.proofs.Events.{event_keeps}

pub initial_sound : (P : Profile) → IsSound (initial P)
initial_sound P = record {
  made = well_made P;
  begun = built_in_begins P;
  total = built_in_total P;
  axioms_true = axioms_of-true P (built_in P) (well_made P) (built_in_total P);
  theorems_true = none_true (built_in_definitions P);
  claimed = tt;
}

-- the second member of a proof is its conclusion
pub second_conclusion : (p method conclusion subproofs extras : Object) → HasMembers p method conclusion subproofs extras → second_of p ≡ conclusion
second_conclusion p m c ps x (two a b) = refl
second_conclusion p m c ps x (three a b d) = refl
second_conclusion p m c ps x (four a b d e) = refl

pub proof_conclusion : (t : Theory) (p : Object) (F : Formula) → Proves t.axioms t.theorems (arity_table t.definitions) t.definitions.profile p F → second_of p ≡ formula_object F
proof_conclusion t p F (proof q ps x m G Fs members i subproofs follows) = second_conclusion q (Symbol _) (formula_object G) ps x members

some_judged : {X : Type 0} (r : Refusal) (o : Option X) → no_unless r o ≡ None → (x : X) × (o ≡ Some x)
some_judged r None h = cc
some_judged r (Some x) h = (x, refl)

-- what the built-in checker says yes to is a proof, and the theory's proofs have true conclusions
pub built_in_judges : (t : Theory) → IsSound t → t.checker ≡ None → (N : ℕ) → JudgesTruly t N
built_in_judges t s c N p F i h q =
    let A = arity_table t.definitions in
    let P = t.definitions.profile in
    let j = some_judged PROOF (judge t.axioms t.theorems A P p) (subst (λ o. judged_by o t p N ≡ None) c h) in
    let g = judge_good t.axioms t.theorems A P p j.0 j.1 in
    let r = proved_true t.definitions s.made s.total s.begun t.axioms t.theorems s.axioms_true s.theorems_true p j.0 g in
    subst (IsTrueIn t.definitions) (formula_object-one A A j.0 F r.0 i (sym (proof_conclusion t p j.0 g) ∙ q)) r.1

-- an event, where what the checker says yes to is true; and so under the built-in checker
pub event_keeps-truly : (t : Theory) (N : ℕ) (e : Object) → IsSound t → JudgesTruly t N → EventKeeps t N e
event_keeps-truly t N e s j = event_keeps t s N j (initial_sound Two) e

pub event_keeps-built_in : (t : Theory) (N : ℕ) (e : Object) → IsSound t → t.checker ≡ None → EventKeeps t N e
event_keeps-built_in t N e s c = event_keeps-truly t N e s (built_in_judges t s c N)

-- lists of events
pub each_keeps : (t : Theory) (es : List Object) (N : ℕ) → IsSound t → StaysBuiltIn t es N → EachKeeps t N es
each_keeps t [] N s b = tt
each_keeps t (e ∷ es) N s b = let k = event_keeps-built_in t N e s b.0 in (k, each_keeps (next t e N) es N k.sound b.1)

pub after_sound : (t : Theory) (es : List Object) (N : ℕ) → IsSound t → EachKeeps t N es → IsSound (after t es N)
after_sound t [] N s k = s
after_sound t (e ∷ es) N s k = after_sound (next t e N) es N k.0.sound k.1

-- 't = 'nil is no theorem of a sound theory
pub sound_consistent : (t : Theory) → IsSound t → Member (formula_object (Equal (Constant T) (Constant NIL))) t.theorems → ⊥
sound_consistent t s m =
    member_true t.definitions t.theorems s.theorems_true (Equal (Constant T) (Constant NIL)) refl m [] (λ v p q. t_not_nil (sym p ∙ q))
  where
    t_not_nil : T ≡ NIL → ⊥
    t_not_nil e = cc (same_object-from T NIL e)

pub reached_sound : (es : List Object) (N : ℕ) → StaysBuiltIn (initial One) es N → IsSound (after (initial One) es N)
reached_sound es N b = after_sound (initial One) es N (initial_sound One) (each_keeps (initial One) es N (initial_sound One) b)
