-- At every level a sound theory's checker says yes to what is true alone: the built-in one by the table of methods,
-- another one by its claim, which is a theorem and so true.
use Rattle.std.proofs.Common.{◌≡◌, ◌≢◌, ℕ, true, false, not, cond, List, [], ◌∷◌, length, Option, Some, None, refl, sym, ap, ◌∙◌, subst, ◌⊎◌, inl, inr}
use Rattle.std.proofs.lemmas.Bool.{and_from}
use Rattle.mw_model.specs.Terms.Object.{Name, Object, named, same_name, same_object, second_of, NIL, T, Member}
use Rattle.mw_model.specs.Terms.Term.{Constant, Equal, Formula, IsFormula, formula_object, arity_of, is_function_name, is_call_name}
use Rattle.mw_model.specs.Values.Primitive.{One}
use Rattle.mw_model.specs.Values.Definition.{Function, arity_table}
use Rattle.mw_model.specs.Values.Value.{Environment}
use Rattle.mw_model.specs.Values.Truth.{IsTrueIn}
use Rattle.mw_model.specs.Events.Evaluation.{Outcome, Value, Steps, Overflow, Witness, evaluate, code_of}
use Rattle.mw_model.specs.Events.Theory.{Theory, initial, IsSound, IsClaimed, claim}
use Rattle.mw_model.specs.Events.Refusal.{NILVALUE}
use Rattle.mw_model.specs.Events.Checking.{verdict, judged_by}
use Rattle.mw_model.specs.Events.Fate.{next, after}
use Rattle.mw_model.specs.Reports.Keeping.{EventKeeps, EachKeeps}
use Rattle.mw_model.proofs.Names.{name_cases, object_cases}
use Rattle.mw_model.proofs.Readable.{ReadableFormula, formula_readable, formula_object-one}
use Rattle.mw_model.proofs.FunctionNames.{table_names}
use Rattle.mw_model.proofs.CodeStays.{code_arity}
use Rattle.mw_model.proofs.NewNames.{if_known}
use Rattle.mw_model.proofs.Evaluates.{evaluate_value}
use Rattle.mw_truth.specs.Reached.{JudgesTruly}
use Rattle.mw_truth.proofs.ProofsTrue.{proved_true}
use Rattle.mw_truth.proofs.Reached.{initial_sound, built_in_judges, event_keeps-truly, after_sound, sound_consistent}
use Rattle.mw_reflect.specs.Laws.{checker_call, SaysYes, SaysTruly}
use Rattle.mw_reflect.proofs.ProofAnswers.{conclusion_of-proof}
use Rattle.mw_reflect.proofs.Provable.{provable_to}
use Rattle.mw_reflect.proofs.ClaimsTrue.{claim_true}

-- a checker's name may be called: it has four formals, and IF three
checker_name : (t : Theory) → IsSound t → (f : Name) (h : Function) → code_of t.definitions.blocks f ≡ Some h → length h.formals ≡ 4 → is_call_name f ≡ true
checker_name t s f h k four =
    let P = t.definitions.profile in
    let D = t.definitions.blocks in
    let arity : arity_of (arity_table t.definitions) f ≡ Some 4 = code_arity P D s.made f h k ∙ ap Some four in
    let function = table_names P D s.made f 4 arity in
    let three = if_known P D s.made in
    and_from (not (same_name f (named "QUOTE"))) (not (same_name f (named "IF"))) (not_quote function (name_cases f (named "QUOTE"))) (not_if arity three (name_cases f (named "IF")))
  where
    not_quote : is_function_name f ≡ true → ((same_name f (named "QUOTE") ≡ true) × (f ≡ named "QUOTE")) ⊎ ((same_name f (named "QUOTE") ≡ false) × (f ≢ named "QUOTE")) → not (same_name f (named "QUOTE")) ≡ true
    not_quote i (inl q) = let e : is_function_name (named "QUOTE") ≡ true = subst (λ g. is_function_name g ≡ true) q.1 i in cc e
    not_quote i (inr q) = ap not q.0

    not_if : arity_of (arity_table t.definitions) f ≡ Some 4 → arity_of (arity_table t.definitions) (named "IF") ≡ Some 3 → ((same_name f (named "IF") ≡ true) × (f ≡ named "IF")) ⊎ ((same_name f (named "IF") ≡ false) × (f ≢ named "IF")) → not (same_name f (named "IF")) ≡ true
    not_if a b (inl q) = absurd (cc (a, b, ap (arity_of (arity_table t.definitions)) q.1))
    not_if a b (inr q) = ap not q.0

claim_readable : (f : Name) → is_call_name f ≡ true → ReadableFormula (claim f)
claim_readable f c = (((c, (tt, (tt, (tt, (tt, tt))))), tt), ((refl, ((refl, (tt, tt)), (tt, (tt, (tt, tt))))), tt))

-- the claim of a sound theory's checker is true
claim_is_true : (t : Theory) → IsSound t → (f : Name) → IsClaimed t (Some f) → IsTrueIn t.definitions (claim f)
claim_is_true t s f q =
    let g = s.theorems_true (formula_object (claim f)) q.3 in
    let same : g.0 ≡ claim f = formula_object-one g.0 (claim f) (formula_readable (arity_table t.definitions) g.0 g.2) (claim_readable f (checker_name t s f q.0 q.1 q.2)) g.1 in
    subst (IsTrueIn t.definitions) same g.3

-- a checker that was run and did not refuse says yes
says_yes : (o : Outcome) → verdict o ≡ None → (v : Object) × (l : ℕ) × (v ≢ NIL) × (o ≡ Value v l)
says_yes (Value v l) h = go (object_cases v NIL) h
  where
    go : ((same_object v NIL ≡ true) × (v ≡ NIL)) ⊎ ((same_object v NIL ≡ false) × (v ≢ NIL)) → verdict (Value v l) ≡ None → (u : Object) × (m : ℕ) × (u ≢ NIL) × (Value v l ≡ Value u m)
    go (inl q) h = let e : Some NILVALUE ≡ None = subst (λ b. cond b (Some NILVALUE) None ≡ None) q.0 h in cc e
    go (inr q) h = (v, l, q.1, refl)
says_yes Steps h = cc
says_yes Overflow h = cc
says_yes Witness h = cc

-- what the run of a function with a true claim says yes to, and so that of a claimed function
pub true_claim_true : (t : Theory) → IsSound t → (f : Name) → IsTrueIn t.definitions (claim f) → SaysTruly t f
true_claim_true t s f claimed p N v left answered ran F i q =
    claim_true t.definitions (s.made, s.begun) t.axioms t.theorems
    (λ r G g. (proved_true t.definitions s.made s.total s.begun t.axioms t.theorems s.axioms_true s.theorems_true r G g).1)
    f [] p claimed
    (v, answered, evaluate_value t.definitions s.made N [] (checker_call f t.definitions p t.axioms t.theorems) v left ran) F i q

pub run_true : (t : Theory) → IsSound t → (f : Name) → IsClaimed t (Some f) → SaysTruly t f
run_true t s f claimed = true_claim_true t s f (claim_is_true t s f claimed)

-- what LOGIC.PROVABLEP says yes to
pub provable_true : (t : Theory) → IsSound t → (e : Environment) (F : Formula) → IsFormula (arity_table t.definitions) F → SaysYes (named "LOGIC.PROVABLEP") t.definitions e (formula_object F) t.axioms t.theorems → IsTrueIn t.definitions F
provable_true t s e F i said =
    let D = t.definitions in
    let q = provable_to D (s.made, s.begun) t.axioms t.theorems e (formula_object F) said in
    let g = proved_true D s.made s.total s.begun t.axioms t.theorems s.axioms_true s.theorems_true q.0 q.1.0 q.1.1 in
    let concluded = conclusion_of-proof t.axioms t.theorems (arity_table D) D.profile q.0 q.1.0 q.1.1 in
    let same : q.1.0 ≡ F = formula_object-one q.1.0 F (formula_readable (arity_table D) q.1.0 g.0) (formula_readable (arity_table D) F i) (sym concluded ∙ q.2) in
    subst (IsTrueIn D) same g.1

pub judges_truly : (t : Theory) → IsSound t → (N : ℕ) → JudgesTruly t N
judges_truly t s N p F i h q = go t.checker refl s.claimed h
  where
    go : (o : Option Name) → t.checker ≡ o → IsClaimed t o → judged_by o t p N ≡ None → IsTrueIn t.definitions F
    go None c k j = built_in_judges t s c N p F i h q
    go (Some f) c k j =
        let y = says_yes (evaluate t.definitions N [] (checker_call f t.definitions p t.axioms t.theorems)) j in
        run_true t s f k p N y.0 y.1 y.2 y.3 F i q

-- so each event keeps, whichever checkers were switched to
pub any_event : (t : Theory) (N : ℕ) (e : Object) → IsSound t → EventKeeps t N e
any_event t N e s = event_keeps-truly t N e s (judges_truly t s N)

each_event : (t : Theory) (es : List Object) (N : ℕ) → IsSound t → EachKeeps t N es
each_event t [] N s = tt
each_event t (e ∷ es) N s = let k = any_event t N e s in (k, each_event (next t e N) es N k.sound)

pub every_event : (es : List Object) (N : ℕ) → EachKeeps (initial One) N es
every_event es N = each_event (initial One) es N (initial_sound One)

pub every_theory : (es : List Object) (N : ℕ) → IsSound (after (initial One) es N)
every_theory es N = after_sound (initial One) es N (initial_sound One) (every_event es N)

pub never_nil : (es : List Object) (N : ℕ) → Member (formula_object (Equal (Constant T) (Constant NIL))) (after (initial One) es N).theorems → ⊥
never_nil es N = sound_consistent (after (initial One) es N) (every_theory es N)
