-- An event after good steps: the log answers what a judge by their numbers has the event come to.
use Rattle.std.proofs.Common.{◌≡◌, ℕ, Bool, true, false, ◌&&◌, not, cond, List, [], ◌∷◌, length, map, Option, Some, None, refl, sym, ap, ap₂, ◌∙◌}
use Rattle.mw_model.specs.Terms.Object.{Name, Object, Natural, Symbol, Pair, same_name, nil_name, has_members}
use Rattle.mw_model.specs.Terms.Term.{Formula, formula_object}
use Rattle.std.specs.Option.{option_zip, option_or}
use Rattle.mw_model.specs.Values.Truth.{Each}
use Rattle.mw_model.specs.Values.Definition.{Functions, arity_table}
use Rattle.mw_model.specs.Events.Obligation.{obligations, is_nested}
use Rattle.mw_model.specs.Events.Expansion.{expand}
use Rattle.mw_model.specs.Events.Theory.{Theory}
use Rattle.mw_model.specs.Events.Refusal.{Refusal, NAME, FORMALS, TERM, VARIABLES, NESTED, COUNT, PROOF, Fate, Accepted, Refused, accept, must, unless}
use Rattle.mw_model.specs.Events.Admission.{Draft, all_of, new_names, formals_of, add_names, functions, measures, are_closed_by, add_to_theory}
use Rattle.mw_model.specs.Events.Demand.{Demand, Denied, Wants, wants_some, wants_that, define_demand, each_judged, settled}
use Rattle.mw_model.proofs.Readable.{ReadableFormula}
use Rattle.mw_model.proofs.ReadBack.{some_one, and_more-back}
use Rattle.mw_commands.specs.Commands.Log.{Answer, Yes, No, ADMIT, natural_of, naturals_of, formula_numbered, is_that_formula, are_concluded, answer_to_goal, answer_to_demand}
use Rattle.mw_commands.proofs.Leading.{Asks}
use Rattle.mw_heap.specs.Objects.{object_at}
use Rattle.mw_theory.specs.Proofs.{by_formula}
use Rattle.mw_theory.specs.Settling.{fate_by}
use Rattle.mw_flat.specs.Verdicts.{answer_by}
use Rattle.mw_flat.specs.Collecting.{conclusion_numbered, is_concluded, by_number, judged_by_number}
use Rattle.mw_flat.proofs.Premises.{numbered-one}
use Rattle.mw_flat.proofs.ReadableConclusions.{numbered-concluded}

-- the answer to an event that comes to this
abbrev pub answer_by_fate : Fate → Answer
answer_by_fate (Accepted value) = Yes
answer_by_fate (Refused r) = answer_by (Some r)

abbrev pub answered : Fate × Theory → Answer × Theory
answered p = (answer_by_fate p.0, p.1)

pub fate-answered : (o : Option Refusal) → answer_by_fate (fate_by o) ≡ answer_by o
fate-answered None = refl
fate-answered (Some r) = refl

-- ---- a demand is denied before its proofs are looked at

abbrev pub IsOfAdmission : Refusal → Type 0
IsOfAdmission r = answer_by (Some r) ≡ No ADMIT

abbrev pub Admits : Demand → Type 0
Admits (Denied r) = IsOfAdmission r
Admits (Wants Fs next) = Unit {0}

pub some_admits : {X : Type 0} (r : Refusal) (o : Option X) (go : X → Demand) → IsOfAdmission r → ((x : X) → Admits (go x)) → Admits (wants_some r o go)
some_admits r None go h k = h
some_admits r (Some x) go h k = k x

that_admits : (r : Refusal) (b : Bool) (d : Demand) → IsOfAdmission r → Admits d → Admits (wants_that r b d)
that_admits r true d h k = k
that_admits r false d h k = h

pub define-admits : (t : Theory) (drafts : List Draft) → Admits (define_demand t drafts)
define-admits t drafts =
    let A = arity_table t.definitions in
    some_admits NAME (new_names A (map (λ d. d.name) drafts)) _ refl (λ fs.
    some_admits FORMALS (all_of formals_of (map (λ d. d.formals) drafts)) _ refl (λ xss.
    some_admits TERM (option_zip (all_of (expand (add_names fs xss A)) (map (λ d. d.body) drafts)) (all_of (expand A) (map (λ d. d.measure) drafts))) _ refl (λ terms.
    let B = functions fs xss terms.0 in
    let wants = Wants (obligations B (measures fs terms.1)) (add_to_theory t (Functions B)) in
    that_admits VARIABLES (are_closed_by xss terms.0 terms.1) (wants_that NESTED (not (is_nested B B)) wants) refl (that_admits NESTED (not (is_nested B B)) wants refl tt))))

-- ---- the formulas that are wanted

both_judged : (a b : Bool) → option_or (cond a None (Some PROOF)) (cond b None (Some PROOF)) ≡ cond (a && b) None (Some PROOF)
both_judged true true = refl
both_judged true false = refl
both_judged false b = refl

module _ (os : List Object) (t : Theory) (rs : List ℕ) (Fs : List Formula) (same : map (object_at os) rs ≡ map formula_object Fs) (readable : Each ReadableFormula Fs) where
  concluded : (n : ℕ) (F : Formula) → ReadableFormula F → is_concluded os (conclusion_numbered rs n) (formula_object F) ≡ is_that_formula (formula_numbered Fs n) F
  concluded n F f = numbered-concluded os rs Fs n F (numbered-one os rs Fs n same) readable f

  no_naturals : (s : Name) (ns : List ℕ) → naturals_of (Symbol s) ≡ Some ns → [] ≡ ns
  no_naturals s ns h = go (same_name s nil_name) h
    where
      go : (b : Bool) → cond b (Some []) None ≡ Some ns → [] ≡ ns
      go true k = some_one k
      go false k = cc

  pub judged-one : (G : Formula) (p : Object) (n : ℕ) → natural_of p ≡ Some n → ReadableFormula G → by_number os rs (formula_object G) p ≡ cond (is_that_formula (formula_numbered Fs n) G) None (Some PROOF)
  judged-one G (Natural k) n h g = ap (λ i. by_number os rs (formula_object G) (Natural i)) (some_one h) ∙ ap (λ b. cond b None (Some PROOF)) (concluded n G g)
  judged-one G (Symbol s) n h g = cc
  judged-one G (Pair a b) n h g = cc

  judged-each : (Gs : List Formula) (ps : Object) (ns : List ℕ) → naturals_of ps ≡ Some ns → Each ReadableFormula Gs → has_members (length Gs) ps ≡ true → each_judged (by_formula (judged_by_number os rs)) t 0 Gs ps ≡ cond (are_concluded Fs ns Gs) None (Some PROOF)
  judged-each [] (Symbol s) ns h g m = ap (λ l. cond (are_concluded Fs l []) None (Some PROOF)) (no_naturals s ns h)
  judged-each [] (Natural k) ns h g m = cc
  judged-each [] (Pair p ps) ns h g m = cc
  judged-each (G ∷ Gs) (Symbol s) ns h g m = cc
  judged-each (G ∷ Gs) (Natural k) ns h g m = cc
  judged-each (G ∷ Gs) (Pair p ps) ns h g m =
      let b = and_more-back (natural_of p) (naturals_of ps) ns h in
      ap₂ option_or (judged-one G p b.0 b.2 g.0) (judged-each Gs ps b.1 b.3 g.1 m)
      ∙ (both_judged (is_that_formula (formula_numbered Fs b.0) G) (are_concluded Fs b.1 Gs) ∙ ap (λ l. cond (are_concluded Fs l (G ∷ Gs)) None (Some PROOF)) (sym b.4))

  miscounted : (Gs : List Formula) (ps : Object) (ns : List ℕ) → naturals_of ps ≡ Some ns → has_members (length Gs) ps ≡ false → are_concluded Fs ns Gs ≡ false
  miscounted [] (Symbol s) ns h m = let k : same_name s nil_name ≡ false = m in cc
  miscounted [] (Natural k) ns h m = cc
  miscounted [] (Pair p ps) ns h m = let b = and_more-back (natural_of p) (naturals_of ps) ns h in ap (λ l. are_concluded Fs l []) b.4
  miscounted (G ∷ Gs) (Symbol s) ns h m = ap (λ l. are_concluded Fs l (G ∷ Gs)) (sym (no_naturals s ns h))
  miscounted (G ∷ Gs) (Natural k) ns h m = cc
  miscounted (G ∷ Gs) (Pair p ps) ns h m =
      let b = and_more-back (natural_of p) (naturals_of ps) ns h in
      ap (λ l. are_concluded Fs l (G ∷ Gs)) b.4 ∙ (ap (λ c. is_that_formula (formula_numbered Fs b.0) G && c) (miscounted Gs ps b.1 b.3 m) ∙ and-false (is_that_formula (formula_numbered Fs b.0) G))
    where
      and-false : (b : Bool) → (b && false) ≡ false
      and-false true = refl
      and-false false = refl

  goal-settled : (next : Theory) (b : Bool) → answer_to_goal t next b ≡ answered (unless t (cond b None (Some PROOF)) (accept next))
  unfolding unless
  goal-settled next true = refl
  goal-settled next false = refl

  -- a demand
  pub demand-settled : (d : Demand) (ps : Object) (ns : List ℕ) → naturals_of ps ≡ Some ns → Admits d → Asks (λ Gs next. Each ReadableFormula Gs) d → answer_to_demand t Fs ns d ≡ answered (settled (by_formula (judged_by_number os rs)) t 0 ps d)
  unfolding must
  demand-settled (Denied r) ps ns h a g = ap (λ x. (x, t)) (sym a)
  demand-settled (Wants Gs next) ps ns h a g = go (has_members (length Gs) ps) refl
    where
      go : (b : Bool) → has_members (length Gs) ps ≡ b → answer_to_goal t next (are_concluded Fs ns Gs) ≡ answered (must t COUNT b (unless t (each_judged (by_formula (judged_by_number os rs)) t 0 Gs ps) (accept next)))
      go true m = goal-settled next (are_concluded Fs ns Gs) ∙ ap (λ o. answered (unless t o (accept next))) (sym (judged-each Gs ps ns h g m))
      go false m = ap (answer_to_goal t next) (miscounted Gs ps ns h m)
