-- What holds of the theory that an event meets, and of those that it may make, holds of the theory that it leads to.
use Rattle.std.proofs.Common.{◌≡◌, ℕ, Bool, true, false, ltb, cond, List, [], ◌∷◌, length, map, not, Option, Some, None, refl}
use Rattle.mw_model.specs.Terms.Object.{Name, Object, Pair, second_of, third_of, fourth_of, fifth_of}
use Rattle.mw_model.specs.Terms.Term.{Term, Formula, formula_object}
use Rattle.mw_model.specs.Terms.Reading.{formula_under}
use Rattle.std.specs.Option.{option_zip}
use Rattle.mw_model.specs.Values.Primitive.{Profile, One, Two, is_symbol}
use Rattle.mw_model.specs.Values.Definition.{Block, Functions, Choice, arity_table}
use Rattle.mw_model.specs.Events.Obligation.{obligations, is_nested}
use Rattle.mw_model.specs.Events.Evaluation.{Outcome, Value, Steps, Overflow, Witness, evaluate}
use Rattle.mw_model.specs.Events.Expansion.{expand}
use Rattle.mw_model.specs.Texts.Printing.{text_of}
use Rattle.mw_model.specs.Events.Theory.{Theory, initial}
use Rattle.mw_model.specs.Events.Refusal.{Refusal, EVENT, NAME, FORMALS, TERM, FORMULA, VARIABLES, NESTED, STEPS, OVERFLOW, WITNESS, LONG, Fate, Accepted, Refused, refuse, accept, need, must, unless}
use Rattle.mw_model.specs.Events.Admission.{Draft, all_of, new_names, formals_of, add_names, functions, measures, are_closed_by, add_to_theory, some_drafts, add_witness, skolem}
use Rattle.mw_model.specs.Events.Fate.{EventWord, Verify, Define, Skolem, Switch, Eval, Print, DefineAll, SetProfile, longest, show, show_outcome, eval, print, begin_profile, profile}
use Rattle.mw_model.specs.Events.Demand.{Demand, Denied, Wants, wants_some, wants_that, define_demand, without_proofs, demand}

-- ---- what is wanted, and the theory that it would lead to

abbrev pub Asks : (List Formula → Theory → Type 0) → Demand → Type 0
Asks Q (Denied r) = Unit {0}
Asks Q (Wants Fs next) = Q Fs next

module _ (Q : List Formula → Theory → Type 0) where
  pub some_asks : {X : Type 0} (r : Refusal) (o : Option X) (go : X → Demand) → ((x : X) → o ≡ Some x → Asks Q (go x)) → Asks Q (wants_some r o go)
  some_asks r None go k = tt
  some_asks r (Some x) go k = k x refl

  pub that_asks : (r : Refusal) (b : Bool) (d : Demand) → Asks Q d → Asks Q (wants_that r b d)
  that_asks r true d k = k
  that_asks r false d k = tt

  pub plain_asks : (f : Fate) (next : Theory) → Q [] next → Asks Q (without_proofs f next)
  plain_asks (Accepted value) next h = h
  plain_asks (Refused r) next h = tt

-- ---- the theory that tests lead to

pub record Leads (Q : Theory → Type 0) (r : Fate × Theory) : Type 0 where
  pub there : Q r.1

module _ (Q : Theory → Type 0) (t : Theory) (has : Q t) where
  pub refuse_leads : (r : Refusal) → Leads Q (refuse t r)
  refuse_leads r = record { there = has }

  pub accept_leads : (next : Theory) → Q next → Leads Q (accept next)
  accept_leads next h = record { there = h }

  pub need_leads : {X : Type 0} (r : Refusal) (o : Option X) (go : X → Fate × Theory) → ((x : X) → Leads Q (go x)) → Leads Q (need t r o go)
  unfolding need
  need_leads r None go k = refuse_leads r
  need_leads r (Some x) go k = k x

  pub must_leads : (r : Refusal) (b : Bool) (rest : Fate × Theory) → Leads Q rest → Leads Q (must t r b rest)
  unfolding must
  must_leads r true rest k = k
  must_leads r false rest k = refuse_leads r

  pub unless_leads : (o : Option Refusal) (rest : Fate × Theory) → Leads Q rest → Leads Q (unless t o rest)
  unfolding unless
  unless_leads None rest k = k
  unless_leads (Some r) rest k = refuse_leads r

  -- events that show a text
  show_leads : (text : List ℕ) → Leads Q (show t text)
  show_leads text = go (ltb longest (length text))
    where
      go : (b : Bool) → Leads Q (cond b (refuse t LONG) (Accepted text, t))
      go true = record { there = has }
      go false = record { there = has }

  outcome_leads : (o : Outcome) → Leads Q (show_outcome t o)
  outcome_leads (Value v n) = show_leads (text_of v)
  outcome_leads Steps = refuse_leads STEPS
  outcome_leads Overflow = refuse_leads OVERFLOW
  outcome_leads Witness = refuse_leads WITNESS

  pub eval_leads : (N : ℕ) (e : Object) → Leads Q (eval t N e)
  eval_leads N e = need_leads _ _ _ (λ a. need_leads _ _ _ (λ c. outcome_leads (evaluate t.definitions N [] c)))

  pub print_leads : (e : Object) → Leads Q (print t e)
  print_leads e = show_leads (text_of (second_of e))

  -- events that add a definition or a theorem, or begin the second profile
  module _ (block : (B : Block) → Q (add_to_theory t B)) (theorem : (F : Formula) → Q (record t { theorems = Pair (formula_object F) t.theorems })) (two : Q (initial Two)) where
    abbrev Then : List Formula → Theory → Type 0
    Then Fs next = Q next

    define_asks : (drafts : List Draft) → Asks Then (define_demand t drafts)
    define_asks drafts =
        let A = arity_table t.definitions in
        some_asks Then NAME (new_names A (map (λ d. d.name) drafts)) _ (λ fs e1.
        some_asks Then FORMALS (all_of formals_of (map (λ d. d.formals) drafts)) _ (λ xss e2.
        some_asks Then TERM (option_zip (all_of (expand (add_names fs xss A)) (map (λ d. d.body) drafts)) (all_of (expand A) (map (λ d. d.measure) drafts))) _ (λ terms e3.
        let B = functions fs xss terms.0 in
        that_asks Then VARIABLES (are_closed_by xss terms.0 terms.1) _ (that_asks Then NESTED (not (is_nested B B)) (Wants (obligations B (measures fs terms.1)) (add_to_theory t (Functions B))) (block (Functions B))))))

    witness_leads : (g : Name) (ys : List Name) (b : Term) → Leads Q (add_witness t g ys b)
    witness_leads g [] b = refuse_leads FORMALS
    witness_leads g (y ∷ xs) b = must_leads _ _ _ (accept_leads (add_to_theory t (Choice g y xs b)) (block (Choice g y xs b)))

    skolem_leads : (e : Object) → Leads Q (skolem t e)
    skolem_leads e = need_leads _ _ _ (λ g. need_leads _ _ _ (λ ys. need_leads _ _ _ (λ b. witness_leads g ys b)))

    profile_begun : (P : Profile) → Q (begin_profile t P)
    profile_begun One = has
    profile_begun Two = two

    profile_leads : (e : Object) → Leads Q (profile t e)
    profile_leads e = need_leads _ _ _ (λ P. accept_leads (begin_profile t P) (profile_begun P))

    pub asks : (w : EventWord) (e : Object) → Asks Then (demand w t e)
    asks Verify e = that_asks Then NAME (is_symbol (second_of e)) _ (some_asks Then FORMULA (formula_under (arity_table t.definitions) (third_of e)) _ (λ F e1. theorem F))
    asks Define e = define_asks (record { name = second_of e; formals = third_of e; body = fourth_of e; measure = fifth_of e } ∷ [])
    asks DefineAll e = some_asks Then EVENT (some_drafts (second_of e)) (define_demand t) (λ drafts e1. define_asks drafts)
    asks Skolem e = plain_asks Then (skolem t e).0 (skolem t e).1 (skolem_leads e).there
    asks SetProfile e = plain_asks Then (profile t e).0 (profile t e).1 (profile_leads e).there
    asks Switch e = tt
    asks Eval e = tt
    asks Print e = tt
