-- What an event wants before it is accepted, apart from who judges the proofs: proofs of formulas; and the theory that it leads to then.
use Rattle.std.specs.Prelude.{ℕ, Bool, true, false, not, List, [], ◌∷◌, length, map, Option, Some, None}
use Rattle.mw_model.specs.Terms.Object.{Object, Pair, NIL, car, cdr, second_of, third_of, fourth_of, fifth_of, sixth_of, has_members, list1, list3, list4}
use Rattle.mw_model.specs.Terms.Term.{Formula, formula_object}
use Rattle.mw_model.specs.Terms.Reading.{formula_under, when}
use Rattle.std.specs.Option.{option_zip, option_or}
use Rattle.mw_model.specs.Values.Primitive.{is_symbol}
use Rattle.mw_model.specs.Values.Definition.{Functions, arity_table}
use Rattle.mw_model.specs.Events.Obligation.{obligations, is_nested}
use Rattle.mw_model.specs.Events.Expansion.{expand}
use Rattle.mw_model.specs.Events.Theory.{Theory}
use Rattle.mw_model.specs.Events.Refusal.{Refusal, RANGE, EVENT, NAME, FORMALS, TERM, FORMULA, VARIABLES, NESTED, COUNT, Fate, Accepted, Refused, refuse, accept, need, must, unless}
use Rattle.mw_model.specs.Events.Admission.{Draft, all_of, new_names, formals_of, add_names, functions, measures, are_closed_by, add_to_theory, some_drafts, skolem}
use Rattle.mw_model.specs.Events.Fate.{EventWord, Verify, Define, Skolem, Switch, Eval, Print, DefineAll, SetProfile, event_word, is_out_of_range, switch, eval, print, profile}

pub data Demand : Type 0 where
  Denied : Refusal → Demand
  -- proofs of these formulas, in order; then this is the next theory
  Wants : (formulas : List Formula) → (next : Theory) → Demand

-- The tests, one after another: denied for r where there is nothing, and where the test fails.
abbrev pub wants_some : {X : Type 0} → Refusal → Option X → (X → Demand) → Demand
wants_some r None go = Denied r
wants_some r (Some x) go = go x

abbrev pub wants_that : Refusal → Bool → Demand → Demand
wants_that r true rest = rest
wants_that r false rest = Denied r

abbrev pub verify_demand : Theory → Object → Demand
verify_demand t e =
    wants_that NAME (is_symbol (second_of e))
    (wants_some FORMULA (formula_under (arity_table t.definitions) (third_of e)) (λ F. Wants (F ∷ []) (record t { theorems = Pair (formula_object F) t.theorems })))

abbrev pub define_demand : Theory → List Draft → Demand
define_demand t drafts =
    let A = arity_table t.definitions in
    wants_some NAME (new_names A (map (λ d. d.name) drafts)) (λ fs.
    wants_some FORMALS (all_of formals_of (map (λ d. d.formals) drafts)) (λ xss.
    wants_some TERM (option_zip (all_of (expand (add_names fs xss A)) (map (λ d. d.body) drafts)) (all_of (expand A) (map (λ d. d.measure) drafts))) (λ terms.
    let B = functions fs xss terms.0 in
    let owed = obligations B (measures fs terms.1) in
    wants_that VARIABLES (are_closed_by xss terms.0 terms.1) (wants_that NESTED (not (is_nested B B)) (Wants owed (add_to_theory t (Functions B)))))))

abbrev pub define_one_demand : Theory → Object → Demand
define_one_demand t e = define_demand t (record { name = second_of e; formals = third_of e; body = fourth_of e; measure = fifth_of e } ∷ [])

abbrev pub define_all_demand : Theory → Object → Demand
define_all_demand t e = wants_some EVENT (some_drafts (second_of e)) (define_demand t)

-- of an event without proofs, from its fate and the theory after it
abbrev pub without_proofs : Fate → Theory → Demand
without_proofs (Accepted value) next = Wants [] next
without_proofs (Refused r) next = Denied r

abbrev pub demand : EventWord → Theory → Object → Demand
demand Verify t e = verify_demand t e
demand Define t e = define_one_demand t e
demand DefineAll t e = define_all_demand t e
demand Skolem t e = without_proofs (skolem t e).0 (skolem t e).1
demand SetProfile t e = without_proofs (profile t e).0 (profile t e).1
demand _ t e = Denied EVENT

-- the proofs of an event, as one list, and the event with other proofs
abbrev pub proofs_of : EventWord → Object → Object
proofs_of Verify e = list1 (fourth_of e)
proofs_of Define e = sixth_of e
proofs_of DefineAll e = third_of e
proofs_of _ e = NIL

abbrev pub with_proofs : EventWord → Object → Object → Object
with_proofs Verify e ps = list4 (car e) (second_of e) (third_of e) (car ps)
with_proofs Define e ps = Pair (car e) (Pair (second_of e) (list4 (third_of e) (fourth_of e) (fifth_of e) ps))
with_proofs DefineAll e ps = list3 (car e) (second_of e) ps
with_proofs _ e ps = e

-- A judge says of a proof, at a theory and with a step limit, why it is none of the formula wanted; or nothing.
abbrev pub Judge : Type 0
Judge = Theory → ℕ → Formula → Object → Option Refusal

-- proof by proof, for the wanted formulas in order
abbrev pub each_judged : Judge → Theory → ℕ → List Formula → Object → Option Refusal
each_judged J t N [] ps = None
each_judged J t N (F ∷ Fs) ps = option_or (J t N F (car ps)) (each_judged J t N Fs (cdr ps))

abbrev pub settled : Judge → Theory → ℕ → Object → Demand → Fate × Theory
settled J t N ps (Denied r) = refuse t r
settled J t N ps (Wants Fs next) = must t COUNT (has_members (length Fs) ps) (unless t (each_judged J t N Fs ps) (accept next))

abbrev pub happens_by_under : Judge → EventWord → Theory → ℕ → Object → Fate × Theory
happens_by_under J Switch t N e = switch t e
happens_by_under J Eval t N e = eval t N e
happens_by_under J Print t N e = print t e
happens_by_under J w t N e = settled J t N (proofs_of w e) (demand w t e)

-- The fate of an event, and the theory after it, where this judge stands in place of the theory's checker.
abbrev pub happens_under : Judge → Theory → ℕ → Object → Fate × Theory
happens_under J t N e = need t RANGE (when (not (is_out_of_range e)) (Some e)) (λ x. need t EVENT (event_word x) (λ w. happens_by_under J w t N x))
