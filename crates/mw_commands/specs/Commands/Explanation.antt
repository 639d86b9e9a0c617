-- Why an event is refused: what is shown beside the word of the report.
use Rattle.std.specs.Prelude.{ℕ, suc, ◌&&◌, not, cond, List, [], ◌∷◌, ◌++◌, map, find, Option, Some, None, option_map, option_to_list, is_some, unwrap_or}
use Rattle.std.specs.List.{list_any}
use Rattle.std.specs.Option.{option_map_or}
use Rattle.mw_model.specs.Terms.Object.{Name, Object, Natural, Symbol, Pair, symbol, same_name, same_object, name_of_bytes, NIL, car, cdr, second_of, third_of, fourth_of, fifth_of, has_members}
use Rattle.mw_model.specs.Terms.Term.{Call, Formula, ArityTable, term_object, formula_object, firsts, occurrences}
use Rattle.mw_model.specs.Values.Primitive.{name_of}
use Rattle.mw_model.specs.Values.Definition.{Function, arity_table}
use Rattle.mw_model.specs.Events.Obligation.{any_mentions, recursive_calls}
use Rattle.mw_model.specs.Events.Expansion.{expand, without}
use Rattle.mw_model.specs.Events.Theory.{Theory, claim}
use Rattle.mw_model.specs.Events.Refusal.{Refusal, RANGE, EVENT, NAME, FORMALS, TERM, FORMULA, VARIABLES, NESTED, COUNT, CONCLUSION, PROOF, CLAIM, CHECKER, reason_of}
use Rattle.mw_model.specs.Events.Checking.{judged_as}
use Rattle.mw_model.specs.Events.Admission.{Draft, all_of, new_name, formals_of, add_names, functions, some_drafts}
use Rattle.mw_model.specs.Events.Fate.{EventWord, Verify, Define, Skolem, Eval, DefineAll, event_words, event_word_among, member_count}
use Rattle.mw_model.specs.Events.Demand.{Demand, Denied, Wants, demand, proofs_of}
use Rattle.mw_commands.specs.Commands.ExplanationTerms.{bad_raw, bad_formula, arity_shown, part_shown}
use Rattle.mw_commands.specs.Commands.ExplanationSteps.{listed, bad_step_shown}

-- what is shown of the first of these of which something is, after its number
abbrev pub first_shown : {X : Type 0} → (X → List Object) → ℕ → List X → List Object
first_shown show k [] = []
first_shown show k (x ∷ xs) = elim (show x) [ [] ↦ first_shown show (suc k) xs | y ∷ ys ↦ Natural k ∷ y ∷ ys ]

abbrev pub or_else_shown : List Object → List Object → List Object
or_else_shown [] ys = ys
or_else_shown (x ∷ xs) ys = x ∷ xs

-- ---- EVENT

abbrev pub word_of : Object → Option EventWord
word_of (Pair (Symbol s) r) = event_word_among event_words s
word_of _ = None

-- how many members the word wants, where there are not as many
abbrev pub event_shown : EventWord → Object → List Object
event_shown w e = cond (has_members (member_count w) e) [] (Natural (member_count w) ∷ [])

-- ---- NAME to NESTED

-- the definitions that an event gives; a witness and the term of an EVAL count as one
abbrev pub drafts_in : EventWord → Object → List Draft
drafts_in Define e = record { name = second_of e; formals = third_of e; body = fourth_of e; measure = fifth_of e } ∷ []
drafts_in DefineAll e = unwrap_or (some_drafts (second_of e)) []
drafts_in Skolem e = record { name = second_of e; formals = Pair (third_of e) (fourth_of e); body = fifth_of e; measure = NIL } ∷ []
drafts_in Eval e = record { name = NIL; formals = NIL; body = second_of e; measure = NIL } ∷ []
drafts_in _ e = []

-- the first name that is not new or stands earlier, and its arity where it has one
abbrev pub bad_name : ArityTable → List Object → ℕ → List Draft → List Object
bad_name A earlier k [] = []
bad_name A earlier k (d ∷ ds) =
    cond (is_some (new_name A d.name) && not (list_any (same_object d.name) earlier)) (bad_name A (d.name ∷ earlier) (suc k) ds) (Natural k ∷ d.name ∷ arity_shown A d.name)

-- the names, their formals, and the arities under which the bodies stand
abbrev pub names_in : ArityTable → List Draft → List Name
names_in A ds = unwrap_or (all_of (new_name A) (map (λ d. d.name) ds)) []

abbrev pub formals_in : List Draft → List (List Name)
formals_in ds = unwrap_or (all_of formals_of (map (λ d. d.formals) ds)) []

abbrev pub body_arities : EventWord → ArityTable → List Draft → ArityTable
body_arities Skolem A ds = A
body_arities Eval A ds = A
body_arities w A ds = add_names (names_in A ds) (formals_in ds) A

-- the first bad part of a raw term, after the word that says which term it is
abbrev pub raw_shown : Object → ArityTable → Option Object → List Object
raw_shown word A None = []
raw_shown word A (Some x) = word ∷ part_shown A (Some x)

-- what is shown of a definition whose measure stands under A and its body under B
abbrev pub draft_shown : Refusal → ArityTable → ArityTable → Draft → List Object
draft_shown FORMALS A B d = cond (is_some (formals_of d.formals)) [] (d.formals ∷ [])
draft_shown TERM A B d = or_else_shown (raw_shown (symbol "BODY") B (bad_raw B d.body)) (raw_shown (symbol "MEASURE") A (bad_raw A d.measure))
draft_shown _ A B d =
    map Symbol (without (firsts same_name (option_map_or occurrences (expand B d.body) [] ++ option_map_or occurrences (expand A d.measure) [])) (unwrap_or (formals_of d.formals) []))

-- the first call of the block in the body of h that has one among its actuals
abbrev pub nested_call : List Function → Function → List Object
nested_call B h = option_to_list (option_map (λ r. term_object (Call r.function.name r.actuals)) (find (λ r. any_mentions B r.actuals) (recursive_calls B h)))

abbrev pub block_in : ArityTable → ArityTable → List Draft → List Function
block_in A B ds = functions (names_in A ds) (formals_in ds) (unwrap_or (all_of (expand B) (map (λ d. d.body) ds)) [])

abbrev pub drafts_shown : Refusal → ArityTable → ArityTable → List Draft → List Object
drafts_shown NAME A B ds = bad_name A [] 1 ds
drafts_shown NESTED A B ds = let block = block_in A B ds in first_shown (nested_call block) 1 block
drafts_shown r A B ds = first_shown (draft_shown r A B) 1 ds

abbrev pub definition_shown : Refusal → EventWord → ArityTable → Object → List Object
definition_shown r Verify A e = second_of e ∷ []
definition_shown r w A e = let ds = drafts_in w e in drafts_shown r A (body_arities w A ds) ds

-- ---- COUNT to WITNESS

abbrev pub formulas_wanted : Demand → List Formula
formulas_wanted (Wants Fs next) = Fs
formulas_wanted (Denied r) = []

abbrev pub wrong_proof : Theory → Refusal → Object → List Object
wrong_proof t CONCLUSION p = second_of p ∷ []
wrong_proof t PROOF p = bad_step_shown t p
wrong_proof t r p = []

-- the number of the first proof that is refused, the formula wanted of it, and what is wrong with it
abbrev pub proof_shown : Theory → ℕ → ℕ → List Formula → Object → List Object
proof_shown t N k [] ps = []
proof_shown t N k (F ∷ Fs) ps = elim (judged_as t N F (car ps)) [ None ↦ proof_shown t N (suc k) Fs (cdr ps) | Some r ↦ Natural k ∷ formula_object F ∷ wrong_proof t r (car ps) ]

-- ---- all refusals

abbrev pub shown_by : Refusal → EventWord → Theory → ℕ → Object → List Object
shown_by RANGE w t N e = []
shown_by EVENT w t N e = event_shown w e
shown_by FORMULA w t N e = let A = arity_table t.definitions in part_shown A (bad_formula A (third_of e))
shown_by COUNT w t N e = map formula_object (formulas_wanted (demand w t e))
shown_by CHECKER w t N e = arity_shown (arity_table t.definitions) (second_of e)
shown_by CLAIM w t N e = formula_object (claim (name_of (second_of e))) ∷ []
shown_by NAME w t N e = definition_shown NAME w (arity_table t.definitions) e
shown_by FORMALS w t N e = definition_shown FORMALS w (arity_table t.definitions) e
shown_by TERM w t N e = definition_shown TERM w (arity_table t.definitions) e
shown_by VARIABLES w t N e = definition_shown VARIABLES w (arity_table t.definitions) e
shown_by NESTED w t N e = definition_shown NESTED w (arity_table t.definitions) e
shown_by r w t N e = proof_shown t N 1 (formulas_wanted (demand w t e)) (proofs_of w e)

-- what is shown of an event that this theory refuses for this reason; nothing where it does not begin with a word of events
abbrev pub shown : Refusal → Option EventWord → Theory → ℕ → Object → List Object
shown r (Some w) t N e = shown_by r w t N e
shown r None t N e = []

-- (why k REASON ..), for event number k
abbrev pub why : ℕ → Refusal → Theory → ℕ → Object → Object
why k r t N e = Pair (symbol "WHY") (Pair (Natural k) (Pair (Symbol (name_of_bytes (reason_of r))) (listed (shown r (word_of e) t N e))))
