-- The fate of an event, and the theory after it.
use Rattle.std.specs.Prelude.{ℕ, suc, Bool, true, false, ◌&&◌, not, cond, eqb, ltb, List, [], ◌∷◌, length, Option, Some, None, ◌||◌}
use Rattle.mw_model.specs.Terms.Object.{Name, Object, Natural, Symbol, Pair, named, same_name, same_object, NIL, is_member, second_of, third_of, fourth_of, has_members}
use Rattle.mw_model.specs.Terms.Term.{is_closed, formula_object}
use Rattle.mw_model.specs.Terms.Same.{same_names, same_term}
use Rattle.mw_model.specs.Terms.Reading.{formula_under, when, that}
use Rattle.mw_model.specs.Values.Primitive.{Profile, One, Two, is_symbol}
use Rattle.mw_model.specs.Values.Definition.{Function, Block, Functions, Choice, arity_table}
use Rattle.mw_model.specs.Events.Evaluation.{Outcome, Value, Steps, Overflow, Witness, evaluate, code_of, range}
use Rattle.mw_model.specs.Events.Expansion.{expand}
use Rattle.mw_model.specs.Events.Theory.{Theory, initial, claim}
use Rattle.mw_model.specs.Events.Refusal.{RANGE, EVENT, NAME, TERM, FORMULA, VARIABLES, STEPS, OVERFLOW, WITNESS, CLAIM, CHECKER, LONG, PROFILE, Fate, Accepted, refuse, accept, need, must, unless}
use Rattle.mw_model.specs.Events.Checking.{judged_as}
use Rattle.mw_model.specs.Events.Admission.{define_one, define_all, skolem}
use Rattle.mw_model.specs.Texts.Printing.{text_of}

-- (verify name formula proof)
abbrev pub verify : Theory → ℕ → Object → Fate × Theory
verify t N e =
    must t NAME (is_symbol (second_of e))
    (need t FORMULA (formula_under (arity_table t.definitions) (third_of e)) (λ F.
    unless t (judged_as t N F (fourth_of e))
    (accept (record t { theorems = Pair (formula_object F) t.theorems }))))

-- (switch name)
abbrev pub has_four_formals : Option Function → Bool
has_four_formals None = false
has_four_formals (Some h) = eqb (length h.formals) 4

abbrev pub checker_named : Theory → Object → Option Name
checker_named t (Symbol f) = when (has_four_formals (code_of t.definitions.blocks f)) (Some f)
checker_named t _ = None

abbrev pub switch : Theory → Object → Fate × Theory
switch t e =
    need t CHECKER (checker_named t (second_of e)) (λ f.
    must t CLAIM (is_member (formula_object (claim f)) t.theorems)
    (accept (record t { checker = Some f; level = suc t.level })))

-- texts are shown up to this many bytes
abbrev pub longest : ℕ
longest = 65536

abbrev pub show : Theory → List ℕ → Fate × Theory
show t text = cond (ltb longest (length text)) (refuse t LONG) (Accepted text, t)

-- (eval term)
abbrev pub show_outcome : Theory → Outcome → Fate × Theory
show_outcome t (Value v n) = show t (text_of v)
show_outcome t Steps = refuse t STEPS
show_outcome t Overflow = refuse t OVERFLOW
show_outcome t Witness = refuse t WITNESS

abbrev pub eval : Theory → ℕ → Object → Fate × Theory
eval t N e =
    need t TERM (expand (arity_table t.definitions) (second_of e)) (λ a.
    need t VARIABLES (when (is_closed [] a) (Some a)) (λ closed. show_outcome t (evaluate t.definitions N [] closed)))

-- (print x)
abbrev pub print : Theory → Object → Fate × Theory
print t e = show t (text_of (second_of e))

-- (profile n)
abbrev pub same_functions : List Function → List Function → Bool
same_functions [] [] = true
same_functions (h ∷ B) (g ∷ C) = same_name h.name g.name && (same_names h.formals g.formals && (same_term h.body g.body && same_functions B C))
same_functions _ _ = false

abbrev pub same_block : Block → Block → Bool
same_block (Functions B) (Functions C) = same_functions B C
same_block (Choice f x xs b) (Choice g y ys c) = same_name f g && (same_names (x ∷ xs) (y ∷ ys) && same_term b c)
same_block _ _ = false

abbrev pub same_blocks : List Block → List Block → Bool
same_blocks [] [] = true
same_blocks (B ∷ D) (C ∷ E) = same_block B C && same_blocks D E
same_blocks _ _ = false

abbrev pub is_one : Profile → Bool
is_one One = true
is_one Two = false

abbrev pub is_built_in : Option Name → Bool
is_built_in None = true
is_built_in (Some f) = false

-- the theory is the initial one of the first profile
abbrev pub is_initial : Theory → Bool
is_initial t =
    let i = initial One in
    is_one t.definitions.profile && (same_blocks t.definitions.blocks i.definitions.blocks &&
    (same_object t.axioms i.axioms && (same_object t.theorems NIL && (is_built_in t.checker && eqb t.level 1))))

abbrev pub profile_of : Object → Option Profile
profile_of x = cond (same_object x (Natural 1)) (Some One) (cond (same_object x (Natural 2)) (Some Two) None)

abbrev pub begin_profile : Theory → Profile → Theory
begin_profile t One = t
begin_profile t Two = initial Two

abbrev pub profile : Theory → Object → Fate × Theory
profile t e = need t PROFILE (when (is_initial t) (profile_of (second_of e))) (λ P. accept (begin_profile t P))

-- the words that events begin with, and their numbers of members
pub data EventWord : Type 0 where
  Verify Define Skolem Switch Eval Print DefineAll SetProfile : EventWord

abbrev pub event_words : List (Name × EventWord)
event_words =
    (named "VERIFY", Verify) ∷ (named "DEFINE", Define) ∷ (named "SKOLEM", Skolem) ∷ (named "SWITCH", Switch) ∷
    (named "EVAL", Eval) ∷ (named "PRINT", Print) ∷ (named "DEFINE-ALL", DefineAll) ∷ (named "PROFILE", SetProfile) ∷ []

abbrev pub member_count : EventWord → ℕ
member_count Verify = 4
member_count Define = 6
member_count Skolem = 5
member_count DefineAll = 3
member_count _ = 2

abbrev pub event_word_among : List (Name × EventWord) → Name → Option EventWord
event_word_among [] f = None
event_word_among (p ∷ ps) f = cond (same_name p.0 f) (Some p.1) (event_word_among ps f)

abbrev pub event_word : Object → Option EventWord
event_word (Pair (Symbol s) r) = that (λ w. has_members (member_count w) (Pair (Symbol s) r)) (event_word_among event_words s)
event_word _ = None

abbrev pub happens_by : EventWord → Theory → ℕ → Object → Fate × Theory
happens_by Verify t N e = verify t N e
happens_by Define t N e = define_one t N e
happens_by Skolem t N e = skolem t e
happens_by Switch t N e = switch t e
happens_by Eval t N e = eval t N e
happens_by Print t N e = print t e
happens_by DefineAll t N e = define_all t N e
happens_by SetProfile t N e = profile t e

-- holds a natural past the range
abbrev pub is_out_of_range : Object → Bool
is_out_of_range (Natural n) = not (ltb n range)
is_out_of_range (Pair a b) = is_out_of_range a || is_out_of_range b
is_out_of_range _ = false

abbrev pub happens : Theory → ℕ → Object → Fate × Theory
happens t N e = need t RANGE (when (not (is_out_of_range e)) (Some e)) (λ x. need t EVENT (event_word x) (λ w. happens_by w t N x))

-- N is the step limit of each judged proof and each EVAL
abbrev pub fate : Theory → Object → ℕ → Fate
fate t e N = (happens t N e).0

abbrev pub next : Theory → Object → ℕ → Theory
next t e N = (happens t N e).1

-- the theory after a list of events
abbrev pub after : Theory → List Object → ℕ → Theory
after t [] N = t
after t (e ∷ es) N = after (next t e N) es N
