-- Where `clap` finds no fault in the words, it takes them: for a simple command whose arguments have no rule on one another and whose
-- defaults pass.
use Rattle.std.proofs.Common.{◌≡◌, ◌⊎◌, ◌+◌, ◌==◌, ◌&&◌, ◌||◌, ℕ, Bool, true, false, cond, not, zero, suc, nat_lt, nat_le, List, [], ◌∷◌, length, min, drop, Option, Some, None, is_some, inl, inr, refl, ap, codes, eqb-true, le-leb, ltb-false, true≢false, arith, find}
use Rattle.std.proofs.lemmas.Bool.{and_from, and_parts}
use Rattle.std.specs.Prelude.{encode_utf8, slice_get}
use Rattle.std.specs.List.{list_all, list_any}
use Rattle.std.specs.Option.{option_map_or}
use Rattle.std.specs.Str.{bytes_eq, chars}
use Rattle.clap.specs.Lexer.{long_of, short_of}
use Rattle.clap.specs.Matches.{count_text}
use Rattle.clap.specs.Facts.{explicit_source, parser_of_value, unwrap_or_range}
use Rattle.clap.specs.ValueTests.{accepts}
use Rattle.clap.specs.Walk.{Held, Names, Row, Rule, Step, Text, Waiting, Walk, action_of, answers_to, arg_by_id, arg_by_index, arg_by_long, arg_by_short, attached_value, count_of, finished, has_row, is_pending, most_values, nothing_held, reacted, settled, subcommand_met, takes_several, takes_values, values_or_missing, walk, walk_from, walked, word_met, next, trailing, subcommand, value}
use Rattle.clap.specs.Simple.{App, Shape, argument_words, built, entered, is_simple, label_of, names_of}
use Rattle.clap.specs.Kinds.{Kinds, or_else, range_kinds, value_kinds}
use Rattle.clap.specs.Faults.{action_fault, bundle_step_fault, built_fault, check_fault, count_fault, entered_fault, fault_of, flag_word_fault, flags_fault, has_free_rules, level_fault, long_fault, option_fault, other_fault, positional_fault, react_fault, set_fault, settle_fault, short_fault, step_fault, turn_fault, use_fault, values_fault, walk_fault, word_fault}
use Rattle.clap.specs.Takes.{action_passes, bundle_step_passes, built_takes, count_passes, default_passes, entered_passes, flag_word_passes, flags_pass, is_given, is_valid, level_passes, long_passes, option_passes, other_passes, positional_passes, react_passes, set_passes, settle_passes, short_passes, step_passes, takes, turn_passes, use_passes, values_pass, walk_passes, word_passes}
use Rattle.clap.specs.declared.builder.action.ArgAction.{ArgAction}
use Rattle.clap.specs.declared.builder.action.ArgAction.TheVariants as action
use Rattle.clap.specs.declared.builder.value_parser.ValueParser.{ValueParser}
use Rattle.clap.specs.declared.error.kind.ErrorKind.{ErrorKind}
use Rattle.clap.specs.declared.error.kind.ErrorKind.TheVariants as kind

-- ---- lists of faults

-- neither step has a fault where both together have none
both_faultless : (a b : Kinds) → or_else a b ≡ [] → (a ≡ []) × (b ≡ [])
both_faultless [] b e = (refl, e)
both_faultless (k ∷ ks) b e = let bad : suc (length ks) ≡ 0 = ap length e in absurd (omega arith)

some_fault : {X : Type 0} (k : ErrorKind) (ks : Kinds) → k ∷ ks ≡ [] → X
some_fault k ks e = let bad : suc (length ks) ≡ 0 = ap length e in absurd (omega arith)

-- a fault that stands where a test fails
test_holds : (b : Bool) (k : ErrorKind) (ks : Kinds) → cond b [] (k ∷ ks) ≡ [] → b ≡ true
test_holds true k ks e = refl
test_holds false k ks e = some_fault k ks e

test_fails : (b : Bool) (k : ErrorKind) (ks rest : Kinds) → cond b (k ∷ ks) rest ≡ [] → (b ≡ false) × (rest ≡ [])
test_fails true k ks rest e = some_fault k ks e
test_fails false k ks rest e = (refl, e)

-- a step that is taken where there is something to take
module _ {X : Type 0} (fault : X → Kinds) (passes : X → Bool) (each : (x : X) → fault x ≡ [] → passes x ≡ true) where
  where_some : (o : Option X) → option_map_or fault o [] ≡ [] → option_map_or passes o true ≡ true
  where_some None e = refl
  where_some (Some x) e = each x e

  some_wanted : (o : Option X) (k : ErrorKind) (ks : Kinds) → option_map_or fault o (k ∷ ks) ≡ [] → option_map_or passes o false ≡ true
  some_wanted None k ks e = some_fault k ks e
  some_wanted (Some x) k ks e = each x e

-- ---- values

value_passes_test : (ignore_case : Bool) (p : ValueParser) (text : Text) → value_kinds ignore_case p text ≡ [] → accepts ignore_case p text ≡ true
value_passes_test ignore_case p text e = test_holds (accepts ignore_case p text) _ [] e

values_faultless : (a : Rule) (values : List Text) → values_fault a values ≡ [] → values_pass a values ≡ true
values_faultless a [] e = refl
values_faultless a (v ∷ vs) e =
    let parts = both_faultless _ _ e in
    and_from _ _ (value_passes_test a.ignore_case (parser_of_value a.parser) v parts.0) (values_faultless a vs parts.1)

range_tests : (empty same exact few many : Bool) (k l m n : ErrorKind) → cond empty (k ∷ []) (cond same (cond exact [] (l ∷ [])) (cond few (m ∷ []) (cond many (n ∷ []) []))) ≡ []
    → ((same ≡ true) × (exact ≡ true)) ⊎ ((few ≡ false) × (many ≡ false))
range_tests true same exact few many k l m n e = some_fault k [] e
range_tests false true exact few many k l m n e = inl (refl, test_holds exact l [] e)
range_tests false false exact true many k l m n e = some_fault m [] e
range_tests false false exact false true k l m n e = some_fault n [] e
range_tests false false exact false false k l m n e = inr (refl, refl)

range_faultless : (least most n : ℕ) → range_kinds least most n ≡ [] → (nat_le least n ≡ true) × (nat_le n most ≡ true)
range_faultless least most n e = elim (range_tests (nat_lt 0 least && n == 0) (least == most) (least == n) (nat_lt n least) (nat_lt most n) _ _ _ _ e) [
  | inl h ↦ let same = eqb-true least most h.0 in let exact = eqb-true least n h.1 in (le-leb least n (omega (arith, exact)), le-leb n most (omega (arith, same, exact)))
  | inr h ↦ (le-leb least n (ltb-false n least h.0), le-leb n most (ltb-false most n h.1))
]

-- ---- one use of an argument

repeat_faultless : (has again : Bool) (k : ErrorKind) → cond (has && not again) (k ∷ []) [] ≡ [] → (not has || again) ≡ true
repeat_faultless false again k e = refl
repeat_faultless true true k e = refl
repeat_faultless true false k e = some_fault k [] e

set_faultless : (again : Bool) (a : Rule) (values : List Text) (rows : List Row) → set_fault again a values rows ≡ [] → set_passes again a values rows ≡ true
set_faultless again a values rows e =
    let parts = both_faultless _ _ e in
    and_from _ _ (repeat_faultless (has_row a.id rows) again _ parts.0) (values_faultless a values parts.1)

count_faultless : (a : Rule) (values : List Text) (rows : List Row) → count_fault a values rows ≡ [] → count_passes a values rows ≡ true
count_faultless a [] rows e = value_passes_test a.ignore_case (parser_of_value a.parser) (count_text (min (count_of a.id rows + 1) 255)) e
count_faultless a (v ∷ vs) rows e = values_faultless a (v ∷ vs) e

action_faultless : (x : ArgAction) (again : Bool) (a : Rule) (values : List Text) (rows : List Row) → action_fault x again a values rows ≡ [] → action_passes x again a values rows ≡ true
action_faultless action.Set again a values rows e = set_faultless again a values rows e
action_faultless action.SetTrue again a values rows e = set_faultless again a values rows e
action_faultless action.SetFalse again a values rows e = set_faultless again a values rows e
action_faultless action.Append again a values rows e = values_faultless a values e
action_faultless action.Count again a values rows e = count_faultless a values rows e
action_faultless action.Help again a values rows e = some_fault _ [] e
action_faultless action.HelpShort again a values rows e = some_fault _ [] e
action_faultless action.HelpLong again a values rows e = some_fault _ [] e
action_faultless action.Version again a values rows e = some_fault _ [] e

use_faultless : (again : Bool) (a : Rule) (values : List Text) (rows : List Row) → use_fault again a values rows ≡ [] → use_passes again a values rows ≡ true
use_faultless again a values rows e =
    let parts = both_faultless _ _ e in
    let range = range_faultless (unwrap_or_range a.range).start_inclusive (most_values a) (length values) parts.0 in
    and_from _ _ range.0 (and_from _ _ range.1 (action_faultless (action_of a) again a (values_or_missing a values) rows parts.1))

-- ---- the walk

module _ (c : List Rule) (again : Bool) where
  settle_faultless : (h : Held) → settle_fault c again h ≡ [] → settle_passes c again h ≡ true
  settle_faultless h e =
      where_some (λ p. option_map_or (λ a. use_fault again a p.1 h.rows) (arg_by_id c p.0) []) (λ p. option_map_or (λ a. use_passes again a p.1 h.rows) (arg_by_id c p.0) true)
      (λ p. where_some (λ a. use_fault again a p.1 h.rows) (λ a. use_passes again a p.1 h.rows) (λ a. use_faultless again a p.1 h.rows) (arg_by_id c p.0)) h.pending e

  react_faultless : (a : Rule) (values : List Text) (h : Held) → react_fault c again a values h ≡ [] → react_passes c again a values h ≡ true
  react_faultless a values h e =
      let parts = both_faultless _ _ e in
      and_from _ _ (settle_faultless h parts.0) (use_faultless again a values (settled c h).rows parts.1)

  option_faultless : (a : Rule) (v : Option Text) (h : Held) → option_fault c again a v h ≡ [] → option_passes c again a v h ≡ true
  option_faultless a (Some v) h e = react_faultless a (v ∷ []) h e
  option_faultless a None h e = settle_faultless h e

  flag_faultless : (a : Rule) (has_value : Bool) (k : ErrorKind) (h : Held) → cond has_value (k ∷ []) (react_fault c again a [] h) ≡ [] → (not has_value && react_passes c again a [] h) ≡ true
  flag_faultless a true k h e = some_fault k [] e
  flag_faultless a false k h e = react_faultless a [] h e

  long_faultless : (found : Option Rule) (v : Option Text) (h : Held) → long_fault c again found v h ≡ [] → long_passes c again found v h ≡ true
  long_faultless None v h e = some_fault _ [] e
  long_faultless (Some a) v h e = go (takes_values a) e
    where
      go : (b : Bool) → cond b (option_fault c again a v h) (cond (is_some v) (kind.TooManyValues ∷ []) (react_fault c again a [] h)) ≡ []
          → cond b (option_passes c again a v h) (not (is_some v) && react_passes c again a [] h) ≡ true
      go true e = option_faultless a v h e
      go false e = flag_faultless a (is_some v) _ h e

  module _ (fault : Held → Kinds) (passes : Held → Bool) (each : (h : Held) → fault h ≡ [] → passes h ≡ true) where
    short_faultless : (found : Option Rule) (rest : Text) (h : Held) → short_fault c again found rest h fault ≡ [] → short_passes c again found rest h passes ≡ true
    short_faultless None rest h e = some_fault _ [] e
    short_faultless (Some a) rest h e = go (takes_values a) e
      where
        go : (b : Bool) → cond b (option_fault c again a (attached_value rest) h) (or_else (react_fault c again a [] h) (fault (reacted c a [] h))) ≡ []
            → cond b (option_passes c again a (attached_value rest) h) (react_passes c again a [] h && passes (reacted c a [] h)) ≡ true
        go true e = option_faultless a (attached_value rest) h e
        go false e =
            let parts = both_faultless _ _ e in
            and_from _ _ (react_faultless a [] h parts.0) (each (reacted c a [] h) parts.1)

  bundle_step_faultless : (fault : Text → ℕ → Held → Kinds) (passes : Text → ℕ → Held → Bool) → ((flags : Text) (skip : ℕ) (h : Held) → fault flags skip h ≡ [] → passes flags skip h ≡ true)
      → (o : Option ℕ) (flags : Text) (skip : ℕ) (h : Held) → bundle_step_fault c again o flags skip h fault ≡ [] → bundle_step_passes c again o flags skip h passes ≡ true
  bundle_step_faultless fault passes each None flags skip h e = refl
  bundle_step_faultless fault passes each (Some x) flags zero h e =
      let rest = drop (length (encode_utf8 x)) flags in
      short_faultless (fault rest 0) (passes rest 0) (each rest 0) (arg_by_short c x) rest h e
  bundle_step_faultless fault passes each (Some x) flags (suc skip) h e = each (drop (length (encode_utf8 x)) flags) skip h e

  flags_faultless : (k : ℕ) (flags : Text) (skip : ℕ) (h : Held) → flags_fault c again k flags skip h ≡ [] → flags_pass c again k flags skip h ≡ true
  unfolding flags_fault flags_pass
  flags_faultless zero flags skip h e = refl
  flags_faultless (suc k) flags skip h e = bundle_step_faultless (flags_fault c again k) (flags_pass c again k) (flags_faultless k) (slice_get (chars flags) 0) flags skip h e

  flag_word_faultless : (o : Option (Text × Option Text)) (word : Text) (h : Held) → flag_word_fault c again o word h ≡ [] → flag_word_passes c again o word h ≡ true
  flag_word_faultless (Some p) word h e = long_faultless (arg_by_long c p.0) p.1 h e
  flag_word_faultless None word h e = where_some _ _ (λ flags. flags_faultless (length flags) flags h.skip (record h { skip = 0 })) (short_of word) e

  positional_faultless : (a : Rule) (h : Held) → positional_fault c again a h ≡ [] → positional_passes c again a h ≡ true
  positional_faultless a h e = go (is_pending a h.pending && takes_several a) e
    where
      go : (b : Bool) → cond b [] (settle_fault c again h) ≡ [] → (b || settle_passes c again h) ≡ true
      go true e = refl
      go false e = settle_faultless h e

help_faultless : (is disabled : Bool) (k : ErrorKind) (ks : Kinds) → cond (is && not disabled) (k ∷ ks) [] ≡ [] → (not is || disabled) ≡ true
help_faultless false disabled k ks e = refl
help_faultless true true k ks e = refl
help_faultless true false k ks e = some_fault k ks e

module _ (s : Shape) where
  other_faultless : (o : Option Text) (word : Text) (h : Held) → other_fault s o word h ≡ [] → other_passes s o word h ≡ true
  other_faultless (Some name) word h e = help_faultless (bytes_eq name (codes "help")) s.disable_help_subcommand _ _ e
  other_faultless None word h e = go (bytes_eq word (45 ∷ 45 ∷ [])) e
    where
      go : (b : Bool) → cond b [] (flag_word_fault s.rules s.args_override_self (long_of word) word h) ≡ [] → (b || flag_word_passes s.rules s.args_override_self (long_of word) word h) ≡ true
      go true e = refl
      go false e = flag_word_faultless s.rules s.args_override_self (long_of word) word h e

  word_faultless : (names : Names) (is_trailing : Bool) (waiting : Waiting) (word : Text) (h : Held) → word_fault s names is_trailing waiting word h ≡ [] → word_passes s names is_trailing waiting word h ≡ true
  word_faultless names true waiting word h e = refl
  word_faultless names false waiting word h e = other_faultless (subcommand_met names waiting word) word h e

  value_faultless : (is_leaf : Bool) (position : ℕ) (h : Held)
      → option_map_or (λ a. positional_fault s.rules s.args_override_self a h) (arg_by_index s.rules position) (cond is_leaf (kind.UnknownArgument ∷ []) (kind.UnknownArgument ∷ kind.InvalidSubcommand ∷ [])) ≡ []
      → option_map_or (λ a. positional_passes s.rules s.args_override_self a h) (arg_by_index s.rules position) false ≡ true
  value_faultless true position h e = some_wanted _ _ (λ a. positional_faultless s.rules s.args_override_self a h) (arg_by_index s.rules position) _ _ e
  value_faultless false position h e = some_wanted _ _ (λ a. positional_faultless s.rules s.args_override_self a h) (arg_by_index s.rules position) _ _ e

  step_faultless : (position : ℕ) (h : Held) (step : Step) → step_fault s position h step ≡ [] → step_passes s position h step ≡ true
  step_faultless position h value e = value_faultless s.is_leaf position h e
  step_faultless position h (next waiting) e = refl
  step_faultless position h (trailing at) e = refl
  step_faultless position h (subcommand name) e = refl

  turn_faultless : (names : Names) (w : Walk) (word : Text) → turn_fault s names w word ≡ [] → turn_passes s names w word ≡ true
  turn_faultless names w word e = go (is_some w.stopped) e
    where
      met : Held × Step
      met = word_met s.rules names w.is_trailing w.waiting w.position word w.held

      go : (b : Bool) → cond b [] (or_else (word_fault s names w.is_trailing w.waiting word w.held) (step_fault s w.position met.0 met.1)) ≡ []
          → (b || (word_passes s names w.is_trailing w.waiting word w.held && step_passes s w.position met.0 met.1)) ≡ true
      go true e = refl
      go false e =
          let parts = both_faultless _ _ e in
          and_from _ _ (word_faultless names w.is_trailing w.waiting word w.held parts.0) (step_faultless w.position met.0 met.1 parts.1)

  walk_faultless : (names : Names) (w : Walk) (words : List Text) → walk_fault s names w words ≡ [] → walk_passes s names w words ≡ true
  unfolding walk_fault walk_passes
  walk_faultless names w [] e = refl
  walk_faultless names w (word ∷ rest) e =
      let parts = both_faultless _ _ e in
      and_from _ _ (turn_faultless names w word parts.0) (walk_faultless names (walked s.rules names w word) rest parts.1)

-- ---- after the walk

-- no required argument is missing, so each is there
none_missing : (excused : Bool) (rows : List Row) (c : List Rule) → (not excused && list_any (λ a. a.required && not (is_given a.id rows)) c) ≡ false
    → (excused || list_all (λ a. not a.required || is_given a.id rows) c) ≡ true
none_missing true rows c e = refl
none_missing false rows [] e = refl
none_missing false rows (a ∷ c) e = go a.required (is_given a.id rows) (none_missing false rows c) e
  where
    go : (wanted given : Bool) → (list_any (λ a. a.required && not (is_given a.id rows)) c ≡ false → list_all (λ a. not a.required || is_given a.id rows) c ≡ true)
        → ((wanted && not given) || list_any (λ a. a.required && not (is_given a.id rows)) c) ≡ false
        → ((not wanted || given) && list_all (λ a. not a.required || is_given a.id rows) c) ≡ true
    go true true rest e = rest e
    go true false rest e = absurd (true≢false e)
    go false given rest e = rest e

help_unasked : (has asks given : Bool) → (not has && (asks && not given)) ≡ false → (not asks || (has || given)) ≡ true
help_unasked has false given e = refl
help_unasked true true given e = refl
help_unasked false true true e = refl
help_unasked false true false e = absurd (true≢false e)

subcommand_there : (has wanted : Bool) → (not has && wanted) ≡ false → (not wanted || has) ≡ true
subcommand_there has false e = refl
subcommand_there true true e = refl
subcommand_there false true e = absurd (true≢false e)

check_faultless : (s : Shape) (rows : List Row) (has : Bool) → has_free_rules s ≡ true → check_fault s rows has ≡ [] → is_valid s rows has ≡ true
check_faultless s rows has free e =
    let help = test_fails _ _ [] _ e in
    let sub = test_fails _ _ [] _ help.1 in
    let argument = test_fails _ _ [] _ sub.1 in
    and_from _ _ (help_unasked has s.arg_required_else_help (list_any (λ r. explicit_source r.source) rows) help.0)
    (and_from _ _ (subcommand_there has s.subcommand_required sub.0)
    (and_from _ _ free (none_missing (s.subcommand_negates_reqs && has) rows s.rules argument.0)))

-- the defaults pass, and no argument has a rule on another
abbrev pub is_plain_level : Shape → Bool
is_plain_level s = list_all default_passes s.rules && has_free_rules s

abbrev pub is_plain_app : App → Bool
is_plain_app a = is_plain_level a.top && list_all is_plain_level a.subs

level_faultless : (s : Shape) (names : Names) (h : Held) (words : List Text) (has : Bool) (below : Kinds) → is_plain_level s ≡ true → level_fault s names h words has below ≡ []
    → (below ≡ []) × (level_passes s names h words has ≡ true)
level_faultless s names h words has below plain e =
    let end = (walk s.rules names h words).held in
    let start = both_faultless _ _ e in
    let inner = both_faultless _ _ start.1 in
    let settle = both_faultless _ _ inner.1 in
    let last = both_faultless _ _ settle.1 in
    let each = and_parts _ _ plain in (
      inner.0,
      and_from _ _ (walk_faultless s names (walk_from h) words start.0)
          (and_from _ _ (settle_faultless s.rules s.args_override_self end settle.0)
          (and_from _ _ each.0 (check_faultless s (finished s.rules end) has each.1 last.1))),
    )

found_holds : {X : Type 0} (test good : X → Bool) (xs : List X) → list_all good xs ≡ true → option_map_or good (find test xs) true ≡ true
found_holds test good [] e = refl
found_holds test good (x ∷ xs) e = let parts = and_parts _ _ e in go (test x) parts.0 (found_holds test good xs parts.1)
  where
    go : (b : Bool) → good x ≡ true → option_map_or good (find test xs) true ≡ true → option_map_or good (cond b (Some x) (find test xs)) true ≡ true
    go true first rest = first
    go false first rest = rest

entered_faultless : (a : App) (stop : Option (Text × List Text)) → list_all is_plain_level a.subs ≡ true → entered_fault a stop ≡ [] → entered_passes a stop ≡ true
entered_faultless a None plain e = refl
entered_faultless a (Some p) plain e = go (find (λ s. answers_to p.0 (label_of s)) a.subs) (found_holds (λ s. answers_to p.0 (label_of s)) is_plain_level a.subs plain) e
  where
    go : (o : Option Shape) → option_map_or is_plain_level o true ≡ true → option_map_or (λ s. level_fault s [] nothing_held p.1 false []) o [] ≡ []
        → option_map_or (λ s. level_passes s [] nothing_held p.1 false) o true ≡ true
    go None plain e = refl
    go (Some s) plain e = (level_faultless s [] nothing_held p.1 false [] plain e).1

built_faultless : (a : App) (h : Held) (words : List Text) → is_plain_app a ≡ true → built_fault a h words ≡ [] → built_takes a h words ≡ true
built_faultless a h words plain e =
    let stop = (walk a.top.rules (names_of a) h words).stopped in
    let each = and_parts _ _ plain in
    let level = level_faultless a.top (names_of a) h words (is_some (entered a stop)) (entered_fault a stop) each.0 e in
    and_from _ _ (entered_faultless a stop each.1 level.0) level.1

-- a command that finds no fault in the words takes them
pub faultless_taken : (a : App) (words : List Text) → is_simple a ≡ true → is_plain_app (built a) ≡ true → fault_of a words ≡ [] → takes a words ≡ true
faultless_taken a words simple plain e = and_from _ _ simple (built_faultless (built a) nothing_held (argument_words a words) plain e)
