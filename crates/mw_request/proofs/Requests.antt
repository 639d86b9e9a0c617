-- What is asked for, by what `clap` found in the words.
use Rattle.std.proofs.Common.{◌≡◌, ◌∙◌, ℕ, Bool, true, false, cond, List, [], ◌∷◌, length, get_or, Option, Some, None, is_some, option_map, refl, sym, subst, ap, ap₂, codes, true≢false, arith}
use Rattle.std.specs.Prelude.{unwrap_or}
use Rattle.std.specs.Str.{bytes_eq}
use Rattle.clap.specs.Words.{App, Row, Text, fault_of, first_value, is_simple, is_simple_and_free, rows_of, subcommand_name_of, subcommand_of, subcommand_rows_of, takes, built}
use Rattle.clap.specs.declared.parser.matches.ArgMatches.{ArgMatches}
use Rattle.clap.specs.declared.parser.matches.ArgMatches.TheViews.{out-ArgMatches}
use Rattle.clap.specs.declared.parser.matches.Found.{Found}
use Rattle.clap.proofs.WalkLemmas.{first_value-rows}
use Rattle.clap.proofs.OnLiterals.{clap_on_literals}
use Rattle.mw_request.specs.Arguments.{events_of, is_help, name_of, steps_of}
use Rattle.mw_model.specs.Reports.Request.{Request, Check, Taut, Lower, Flat, Recheck, Explain, Help, Usage}
use Rattle.mw_request.specs.Commands.{asked, program, request_of, request_with, slice_with, trial_with, with_number}
use Rattle.mw_model.specs.Terms.Object.{Name, same_bytes}
use Rattle.mw_model.proofs.Names.{same_bytes-eq, same_bytes-refl}
use Rattle.mw_heap.proofs.NameSet.{pointwise-same_bytes}
use Rattle.mw_request.proofs.Faultless.{faultless_taken, is_plain_app}

-- ---- whether the words are `--help` alone

pub one_word : (words : List Text) (word : Text) → length words ≡ 1 → word ≡ get_or words 0 word → bytes_eq word (codes "--help") ≡ is_help words
one_word [] word one at = absurd (omega arith)
one_word (w ∷ []) word one at = ap (λ t. bytes_eq t (codes "--help")) at ∙ pointwise-same_bytes w (codes "--help")
one_word (w ∷ v ∷ words) word one at = absurd (omega arith)

-- ---- the subcommand that was found

some_same : {X : Type 0} (x y : X) → Some x ≡ Some y → x ≡ y
some_same x y e = ap (λ o. unwrap_or o x) e

map_twice : {X Y Z : Type 0} (f : Y → Z) (g : X → Y) (o : Option X) → option_map (λ x. f (g x)) o ≡ option_map f (option_map g o)
map_twice f g None = refl
map_twice f g (Some x) = refl

both_parts : {X Y : Type 0} (o : Option (X × Y)) (x : X) (y : Y) → Some x ≡ option_map (λ p. p.0) o → Some y ≡ option_map (λ p. p.1) o → o ≡ Some (x, y)
both_parts None x y e h = absurd (true≢false (ap is_some e))
both_parts (Some p) x y e h = sym (ap₂ (λ a b. Some (a, b)) (some_same x p.0 e) (some_same y p.1 h))

subcommand_met : (m : ArgMatches) (name : Text) (rows : List Row) → Some name ≡ subcommand_name_of m → Some rows ≡ option_map (λ p. p.1) (subcommand_rows_of m)
    → subcommand_rows_of m ≡ Some (name, rows)
subcommand_met m name rows e h = both_parts (subcommand_rows_of m) name rows (e ∙ map_twice (λ (p : Text × List Row). p.0) _ (out-ArgMatches m).subcommand) h

-- ---- what the subcommand asks for

same_bytes-sym : (x y : Text) → same_bytes x y ≡ same_bytes y x
same_bytes-sym x y = go (same_bytes x y) (same_bytes y x) refl refl
  where
    turned : (u v : Text) → same_bytes u v ≡ true → same_bytes v u ≡ true
    turned u v h = subst (λ w. same_bytes w u ≡ true) (same_bytes-eq u v h) (same_bytes-refl u)

    go : (a b : Bool) → same_bytes x y ≡ a → same_bytes y x ≡ b → a ≡ b
    go true b e f = sym (turned x y e) ∙ f
    go false true e f = sym e ∙ turned y x f
    go false false e f = refl

named_so : (name word : Text) → bytes_eq name word ≡ same_bytes word name
named_so name word = pointwise-same_bytes name word ∙ same_bytes-sym name word

-- which of the words it is
pub record Named : Type 0 where
  pub is_check : Bool
  pub is_trial : Bool
  pub is_taut : Bool
  pub is_lower : Bool
  pub is_slice : Bool
  pub is_flat : Bool
  pub is_recheck : Bool
  pub is_explain : Bool

abbrev asked_by : Named → (steps events : Option ℕ) → Option Name → Request
asked_by n steps events theorem = cond n.is_check (with_number Check steps) (cond n.is_trial (trial_with events steps) (cond n.is_taut Taut (cond n.is_lower (with_number Lower steps) (cond n.is_slice (slice_with theorem steps) (cond n.is_flat (with_number Flat steps) (cond n.is_recheck Recheck (cond n.is_explain (with_number Explain steps) Usage)))))))

-- what a subcommand of this name asks for
pub name_asks : (name : Text) (is_check is_trial is_taut is_lower is_slice is_flat is_recheck is_explain : Bool) (steps events : Option ℕ) (theorem : Option Name) → is_check ≡ bytes_eq name (codes "check") → is_trial ≡ bytes_eq name (codes "trial") → is_taut ≡ bytes_eq name (codes "taut") → is_lower ≡ bytes_eq name (codes "lower") → is_slice ≡ bytes_eq name (codes "slice") → is_flat ≡ bytes_eq name (codes "flat") → is_recheck ≡ bytes_eq name (codes "recheck") → is_explain ≡ bytes_eq name (codes "explain")
    → asked_by (record { is_check = is_check; is_trial = is_trial; is_taut = is_taut; is_lower = is_lower; is_slice = is_slice; is_flat = is_flat; is_recheck = is_recheck; is_explain = is_explain }) steps events theorem ≡ request_with name steps events theorem
name_asks name is_check is_trial is_taut is_lower is_slice is_flat is_recheck is_explain steps events theorem b c d e f g h j =
    let first = b ∙ named_so name (codes "check") in
    let second = c ∙ named_so name (codes "trial") in
    let third = d ∙ named_so name (codes "taut") in
    let fourth = e ∙ named_so name (codes "lower") in
    let fifth = f ∙ named_so name (codes "slice") in
    let sixth = g ∙ named_so name (codes "flat") in
    let seventh = h ∙ named_so name (codes "recheck") in
    let eighth = j ∙ named_so name (codes "explain") in
    λ i. asked_by (record { is_check = first i; is_trial = second i; is_taut = third i; is_lower = fourth i; is_slice = fifth i; is_flat = sixth i; is_recheck = seventh i; is_explain = eighth i }) steps events theorem

-- the one that takes a name
pub slice_asks : (name : Text) (steps events : Option ℕ) (theorem : Option Name) → bytes_eq name (codes "slice") ≡ true → slice_with theorem steps ≡ request_with name steps events theorem
slice_asks name steps events theorem h =
    subst (λ n. slice_with theorem steps ≡ request_with n steps events theorem) (same_bytes-eq (codes "slice") name (sym (named_so name (codes "slice")) ∙ h)) refl

pub found_asks : (m : ArgMatches) (name : Text) (found : Found) → Some name ≡ subcommand_name_of m → Some (rows_of found) ≡ option_map (λ p. p.1) (subcommand_rows_of m)
    → (steps events : Option ℕ) (theorem : Option Name) → steps ≡ steps_of (first_value found (codes "steps")) → events ≡ events_of (first_value found (codes "events")) → theorem ≡ name_of (first_value found (codes "name")) → request_with name steps events theorem ≡ request_of (subcommand_rows_of m)
found_asks m name found named has steps events theorem s e t =
    let read = s ∙ ap steps_of (first_value-rows found (codes "steps")) in
    let counted = e ∙ ap events_of (first_value-rows found (codes "events")) in
    let spelled = t ∙ ap name_of (first_value-rows found (codes "name")) in
    (λ i. request_with name (read i) (counted i) (spelled i)) ∙ ap request_of (sym (subcommand_met m name (rows_of found) named has))

-- ---- what the words ask for

program_is_simple : is_simple program ≡ true
unfolding clap_on_literals
program_is_simple = refl

program_is_free : is_simple_and_free program ≡ true
unfolding clap_on_literals
program_is_free = refl

program_is_plain : is_plain_app (built program) ≡ true
unfolding clap_on_literals
program_is_plain = refl

taken_asks : (helps taken : Bool) (r : Request) → helps ≡ false → taken ≡ true → r ≡ cond helps Help (cond taken r Usage)
taken_asks helps taken r h t = λ i. cond (sym h i) Help (cond (sym t i) r Usage)

refused_asks : (helps taken : Bool) (r : Request) → helps ≡ false → (taken ≡ true → ⊥) → Usage ≡ cond helps Help (cond taken r Usage)
refused_asks true taken r h t = absurd (true≢false h)
refused_asks false true r h t = absurd (t refl)
refused_asks false false r h t = refl

-- a command that is the program's, at words that are those of the command line
module _ (a : App) (words texts : List Text) (is : a ≡ program) (same : texts ≡ words) (no_help : is_help words ≡ false) where
  pub simple : is_simple a ≡ true
  simple = ap is_simple is ∙ program_is_simple

  pub free : is_simple_and_free a ≡ true
  free = ap is_simple_and_free is ∙ program_is_free

  taken : fault_of a texts ≡ [] → takes program words ≡ true
  taken e = faultless_taken program words program_is_simple program_is_plain (sym (ap₂ fault_of is same) ∙ e)

  pub taken_words : (found : Option (Text × List Row)) → found ≡ subcommand_of a texts → fault_of a texts ≡ [] → request_of found ≡ asked words
  taken_words found e none = ap request_of (e ∙ ap₂ subcommand_of is same) ∙ taken_asks (is_help words) (takes program words) (request_of (subcommand_of program words)) no_help (taken none)

  pub refused_words : (takes a texts ≡ true → ⊥) → Usage ≡ asked words
  refused_words h = refused_asks (is_help words) (takes program words) (request_of (subcommand_of program words)) no_help (λ t. h (ap₂ takes is same ∙ t))
