-- What is shown of definitions that are refused, by the reason.
use Rattle.std.proofs.Common.{◌≡◌, ℕ, Bool, true, false, ◌||◌, List, [], ◌∷◌, map, Option, Some, refl, sym, ap, ◌∙◌, subst, true≢false}
use Rattle.mw_model.specs.Terms.Object.{Object}
use Rattle.mw_model.specs.Terms.Term.{Formula, ArityTable, formula_object}
use Rattle.mw_model.specs.Values.Definition.{arity_table}
use Rattle.mw_model.specs.Events.Theory.{Theory}
use Rattle.mw_model.specs.Events.Refusal.{Refusal, RANGE, EVENT, NAME, FORMALS, TERM, FORMULA, VARIABLES, NESTED, COUNT, CONCLUSION, PROOF, NILVALUE, STEPS, OVERFLOW, WITNESS, CLAIM, CHECKER, Refused}
use Rattle.mw_model.specs.Events.Admission.{Draft, some_drafts}
use Rattle.mw_model.specs.Events.Demand.{Wants, wants_some, define_demand}
use Rattle.mw_model.specs.Events.Fate.{Define, DefineAll}
use Rattle.mw_define.specs.BlockTests.{FailsBlock}
use Rattle.mw_theory.specs.Settling.{defined}
use Rattle.mw_theory.specs.Words.{define_event, define_all_event}
use Rattle.mw_commands.specs.Commands.Explanation.{formulas_wanted, proof_shown, shown_by}
use Rattle.mw_kernel.specs.Proofs.{judged_for}
use Rattle.mw_explain_events.specs.Reasons.{is_of_definitions, AreRefused}
use Rattle.mw_explain_events.specs.Defining.{Owe, block_shown, definitions_shown}
use Rattle.mw_explain_events.proofs.ProofReasons.{is_of_proofs, proofs-reason, proofs-not-definitions}
use Rattle.mw_explain_events.proofs.DefinitionReasons.{Refuses, no_drafts, no_block, not_as_many, not_proved, refused-definitions, block_fails}

shown-of-tests : (r : Refusal) (t : Theory) (N : ℕ) (given : Option (List Draft)) (ps : Object) → is_of_definitions r ≡ true → block_shown r (arity_table t.definitions) given ≡ definitions_shown r t N given ps
shown-of-tests NAME t N given ps h = refl
shown-of-tests FORMALS t N given ps h = refl
shown-of-tests TERM t N given ps h = refl
shown-of-tests VARIABLES t N given ps h = refl
shown-of-tests NESTED t N given ps h = refl
shown-of-tests _ t N given ps h = cc

shown-of-proofs : (r : Refusal) (t : Theory) (N : ℕ) (given : Option (List Draft)) (ps : Object) → is_of_proofs r ≡ true → proof_shown t N 1 (formulas_wanted (wants_some EVENT given (define_demand t))) ps ≡ definitions_shown r t N given ps
shown-of-proofs CONCLUSION t N given ps h = refl
shown-of-proofs PROOF t N given ps h = refl
shown-of-proofs NILVALUE t N given ps h = refl
shown-of-proofs STEPS t N given ps h = refl
shown-of-proofs OVERFLOW t N given ps h = refl
shown-of-proofs WITNESS t N given ps h = refl
shown-of-proofs _ t N given ps h = cc

-- Definitions that are refused, under the arity table of the theory.
module _ (N : ℕ) (t : Theory) (given : Option (List Draft)) (ps : Object) (A : ArityTable) (A_is : A ≡ arity_table t.definitions) where
  -- they fail their tests
  pub fails-told : (r : Refusal) → Refuses N t given ps r → is_of_definitions r ≡ true → (ds : List Draft) × (given ≡ Some ds) × FailsBlock A ds r
  fails-told r (no_drafts e) h = cc
  fails-told r (no_block ds q e f) h = (ds, e, subst (λ B. FailsBlock B ds r) (sym A_is) f)
  fails-told r (not_as_many ds Fs next e d) h = cc
  fails-told r (not_proved ds Fs next q e d p) h = absurd (true≢false (sym h ∙ proofs-not-definitions r (proofs-reason t N Fs ps r p.1)))

  -- and then the block is shown
  pub block-told : (r : Refusal) → is_of_definitions r ≡ true → block_shown r A given ≡ definitions_shown r t N given ps
  block-told r h = ap (λ B. block_shown r B given) A_is ∙ shown-of-tests r t N given ps h

  -- what they want proofs of
  abbrev wanted_of : List Formula
  wanted_of = formulas_wanted (wants_some EVENT given (define_demand t))

  wanted_is : (Fs : List Formula) (ds : List Draft) (next : Theory) → given ≡ Some ds → define_demand t ds ≡ Wants Fs next → Fs ≡ wanted_of
  wanted_is Fs ds next is demand = sym (ap (λ g. formulas_wanted (wants_some EVENT g (define_demand t))) is ∙ ap formulas_wanted demand)

  -- there are more or fewer proofs: all that is owed is shown
  pub count-told : (r : Refusal) → Refuses N t given ps r → r ≡ COUNT → (Fs : List Formula) × Owe A given Fs × (map formula_object Fs ≡ definitions_shown r t N given ps)
  count-told r (no_drafts e) is = cc
  count-told r (no_block ds q e f) is = absurd (true≢false (sym (subst (λ s. is_of_definitions s ≡ true) is (block_fails (arity_table t.definitions) ds r f))))
  count-told r (not_as_many ds Fs next e d) is = (Fs, (t, ds, next, sym A_is, e, d), ap (map formula_object) (wanted_is Fs ds next e d))
  count-told r (not_proved ds Fs next q e d p) is = absurd (true≢false (sym (subst (λ s. is_of_proofs s ≡ true) is (proofs-reason t N Fs ps r p.1))))

  -- there are as many: the first proof that is refused, which is so for that reason, is shown
  pub proofs-told : (r : Refusal) → Refuses N t given ps r → is_of_definitions r ≡ false → (r ≡ EVENT → ⊥) → (r ≡ COUNT → ⊥) → (Fs : List Formula) × Owe A given Fs × AreRefused r t N Fs ps × (proof_shown t N 1 Fs ps ≡ definitions_shown r t N given ps)
  proofs-told r (no_drafts e) h n m = absurd (n refl)
  proofs-told r (no_block ds q e f) h n m = absurd (true≢false (sym (block_fails (arity_table t.definitions) ds r f) ∙ h))
  proofs-told r (not_as_many ds Fs next e d) h n m = absurd (m refl)
  proofs-told r (not_proved ds Fs next q e d p) h n m = (
    Fs,
    (t, ds, next, sym A_is, e, d),
    p,
    ap (λ Gs. proof_shown t N 1 Gs ps) (wanted_is Fs ds next e d) ∙ shown-of-proofs r t N given ps (proofs-reason t N Fs ps r p.1),
  )

-- which reasons there are
abbrev pub is_of_defining : Refusal → Bool
is_of_defining RANGE = false
is_of_defining FORMULA = false
is_of_defining CLAIM = false
is_of_defining CHECKER = false
is_of_defining _ = true

defining_of : (r : Refusal) → (is_of_definitions r || is_of_proofs r) ≡ true → is_of_defining r ≡ true
defining_of RANGE h = cc
defining_of FORMULA h = cc
defining_of CLAIM h = cc
defining_of CHECKER h = cc
defining_of _ h = refl

by_refusing : (N : ℕ) (t : Theory) (given : Option (List Draft)) (ps : Object) (r : Refusal) → Refuses N t given ps r → is_of_defining r ≡ true
by_refusing N t given ps r (no_drafts e) = refl
by_refusing N t given ps r (no_block ds q e f) = defining_of r (ap (λ b. b || is_of_proofs r) (block_fails (arity_table t.definitions) ds r f))
by_refusing N t given ps r (not_as_many ds Fs next e d) = refl
by_refusing N t given ps r (not_proved ds Fs next q e d p) =
    let proving = proofs-reason t N Fs ps r p.1 in
    defining_of r (ap (λ b. b || is_of_proofs r) (proofs-not-definitions r proving) ∙ proving)

pub defining-reason : (N : ℕ) (t : Theory) (given : Option (List Draft)) (ps : Object) (r : Refusal) → (defined (judged_for N) t given ps).0 ≡ Refused r → is_of_defining r ≡ true
defining-reason N t given ps r h = by_refusing N t given ps r (refused-definitions N t given ps r h)

-- what is shown of a DEFINE, and of a DEFINE-ALL
pub shown-define : (r : Refusal) (t : Theory) (N : ℕ) (n f b m p : Object) → is_of_defining r ≡ true → definitions_shown r t N (Some (record { name = n; formals = f; body = b; measure = m } ∷ [])) p ≡ shown_by r Define t N (define_event n f b m p)
shown-define RANGE t N n f b m p h = cc
shown-define FORMULA t N n f b m p h = cc
shown-define CLAIM t N n f b m p h = cc
shown-define CHECKER t N n f b m p h = cc
shown-define _ t N n f b m p h = refl

pub shown-define-all : (r : Refusal) (t : Theory) (N : ℕ) (d p : Object) → is_of_defining r ≡ true → definitions_shown r t N (some_drafts d) p ≡ shown_by r DefineAll t N (define_all_event d p)
shown-define-all RANGE t N d p h = cc
shown-define-all FORMULA t N d p h = cc
shown-define-all CLAIM t N d p h = cc
shown-define-all CHECKER t N d p h = cc
shown-define-all _ t N d p h = refl
