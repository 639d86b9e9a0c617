-- What an event that defines comes to, by the tests of its definitions and of its proofs.
use Rattle.std.proofs.Common.{◌≡◌, ℕ, ◌≤◌, arith, Bool, true, false, cond, List, [], ◌∷◌, length, map, option_map, Option, Some, None, is_some, refl, sym, ap, ap₂, ◌∙◌, subst, true≢false}
use Rattle.mw_model.specs.Terms.Object.{Object, NIL, has_members}
use Rattle.mw_model.specs.Terms.Term.{ArityTable, Formula}
use Rattle.mw_model.specs.Laws.RulesInduction.{length_object}
use Rattle.mw_model.specs.Values.Definition.{Function as Defined, Block, Functions, Choice, arity_table}
use Rattle.mw_model.specs.Events.Obligation.{obligations}
use Rattle.mw_model.specs.Events.Theory.{Theory, IsSound}
use Rattle.mw_model.specs.Events.Refusal.{Refusal, EVENT, COUNT, Fate, Accepted, Refused, refuse, accept, need, must, unless}
use Rattle.mw_model.specs.Events.Admission.{Draft, functions, measures, add_to_theory, skolem}
use Rattle.mw_model.specs.Events.Demand.{define_demand, settled}
use Rattle.mw_heap.specs.declared.vocabulary.refusal.Refusal.{Refusal as Reason}
use Rattle.mw_heap.specs.Variants.{refusal_of}
use Rattle.mw_heap.specs.Objects.{object_at, IsIn, Grows}
use Rattle.mw_heap.proofs.Objects.{Grows-refl}
use Rattle.mw_term.specs.Marking.{ObjectMark}
use Rattle.mw_define.specs.declared.admitted.Admitted.TheVariants as admitted
use Rattle.mw_define.specs.declared.admitted.Owed.{Owed}
use Rattle.mw_define.specs.Tests.{FailsWitness, PassesWitness}
use Rattle.mw_define.specs.BlockTests.{PassesBlock, FailsWithin, fails, too_many, IsBlockOf, IsBlockOfWithin}
use Rattle.mw_define.proofs.CallerLemmas.{define-denied, define-owes, define-wants, skolem-refused, skolem-accepted}
use Rattle.mw_define.proofs.EntryLemmas.{block-entries, witness-entry}
use Rattle.mw_preamble.specs.declared.definition.Definition.{Definition}
use Rattle.mw_preamble.specs.declared.definition.Definition.TheVariants.{Witness}
use Rattle.mw_preamble.specs.Entries.{AreFunctions, IsBlock}
use Rattle.mw_theory.specs.declared.theory.Theory.{Theory as Kept}
use Rattle.mw_theory.specs.declared.world.World.{World}
use Rattle.mw_theory.specs.Knowledge.{parts_of, meant, IsWorldOf}
use Rattle.mw_theory.specs.Worlds.{theory_in}
use Rattle.mw_theory.specs.Proofs.{Judge, by_formula, judged_each, judged_all}
use Rattle.mw_theory.specs.Settling.{fate_by, defined, IsDefined, IsAccepted, skolem_at}
use Rattle.mw_theory.specs.Admitting.{AreWithin, drafts_given, function_of_entry}
use Rattle.mw_theory.specs.Defining.{IsNewBlock}
use Rattle.mw_theory.proofs.Held.{held, grown_theory}
use Rattle.mw_theory.proofs.Drafting.{given-grows, functions-mean}
use Rattle.mw_theory.proofs.ProofLists.{length_formulas, fewer}
use Rattle.mw_theory.specs.Words.{skolem_event}
use Rattle.mw_theory.specs.declared.admitting.Drafts.{Drafts}

-- what stands after the tests of the proofs
abbrev pub after_proofs : Theory → Option Refusal → Block → Fate × Theory
after_proofs t None B = accept (add_to_theory t B)
after_proofs t (Some r) B = refuse t r

must_unless : (t : Theory) (b : Bool) (o r : Option Refusal) (B : Block) → cond b o (Some COUNT) ≡ r → must t COUNT b (unless t o (accept (add_to_theory t B))) ≡ after_proofs t r B
unfolding must unless
must_unless t true None r B e = ap (λ q. after_proofs t q B) e
must_unless t true (Some q) r B e = ap (λ q. after_proofs t q B) e
must_unless t false o r B e = ap (λ q. after_proofs t q B) e

-- the functions of a block that passed its tests
abbrev pub functions_passed : (A : ArityTable) (ds : List Draft) (os : List Object) (owed : Owed) → PassesBlock A ds os owed → List Defined
functions_passed A ds os owed h = functions h.names h.formals h.bodies

-- the drafts of an event whose tests passed
pub record IsPassed (A : ArityTable) (given : Option (List Draft)) (os : List Object) (owed : Owed) : Type 0 where
  pub drafts : List Draft
  pub given_is : given ≡ Some drafts
  pub passes : PassesBlock A drafts os owed

-- what passes where it may owe only so much
pub given-within : (most : ℕ) (A : ArityTable) (given : Option (List Draft)) (os : List Object) (owed : Owed) → IsBlockOfWithin (Some most) A given os (admitted.Obligations owed) → IsBlockOf A given os (admitted.Obligations owed)
given-within most A None os owed h = h
given-within most A (Some ds) os owed h = h.passes

pub owes-few : (most : ℕ) (A : ArityTable) (given : Option (List Draft)) (os : List Object) (owed : Owed) → IsBlockOfWithin (Some most) A given os (admitted.Obligations owed) → length_object (object_at os owed.obligations) ≤ most
owes-few most A None os owed h = absurd h
owes-few most A (Some ds) os owed h =
    let q = h.passes in
    omega (arith, h.few, ap length_object q.obligations, length_formulas (obligations (functions q.names q.formals q.bodies) (measures q.names q.measures_of)))

pub given-passed : (A : ArityTable) (given : Option (List Draft)) (os : List Object) (owed : Owed) → IsBlockOf A given os (admitted.Obligations owed) → IsPassed A given os owed
given-passed A None os owed h = absurd h
given-passed A (Some ds) os owed h = record { drafts = ds; given_is = refl; passes = h }

module _ (J : Judge) (t : Theory) (proofs : Object) (os : List Object) where
  pub refused-given : (given : Option (List Draft)) (r : Reason) → IsBlockOf (arity_table t.definitions) given os (admitted.Refused r) → defined J t given proofs ≡ refuse t (refusal_of r)
  unfolding need
  refused-given None r h = ap (refuse t) (sym h)
  refused-given (Some ds) r h = ap (settled (by_formula J) t 0 proofs) (define-denied t ds (refusal_of r) h)

  -- the same where no more may be owed than there are proofs
  refused-within : (most : ℕ) (ds : List Draft) (q : Refusal) → length_object proofs ≤ most → FailsWithin (Some most) (arity_table t.definitions) ds q → settled (by_formula J) t 0 proofs (define_demand t ds) ≡ refuse t q
  refused-within most ds q few (fails r h) = ap (settled (by_formula J) t 0 proofs) (define-denied t ds r h)
  refused-within most ds q few (too_many fs xss bs ms names formals terms closed flat past) =
      let Fs = obligations (functions fs xss bs) (measures fs ms) in
      ap (settled (by_formula J) t 0 proofs) (define-owes t ds fs xss bs ms names formals terms closed flat)
      ∙ must_unless t (has_members (length Fs) proofs) (judged_each J t Fs proofs) (Some COUNT) (Functions (functions fs xss bs))
      (ap (λ b. cond b (judged_each J t Fs proofs) (Some COUNT)) (fewer (length Fs) proofs (omega (arith, few, past))))

  pub refused-given-within : (most : ℕ) (given : Option (List Draft)) (r : Reason) → length_object proofs ≤ most → IsBlockOfWithin (Some most) (arity_table t.definitions) given os (admitted.Refused r) → defined J t given proofs ≡ refuse t (refusal_of r)
  unfolding need
  refused-given-within most None r few h = ap (refuse t) (sym h)
  refused-given-within most (Some ds) r few h = refused-within most ds (refusal_of r) few h

  pub judged-given : (given : Option (List Draft)) (owed : Owed) (h : IsPassed (arity_table t.definitions) given os owed) (r : Option Refusal) → judged_all J t (obligations (functions h.passes.names h.passes.formals h.passes.bodies) (measures h.passes.names h.passes.measures_of)) proofs ≡ r → defined J t given proofs ≡ after_proofs t r (Functions (functions h.passes.names h.passes.formals h.passes.bodies))
  unfolding need
  judged-given given owed h r told =
      let Fs = obligations (functions h.passes.names h.passes.formals h.passes.bodies) (measures h.passes.names h.passes.measures_of) in
      ap (λ g. need t EVENT g (λ drafts. settled (by_formula J) t 0 proofs (define_demand t drafts))) h.given_is
      ∙ (ap (settled (by_formula J) t 0 proofs) (define-wants t h.drafts os owed h.passes)
      ∙ must_unless t (has_members (length Fs) proofs) (judged_each J t Fs proofs) r (Functions (functions h.passes.names h.passes.formals h.passes.bodies)) told)

-- no proofs are just as many as are owed where nothing is
judged-none : (J : Judge) (t : Theory) (Fs : List Formula) → length Fs ≤ 0 → judged_all J t Fs NIL ≡ None
judged-none J t [] h = refl
judged-none J t (F ∷ Fs) h = absurd (omega (arith, h))

-- by the tests of the functions and of the proofs it is refused, or accepted with some block
pub definitions-judged : (J : Judge) (t : Theory) (proofs : Object) (os : List Object) (given : Option (List Draft)) (owed : Owed) (p : IsPassed (arity_table t.definitions) given os owed) (r : Option Refusal) → r ≡ judged_all J t (obligations (functions p.passes.names p.passes.formals p.passes.bodies) (measures p.passes.names p.passes.measures_of)) proofs → IsDefined J t given proofs r
definitions-judged J t proofs os given owed p r told = go r (judged-given J t proofs os given owed p r (sym told))
  where
    B : Block
    B = Functions (functions p.passes.names p.passes.formals p.passes.bodies)

    go : (q : Option Refusal) → defined J t given proofs ≡ after_proofs t q B → IsDefined J t given proofs q
    go None e = (B, e)
    go (Some reason) e = e

-- where there is a reason
pub defined-refused : (J : Judge) (t : Theory) (given : Option (List Draft)) (proofs : Object) (r : Option Reason) → is_some r ≡ true → IsDefined J t given proofs (option_map refusal_of r) → (fate_by (option_map refusal_of r) ≡ (defined J t given proofs).0) × (t ≡ (defined J t given proofs).1)
defined-refused J t given proofs None some h = cc
defined-refused J t given proofs (Some q) some h = (sym (ap (λ x. x.0) h), sym (ap (λ x. x.1) h))

-- Functions that were accepted and pass their tests are accepted as these.
pub accepted-these : (J : Judge) (t : Theory) (proofs : Object) (os : List Object) (given : Option (List Draft)) (owed : Owed) (p : IsPassed (arity_table t.definitions) given os owed) (B : Block) → defined J t given proofs ≡ accept (add_to_theory t B) → defined J t given proofs ≡ accept (add_to_theory t (Functions (functions p.passes.names p.passes.formals p.passes.bodies)))
accepted-these J t proofs os given owed p B accepted = go r (judged-given J t proofs os given owed p r refl)
  where
    C : Block
    C = Functions (functions p.passes.names p.passes.formals p.passes.bodies)

    r : Option Refusal
    r = judged_all J t (obligations (functions p.passes.names p.passes.formals p.passes.bodies) (measures p.passes.names p.passes.measures_of)) proofs

    never : (q : Refusal) → accept (add_to_theory t B) ≡ refuse t q → ⊥
    never q e = is_refused (ap (λ x. x.0) e)
      where
        shows : Fate → Bool
        shows (Accepted text) = true
        shows (Refused reason) = false

        is_refused : Accepted [] ≡ Refused q → ⊥
        is_refused e = true≢false (ap shows e)

    go : (q : Option Refusal) → defined J t given proofs ≡ after_proofs t q C → defined J t given proofs ≡ accept (add_to_theory t C)
    go None e = e
    go (Some q) e = absurd (never q (sym accepted ∙ e))

-- what is accepted and leaves a sound theory
pub accepted-sound : (J : Judge) (t : Theory) (given : Option (List Draft)) (proofs : Object) → IsDefined J t given proofs None → IsSound (defined J t given proofs).1 → IsAccepted J t given proofs
accepted-sound J t given proofs d sound = (d.0, d.1, subst (λ r. IsSound r.1) d.1 sound)

-- A world whose heap grew.
module _ (os : List Object) (n : ℕ) (t : Kept) (marks : List ObjectMark) (h : IsWorldOf os n t marks) (new : List Object) (grows : Grows os new) where
  abbrev now : Theory
  now = meant os (parts_of t)

  pub theory-same : meant new (parts_of t) ≡ now
  theory-same = grown_theory os n t marks h new grows

  arities : t.arity ≡ arity_table now.definitions
  arities = (held os n t marks h).arities

  module _ (drafts : Drafts) where
    -- after a cut that keeps the theory and the definitions, what was accepted is accepted
    module _ (cut : World) (theory : theory_in cut ≡ meant new (parts_of t)) (given : drafts_given cut.heap.objects drafts ≡ drafts_given new drafts) (within : AreWithin os drafts) where
      pub kept-theory : theory_in cut ≡ now
      kept-theory = theory ∙ theory-same

      kept-given : drafts_given cut.heap.objects drafts ≡ drafts_given os drafts
      kept-given = given ∙ given-grows os new grows drafts within

      pub kept-defined : (J : Judge) (proofs : Object) → defined J (theory_in cut) (drafts_given cut.heap.objects drafts) proofs ≡ defined J now (drafts_given os drafts) proofs
      kept-defined J proofs = ap₂ (λ v x. defined J v x proofs) kept-theory kept-given

      pub kept-accepted : (J : Judge) (proofs : Object) → IsDefined J now (drafts_given os drafts) proofs None → IsSound (defined J now (drafts_given os drafts) proofs).1 → IsAccepted J (theory_in cut) (drafts_given cut.heap.objects drafts) proofs
      kept-accepted J proofs told sound =
          subst (λ v. IsAccepted J v (drafts_given cut.heap.objects drafts) proofs) (sym kept-theory)
          (subst (λ x. IsAccepted J now x proofs) (sym kept-given) (accepted-sound J now (drafts_given os drafts) proofs told sound))

    -- the functions are refused
    pub functions-fail : (J : Judge) (proofs : Object) (r : Reason) → IsBlockOf t.arity (drafts_given os drafts) new (admitted.Refused r) → defined J now (drafts_given os drafts) proofs ≡ refuse now (refusal_of r)
    functions-fail J proofs r failed = refused-given J now proofs new (drafts_given os drafts) r (subst (λ B. IsBlockOf B (drafts_given os drafts) new (admitted.Refused r)) arities failed)

    pub functions-fail-within : (J : Judge) (proofs : Object) (most : ℕ) (r : Reason) → length_object proofs ≤ most → IsBlockOfWithin (Some most) t.arity (drafts_given os drafts) new (admitted.Refused r) → defined J now (drafts_given os drafts) proofs ≡ refuse now (refusal_of r)
    functions-fail-within J proofs most r few h = refused-given-within J now proofs new most (drafts_given os drafts) r few (subst (λ B. IsBlockOfWithin (Some most) B (drafts_given os drafts) new (admitted.Refused r)) arities h)

    -- they pass their tests
    module _ (owed : Owed) (tested : IsBlockOf t.arity (drafts_given os drafts) new (admitted.Obligations owed)) where
      passed : IsPassed (arity_table now.definitions) (drafts_given os drafts) new owed
      passed = given-passed (arity_table now.definitions) (drafts_given os drafts) new owed (subst (λ B. IsBlockOf B (drafts_given os drafts) new (admitted.Obligations owed)) arities tested)

      pub block_of : Block
      block_of = Functions (functions passed.passes.names passed.passes.formals passed.passes.bodies)

      -- they are accepted as these
      pub functions-pass : (J : Judge) (proofs : Object) → IsAccepted J now (drafts_given os drafts) proofs → defined J now (drafts_given os drafts) proofs ≡ accept (add_to_theory now block_of)
      unfolding block_of
      functions-pass J proofs a = accepted-these J now proofs new (drafts_given os drafts) owed passed a.0 a.1

      -- without proofs they are accepted where nothing is owed
      pub alone-passes : (J : Judge) → length_object (object_at new owed.obligations) ≤ 0 → defined J now (drafts_given os drafts) NIL ≡ accept (add_to_theory now block_of)
      unfolding block_of
      alone-passes J none = judged-given J now NIL new (drafts_given os drafts) owed passed None (judged-none J now _ (omega (arith, none, ap length_object passed.passes.obligations, length_formulas (obligations (functions passed.passes.names passed.passes.formals passed.passes.bodies) (measures passed.passes.names passed.passes.measures_of)))))

      pub alone-accepted : (J : Judge) → length_object (object_at new owed.obligations) ≤ 0 → IsSound (defined J now (drafts_given os drafts) NIL).1 → IsAccepted J now (drafts_given os drafts) NIL
      alone-accepted J none sound = let e = alone-passes J none in (block_of, e, subst (λ r. IsSound r.1) e sound)

      -- they are a new block
      pub functions-block : (J : Judge) (proofs : Object) → IsAccepted J now (drafts_given os drafts) proofs → (ds : List Definition) → ds ≡ map function_of_entry owed.entries.items → IsNewBlock new (parts_of t) ds owed.axioms block_of
      unfolding block_of
      functions-block J proofs a ds ds_are =
          let q = passed.passes in
          let B = functions q.names q.formals q.bodies in
          record {
            means = subst (λ es. AreFunctions new es B) (sym ds_are) (functions-mean new B owed.entries.items (block-entries (arity_table now.definitions) passed.drafts new new owed (Grows-refl new) q));
            axioms_in = q.axioms_in;
            axioms_are = q.axioms;
            sound = subst (λ u. IsSound (add_to_theory u block_of)) (sym theory-same) (subst IsSound (ap (λ r. r.1) (sym a.1 ∙ functions-pass J proofs a)) a.2);
          }

      -- which is what the event leads to
      pub block-leads : (J : Judge) (proofs : Object) → defined J now (drafts_given os drafts) proofs ≡ accept (add_to_theory now block_of) → add_to_theory (meant new (parts_of t)) block_of ≡ (defined J now (drafts_given os drafts) proofs).1
      block-leads J proofs e = ap (λ u. add_to_theory u block_of) theory-same ∙ sym (ap (λ r. r.1) e)

  -- of a witness
  module _ (name bound free body : ℕ) where
    abbrev event : Object
    event = skolem_event (object_at os name) (object_at os bound) (object_at os free) (object_at os body)

    pub skolem-fails : (r : Reason) → FailsWitness t.arity (object_at os name) (object_at os bound) (object_at os free) (object_at os body) (refusal_of r) → skolem_at os now name bound free body ≡ refuse now (refusal_of r)
    skolem-fails r failed = skolem-refused now event (refusal_of r) (subst (λ B. FailsWitness B (object_at os name) (object_at os bound) (object_at os free) (object_at os body) (refusal_of r)) arities failed)

    pub skolem-passes : (owed : Owed) (p : PassesWitness t.arity (object_at os name) (object_at os bound) (object_at os free) (object_at os body) new name owed) → skolem_at os now name bound free body ≡ accept (add_to_theory now (Choice p.symbol p.first p.rest p.term))
    skolem-passes owed p =
        subst (λ B. (q : PassesWitness B (object_at os name) (object_at os bound) (object_at os free) (object_at os body) new name owed) → skolem now event ≡ accept (add_to_theory now (Choice q.symbol q.first q.rest q.term))) (sym arities)
        (skolem-accepted now event new name owed) p

    -- the witness is a new block
    pub witness-block : IsIn os name → IsIn os bound → IsIn os free → (owed : Owed) (p : PassesWitness t.arity (object_at os name) (object_at os bound) (object_at os free) (object_at os body) new name owed) (w : Definition) → w ≡ Witness name bound free p.entry.body → IsSound (skolem_at os now name bound free body).1 → IsNewBlock new (parts_of t) (w ∷ []) owed.axioms (Choice p.symbol p.first p.rest p.term)
    witness-block name_in bound_in free_in owed p w w_is sound =
        let B = Choice p.symbol p.first p.rest p.term in
        let e = witness-entry t.arity os new grows name bound free (object_at os body) owed name_in bound_in free_in p in
        let means : IsBlock new (Witness name bound free p.entry.body ∷ []) B = record { name_in = e.name_in; bound_in = e.bound_in; free_in = e.free_in; body_in = e.body_in; name_is = e.name_is; bound_is = e.bound_is; free_are = e.free_are; body_is = e.body_is } in
        record {
          means = subst (λ d. IsBlock new (d ∷ []) B) (sym w_is) means;
          axioms_in = p.axioms_in;
          axioms_are = p.axioms;
          sound = subst (λ u. IsSound (add_to_theory u B)) (sym theory-same) (subst IsSound (ap (λ r. r.1) (skolem-passes owed p)) sound);
        }
