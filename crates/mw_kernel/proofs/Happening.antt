-- What happens by an event, whose object is told.
use Rattle.std.proofs.Common.{◌≡◌, ℕ, Bool, true, false, cond, ltb, List, [], ◌∷◌, length, Option, Some, None, refl, sym, ap, ◌∙◌, subst}
use Rattle.mw_model.specs.Terms.Object.{Object, symbol, second_of, car, cdr, has_members}
use Rattle.mw_model.specs.Terms.Term.{Term, Formula, is_closed}
use Rattle.mw_model.specs.Terms.Reading.{when}
use Rattle.mw_model.specs.Values.Definition.{arity_table}
use Rattle.mw_model.specs.Events.Expansion.{expand}
use Rattle.mw_model.specs.Events.Evaluation.{Outcome, Value, Steps, Overflow, Witness, evaluate}
use Rattle.mw_model.specs.Events.Theory.{Theory, IsSound}
use Rattle.mw_model.specs.Texts.Printing.{text_of}
use Rattle.mw_model.specs.Events.Refusal.{TERM, VARIABLES, LONG, EVENT, COUNT, Fate, Accepted, refuse, accept, need, must, unless}
use Rattle.mw_model.specs.Events.Checking.{judged_as}
use Rattle.std.specs.Option.{option_or}
use Rattle.mw_model.specs.Events.Admission.{Draft}
use Rattle.mw_model.proofs.Demands.{by_word as judged_by_word}
use Rattle.mw_model.specs.Reports.Keeping.{EventKeeps}
use Rattle.mw_model.specs.Events.Fate.{EventWord, SetProfile, is_out_of_range, event_word, longest, happens, happens_by, show, show_outcome, eval}
use Rattle.mw_model.specs.Events.Fate as word
use Rattle.mw_model.specs.Events.Demand.{Demand, Denied, Wants, wants_some, define_demand, each_judged, settled}
use Rattle.mw_heap.specs.Objects.{object_at}
use Rattle.mw_kernel.specs.Knowledge.{Knowledge, theory_of}
use Rattle.mw_theory.specs.Words.{event_object, IsEvent, eval_event}
use Rattle.mw_theory.specs.declared.admitting.Drafts.TheVariants.{One, All}
use Rattle.mw_theory.specs.Admitting.{drafts_given}
use Rattle.mw_theory.specs.Proofs.{by_formula}
use Rattle.mw_theory.specs.Settling.{defined}
use Rattle.mw_theory.specs.Settled.{settles}
use Rattle.mw_kernel.specs.Proofs.{judged_for}
use Rattle.mw_kernel.specs.Switching.{switched}
use Rattle.mw_theory.specs.declared.event.Event.{Event}
use Rattle.mw_theory.specs.declared.event.Event.TheVariants.{Verify, Define, Skolem, Switch, Eval, Print, DefineAll, Profile}
use Rattle.mw_theory.proofs.CallerLemmas.{none_happens, word_happens}
use Rattle.mw_kernel.proofs.Refusing.{verify_is}
use Rattle.mw_kernel.proofs.Switching.{switch-is}

pub show_stays : (t : Theory) (text : List ℕ) → t ≡ (show t text).1
show_stays t text = go (ltb longest (length text))
  where
    go : (b : Bool) → t ≡ (cond b (refuse t LONG) (Accepted text, t)).1
    go true = refl
    go false = refl

show_outcome_stays : (t : Theory) (o : Outcome) → t ≡ (show_outcome t o).1
show_outcome_stays t (Value v n) = show_stays t (text_of v)
show_outcome_stays t Steps = refl
show_outcome_stays t Overflow = refl
show_outcome_stays t Witness = refl

-- an EVAL leaves the theory
pub eval_stays : (t : Theory) (N : ℕ) (e : Object) → t ≡ (eval t N e).1
unfolding need
eval_stays t N e = go (expand (arity_table t.definitions) (second_of e))
  where
    shown : (o : Option Term) → t ≡ (need t VARIABLES o (λ closed. show_outcome t (evaluate t.definitions N [] closed))).1
    shown None = refl
    shown (Some a) = show_outcome_stays t (evaluate t.definitions N [] a)

    go : (o : Option Term) → t ≡ (need t TERM o (λ a. need t VARIABLES (when (is_closed [] a) (Some a)) (λ closed. show_outcome t (evaluate t.definitions N [] closed)))).1
    go None = refl
    go (Some a) = shown (when (is_closed [] a) (Some a))

abbrev pub word_of_event : Event → EventWord
word_of_event (Verify name formula proof) = word.Verify
word_of_event (Define name formals body measure proofs) = word.Define
word_of_event (Skolem name bound free body) = word.Skolem
word_of_event (Switch name) = word.Switch
word_of_event (Eval term) = word.Eval
word_of_event (Print x) = word.Print
word_of_event (DefineAll definitions proofs) = word.DefineAll
word_of_event (Profile n) = SetProfile

pub word-is : (os : List Object) (e : Event) → event_word (event_object os e) ≡ Some (word_of_event e)
word-is os (Verify name formula proof) = refl
word-is os (Define name formals body measure proofs) = refl
word-is os (Skolem name bound free body) = refl
word-is os (Switch name) = refl
word-is os (Eval term) = refl
word-is os (Print x) = refl
word-is os (DefineAll definitions proofs) = refl
word-is os (Profile n) = refl

-- the fate of an event by its members, and the theory after it
abbrev pub comes_to : List Object → Theory → ℕ → Event → Fate × Theory
comes_to os t N (Switch name) = switched t (object_at os name)
comes_to os t N (Eval term) = eval t N (eval_event (object_at os term))
comes_to os t N (Print x) = show t (text_of (object_at os x))
comes_to os t N e = settles (judged_for N) os t e

-- of an event of the other kinds
pub settled-others : (os : List Object) (t : Theory) (N : ℕ) (e : Event) → ((x : ℕ) → e ≡ Eval x → ⊥) → ((x : ℕ) → e ≡ Print x → ⊥) → ((x : ℕ) → e ≡ Switch x → ⊥) → comes_to os t N e ≡ settles (judged_for N) os t e
settled-others os t N (Eval x) differs _ _ = absurd (differs x refl)
settled-others os t N (Print x) _ differs _ = absurd (differs x refl)
settled-others os t N (Switch x) _ _ differs = absurd (differs x refl)
settled-others os t N (Verify name formula proof) _ _ _ = refl
settled-others os t N (Define name formals body measure proofs) _ _ _ = refl
settled-others os t N (Skolem name bound free body) _ _ _ = refl
settled-others os t N (DefineAll definitions proofs) _ _ _ = refl
settled-others os t N (Profile n) _ _ _ = refl

-- the theory's checker judges proof by proof
each-as : (t : Theory) (N : ℕ) (Fs : List Formula) (ps : Object) → each_judged (by_formula (judged_for N)) t 0 Fs ps ≡ each_judged judged_as t N Fs ps
each-as t N [] ps = refl
each-as t N (F ∷ Fs) ps = ap (option_or (judged_as t N F (car ps))) (each-as t N Fs (cdr ps))

settled-as : (t : Theory) (N : ℕ) (ps : Object) (d : Demand) → settled (by_formula (judged_for N)) t 0 ps d ≡ settled judged_as t N ps d
settled-as t N ps (Denied r) = refl
settled-as t N ps (Wants Fs next) = ap (λ o. must t COUNT (has_members (length Fs) ps) (unless t o (accept next))) (each-as t N Fs ps)

defined-as : (t : Theory) (N : ℕ) (ps : Object) (given : Option (List Draft)) → defined (judged_for N) t given ps ≡ settled judged_as t N ps (wants_some EVENT given (define_demand t))
unfolding need
defined-as t N ps None = refl
defined-as t N ps (Some ds) = settled-as t N ps (define_demand t ds)

pub comes-by : (os : List Object) (t : Theory) (N : ℕ) (e : Event) → comes_to os t N e ≡ happens_by (word_of_event e) t N (event_object os e)
unfolding need
comes-by os t N (Verify name formula proof) = sym (verify_is t N (symbol "VERIFY") (object_at os name) (object_at os formula) (object_at os proof))
comes-by os t N (Define name formals body measure proofs) =
    defined-as t N (object_at os proofs) (drafts_given os (One (record { name = name; formals = formals; body = body; measure = measure })))
    ∙ judged_by_word word.Define t N (event_object os (Define name formals body measure proofs))
comes-by os t N (Skolem name bound free body) = refl
comes-by os t N (Switch name) = sym (switch-is t (object_at os name))
comes-by os t N (Eval term) = refl
comes-by os t N (Print x) = refl
comes-by os t N (DefineAll definitions proofs) =
    defined-as t N (object_at os proofs) (drafts_given os (All definitions)) ∙ judged_by_word word.DefineAll t N (event_object os (DefineAll definitions proofs))
comes-by os t N (Profile n) = refl

-- what a kernel holds, told of the heap before
module _ (k old : Knowledge) (is : k ≡ old) (x : ℕ) (in_range : is_out_of_range (object_at k.objects x) ≡ false) where
  pub no-event : event_word (object_at k.objects x) ≡ None → refuse (theory_of old) EVENT ≡ happens (theory_of old) old.steps (object_at old.objects x)
  no-event none = subst (λ v. refuse (theory_of v) EVENT ≡ happens (theory_of v) v.steps (object_at v.objects x)) is (none_happens (theory_of k) k.steps (object_at k.objects x) in_range none)

  module _ (e : Event) (event : IsEvent k.objects x e) where
    pub event-happens : comes_to old.objects (theory_of old) old.steps e ≡ happens (theory_of old) old.steps (object_at old.objects x)
    event-happens =
        subst (λ v. comes_to v.objects (theory_of v) v.steps e ≡ happens (theory_of v) v.steps (object_at v.objects x)) is
        (comes-by k.objects (theory_of k) k.steps e
        ∙ (ap (happens_by (word_of_event e) (theory_of k) k.steps) (sym event.0) ∙ word_happens (theory_of k) k.steps (object_at k.objects x) in_range (word_of_event e) (ap event_word event.0 ∙ word-is k.objects e)))

    -- the theory after it is sound
    pub sound-after : EventKeeps (theory_of old) old.steps (object_at old.objects x) → IsSound (comes_to old.objects (theory_of old) old.steps e).1
    sound-after keeps = subst (λ r. IsSound r.1) (sym event-happens) keeps.sound
