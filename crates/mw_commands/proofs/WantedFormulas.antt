-- What an event wants are formulas that are read back from their objects.
use Rattle.std.proofs.Common.{◌≡◌, Bool, true, false, cond, List, [], ◌∷◌, map, not, Option, Some, None, sym, ap, subst}
use Rattle.mw_model.specs.Terms.Object.{Name, Object, same_name, second_of, third_of, fourth_of, fifth_of}
use Rattle.mw_model.specs.Terms.Term.{Term, Formula, ArityTable, is_term, is_formula}
use Rattle.mw_model.specs.Terms.Reading.{formula_of, formula_under, that}
use Rattle.std.specs.Option.{option_zip}
use Rattle.mw_model.specs.Values.Primitive.{is_symbol}
use Rattle.mw_model.specs.Values.Definition.{Functions, arity_table}
use Rattle.mw_model.specs.Values.Truth.{Each}
use Rattle.mw_model.specs.Events.Obligation.{measure_of, obligations, is_nested}
use Rattle.mw_model.specs.Events.Expansion.{expanded, expand}
use Rattle.mw_model.specs.Events.Theory.{Theory}
use Rattle.mw_model.specs.Events.Refusal.{EVENT, NAME, FORMALS, TERM, FORMULA, VARIABLES, NESTED}
use Rattle.mw_model.specs.Events.Admission.{Draft, all_of, new_names, formals_of, add_names, functions, measures, are_closed_by, add_to_theory, some_drafts, skolem}
use Rattle.mw_model.specs.Events.Fate.{EventWord, Verify, Define, Skolem, Switch, Eval, Print, DefineAll, SetProfile, profile}
use Rattle.mw_model.specs.Events.Demand.{Wants, define_demand, demand}
use Rattle.mw_model.proofs.Formed.{formed}
use Rattle.mw_model.proofs.Readable.{Readable, ReadableFormula, term_readable, formula_readable}
use Rattle.mw_model.proofs.ReadBack.{some_one, and_more-back, when_some}
use Rattle.mw_commands.proofs.ObligationsReadable.{obligations_readable}
use Rattle.mw_commands.proofs.Leading.{Asks, some_asks, that_asks, plain_asks}

-- what passes a test
that_passes : {X : Type 0} (test : X → Bool) (o : Option X) (x : X) → that test o ≡ Some x → test x ≡ true
that_passes test None x h = cc
that_passes test (Some y) x h = let p = when_some (test y) (Some y) x h in subst (λ z. test z ≡ true) (some_one p.1) p.0

both_there : {X Y : Type 0} (o : Option X) (p : Option Y) (z : X × Y) → option_zip o p ≡ Some z → (o ≡ Some z.0) × (p ≡ Some z.1)
both_there None p z h = cc
both_there (Some x) None z h = cc
both_there (Some x) (Some y) z h = let e = some_one h in (ap (λ w. Some w.0) e, ap (λ w. Some w.1) e)

-- bodies and measures
each_expanded : (A : ArityTable) (xs : List Object) (ts : List Term) → all_of (expand A) xs ≡ Some ts → Each Readable ts
each_expanded A [] ts h = subst (Each Readable) (some_one h) tt
each_expanded A (x ∷ xs) ts h =
    let b = and_more-back (expand A x) (all_of (expand A) xs) ts h in
    subst (Each Readable) (sym b.4) (term_readable A b.0 (formed A b.0 (that_passes (is_term A) (expanded x) b.0 b.2)), each_expanded A xs b.1 b.3)

bodies_readable : (fs : List Name) (xss : List (List Name)) (bs : List Term) → Each Readable bs → Each (λ h. Readable h.body) (functions fs xss bs)
bodies_readable (f ∷ fs) (xs ∷ xss) (b ∷ bs) h = (h.0, bodies_readable fs xss bs h.1)
bodies_readable (f ∷ fs) (xs ∷ xss) [] h = tt
bodies_readable (f ∷ fs) [] bs h = tt
bodies_readable [] xss bs h = tt

measures_readable : (fs : List Name) (ms : List Term) → Each Readable ms → (f : Name) → Readable (measure_of (measures fs ms) f)
measures_readable [] ms h f = tt
measures_readable (g ∷ fs) [] h f = tt
measures_readable (g ∷ fs) (m ∷ ms) h f = go (same_name g f) (measures_readable fs ms h.1 f)
  where
    go : (b : Bool) → Readable (measure_of (measures fs ms) f) → Readable (cond b m (measure_of (measures fs ms) f))
    go true k = h.0
    go false k = k

-- ---- word by word

module _ (t : Theory) where
  abbrev Wanted : List Formula → Theory → Type 0
  Wanted Fs next = Each ReadableFormula Fs

  define_wants : (drafts : List Draft) → Asks Wanted (define_demand t drafts)
  define_wants drafts =
      let A = arity_table t.definitions in
      some_asks Wanted NAME (new_names A (map (λ d. d.name) drafts)) _ (λ fs e1.
      some_asks Wanted FORMALS (all_of formals_of (map (λ d. d.formals) drafts)) _ (λ xss e2.
      some_asks Wanted TERM (option_zip (all_of (expand (add_names fs xss A)) (map (λ d. d.body) drafts)) (all_of (expand A) (map (λ d. d.measure) drafts))) _ (λ terms e3.
      let p = both_there (all_of (expand (add_names fs xss A)) (map (λ d. d.body) drafts)) (all_of (expand A) (map (λ d. d.measure) drafts)) terms e3 in
      let B = functions fs xss terms.0 in
      let M = measures fs terms.1 in
      that_asks Wanted VARIABLES (are_closed_by xss terms.0 terms.1) _
      (that_asks Wanted NESTED (not (is_nested B B)) (Wants (obligations B M) (add_to_theory t (Functions B)))
      (obligations_readable B M (measures_readable fs terms.1 (each_expanded A (map (λ d. d.measure) drafts) terms.1 p.1)) (bodies_readable fs xss terms.0 (each_expanded (add_names fs xss A) (map (λ d. d.body) drafts) terms.0 p.0)))))))

  wants_readable : (w : EventWord) (e : Object) → Asks Wanted (demand w t e)
  wants_readable Verify e =
      let A = arity_table t.definitions in
      that_asks Wanted NAME (is_symbol (second_of e)) _
      (some_asks Wanted FORMULA (formula_under A (third_of e)) _ (λ F e1. (formula_readable A F (that_passes (is_formula A) (formula_of (third_of e)) F e1), tt)))
  wants_readable Define e = define_wants (record { name = second_of e; formals = third_of e; body = fourth_of e; measure = fifth_of e } ∷ [])
  wants_readable DefineAll e = some_asks Wanted EVENT (some_drafts (second_of e)) (define_demand t) (λ drafts e1. define_wants drafts)
  wants_readable Skolem e = plain_asks Wanted (skolem t e).0 (skolem t e).1 tt
  wants_readable SetProfile e = plain_asks Wanted (profile t e).0 (profile t e).1 tt
  wants_readable Switch e = tt
  wants_readable Eval e = tt
  wants_readable Print e = tt

  pub wanted_readable : (w : EventWord) (e : Object) (Fs : List Formula) (next : Theory) → demand w t e ≡ Wants Fs next → Each ReadableFormula Fs
  wanted_readable w e Fs next h = subst (Asks Wanted) h (wants_readable w e)
