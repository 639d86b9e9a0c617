-- What the tests of DEFINE and DEFINE-ALL give: the functions make a block that is well made, with a measure for each.
use Rattle.std.proofs.Common.{◌≡◌, Bool, true, false, ◌&&◌, not, cond, List, [], ◌∷◌, length, map, Option, Some, None, refl, sym, ap, ◌∙◌, subst, is_none}
use Rattle.std.proofs.lemmas.Bool.{and_parts, and_from, or_parts, not-true, cond-true, cond-false, false≢true}
use Rattle.mw_model.specs.Terms.Object.{Name, Object, Natural, Symbol, Pair, same_name}
use Rattle.mw_model.specs.Terms.Term.{Term, ArityTable, is_among, are_formals, are_distinct, is_closed, is_term, IsTerm}
use Rattle.mw_model.specs.Terms.Reading.{names_of, that}
use Rattle.std.specs.Option.{option_zip}
use Rattle.mw_model.specs.Values.Definition.{Function, function_named, add_functions, is_new, are_new, are_functions, is_some_function}
use Rattle.mw_model.specs.Values.Truth.{Each}
use Rattle.mw_model.specs.Events.Obligation.{measure_of, is_empty}
use Rattle.mw_model.specs.Events.Expansion.{expanded, expand}
use Rattle.mw_model.specs.Events.Admission.{Draft, all_of, new_name, formals_of, add_names, functions, measures, are_closed_by}
use Rattle.mw_model.proofs.Names.{same_name-refl, name_differ, name_differ-from}
use Rattle.mw_model.proofs.ReadBack.{some_one, and_more-back, when_some}

-- what passes a test
pub that_back : {X : Type 0} (test : X → Bool) (o : Option X) (x : X) → that test o ≡ Some x → (o ≡ Some x) × (test x ≡ true)
that_back test None x h = cc
that_back test (Some y) x h =
    let p = when_some (test y) (Some y) x h in
    (p.1, subst (λ z. test z ≡ true) (some_one p.1) p.0)

pub both_back : {X Y : Type 0} (o : Option X) (p : Option Y) (z : X × Y) → option_zip o p ≡ Some z → (o ≡ Some z.0) × (p ≡ Some z.1)
both_back None p z h = cc
both_back (Some x) None z h = cc
both_back (Some x) (Some y) z h = let e = some_one h in (ap (λ w. Some w.0) e, ap (λ w. Some w.1) e)

pub new_name-new : (A : ArityTable) (x : Object) (f : Name) → new_name A x ≡ Some f → is_new A f ≡ true
new_name-new A (Natural n) f h = cc
new_name-new A (Pair a b) f h = cc
new_name-new A (Symbol g) f h = let p = when_some (is_new A g) (Some g) f h in subst (λ z. is_new A z ≡ true) (some_one p.1) p.0

pub formals_of-formals : (x : Object) (xs : List Name) → formals_of x ≡ Some xs → are_formals xs ≡ true
formals_of-formals x xs h = (that_back are_formals (names_of x) xs h).1

pub expand-term : (A : ArityTable) (x : Object) (t : Term) → expand A x ≡ Some t → IsTerm A t
expand-term A x t h = (that_back (is_term A) (expanded x) t h).1

-- Names, formals, bodies and measures that belong together, one of each for each function.
abbrev pub Belong : ArityTable → ArityTable → List Name → List (List Name) → List Term → List Term → Type 0
Belong A N [] [] [] [] = Unit {0}
Belong A N (f ∷ fs) (xs ∷ xss) (b ∷ bs) (m ∷ ms) =
    ((is_new A f ≡ true) × (are_formals xs ≡ true) × IsTerm N b × (is_closed xs b ≡ true) × IsTerm A m × (is_closed xs m ≡ true)) × Belong A N fs xss bs ms
Belong A N _ _ _ _ = ⊥

belong_by : (A N : ArityTable) (fs gs : List Name) (xss yss : List (List Name)) (bs cs ms ns : List Term) → fs ≡ gs → xss ≡ yss → bs ≡ cs → ms ≡ ns → Belong A N gs yss cs ns → Belong A N fs xss bs ms
belong_by A N fs gs xss yss bs cs ms ns p q r s h =
    subst (λ z. Belong A N z xss bs ms) (sym p) (subst (λ z. Belong A N gs z bs ms) (sym q) (subst (λ z. Belong A N gs yss z ms) (sym r) (subst (λ z. Belong A N gs yss cs z) (sym s) h)))

closed_by : (xss yss : List (List Name)) (bs cs ms ns : List Term) → xss ≡ yss → bs ≡ cs → ms ≡ ns → are_closed_by xss bs ms ≡ true → are_closed_by yss cs ns ≡ true
closed_by xss yss bs cs ms ns q r s h =
    subst (λ z. are_closed_by yss cs z ≡ true) s (subst (λ z. are_closed_by yss z ms ≡ true) r (subst (λ z. are_closed_by z bs ms ≡ true) q h))

module _ (A N : ArityTable) where
  pub belong : (ds : List Draft) (fs : List Name) (xss : List (List Name)) (bs ms : List Term) → all_of (new_name A) (map (λ d. d.name) ds) ≡ Some fs → all_of formals_of (map (λ d. d.formals) ds) ≡ Some xss → all_of (expand N) (map (λ d. d.body) ds) ≡ Some bs → all_of (expand A) (map (λ d. d.measure) ds) ≡ Some ms → are_closed_by xss bs ms ≡ true → Belong A N fs xss bs ms
  belong [] fs xss bs ms p q r s c = belong_by A N fs [] xss [] bs [] ms [] (sym (some_one p)) (sym (some_one q)) (sym (some_one r)) (sym (some_one s)) tt
  belong (d ∷ ds) fs xss bs ms p q r s c =
      let f = and_more-back (new_name A d.name) (all_of (new_name A) (map (λ d. d.name) ds)) fs p in
      let x = and_more-back (formals_of d.formals) (all_of formals_of (map (λ d. d.formals) ds)) xss q in
      let b = and_more-back (expand N d.body) (all_of (expand N) (map (λ d. d.body) ds)) bs r in
      let m = and_more-back (expand A d.measure) (all_of (expand A) (map (λ d. d.measure) ds)) ms s in
      let c' = closed_by xss (x.0 ∷ x.1) bs (b.0 ∷ b.1) ms (m.0 ∷ m.1) x.4 b.4 m.4 c in
      let k = and_parts (is_closed x.0 b.0) (is_closed x.0 m.0 && are_closed_by x.1 b.1 m.1) c' in
      let l = and_parts (is_closed x.0 m.0) (are_closed_by x.1 b.1 m.1) k.1 in
      belong_by A N fs (f.0 ∷ f.1) xss (x.0 ∷ x.1) bs (b.0 ∷ b.1) ms (m.0 ∷ m.1) f.4 x.4 b.4 m.4
      ((new_name-new A d.name f.0 f.2, formals_of-formals d.formals x.0 x.2, expand-term N d.body b.0 b.2, k.0, expand-term A d.measure m.0 m.2, l.0), belong ds f.1 x.1 b.1 m.1 f.3 x.3 b.3 m.3 l.1)

  -- the block's arity table
  pub table_same : (fs : List Name) (xss : List (List Name)) (bs ms : List Term) → Belong A N fs xss bs ms → (C : ArityTable) → add_functions (functions fs xss bs) C ≡ add_names fs xss C
  table_same [] [] [] [] h C = refl
  table_same (f ∷ fs) (xs ∷ xss) (b ∷ bs) (m ∷ ms) h C = table_same fs xss bs ms h.1 ((f, length xs) ∷ C)
  table_same [] [] [] (m ∷ ms) h C = absurd h
  table_same [] [] (b ∷ bs) ms h C = absurd h
  table_same [] (xs ∷ xss) bs ms h C = absurd h
  table_same (f ∷ fs) [] bs ms h C = absurd h
  table_same (f ∷ fs) (xs ∷ xss) [] ms h C = absurd h
  table_same (f ∷ fs) (xs ∷ xss) (b ∷ bs) [] h C = absurd h

  pub bodies_fit : (fs : List Name) (xss : List (List Name)) (bs ms : List Term) → Belong A N fs xss bs ms → are_functions N (functions fs xss bs) ≡ true
  bodies_fit [] [] [] [] h = refl
  bodies_fit (f ∷ fs) (xs ∷ xss) (b ∷ bs) (m ∷ ms) h =
      and_from (are_formals xs) (is_term N b && (is_closed xs b && are_functions N (functions fs xss bs))) h.0.1
      (and_from (is_term N b) (is_closed xs b && are_functions N (functions fs xss bs)) h.0.2
      (and_from (is_closed xs b) (are_functions N (functions fs xss bs)) h.0.3 (bodies_fit fs xss bs ms h.1)))
  bodies_fit [] [] [] (m ∷ ms) h = absurd h
  bodies_fit [] [] (b ∷ bs) ms h = absurd h
  bodies_fit [] (xs ∷ xss) bs ms h = absurd h
  bodies_fit (f ∷ fs) [] bs ms h = absurd h
  bodies_fit (f ∷ fs) (xs ∷ xss) [] ms h = absurd h
  bodies_fit (f ∷ fs) (xs ∷ xss) (b ∷ bs) [] h = absurd h

-- a name that is not among others is no name of their functions
others : (f : Name) (fs : List Name) (xss : List (List Name)) (bs : List Term) → is_among f fs ≡ false → Each (λ h. same_name f h.name ≡ false) (functions fs xss bs)
others f [] xss bs n = tt
others f (g ∷ fs) [] bs n = tt
others f (g ∷ fs) (xs ∷ xss) [] n = tt
others f (g ∷ fs) (xs ∷ xss) (b ∷ bs) n = let p = or_parts (same_name f g) (is_among f fs) n in (p.0, others f fs xss bs p.1)

none_named : (f : Name) (B : List Function) → Each (λ h. same_name f h.name ≡ false) B → function_named B f ≡ None
none_named f [] n = refl
none_named f (h ∷ B) n =
    let d = name_differ-from h.name f (λ e. name_differ f h.name n.0 (sym e)) in
    ap (λ b. cond b (Some h) (function_named B f)) d ∙ none_named f B n.1

module _ (A N : ArityTable) where
  pub names_fit : (fs : List Name) (xss : List (List Name)) (bs ms : List Term) → Belong A N fs xss bs ms → are_distinct fs ≡ true → are_new A (functions fs xss bs) ≡ true
  names_fit [] [] [] [] h d = refl
  names_fit (f ∷ fs) (xs ∷ xss) (b ∷ bs) (m ∷ ms) h d =
      let p = and_parts (not (is_among f fs)) (are_distinct fs) d in
      let n = none_named f (functions fs xss bs) (others f fs xss bs (not-true (is_among f fs) p.0)) in
      and_from (is_new A f) (is_none (function_named (functions fs xss bs) f) && are_new A (functions fs xss bs)) h.0.0
      (and_from (is_none (function_named (functions fs xss bs) f)) (are_new A (functions fs xss bs)) (ap is_none n) (names_fit fs xss bs ms h.1 p.1))
  names_fit [] [] [] (m ∷ ms) h d = absurd h
  names_fit [] [] (b ∷ bs) ms h d = absurd h
  names_fit [] (xs ∷ xss) bs ms h d = absurd h
  names_fit (f ∷ fs) [] bs ms h d = absurd h
  names_fit (f ∷ fs) (xs ∷ xss) [] ms h d = absurd h
  names_fit (f ∷ fs) (xs ∷ xss) (b ∷ bs) [] h d = absurd h

  abbrev pub Measured : List Name → Term → Type 0
  Measured xs m = IsTerm A m × (is_closed xs m ≡ true)

  past_first : (f : Name) (m : Term) (fs : List Name) (ms : List Term) (B : List Function) → Each (λ h. same_name f h.name ≡ false) B → Each (λ h. Measured h.formals (measure_of (measures fs ms) h.name)) B → Each (λ h. Measured h.formals (measure_of ((f, m) ∷ measures fs ms) h.name)) B
  past_first f m fs ms [] n h = tt
  past_first f m fs ms (g ∷ B) n h =
      (subst (Measured g.formals) (sym (cond-false (same_name f g.name) m (measure_of (measures fs ms) g.name) n.0)) h.0, past_first f m fs ms B n.1 h.1)

  pub measures_fit : (fs : List Name) (xss : List (List Name)) (bs ms : List Term) → Belong A N fs xss bs ms → are_distinct fs ≡ true → Each (λ h. Measured h.formals (measure_of (measures fs ms) h.name)) (functions fs xss bs)
  measures_fit [] [] [] [] h d = tt
  measures_fit (f ∷ fs) (xs ∷ xss) (b ∷ bs) (m ∷ ms) h d =
      let p = and_parts (not (is_among f fs)) (are_distinct fs) d in
      (subst (Measured xs) (sym (cond-true (same_name f f) m (measure_of (measures fs ms) f) (same_name-refl f))) (h.0.4, h.0.5), past_first f m fs ms (functions fs xss bs) (others f fs xss bs (not-true (is_among f fs) p.0)) (measures_fit fs xss bs ms h.1 p.1))
  measures_fit [] [] [] (m ∷ ms) h d = absurd h
  measures_fit [] [] (b ∷ bs) ms h d = absurd h
  measures_fit [] (xs ∷ xss) bs ms h d = absurd h
  measures_fit (f ∷ fs) [] bs ms h d = absurd h
  measures_fit (f ∷ fs) (xs ∷ xss) [] ms h d = absurd h
  measures_fit (f ∷ fs) (xs ∷ xss) (b ∷ bs) [] h d = absurd h

  pub some_fit : (fs : List Name) (xss : List (List Name)) (bs ms : List Term) → Belong A N fs xss bs ms → is_empty fs ≡ false → is_some_function (functions fs xss bs) ≡ true
  some_fit [] xss bs ms h n = absurd (false≢true (sym n))
  some_fit (f ∷ fs) (xs ∷ xss) (b ∷ bs) ms h n = refl
  some_fit (f ∷ fs) [] bs ms h n = absurd h
  some_fit (f ∷ fs) (xs ∷ xss) [] ms h n = absurd h

pub all_of-some : {X Y : Type 0} (f : X → Option Y) (xs : List X) (ys : List Y) → all_of f xs ≡ Some ys → is_empty xs ≡ false → is_empty ys ≡ false
all_of-some f [] ys h n = absurd (false≢true (sym n))
all_of-some f (x ∷ xs) ys h n = let p = and_more-back (f x) (all_of f xs) ys h in ap is_empty p.4
