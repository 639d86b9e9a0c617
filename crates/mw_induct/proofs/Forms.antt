-- Lists with one head are the same where their members are.
use Rattle.std.proofs.Common.{◌≡◌, true, false, ◌&&◌, refl, sym, ap, ◌∙◌}
use Rattle.std.proofs.Math.Bool.{and-true, and-false}
use Rattle.mw_model.specs.Terms.Object.{Object, Natural, Symbol, Pair, symbol, same_object, list2, list3, NIL, T}
use Rattle.mw_model.specs.Values.Primitive.{is_pair}
use Rattle.mw_model.specs.Laws.Rules.{or_object, not_object, substitute_formula_object}
use Rattle.mw_model.specs.Laws.RulesInduction.{true_object, disjunction_object, hypotheses_object, steps_object, fall_object, falls_object, all_falls_object}
use Rattle.mw_model.proofs.Names.{same_object-refl}

pub same_list3 : (h a b c d : Object) → same_object (list3 h a b) (list3 h c d) ≡ (same_object a c && same_object b d)
same_list3 h a b c d = rw (same_object-refl h, and-true (same_object b d)) refl

pub same_list2 : (h a b : Object) → same_object (list2 h a) (list2 h b) ≡ same_object a b
same_list2 h a b = rw (same_object-refl h, and-true (same_object a b)) refl

-- what begins with one member: the rest decides
pub same_rest : (x h a b c d : Object) → x ≡ list3 h a b → same_object a c ≡ true → same_object x (list3 h c d) ≡ same_object b d
same_rest x h a b c d e s = ap (λ y. same_object y (list3 h c d)) e ∙ (same_list3 h a b c d ∙ ap (λ t. t && same_object b d) s)

pub other_first : (x h a b c d : Object) → x ≡ list3 h a b → same_object a c ≡ false → same_object x (list3 h c d) ≡ false
other_first x h a b c d e s = ap (λ y. same_object y (list3 h c d)) e ∙ (same_list3 h a b c d ∙ ap (λ t. t && same_object b d) s)

pub other_second : (x h a b c d : Object) → x ≡ list3 h a b → same_object b d ≡ false → same_object x (list3 h c d) ≡ false
other_second x h a b c d e s = ap (λ y. same_object y (list3 h c d)) e ∙ (same_list3 h a b c d ∙ (ap (λ t. same_object a c && t) s ∙ and-false (same_object a c)))

-- what ends with one member: the one before it decides
pub same_first : (x h a b c d : Object) → x ≡ list3 h a b → same_object b d ≡ true → same_object x (list3 h c d) ≡ same_object a c
same_first x h a b c d e s = ap (λ y. same_object y (list3 h c d)) e ∙ (same_list3 h a b c d ∙ (ap (λ t. same_object a c && t) s ∙ and-true (same_object a c)))

-- what begins with a as a disjunction does, and what does not
pub or_from : (x a b c : Object) → x ≡ or_object a b → same_object a c ≡ true → same_object x (or_object c b) ≡ true
or_from x a b c e s = same_rest x (symbol "POR*") a b c b e s ∙ same_object-refl b

pub not_from : (x a : Object) → same_object x a ≡ false → ((b : Object) → same_object x (or_object a b) ≡ false) → (members : Object) → same_object x (disjunction_object (Pair a members)) ≡ false
not_from x a h k (Natural n) = h
not_from x a h k (Symbol s) = h
not_from x a h k (Pair b members) = k (disjunction_object (Pair b members))

-- equations with 't are the same where their terms are
pub same_true : (t u : Object) → same_object (true_object t) (true_object u) ≡ same_object t u
same_true t u = same_list3 (symbol "PEQUAL*") t (list2 (symbol "QUOTE") T) u (list2 (symbol "QUOTE") T) ∙ and-true (same_object t u)

-- whether x is: not q or w = 't
pub same_fall : (x n e t q w : Object) → x ≡ or_object n e → same_object n (not_object q) ≡ true → e ≡ true_object t → same_object x (or_object (not_object q) (true_object w)) ≡ same_object t w
same_fall x n e t q w is_or is_not is_true =
    same_rest x (symbol "POR*") n e (not_object q) (true_object w) is_or is_not ∙ (ap (λ y. same_object y (true_object w)) is_true ∙ same_true t w)

-- one hypothesis, and those after it
pub hypotheses_next : (x n e b a s r more : Object) → x ≡ or_object n e → same_object n (not_object b) ≡ true → more ≡ Pair s r → same_object e (disjunction_object (Pair (not_object (substitute_formula_object s a)) (hypotheses_object a r))) ≡ same_object x (disjunction_object (Pair (not_object b) (hypotheses_object a more)))
hypotheses_next x n e b a s r more is_or is_not is_more =
    sym (same_rest x (symbol "POR*") n e (not_object b) (disjunction_object (Pair (not_object (substitute_formula_object s a)) (hypotheses_object a r))) is_or is_not)
    ∙ ap (λ y. same_object x (disjunction_object (Pair (not_object b) (hypotheses_object a y)))) (sym is_more)

-- what begins with one negated instance, and those after it
module _ (x a s t r more : Object) (is_more : more ≡ Pair t r) where
  abbrev Hypotheses : Object → Object
  Hypotheses y = disjunction_object (hypotheses_object a (Pair s y))

  pub instances_next : (n e : Object) → x ≡ or_object n e → same_object n (not_object (substitute_formula_object s a)) ≡ true → same_object x (disjunction_object (hypotheses_object a (Pair s more))) ≡ same_object e (disjunction_object (hypotheses_object a (Pair t r)))
  instances_next n e is_or is_not =
      ap (λ y. same_object x (Hypotheses y)) is_more ∙ same_rest x (symbol "POR*") n e (not_object (substitute_formula_object s a)) (disjunction_object (hypotheses_object a (Pair t r))) is_or is_not

  pub instances_other : (n e : Object) → x ≡ or_object n e → same_object n (not_object (substitute_formula_object s a)) ≡ false → same_object x (disjunction_object (hypotheses_object a (Pair s more))) ≡ false
  instances_other n e is_or is_not =
      ap (λ y. same_object x (Hypotheses y)) is_more ∙ other_first x (symbol "POR*") n e (not_object (substitute_formula_object s a)) (disjunction_object (hypotheses_object a (Pair t r))) is_or is_not

  pub instances_none : ((c d : Object) → same_object x (or_object c d) ≡ false) → same_object x (disjunction_object (hypotheses_object a (Pair s more))) ≡ false
  instances_none none = ap (λ y. same_object x (Hypotheses y)) is_more ∙ none (not_object (substitute_formula_object s a)) (disjunction_object (hypotheses_object a (Pair t r)))

-- the last one
pub instances_end : (x a s more : Object) → is_pair more ≡ false → same_object x (disjunction_object (hypotheses_object a (Pair s more))) ≡ same_object x (not_object (substitute_formula_object s a))
instances_end x a s (Natural n) h = refl
instances_end x a s (Symbol n) h = refl
instances_end x a s (Pair t r) h = cc

-- the step premise for a condition and its substitutions
abbrev pub step_object : Object → Object → Object → Object
step_object a q ss = disjunction_object (Pair a (Pair (not_object q) (hypotheses_object a ss)))

-- one step premise, and those after it
pub steps_next : (a p ps q qs s ss conclusions conditions cases rest : Object) → conclusions ≡ Pair p ps → conditions ≡ Pair q qs → cases ≡ Pair s ss → same_object p (step_object a q s) ≡ true → same_object conclusions (steps_object a conditions cases rest) ≡ same_object ps (steps_object a qs ss rest)
steps_next a p ps q qs s ss conclusions conditions cases rest d e f h = rw (d, e, f) (ap (λ b. b && same_object ps (steps_object a qs ss rest)) h)

pub steps_none : (a q qs conclusions conditions cases rest : Object) → conclusions ≡ NIL → conditions ≡ Pair q qs → same_object conclusions (steps_object a conditions cases rest) ≡ false
steps_none a q qs conclusions conditions cases rest d e = rw (d, e) refl

-- where the next conclusion is another, none fit
pub steps_other : (a p ps q qs s ss conclusions conditions cases rest : Object) → conclusions ≡ Pair p ps → conditions ≡ Pair q qs → cases ≡ Pair s ss → same_object p (step_object a q s) ≡ false → same_object conclusions (steps_object a conditions cases rest) ≡ false
steps_other a p ps q qs s ss conclusions conditions cases rest d e f h = rw (d, e, f) (ap (λ b. b && same_object ps (steps_object a qs ss rest)) h)

-- one fall, and those after it
pub falls_next : (m q p ps s more conclusions substitutions rest : Object) → conclusions ≡ Pair p ps → substitutions ≡ Pair s more → same_object p (fall_object m q s) ≡ true → same_object conclusions (falls_object m q substitutions rest) ≡ same_object ps (falls_object m q more rest)
falls_next m q p ps s more conclusions substitutions rest d e h = rw (d, e) (ap (λ b. b && same_object ps (falls_object m q more rest)) h)

-- the falls of one case, and those of the others
pub all_falls_next : (m q qs s ss conditions cases : Object) → conditions ≡ Pair q qs → cases ≡ Pair s ss → all_falls_object m conditions cases ≡ falls_object m q s (all_falls_object m qs ss)
all_falls_next m q qs s ss conditions cases e f = rw (e, f) refl

pub all_falls_end : (m conditions cases : Object) → is_pair conditions ≡ false → all_falls_object m conditions cases ≡ NIL
all_falls_end m (Natural n) cases h = refl
all_falls_end m (Symbol s) cases h = refl
all_falls_end m (Pair a b) cases h = cc

pub true_from : (x t k v : Object) → x ≡ list3 (symbol "PEQUAL*") t k → k ≡ list2 (symbol "QUOTE") v → v ≡ T → x ≡ true_object t
true_from x t k v d e f = d ∙ ap (list3 (symbol "PEQUAL*") t) (e ∙ ap (list2 (symbol "QUOTE")) f)

-- equal parts make equal tests
pub same_hypotheses : (x y b d a e r s : Object) → x ≡ y → b ≡ d → a ≡ e → r ≡ s → same_object x (disjunction_object (Pair (not_object b) (hypotheses_object a r))) ≡ same_object y (disjunction_object (Pair (not_object d) (hypotheses_object e s)))
same_hypotheses x y b d a e r s p q t u =
    ap (λ z. same_object z (disjunction_object (Pair (not_object b) (hypotheses_object a r)))) p
    ∙ (ap (λ z. same_object y (disjunction_object (Pair (not_object z) (hypotheses_object a r)))) q
    ∙ (ap (λ z. same_object y (disjunction_object (Pair (not_object d) (hypotheses_object z r)))) t ∙ ap (λ z. same_object y (disjunction_object (Pair (not_object d) (hypotheses_object e z)))) u))

pub same_step : (x y a b q r s t : Object) → x ≡ y → a ≡ b → q ≡ r → s ≡ t → same_object x (step_object a q s) ≡ same_object y (step_object b r t)
same_step x y a b q r s t d e f g =
    ap (λ z. same_object z (step_object a q s)) d ∙ (ap (λ z. same_object y (step_object z q s)) e ∙ (ap (λ z. same_object y (step_object b z s)) f ∙ ap (λ z. same_object y (step_object b r z)) g))
