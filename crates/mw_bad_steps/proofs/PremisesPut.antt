-- Premises that are put one after another.
use Rattle.std.proofs.Common.{◌≡◌, ℕ, ◌<◌, arith, true, false, List, [], ◌∷◌, ◌++◌, map, length, All, refl, sym, ap, ap₂, ◌∙◌, subst, append_assoc}
use Rattle.std.proofs.lemmas.Bool.{and_parts}
use Rattle.std.proofs.lemmas.List.{append-nil}
use Rattle.mw_model.specs.Terms.Object.{Object, Natural, Symbol, Pair, NIL, car, cdr}
use Rattle.mw_model.specs.Values.Primitive.{is_pair}
use Rattle.mw_model.specs.Laws.Rules.{or_object, not_object, substitute_formula_object}
use Rattle.mw_model.specs.Laws.RulesInduction.{disjunction_object, hypotheses_object, steps_object, ordinal_object, fall_object, falls_object, all_falls_object, premises_object}
use Rattle.mw_heap.specs.Objects.{object_at, IsIn, Grows}
use Rattle.mw_heap.proofs.Objects.{IsIn-Grows, object_at-Grows}
use Rattle.mw_subst.specs.Pairs.{is_list_of_pairs}
use Rattle.mw_induct.specs.Pairs.{are_lists_of_pairs, are_cases_of_pairs}
use Rattle.mw_commands.specs.Commands.ExplanationSteps.{listed}
use Rattle.mw_bad_steps.specs.Members.{members_in}
use Rattle.mw_bad_steps.specs.Premises.{PutsObjects}
use Rattle.mw_heap.specs.Lists.{list_object}
use Rattle.mw_bad_steps.proofs.ShownMore.{Shows-grows, Shows-push, list_object-listed}

-- one more is put, in a heap that grew
pub put_next : (cur new : List Object) (items : List ℕ) (r : ℕ) (x : Object) (ys whole : List Object) → Grows cur new → All (IsIn cur) items → map (object_at cur) items ++ x ∷ ys ≡ whole → IsIn new r → object_at new r ≡ x → All (IsIn new) (items ++ r ∷ []) × (map (object_at new) (items ++ r ∷ []) ++ ys ≡ whole)
put_next cur new items r x ys whole g h e i f =
    let s = Shows-push new items (map (object_at cur) items) r x (Shows-grows cur new items (map (object_at cur) items) g (h, refl)) i f in
    (s.0, ap (λ zs. zs ++ ys) s.1 ∙ (append_assoc (map (object_at cur) items) (x ∷ []) ys ∙ e))

-- the same of what another call put
pub put_others : (cur new : List Object) (items has : List ℕ) (xs ys whole : List Object) → PutsObjects cur new items has xs → map (object_at cur) items ++ (xs ++ ys) ≡ whole → All (IsIn new) has × (map (object_at new) has ++ ys ≡ whole)
put_others cur new items has xs ys whole p e = (p.0, ap (λ zs. zs ++ ys) p.1 ∙ (append_assoc (map (object_at cur) items) xs ys ∙ e))

pub put_all : (os new : List Object) (had has : List ℕ) (xs : List Object) → All (IsIn new) has → map (object_at new) has ++ [] ≡ map (object_at os) had ++ xs → PutsObjects os new had has xs
put_all os new had has xs h e = (h, sym (append-nil (map (object_at new) has)) ∙ e)

-- what follows what was put
pub PutsObjects-then : (os mid new : List Object) (had some has : List ℕ) (xs ys : List Object) → PutsObjects os mid had some xs → PutsObjects mid new some has ys → PutsObjects os new had has (xs ++ ys)
PutsObjects-then os mid new had some has xs ys p q = (q.0, q.1 ∙ (ap (λ zs. zs ++ ys) p.1 ∙ append_assoc (map (object_at os) had) xs ys))

-- ---- lists of pairs

pub first_pairs : (y s r : Object) → y ≡ Pair s r → are_lists_of_pairs y ≡ true → (is_list_of_pairs s ≡ true) × (are_lists_of_pairs r ≡ true)
first_pairs y s r e h = and_parts (is_list_of_pairs s) (are_lists_of_pairs r) (ap are_lists_of_pairs (sym e) ∙ h)

pub case_pairs : (y : Object) → are_cases_of_pairs y ≡ true → (are_lists_of_pairs (car y) ≡ true) × (are_cases_of_pairs (cdr y) ≡ true)
case_pairs (Natural n) h = (refl, refl)
case_pairs (Symbol s) h = (refl, refl)
case_pairs (Pair s r) h = and_parts (are_lists_of_pairs s) (are_cases_of_pairs r) h

abbrev pub step_object : Object → Object → Object → Object
step_object a q ss = disjunction_object (Pair a (Pair (not_object q) (hypotheses_object a ss)))

-- ---- ends

pub no_members : (y : Object) → is_pair y ≡ false → members_in y ≡ []
no_members (Natural n) h = refl
no_members (Symbol s) h = refl
no_members (Pair a b) h = cc

pub no_hypotheses : (a y : Object) → is_pair y ≡ false → members_in (hypotheses_object a y) ≡ []
no_hypotheses a (Natural n) h = refl
no_hypotheses a (Symbol s) h = refl
no_hypotheses a (Pair x y) h = cc

pub no_steps : (a y ss : Object) → is_pair y ≡ false → members_in (steps_object a y ss NIL) ≡ []
no_steps a (Natural n) ss h = refl
no_steps a (Symbol s) ss h = refl
no_steps a (Pair x y) ss h = cc

pub no_falls : (m q y : Object) → is_pair y ≡ false → members_in (falls_object m q y NIL) ≡ []
no_falls m q (Natural n) h = refl
no_falls m q (Symbol s) h = refl
no_falls m q (Pair x y) h = cc

pub no_more_falls : (m y ss : Object) → is_pair y ≡ false → members_in (all_falls_object m y ss) ≡ []
no_more_falls m (Natural n) ss h = refl
no_more_falls m (Symbol s) ss h = refl
no_more_falls m (Pair x y) ss h = cc

-- ---- whole lists

falls_members : (m q ss rest : Object) → members_in (falls_object m q ss rest) ≡ members_in (falls_object m q ss NIL) ++ members_in rest
falls_members m q (Natural n) rest = refl
falls_members m q (Symbol s) rest = refl
falls_members m q (Pair s r) rest = ap (λ ys. fall_object m q s ∷ ys) (falls_members m q r rest)

pub next_falls : (m y q qs ss : Object) → y ≡ Pair q qs → members_in (all_falls_object m y ss) ≡ members_in (falls_object m q (car ss) NIL) ++ members_in (all_falls_object m qs (cdr ss))
next_falls m y q qs ss e = ap (λ z. members_in (all_falls_object m z ss)) e ∙ falls_members m q (car ss) (all_falls_object m qs (cdr ss))

pub hypotheses_listed : (a ss : Object) → listed (members_in (hypotheses_object a ss)) ≡ hypotheses_object a ss
hypotheses_listed a (Natural n) = refl
hypotheses_listed a (Symbol s) = refl
hypotheses_listed a (Pair s r) = ap (Pair (not_object (substitute_formula_object s a))) (hypotheses_listed a r)

pub disjunction_listed : (a qs : Object) → disjunction_object (Pair a (listed (members_in qs))) ≡ disjunction_object (Pair a qs)
disjunction_listed a (Natural n) = refl
disjunction_listed a (Symbol s) = refl
disjunction_listed a (Pair q r) = ap (or_object a) (disjunction_listed q r)

falls_listed : (m q ss : Object) (rest : Object) → listed (members_in (falls_object m q ss rest)) ≡ falls_object m q ss (listed (members_in rest))
falls_listed m q (Natural n) rest = refl
falls_listed m q (Symbol s) rest = refl
falls_listed m q (Pair s r) rest = ap (Pair (fall_object m q s)) (falls_listed m q r rest)

all_falls_listed : (m qs ss : Object) → listed (members_in (all_falls_object m qs ss)) ≡ all_falls_object m qs ss
all_falls_listed m (Natural n) ss = refl
all_falls_listed m (Symbol s) ss = refl
all_falls_listed m (Pair q qs) ss = falls_listed m q (car ss) (all_falls_object m qs (cdr ss)) ∙ ap (falls_object m q (car ss)) (all_falls_listed m qs (cdr ss))

steps_listed : (a qs ss : Object) (xs : List Object) (rest : Object) → listed xs ≡ rest → listed (members_in (steps_object a qs ss NIL) ++ xs) ≡ steps_object a qs ss rest
steps_listed a (Natural n) ss xs rest e = e
steps_listed a (Symbol s) ss xs rest e = e
steps_listed a (Pair q qs) ss xs rest e = ap (Pair (step_object a q (car ss))) (steps_listed a qs (cdr ss) xs rest e)

pub premises_listed : (a m qs ss : Object) → listed ((disjunction_object (Pair a qs) ∷ members_in (steps_object a qs ss NIL)) ++ (ordinal_object m ∷ members_in (all_falls_object m qs ss))) ≡ premises_object a m qs ss
premises_listed a m qs ss =
    ap (Pair (disjunction_object (Pair a qs))) (steps_listed a qs ss (ordinal_object m ∷ members_in (all_falls_object m qs ss)) (Pair (ordinal_object m) (all_falls_object m qs ss)) (ap (Pair (ordinal_object m)) (all_falls_listed m qs ss)))

-- ---- parts of what stood in the heap before it grew

-- the conditions and the lists of substitutions that are left
pub record AreLeft (os : List Object) (conditions cases : ℕ) : Type 0 where
  pub conditions_in : IsIn os conditions
  pub cases_in : IsIn os cases
  pub pairs : are_cases_of_pairs (object_at os cases) ≡ true

module _ (os cur : List Object) (g : Grows os cur) where
  pub next_part : (rest s more : ℕ) → IsIn os rest → s < rest → more < rest → object_at cur rest ≡ Pair (object_at cur s) (object_at cur more) → IsIn os s × IsIn os more × (object_at os rest ≡ Pair (object_at os s) (object_at os more))
  next_part rest s more i l m e =
      let in_s : IsIn os s = omega (arith, l, i) in
      let in_more : IsIn os more = omega (arith, m, i) in
      (in_s, in_more, sym (object_at-Grows os cur g rest i) ∙ (e ∙ ap₂ Pair (object_at-Grows os cur g s in_s) (object_at-Grows os cur g more in_more)))

  -- the substitutions of the first of the cases
  pub first_in : (cases ss others nil : ℕ) → IsIn os cases → IsIn os nil → ((n : ℕ) → cases < n → nil < n → (ss < n) × (others < n)) → IsIn cur ss
  first_in cases ss others nil j k below = IsIn-Grows os cur g ss (below (length os) j k).0

  -- the next condition q with its substitutions ss, and what is left of both lists
  pub record IsNextCase (conditions cases q more ss others : ℕ) : Type 0 where
    pub condition_in : IsIn os q
    pub conditions_are : object_at os conditions ≡ Pair (object_at os q) (object_at os more)
    pub substitutions_in : IsIn os ss
    pub substitutions_are : object_at cur ss ≡ car (object_at os cases)
    pub cases_are : object_at os others ≡ cdr (object_at os cases)
    pub left : AreLeft os more others

  pub next_case : (conditions cases q more ss others nil : ℕ) → AreLeft os conditions cases → q < conditions → more < conditions → object_at cur conditions ≡ Pair (object_at cur q) (object_at cur more) → IsIn os nil → ((n : ℕ) → cases < n → nil < n → (ss < n) × (others < n)) → object_at cur ss ≡ car (object_at cur cases) → object_at cur others ≡ cdr (object_at cur cases) → IsNextCase conditions cases q more ss others
  next_case conditions cases q more ss others nil left l m e k below f r =
      let part = next_part conditions q more left.conditions_in l m e in
      let here = object_at-Grows os cur g cases left.cases_in in
      let in_os = below (length os) left.cases_in k in
      let rest = sym (object_at-Grows os cur g others in_os.1) ∙ (r ∙ ap cdr here) in
      record {
        condition_in = part.0;
        conditions_are = part.2;
        substitutions_in = in_os.0;
        substitutions_are = f ∙ ap car here;
        cases_are = rest;
        left = record { conditions_in = part.1; cases_in = in_os.1; pairs = ap are_cases_of_pairs rest ∙ (case_pairs (object_at os cases) left.pairs).1 };
      }

  pub same_fall : (m q s : ℕ) → IsIn os m → IsIn os q → IsIn os s → fall_object (object_at cur m) (object_at cur q) (object_at cur s) ≡ fall_object (object_at os m) (object_at os q) (object_at os s)
  same_fall m q s i j k =
      ap₂ (λ x y. fall_object x y (object_at cur s)) (object_at-Grows os cur g m i) (object_at-Grows os cur g q j) ∙ ap (fall_object (object_at os m) (object_at os q)) (object_at-Grows os cur g s k)

  pub same_hypothesis : (a s : ℕ) → IsIn os a → IsIn os s → not_object (substitute_formula_object (object_at cur s) (object_at cur a)) ≡ not_object (substitute_formula_object (object_at os s) (object_at os a))
  same_hypothesis a s i j = ap₂ (λ x y. not_object (substitute_formula_object x y)) (object_at-Grows os cur g s j) (object_at-Grows os cur g a i)

  pub same_step : (a q s : ℕ) (y : Object) → IsIn os a → IsIn os q → object_at cur s ≡ y → step_object (object_at cur a) (object_at cur q) (object_at cur s) ≡ step_object (object_at os a) (object_at os q) y
  same_step a q s y i j e =
      ap₂ (λ x z. step_object x z (object_at cur s)) (object_at-Grows os cur g a i) (object_at-Grows os cur g q j) ∙ ap (step_object (object_at os a) (object_at os q)) e

  pub same_falls : (m q s : ℕ) (y : Object) → IsIn os m → IsIn os q → object_at cur s ≡ y → members_in (falls_object (object_at cur m) (object_at cur q) (object_at cur s) NIL) ≡ members_in (falls_object (object_at os m) (object_at os q) y NIL)
  same_falls m q s y i j e =
      ap₂ (λ x z. members_in (falls_object x z (object_at cur s) NIL)) (object_at-Grows os cur g m i) (object_at-Grows os cur g q j) ∙ ap (λ z. members_in (falls_object (object_at os m) (object_at os q) z NIL)) e

-- one is put in a heap that grew
pub puts_one : (os mid : List Object) (had has : List ℕ) (r : ℕ) (x : Object) → Grows os mid → All (IsIn os) had → IsIn mid r → object_at mid r ≡ x → has ≡ had ++ r ∷ [] → PutsObjects os mid had has (x ∷ [])
puts_one os mid had has r x g h i e d =
    let s = Shows-push mid had (map (object_at os) had) r x (Shows-grows os mid had (map (object_at os) had) g (h, refl)) i e in
    (subst (All (IsIn mid)) (sym d) s.0, ap (map (object_at mid)) d ∙ s.1)

-- one is put, and then what another call puts
pub puts_first : (os mid new : List Object) (had some has : List ℕ) (r : ℕ) (x : Object) (ys zs : List Object) → Grows os mid → All (IsIn os) had → IsIn mid r → object_at mid r ≡ x → some ≡ had ++ r ∷ [] → zs ≡ ys → PutsObjects mid new some has zs → PutsObjects os new had has (x ∷ ys)
puts_first os mid new had some has r x ys zs g h i e d same p =
    PutsObjects-then os mid new had some has (x ∷ []) ys (puts_one os mid had some r x g h i e d) (subst (PutsObjects mid new some has) same p)

-- what is put is of the same objects
module _ (os cur : List Object) (g : Grows os cur) where
  pub same_three : {X : Type 0} (f : Object → Object → Object → X) (a b c : ℕ) → IsIn os a → IsIn os b → IsIn os c → f (object_at cur a) (object_at cur b) (object_at cur c) ≡ f (object_at os a) (object_at os b) (object_at os c)
  same_three f a b c i j k =
      ap₂ (λ x y. f x y (object_at cur c)) (object_at-Grows os cur g a i) (object_at-Grows os cur g b j) ∙ ap (f (object_at os a) (object_at os b)) (object_at-Grows os cur g c k)

-- the list of references that were put
pub listed_objects : (os new : List Object) (had has : List ℕ) (xs : List Object) → had ≡ [] → PutsObjects os new had has xs → list_object new has ≡ listed xs
listed_objects os new had has xs e p = list_object-listed new has xs (p.1 ∙ ap (λ l. map (object_at os) l ++ xs) e)

-- what was put on nothing
pub base_listed : (os : List Object) (had one has : List ℕ) (a : ℕ) (xs : List Object) → had ≡ [] → one ≡ had ++ a ∷ [] → PutsObjects os os one has xs → list_object os has ≡ Pair (object_at os a) (listed xs)
base_listed os had one has a xs e d p =
    let first : one ≡ a ∷ [] = d ∙ ap (λ l. l ++ a ∷ []) e in
    list_object-listed os has (object_at os a ∷ xs) (p.1 ∙ ap (λ l. map (object_at os) l ++ xs) first)

pub step_listed : (mid new : List Object) (had one two has : List ℕ) (a n : ℕ) (xs : List Object) → had ≡ [] → one ≡ had ++ a ∷ [] → two ≡ one ++ n ∷ [] → PutsObjects mid new two has xs → list_object new has ≡ Pair (object_at mid a) (Pair (object_at mid n) (listed xs))
step_listed mid new had one two has a n xs e d f p =
    let first : one ≡ a ∷ [] = d ∙ ap (λ l. l ++ a ∷ []) e in
    let both : two ≡ a ∷ n ∷ [] = f ∙ ap (λ l. l ++ n ∷ []) first in
    list_object-listed new has (object_at mid a ∷ object_at mid n ∷ xs) (p.1 ∙ ap (λ l. map (object_at mid) l ++ xs) both)
