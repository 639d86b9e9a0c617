-- What functions of a block owe at their calls, by the names of the called ones.
use Rattle.std.proofs.Common.{◌≡◌, ℕ, zero, suc, ◌<◌, Bool, true, false, ◌||◌, not, cond, eqb, List, [], ◌∷◌, ◌++◌, length, get_or, map, Some, refl, sym, ap, ap₂, ◌∙◌, subst, arith, eqb-true}
use Rattle.std.specs.List.{position}
use Rattle.std.proofs.lemmas.Bool.{and_parts, not-true}
use Rattle.std.proofs.lemmas.List.Quantifiers.{position-Some}
use Rattle.mw_model.specs.Terms.Object.{Name, Object, Natural, Symbol, Pair, same_name}
use Rattle.mw_model.specs.Terms.Term.{Term, Terms, Formula, Or, formula_object, names_object, is_among, are_distinct}
use Rattle.mw_model.specs.Terms.Reading.{term_of, terms_of}
use Rattle.mw_model.specs.Values.Primitive.{name_of}
use Rattle.mw_model.specs.Terms.Substitution.{substitute, actuals_for}
use Rattle.mw_model.specs.Values.Definition.{Function, function_named}
use Rattle.mw_model.specs.Events.Obligation.{Test, IsNotNil, IsNil, Measures, mentions, tested, test_formula, under_tests, ordinal_formula, below_formula, falls, obligation, measure_of}
use Rattle.mw_model.proofs.Names.{same_name-refl}
use Rattle.mw_model.proofs.ReadBack.{some_one, names_back}
use Rattle.mw_model.proofs.Readable.{Readable, ReadableFormula, readable_formula, substitute-readable, actuals_for-readable}
use Rattle.mw_heap.specs.Objects.{object_at}
use Rattle.mw_term.specs.Parts.{names_at}
use Rattle.mw_define.specs.declared.draft.Draft.{Draft as Given}
use Rattle.mw_define.specs.declared.item.FoundCall.{FoundCall}
use Rattle.mw_define.specs.declared.item.Part.TheVariants as part
use Rattle.mw_define.specs.Collecting.{the_term, the_terms, test_of, tests_of, IsTest, AreTests, HasTests, HasNames, IsPartOf, found_calls}
use Rattle.mw_define.specs.Descent.{Owes}
use Rattle.mw_define.specs.Blocks.{function_at, measure_at, functions_at, measures_at, draft_names}
use Rattle.mw_define.specs.Owed.{AreBlock, IsNamed, IsReadBack, owed_at}
use Rattle.mw_define.proofs.ReadTerms.{read-term, read-terms}
use Rattle.mw_define.proofs.UnderTests.{tested-is}
use Rattle.mw_define.proofs.Witnessed.{formals-names}
use Rattle.mw_define.proofs.NestedCalls.{IsOneCall, one-call}
use Rattle.mw_define.proofs.OwedAtCall.{owes-obligation}
use Rattle.mw_define.proofs.Expanding.{expanded-at}

-- what is owed is read back from its object
abbrev AreReadableTests : List Test → Type 0
AreReadableTests [] = Unit {0}
AreReadableTests (t ∷ ts) = Readable (tested t) × AreReadableTests ts

readable-last : (ts : List Test) (t : Test) → AreReadableTests ts → Readable (tested t) → AreReadableTests (ts ++ t ∷ [])
readable-last [] t h i = (i, tt)
readable-last (u ∷ ts) t h i = (h.0, readable-last ts t h.1 i)

test-readable : (x : Object) → IsTest x → Readable (tested (test_of x))
test-readable (Pair kind a) h = subst Readable (sym (tested-is kind a ∙ ap the_term h.1)) (read-term a h.0 h.1)
test-readable (Natural n) h = absurd h
test-readable (Symbol s) h = absurd h

tests-readable : (x : Object) → AreTests x → AreReadableTests (tests_of x)
tests-readable (Pair p rest) h = readable-last (tests_of rest) (test_of p) (tests-readable rest h.1) (test-readable p h.0)
tests-readable (Natural n) h = tt
tests-readable (Symbol s) h = tt

under-readable : (B : List Function) (ts : List Test) (F : Formula) → AreReadableTests ts → ReadableFormula F → ReadableFormula (under_tests B ts F)
under-readable B [] F h i = i
under-readable B (t ∷ ts) F h i = go (mentions B (tested t)) t h.0 (under-readable B ts F h.1 i)
  where
    fails-readable : (t : Test) → Readable (tested t) → ReadableFormula (test_formula t)
    fails-readable (IsNotNil a) k = (k, tt)
    fails-readable (IsNil a) k = (k, tt)

    go : (b : Bool) (t : Test) → Readable (tested t) → ReadableFormula (under_tests B ts F) → ReadableFormula (cond b (under_tests B ts F) (Or (test_formula t) (under_tests B ts F)))
    go true t k r = r
    go false t k r = (fails-readable t k, r)

below-readable : (a b : Term) → Readable a → Readable b → ReadableFormula (below_formula a b)
below-readable a b i j = ((refl, (i, (j, tt))), tt)

pub ordinal-read : (x : Object) (m : Term) → term_of x ≡ Some m → IsReadBack (ordinal_formula m)
ordinal-read x m h = readable_formula (ordinal_formula m) ((refl, (read-term x m h, tt)), tt)

obligation-read : (B : List Function) (x y z : Object) (xs : List Name) (ts : Terms) (lower m : Term) → AreTests x → terms_of y ≡ Some ts → Readable lower → term_of z ≡ Some m → IsReadBack (under_tests B (tests_of x) (below_formula (substitute (actuals_for xs ts) lower) m))
obligation-read B x y z xs ts lower m t k l h =
    let F = below_formula (substitute (actuals_for xs ts) lower) m in
    readable_formula (under_tests B (tests_of x) F)
    (under-readable B (tests_of x) F (tests-readable x t) (below-readable (substitute (actuals_for xs ts) lower) m (substitute-readable (actuals_for xs ts) (actuals_for-readable xs ts (read-terms y ts k)) lower l) (read-term z m h)))

module _ (os : List Object) where
  pub has-names : (es : List Given) (rs : List ℕ) → rs ≡ draft_names es → HasNames (functions_at os es) (names_at os rs)
  has-names es rs e = go es ∙ ap (names_at os) (sym e)
    where
      go : (es : List Given) → map (λ h. h.name) (functions_at os es) ≡ names_at os (draft_names es)
      go [] = refl
      go (d ∷ es) = ap (λ l. name_of (object_at os d.name) ∷ l) (go es)

  or-parts : (a b : Bool) → (a || b) ≡ false → (a ≡ false) × (b ≡ false)
  or-parts true b h = cc
  or-parts false b h = (refl, h)

  apart : (x : Name) (es : List Given) (i : ℕ) (d : Given) → is_among x (names_at os (draft_names es)) ≡ false → i < length es → same_name x (name_of (object_at os (get_or es i d).name)) ≡ false
  apart x [] i d h l = absurd (omega arith)
  apart x (e ∷ es) zero d h l = (or-parts (same_name x (name_of (object_at os e.name))) (is_among x (names_at os (draft_names es))) h).0
  apart x (e ∷ es) (suc i) d h l = apart x es i d (or-parts (same_name x (name_of (object_at os e.name))) (is_among x (names_at os (draft_names es))) h).1 (omega arith)

  -- the function at some place is the one that has its name
  pub named-at : (es : List Given) (rs : List ℕ) (i : ℕ) (d : Given) → AreBlock os rs es → i < length es → d ≡ get_or es i d → IsNamed os es d.name d
  named-at es rs i d b l is = record {
    same = refl;
    expanded = expanded-at os es i d b.expanded l is;
    function = subst (λ e. function_named (functions_at os es) (name_of (object_at os e.name)) ≡ Some (function_at os e)) (sym is) (go es i distinct l).0;
    measure = subst (λ e. measure_of (measures_at os es) (name_of (object_at os e.name)) ≡ measure_at os e) (sym is) (go es i distinct l).1;
  }
    where
      distinct : are_distinct (names_at os (draft_names es)) ≡ true
      distinct = ap (λ l. are_distinct (names_at os l)) (sym b.refs) ∙ b.distinct

      go : (es : List Given) (i : ℕ) → are_distinct (names_at os (draft_names es)) ≡ true → i < length es → (function_named (functions_at os es) (name_of (object_at os (get_or es i d).name)) ≡ Some (function_at os (get_or es i d))) × (measure_of (measures_at os es) (name_of (object_at os (get_or es i d).name)) ≡ measure_at os (get_or es i d))
      go [] i h l = absurd (omega arith)
      go (e ∷ es) zero h l =
          let x = name_of (object_at os e.name) in
          (ap (λ b. cond b (Some (function_at os e)) (function_named (functions_at os es) x)) (same_name-refl x), ap (λ b. cond b (measure_at os e) (measure_of (measures_at os es) x)) (same_name-refl x))
      go (e ∷ es) (suc i) h l =
          let x = name_of (object_at os e.name) in
          let y = name_of (object_at os (get_or es i d).name) in
          let p = and_parts (not (is_among x (names_at os (draft_names es)))) (are_distinct (names_at os (draft_names es))) h in
          let other = apart x es i d (not-true (is_among x (names_at os (draft_names es))) p.0) (omega arith) in
          let k = go es i p.1 (omega arith) in
          (ap (λ b. cond b (Some (function_at os e)) (function_named (functions_at os es) y)) other ∙ k.0, ap (λ b. cond b (measure_at os e) (measure_of (measures_at os es) y)) other ∙ k.1)

  -- a name's place among the names is that of its function
  name-at : (es : List Given) (i : ℕ) (d : Given) (r : ℕ) → i < length (draft_names es) → get_or (draft_names es) i r ≡ (get_or es i d).name
  name-at [] i d r l = absurd (omega arith)
  name-at (e ∷ es) zero d r l = refl
  name-at (e ∷ es) (suc i) d r l = name-at es i d r (omega arith)

  length-names : (es : List Given) → length (draft_names es) ≡ length es
  length-names [] = refl
  length-names (e ∷ es) = ap suc (length-names es)

  pub place-within : (es : List Given) (rs : List ℕ) (r i : ℕ) → rs ≡ draft_names es → position (eqb r) rs ≡ Some i → i < length es
  place-within es rs r i e h = let p = position-Some (eqb r) rs i r h in omega (arith, p.0, ap length e, length-names es)

  pub named-place : (es : List Given) (rs : List ℕ) (r i : ℕ) (d : Given) → AreBlock os rs es → position (eqb r) rs ≡ Some i → d ≡ get_or es i d → IsNamed os es r d
  named-place es rs r i d b h is =
      let p = position-Some (eqb r) rs i r h in
      let below : i < length (draft_names es) = omega (arith, p.0, ap length b.refs) in
      let one : d.name ≡ r = ap (λ e. e.name) is ∙ (sym (name-at es i d r below) ∙ (ap (λ l. get_or l i r) (sym b.refs) ∙ sym (eqb-true r (get_or rs i r) p.1))) in
      subst (λ q. IsNamed os es q d) one (named-at es rs i d b (place-within es rs r i b.refs h) is)

  -- what a found call owes
  module _ (es : List Given) (rs : List ℕ) (b : AreBlock os rs es) (function called : Given) (f : FoundCall) (n : IsNamed os es function.name function) (c : IsNamed os es f.name called) (h : IsPartOf os (names_at os rs) (part.Call f.name f.actuals)) (t : HasTests os f.tests) where
    abbrev B : List Function
    B = functions_at os es

    abbrev M : Measures
    M = measures_at os es

    abbrev one : IsOneCall B os f
    one = one-call B os (names_at os rs) f (has-names es rs b.refs) h

    is_called : one.call.function ≡ function_at os called
    is_called = some_one (sym one.named ∙ c.function)

    formals_are : object_at os called.formals ≡ names_object one.call.function.formals
    formals_are =
        let k = function_at os called in
        sym (names_back (object_at os called.formals) k.formals (formals-names (object_at os called.formals) k.formals c.expanded.formals))
        ∙ ap (λ g. names_object g.formals) (sym is_called)

    measure_is : term_of (object_at os called.measure) ≡ Some (measure_of M one.call.function.name)
    measure_is =
        c.expanded.measure
        ∙ ap Some (sym c.measure ∙ (ap (λ q. measure_of M (name_of (object_at os q))) (sym c.same) ∙ ap (λ g. measure_of M g.name) (sym is_called)))

    own_measure : term_of (object_at os function.measure) ≡ Some (measure_of M (function_at os function).name)
    own_measure = n.expanded.measure ∙ ap Some (sym n.measure)

    abbrev pub the_formula : Formula
    the_formula = obligation B M (function_at os function) one.call

    pub one-formula : owed_at os es function (found_calls B os (f ∷ [])) ≡ the_formula ∷ []
    one-formula = ap (λ l. owed_at os es function (l ++ [])) one.calls

    pub formula-is : (x : Object) → Owes (names_at os rs) os called.formals called.measure f.actuals function.measure f.tests x → x ≡ formula_object the_formula
    formula-is x owes = owes-obligation B (names_at os rs) os M (function_at os function) f called.formals called.measure function.measure h.4 x (has-names es rs b.refs) one h.5 formals_are measure_is own_measure owes

    pub formula-read : IsReadBack the_formula
    formula-read =
        subst IsReadBack (ap₂ (λ T us. under_tests B T (falls M (function_at os function) one.call.function us)) (sym one.tests) (sym (one.actuals ∙ ap the_terms h.5)))
        (obligation-read B (object_at os f.tests) (object_at os f.actuals) (object_at os function.measure) one.call.function.formals h.4 (measure_of M one.call.function.name) (measure_of M (function_at os function).name) t.1 h.5 (read-term (object_at os called.measure) (measure_of M one.call.function.name) measure_is) own_measure)
