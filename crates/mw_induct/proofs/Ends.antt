-- Where the conditions end the cases must end.
use Rattle.std.proofs.Common.{◌≡◌, ℕ, ◌+◌, Bool, true, false, ◌&&◌, eqb, refl, sym, ap, ap₂, ◌∙◌, one-add}
use Rattle.mw_model.specs.Terms.Object.{Object, Natural, Symbol, Pair, NIL, same_object, list3, car, second_of, third_of, has_members}
use Rattle.mw_model.specs.Terms.Term.{ArityTable}
use Rattle.mw_model.specs.Laws.Rules.{is_substitution_object}
use Rattle.mw_model.specs.Laws.RulesInduction.{is_list_object, length_object, are_substitution_objects, are_case_objects, premises_object, object_is_induction}
use Rattle.std.proofs.Math.Dec.{eqb-zero-suc, eqb-suc-zero, eqb-suc-suc}
use Rattle.std.proofs.Math.Bool.{and-false}
use Rattle.mw_model.specs.Values.Primitive.{is_pair}
use Rattle.std.proofs.lemmas.Bool.{and_parts, and_left, and_right}
use Rattle.mw_subst.proofs.PairLists.{substitution_pairs}
use Rattle.mw_induct.specs.Pairs.{are_lists_of_pairs, are_cases_of_pairs}

none_and_more : (n : ℕ) → eqb 0 (1 + n) ≡ false
none_and_more n = ap (eqb 0) (one-add n) ∙ eqb-zero-suc n

cases_end-nil : (A : ArityTable) (s : Object) → (eqb 0 (length_object s) && are_case_objects A s) ≡ same_object s NIL
cases_end-nil A (Natural n) = refl
cases_end-nil A (Symbol s) = refl
cases_end-nil A (Pair a b) = ap (λ t. t && are_case_objects A (Pair a b)) (none_and_more (length_object b))

pub cases_end : (A : ArityTable) (q s : Object) → q ≡ NIL → (is_list_object q && (eqb (length_object q) (length_object s) && are_case_objects A s)) ≡ same_object s NIL
cases_end A q s e = ap (λ y. is_list_object y && (eqb (length_object y) (length_object s) && are_case_objects A s)) e ∙ cases_end-nil A s

pub substitutions_end : (A : ArityTable) (x : Object) → is_pair x ≡ false → are_substitution_objects A x ≡ same_object x NIL
substitutions_end A (Natural n) h = refl
substitutions_end A (Symbol s) h = refl
substitutions_end A (Pair a b) h = cc

-- a condition and its case, and those after them
more_and_none : (n : ℕ) → eqb (1 + n) 0 ≡ false
more_and_none n = ap (λ k. eqb k 0) (one-add n) ∙ eqb-suc-zero n

more_and_more : (m n : ℕ) → eqb (1 + m) (1 + n) ≡ eqb m n
more_and_more m n = ap₂ eqb (one-add m) (one-add n) ∙ eqb-suc-suc m n

abbrev pub are_data : ArityTable → Object → Object → Bool
are_data A q s = is_list_object q && (eqb (length_object q) (length_object s) && are_case_objects A s)

and_swap : (a b c d : Bool) → (a && (b && (c && d))) ≡ (c && (a && (b && d)))
and_swap true true c d = refl
and_swap true false true d = refl
and_swap true false false d = refl
and_swap false b true d = refl
and_swap false b false d = refl

pub are_data-next : (A : ArityTable) (q s c qs ss rest : Object) → q ≡ Pair c qs → s ≡ Pair ss rest → are_data A q s ≡ (are_substitution_objects A ss && are_data A qs rest)
are_data-next A q s c qs ss rest e f =
    ap₂ (are_data A) e f
    ∙ (ap (λ b. is_list_object qs && (b && (are_substitution_objects A ss && are_case_objects A rest))) (more_and_more (length_object qs) (length_object rest))
    ∙ and_swap (is_list_object qs) (eqb (length_object qs) (length_object rest)) (are_substitution_objects A ss) (are_case_objects A rest))

pub are_data-uneven : (A : ArityTable) (q s c qs : Object) → q ≡ Pair c qs → is_pair s ≡ false → are_data A q s ≡ false
are_data-uneven A q (Natural n) c qs e h = ap (λ y. are_data A y (Natural n)) e ∙ (ap (λ b. is_list_object qs && (b && false)) (more_and_none (length_object qs)) ∙ and-false (is_list_object qs))
are_data-uneven A q (Symbol n) c qs e h = ap (λ y. are_data A y (Symbol n)) e ∙ (ap (λ b. is_list_object qs && (b && are_case_objects A (Symbol n))) (more_and_none (length_object qs)) ∙ and-false (is_list_object qs))
are_data-uneven A q (Pair a b) c qs e h = cc

-- conditions that end in no NIL
pub are_data-improper : (A : ArityTable) (q s : Object) → is_pair q ≡ false → same_object q NIL ≡ false → are_data A q s ≡ false
are_data-improper A (Natural n) s h k = refl
are_data-improper A (Symbol n) s h k = ap (λ b. b && (eqb 0 (length_object s) && are_case_objects A s)) k
are_data-improper A (Pair a b) s h k = cc

-- substitutions are lists of pairs
pub substitutions_pairs : (A : ArityTable) (x : Object) → are_substitution_objects A x ≡ true → are_lists_of_pairs x ≡ true
substitutions_pairs A (Natural n) h = refl
substitutions_pairs A (Symbol s) h = refl
substitutions_pairs A (Pair s r) h =
    let p = and_parts (is_substitution_object A s) (are_substitution_objects A r) h in
    rw (substitution_pairs A s p.0) (substitutions_pairs A r p.1)

pub cases_pairs : (A : ArityTable) (x : Object) → are_case_objects A x ≡ true → are_cases_of_pairs x ≡ true
cases_pairs A (Natural n) h = refl
cases_pairs A (Symbol s) h = refl
cases_pairs A (Pair s r) h =
    let p = and_parts (are_substitution_objects A s) (are_case_objects A r) h in
    rw (substitutions_pairs A s p.0) (cases_pairs A r p.1)

and_three : (a b c d : Bool) → (a && (b && c)) ≡ true → (a && (b && (c && d))) ≡ d
and_three true true true d h = refl
and_three true true false d h = cc
and_three true false c d h = cc
and_three false b c d h = cc

-- the tests of the data, and that of the premises, make the rule
pub object_is_induction-from : (A : ArityTable) (c ps x m q s : Object) → x ≡ list3 m q s → (is_list_object q && (eqb (length_object q) (length_object s) && are_case_objects A s)) ≡ true → same_object ps (premises_object c m q s) ≡ object_is_induction A c ps x
object_is_induction-from A c ps x m q s e h =
    sym (ap (object_is_induction A c ps) e ∙ and_three (is_list_object q) (eqb (length_object q) (length_object s)) (are_case_objects A s) (same_object ps (premises_object c m q s)) h)

and_three-false : (a b c d : Bool) → (a && (b && c)) ≡ false → (a && (b && (c && d))) ≡ false
and_three-false true true c d h = and_left c d h
and_three-false true false c d h = refl
and_three-false false b c d h = refl

pub no_induction-data : (A : ArityTable) (c ps x m q s : Object) → x ≡ list3 m q s → are_data A q s ≡ false → false ≡ object_is_induction A c ps x
no_induction-data A c ps x m q s e h =
    sym (ap (object_is_induction A c ps) e ∙ and_three-false (is_list_object q) (eqb (length_object q) (length_object s)) (are_case_objects A s) (same_object ps (premises_object c m q s)) h)

-- no premises of any data
pub no_induction-premises : (A : ArityTable) (c ps x : Object) → ((m q s : Object) → same_object ps (premises_object c m q s) ≡ false) → false ≡ object_is_induction A c ps x
no_induction-premises A c ps x h =
    let q = second_of x in
    let s = third_of x in
    sym (and_right (has_members 3 x) _ (and_right (is_list_object q) _ (and_right (eqb (length_object q) (length_object s)) _ (and_right (are_case_objects A s) _ (h (car x) q s)))))

pub data_pairs : (A : ArityTable) (q s : Object) → true ≡ (is_list_object q && (eqb (length_object q) (length_object s) && are_case_objects A s)) → are_cases_of_pairs s ≡ true
data_pairs A q s h = cases_pairs A s (and_parts (eqb (length_object q) (length_object s)) (are_case_objects A s) (and_parts (is_list_object q) _ (sym h)).1).1
