-- What the code tests of a pair is what the pair is.
use Rattle.std.proofs.Common.{rules, ◌≡◌, ℕ, ◌⊎◌, ◌+◌, ◌<◌, Bool, true, false, ◌&&◌, cond, List, [], ◌∷◌, ◌++◌, length, slice_get, length-append, inl, inr, arith, Option, Some, None, is_some, refl, sym, ap, ap₂, ◌∙◌}
use Rattle.mw_model.specs.Terms.Object.{Name, Object, Natural, Symbol, Pair, same_name, same_object, nil_name, NIL}
use Rattle.mw_model.specs.Terms.Term.{ArityTable}
use Rattle.mw_model.proofs.Names.{same_object-eq}
use Rattle.mw_model.specs.Laws.Rules.{is_term_object, is_formula_object}
use Rattle.mw_heap.specs.Objects.{object_at}
use Rattle.mw_term.specs.Marking.{ObjectMark, AreMarks, mark_of_object, term_count, formal_count, is_negation, is_binary}
use Rattle.mw_heap.proofs.Lists.{slice_get-append, slice_get-seam}
use Rattle.mw_term.proofs.Marked.{one_more, term_count-pair, term_count-symbol, is_formula-unary, is_formula-binary, is_negation-marks, is_binary-marks}

earlier_or_last : (j n : ℕ) → j < n + 1 → (j < n) ⊎ (j ≡ n)
earlier_or_last j n h = search (rules, arith)

and_false : (a : Bool) → (a && false) ≡ false
and_false true = refl
and_false false = refl

module _ (A : ArityTable) (head x : Object) where
  pub is_formula-binary_list : (a b z : Object) (first second : ObjectMark) → x ≡ Pair a (Pair b z) → first ≡ mark_of_object A a → second ≡ mark_of_object A b → same_object z NIL ≡ true → is_formula_object A (Pair head x) ≡ is_binary head first second
  is_formula-binary_list a b z first second e h k ends =
      ap (λ y. is_formula_object A (Pair head y)) e ∙ (is_binary-marks A head a b z first second h k ∙ ap (λ t. t && is_binary head first second) ends)

  pub is_formula-negation_list : (a z : Object) (part : ObjectMark) → x ≡ Pair a z → part ≡ mark_of_object A a → same_object z NIL ≡ true → is_formula_object A (Pair head x) ≡ is_negation head part
  is_formula-negation_list a z part e h ends =
      ap (λ y. is_formula_object A (Pair head y)) (e ∙ ap (Pair a) (same_object-eq z NIL ends)) ∙ is_negation-marks A head a nil_name part h

-- a mark by its fields
pub mark_is : (A : ArityTable) (x : Object) (term terms formula head : Bool) → term ≡ is_term_object A x → terms ≡ is_some (term_count A x) → formula ≡ is_formula_object A x → head ≡ is_some (formal_count A x)
    → record { is_term = term; is_terms = terms; is_formula = formula; is_head = head } ≡ mark_of_object A x
mark_is A x term terms formula head e f g h = cc

some_more : (b : Bool) (o : Option ℕ) → is_some (one_more b o) ≡ (b && is_some o)
some_more true None = refl
some_more true (Some n) = refl
some_more false o = refl

pub terms-symbol : (A : ArityTable) (s : Name) → is_some (term_count A (Symbol s)) ≡ same_name s nil_name
terms-symbol A s = ap is_some (term_count-symbol A s) ∙ go (same_name s nil_name)
  where
    go : (b : Bool) → is_some {T = ℕ} (cond b (Some 0) None) ≡ b
    go true = refl
    go false = refl

-- whether a pair is a list of terms
pub terms_of_pair : (A : ArityTable) (a r : Object) (first rest : ObjectMark) → first ≡ mark_of_object A a → rest ≡ mark_of_object A r → (first.is_term && rest.is_terms) ≡ is_some (term_count A (Pair a r))
terms_of_pair A a r first rest e f =
    ap₂ (λ m n. m.is_term && n.is_terms) e f ∙ (sym (some_more (is_term_object A a) (term_count A r)) ∙ ap is_some (sym (term_count-pair A a r)))

-- a pair that begins with a pair is no formula and no head
is_formula-pair_head : (A : ArityTable) (l y r : Object) → is_formula_object A (Pair (Pair l y) r) ≡ false
is_formula-pair_head A l y (Natural n) = refl
is_formula-pair_head A l y (Symbol s) = refl
is_formula-pair_head A l y (Pair a (Natural n)) = refl
is_formula-pair_head A l y (Pair a (Symbol s)) = is_formula-unary A (Pair l y) a s ∙ ap (λ b. b && is_formula_object A a) (and_false (same_name s nil_name))
is_formula-pair_head A l y (Pair a (Pair b z)) = is_formula-binary A (Pair l y) a b z ∙ and_false (same_object z NIL)

formal_count-pair_head : (A : ArityTable) (l y r : Object) → formal_count A (Pair (Pair l y) r) ≡ None
formal_count-pair_head A l y (Natural n) = refl
formal_count-pair_head A l y (Symbol s) = refl
formal_count-pair_head A l y (Pair a (Natural n)) = refl
formal_count-pair_head A l y (Pair a (Symbol s)) = refl
formal_count-pair_head A l y (Pair a (Pair b z)) = refl

pub mark_of_lambda : (A : ArityTable) (l y r : Object) (term terms : Bool) → term ≡ is_term_object A (Pair (Pair l y) r) → terms ≡ is_some (term_count A (Pair (Pair l y) r))
    → record { is_term = term; is_terms = terms; is_formula = false; is_head = false } ≡ mark_of_object A (Pair (Pair l y) r)
mark_of_lambda A l y r term terms e f =
    mark_is A (Pair (Pair l y) r) term terms false false e f (sym (is_formula-pair_head A l y r)) (sym (ap is_some (formal_count-pair_head A l y r)))

-- one more mark
pub AreMarks-push : (A : ArityTable) (os : List Object) (ms : List ObjectMark) (m : ObjectMark) → AreMarks A os ms → length ms < length os → m ≡ mark_of_object A (object_at os (length ms)) → AreMarks A os (ms ++ m ∷ [])
AreMarks-push A os ms m h below e = record {
  within = omega (arith, length-append ms (m ∷ []));
  each = λ i j.
      elim (earlier_or_last i (length ms) (omega (arith, length-append ms (m ∷ [])))) [
        | inl k ↦ slice_get-append ms (m ∷ []) i k ∙ h.each i k
        | inr k ↦ ap (slice_get (ms ++ m ∷ [])) k ∙ (slice_get-seam ms [] m ∙ ap Some (e ∙ ap (λ n. mark_of_object A (object_at os n)) (sym k)))
      ];
}
