-- An object has the form of a term, of terms or of a formula where its parts have theirs.
use Rattle.std.proofs.Common.{◌≡◌, ℕ, ◌+◌, ◌<◌, Bool, true, false, ◌&&◌, not, cond, List, [], ◌∷◌, ◌++◌, Option, Some, None, is_some, option_map, refl, sym, ap, ◌∙◌, subst, arith, zero-add, append_assoc}
use Rattle.std.proofs.lemmas.List.{append-nil}
use Rattle.std.proofs.Math.Bool.{and-true, and-false}
use Rattle.std.proofs.lemmas.List.Folds.{list_all-append}
use Rattle.mw_model.specs.Terms.Object.{Name, Object, Natural, Symbol, Pair, named, symbol, same_name, same_object, nil_name, NIL, list2, list3, has_members, weight}
use Rattle.mw_model.specs.Terms.Term.{Term, Terms, NoTerms, More, Call, Formula, Equal, Not, Or, term_object, formula_object}
use Rattle.mw_model.specs.Terms.Reading.{names_of, term_of, terms_of, formula_of, map2, if_nil, call_of, if_of, lambda_of, constant_of}
use Rattle.mw_model.specs.Values.Primitive.{is_symbol, is_pair}
use Rattle.mw_model.proofs.Names.{same_object-from, same_object-eq, same_object-refl}
use Rattle.mw_model.proofs.ReadBack.{terms_back, formula_back}
use Rattle.mw_heap.specs.Objects.{object_at}
use Rattle.mw_bad_steps.specs.declared.form.Form.{Form}
use Rattle.mw_bad_steps.specs.Forms.{reference, has_form, have_forms, IsFormIn, AreFormsIn, forms_weight, IsEntered, are_names}

pub some_both : {X Y Z : Type 0} (f : X → Y → Z) (a : Option X) (b : Option Y) → is_some (map2 f a b) ≡ (is_some a && is_some b)
some_both f None b = refl
some_both f (Some x) None = refl
some_both f (Some x) (Some y) = refl

some_map : {X Y : Type 0} (f : X → Y) (a : Option X) → is_some (option_map f a) ≡ is_some a
some_map f None = refl
some_map f (Some x) = refl

same_unless : (x y : Object) → same_object x y ≡ false → x ≡ y → ⊥
same_unless x y h e = cc (h, same_object-from x y e)

-- ---- names

some_nil : {X : Type 0} (s : Name) (x : X) → is_some (if_nil s x) ≡ same_name s nil_name
some_nil s x = elim (same_name s nil_name) as (λ b. is_some (cond b (Some x) None) ≡ b) [ true ↦ refl | false ↦ refl ]

pub are_names-is : (x : Object) → is_some (names_of x) ≡ are_names x
are_names-is (Natural n) = refl
are_names-is (Symbol s) = some_nil s []
are_names-is (Pair (Natural n) r) = refl
are_names-is (Pair (Symbol x) r) = some_both (λ x xs. x ∷ xs) (Some x) (names_of r) ∙ are_names-is r
are_names-is (Pair (Pair a b) r) = refl

-- ---- calls

quote_form : (r : Object) → is_some (constant_of r) ≡ has_members 1 r
quote_form (Natural n) = refl
quote_form (Symbol s) = refl
quote_form (Pair c (Natural n)) = refl
quote_form (Pair c (Symbol s)) = some_nil s _
quote_form (Pair c (Pair a b)) = refl

three_are : (r : Object) → has_members 3 r ≡ true → (a : Object) × (b : Object) × (c : Object) × (r ≡ list3 a b c)
three_are (Natural n) h = cc
three_are (Symbol s) h = cc
three_are (Pair a (Natural n)) h = cc
three_are (Pair a (Symbol s)) h = cc
three_are (Pair a (Pair b (Natural n))) h = cc
three_are (Pair a (Pair b (Symbol s))) h = cc
three_are (Pair a (Pair b (Pair c z))) h = (a, b, c, ap (λ y. Pair a (Pair b (Pair c y))) (same_object-eq z NIL h))

three_some : (a b c : Option Term) → is_some (if_of (map2 More a (map2 More b (map2 More c (Some NoTerms))))) ≡ is_some (map2 More a (map2 More b (map2 More c (Some NoTerms))))
three_some None b c = refl
three_some (Some x) None c = refl
three_some (Some x) (Some y) None = refl
three_some (Some x) (Some y) (Some z) = refl

if_form : (r : Object) → has_members 3 r ≡ true → is_some (if_of (terms_of r)) ≡ is_some (terms_of r)
if_form r h =
    let t = three_are r h in
    ap (λ y. is_some (if_of (terms_of y))) t.3 ∙ (three_some (term_of t.0) (term_of t.1) (term_of t.2) ∙ ap (λ y. is_some (terms_of y)) (sym t.3))

no_if_form : (r : Object) → has_members 3 r ≡ false → is_some (if_of (terms_of r)) ≡ false
no_if_form r h = go (terms_of r) refl
  where
    go : (o : Option Terms) → terms_of r ≡ o → is_some (if_of o) ≡ false
    go None e = refl
    go (Some NoTerms) e = refl
    go (Some (More a NoTerms)) e = refl
    go (Some (More a (More b NoTerms))) e = refl
    go (Some (More a (More b (More c NoTerms)))) e = let k : true ≡ has_members 3 r = ap (has_members 3) (terms_back r (More a (More b (More c NoTerms))) e) in cc
    go (Some (More a (More b (More c (More d ts))))) e = refl

-- of a call by its head
call_some : (f : Name) (r : Object) → is_some (call_of f r (terms_of r)) ≡ cond (same_name f (named "QUOTE")) (is_some (constant_of r)) (cond (same_name f (named "IF")) (is_some (if_of (terms_of r))) (is_some (terms_of r)))
call_some f r = go (same_name f (named "QUOTE")) (same_name f (named "IF"))
  where
    go : (q i : Bool) → is_some (cond q (constant_of r) (cond i (if_of (terms_of r)) (option_map (Call f) (terms_of r)))) ≡ cond q (is_some (constant_of r)) (cond i (is_some (if_of (terms_of r))) (is_some (terms_of r)))
    go true i = refl
    go false true = refl
    go false false = some_map (Call f) (terms_of r)

module _ (x h r : Object) (e : x ≡ Pair h r) where
  abbrev Tests : Object → Bool
  Tests y = cond (same_object y (symbol "QUOTE")) (is_some (constant_of r)) (cond (same_object y (symbol "IF")) (is_some (if_of (terms_of r))) (is_some (terms_of r)))

  by_head : is_symbol h ≡ true → is_some (term_of x) ≡ Tests h
  by_head s = ap (λ y. is_some (term_of y)) e ∙ go h s
    where
      go : (y : Object) → is_symbol y ≡ true → is_some (term_of (Pair y r)) ≡ Tests y
      go (Natural n) k = cc
      go (Symbol f) k = call_some f r
      go (Pair a b) k = cc

  pub quoted_form : is_symbol h ≡ true → same_object h (symbol "QUOTE") ≡ true → is_some (term_of x) ≡ has_members 1 r
  quoted_form s q = by_head s ∙ (ap (λ b. cond b (is_some (constant_of r)) (cond (same_object h (symbol "IF")) (is_some (if_of (terms_of r))) (is_some (terms_of r)))) q ∙ quote_form r)

  unquoted_form : is_symbol h ≡ true → same_object h (symbol "QUOTE") ≡ false → is_some (term_of x) ≡ cond (same_object h (symbol "IF")) (is_some (if_of (terms_of r))) (is_some (terms_of r))
  unquoted_form s q = by_head s ∙ ap (λ b. cond b (is_some (constant_of r)) (cond (same_object h (symbol "IF")) (is_some (if_of (terms_of r))) (is_some (terms_of r)))) q

  pub short_if : is_symbol h ≡ true → same_object h (symbol "QUOTE") ≡ false → (same_object h (symbol "IF") && not (has_members 3 r)) ≡ true → is_some (term_of x) ≡ false
  short_if s q n = unquoted_form s q ∙ go (same_object h (symbol "IF")) (has_members 3 r) refl n
    where
      go : (i t : Bool) → has_members 3 r ≡ t → (i && not t) ≡ true → cond i (is_some (if_of (terms_of r))) (is_some (terms_of r)) ≡ false
      go true true k m = cc
      go true false k m = no_if_form r k
      go false t k m = cc

  pub call_form : is_symbol h ≡ true → same_object h (symbol "QUOTE") ≡ false → (same_object h (symbol "IF") && not (has_members 3 r)) ≡ false → is_some (term_of x) ≡ is_some (terms_of r)
  call_form s q n = unquoted_form s q ∙ go (same_object h (symbol "IF")) (has_members 3 r) refl n
    where
      go : (i t : Bool) → has_members 3 r ≡ t → (i && not t) ≡ false → cond i (is_some (if_of (terms_of r))) (is_some (terms_of r)) ≡ is_some (terms_of r)
      go true true k m = if_form r k
      go true false k m = cc
      go false t k m = refl

  lambda_some : (o : Option (List Name)) (p : Option Term) (q : Option Terms) → is_some (lambda_of true o p q) ≡ (is_some o && (is_some q && is_some p))
  lambda_some None p q = refl
  lambda_some (Some xs) None None = refl
  lambda_some (Some xs) None (Some ts) = refl
  lambda_some (Some xs) (Some b) None = refl
  lambda_some (Some xs) (Some b) (Some ts) = refl

  pub lambda_form : (xs b : Object) → h ≡ list3 (symbol "LAMBDA") xs b → is_some (term_of x) ≡ (are_names xs && (is_some (terms_of r) && is_some (term_of b)))
  lambda_form xs b k =
      ap (λ y. is_some (term_of y)) (e ∙ ap (λ y. Pair y r) k)
      ∙ (lambda_some (names_of xs) (term_of b) (terms_of r) ∙ ap (λ t. t && (is_some (terms_of r) && is_some (term_of b))) (are_names-is xs))

  pub unnamed_lambda : (xs b : Object) → h ≡ list3 (symbol "LAMBDA") xs b → are_names xs ≡ false → is_some (term_of x) ≡ false
  unnamed_lambda xs b k n = lambda_form xs b k ∙ ap (λ t. t && (is_some (terms_of r) && is_some (term_of b))) n

  pub named_lambda : (xs b : Object) → h ≡ list3 (symbol "LAMBDA") xs b → are_names xs ≡ true → is_some (term_of x) ≡ (is_some (terms_of r) && is_some (term_of b))
  named_lambda xs b k n = lambda_form xs b k ∙ ap (λ t. t && (is_some (terms_of r) && is_some (term_of b))) n

  and_flags : (l xs b z : Object) → (same_object l (symbol "LAMBDA") && (same_object xs xs && (same_object b b && (same_object z NIL)))) ≡ false → (same_object l (symbol "LAMBDA") && same_object z NIL) ≡ false
  and_flags l xs b z n = ap (λ t. same_object l (symbol "LAMBDA") && t) (sym (ap (λ t. t && (same_object b b && same_object z NIL)) (same_object-refl xs) ∙ ap (λ t. t && same_object z NIL) (same_object-refl b))) ∙ n

  pub no_lambda : is_symbol h ≡ false → ((xs b : Object) → same_object h (list3 (symbol "LAMBDA") xs b) ≡ false) → is_some (term_of x) ≡ false
  no_lambda s n = ap (λ y. is_some (term_of y)) e ∙ go h s n
    where
      go : (y : Object) → is_symbol y ≡ false → ((xs b : Object) → same_object y (list3 (symbol "LAMBDA") xs b) ≡ false) → is_some (term_of (Pair y r)) ≡ false
      go (Natural n) k m = refl
      go (Symbol f) k m = cc
      go (Pair l (Natural n)) k m = refl
      go (Pair l (Symbol n)) k m = refl
      go (Pair l (Pair xs (Natural n))) k m = refl
      go (Pair l (Pair xs (Symbol n))) k m = refl
      go (Pair l (Pair xs (Pair b z))) k m = ap (λ t. is_some (lambda_of t (names_of xs) (term_of b) (terms_of r))) (and_flags l xs b z (m xs b))

pub symbol_form : (x : Object) → is_symbol x ≡ true → is_some (term_of x) ≡ true
symbol_form (Natural n) h = cc
symbol_form (Symbol s) h = refl
symbol_form (Pair a b) h = cc

-- ---- lists of terms

pub terms_end : (x : Object) → is_pair x ≡ false → is_some (terms_of x) ≡ same_object x NIL
terms_end (Natural n) h = refl
terms_end (Symbol s) h = some_nil s NoTerms
terms_end (Pair a b) h = cc

and_swap : (a b : Bool) → (a && b) ≡ (b && a)
and_swap true true = refl
and_swap true false = refl
and_swap false true = refl
and_swap false false = refl

pub terms_form : (x a r : Object) → x ≡ Pair a r → is_some (terms_of x) ≡ (is_some (terms_of r) && is_some (term_of a))
terms_form x a r e = ap (λ y. is_some (terms_of y)) e ∙ (some_both More (term_of a) (terms_of r) ∙ and_swap (is_some (term_of a)) (is_some (terms_of r)))

-- ---- formulas

pub equal_form : (x a b : Object) → x ≡ list3 (symbol "PEQUAL*") a b → is_some (formula_of x) ≡ (is_some (term_of a) && is_some (term_of b))
equal_form x a b e = ap (λ y. is_some (formula_of y)) e ∙ some_both Equal (term_of a) (term_of b)

pub or_form : (x a b : Object) → x ≡ list3 (symbol "POR*") a b → is_some (formula_of x) ≡ (is_some (formula_of a) && is_some (formula_of b))
or_form x a b e = ap (λ y. is_some (formula_of y)) e ∙ some_both Or (formula_of a) (formula_of b)

pub not_form : (x a : Object) → x ≡ list2 (symbol "PNOT*") a → is_some (formula_of x) ≡ is_some (formula_of a)
not_form x a e = ap (λ y. is_some (formula_of y)) e ∙ some_map Not (formula_of a)

pub no_formula_form : (x : Object) → ((a b : Object) → same_object x (list3 (symbol "PEQUAL*") a b) ≡ false) → ((a b : Object) → same_object x (list3 (symbol "POR*") a b) ≡ false) → ((a : Object) → same_object x (list2 (symbol "PNOT*") a) ≡ false) → is_some (formula_of x) ≡ false
no_formula_form x p q n = go (formula_of x) refl
  where
    go : (o : Option Formula) → formula_of x ≡ o → is_some o ≡ false
    go None e = refl
    go (Some (Equal a b)) e = absurd (same_unless x (list3 (symbol "PEQUAL*") (term_object a) (term_object b)) (p (term_object a) (term_object b)) (sym (formula_back x (Equal a b) e)))
    go (Some (Or F G)) e = absurd (same_unless x (list3 (symbol "POR*") (formula_object F) (formula_object G)) (q (formula_object F) (formula_object G)) (sym (formula_back x (Or F G) e)))
    go (Some (Not F)) e = absurd (same_unless x (list2 (symbol "PNOT*") (formula_object F)) (n (formula_object F)) (sym (formula_back x (Not F) e)))

-- ---- parts that wait

module _ (os : List Object) (x : ℕ) (form : Bool) (old : List Form) where
  pub none_waits : form ≡ true → IsEntered os x form old old true
  none_waits h = ([], sym (append-nil old), tt, h, positive (object_at os x))
    where
      positive : (y : Object) → 0 < weight y
      positive (Natural n) = omega arith
      positive (Symbol s) = omega arith
      positive (Pair a b) = omega arith

  pub one_waits : (f : Form) (new : List Form) → new ≡ old ++ f ∷ [] → IsFormIn os f → form ≡ has_form os f → weight (object_at os (reference f)) < weight (object_at os x) → IsEntered os x form old new true
  one_waits f new e i h l = (f ∷ [], e, (i, tt), h ∙ sym (and-true (has_form os f)), omega (arith, l))

  pub two_wait : (f g : Form) (one new : List Form) → one ≡ old ++ f ∷ [] → new ≡ one ++ g ∷ [] → IsFormIn os f → IsFormIn os g → form ≡ (has_form os f && has_form os g) → weight (object_at os (reference f)) + weight (object_at os (reference g)) < weight (object_at os x) → IsEntered os x form old new true
  two_wait f g one new d e i j h l = (
    f ∷ g ∷ [],
    e ∙ (ap (λ fs. fs ++ g ∷ []) d ∙ append_assoc old (f ∷ []) (g ∷ [])),
    (i, (j, tt)),
    h ∙ ap (λ b. has_form os f && b) (sym (and-true (has_form os g))),
    omega (arith, l),
  )

pub lighter_rest : (x h r : Object) → x ≡ Pair h r → weight r < weight x
lighter_rest x h r e = let w : weight x ≡ 1 + (weight h + weight r) = ap weight e in omega (arith, w)

pub lighter_both : (x a r : Object) → x ≡ Pair a r → weight r + weight a < weight x
lighter_both x a r e = let w : weight x ≡ 1 + (weight a + weight r) = ap weight e in omega (arith, w)

pub lighter_list3 : (x w a b : Object) → x ≡ list3 w a b → weight a + weight b < weight x
lighter_list3 x w a b e = let k : weight x ≡ 1 + (weight w + (1 + (weight a + (1 + (weight b + weight NIL))))) = ap weight e in omega (arith, k)

pub lighter_list2 : (x w a : Object) → x ≡ list2 w a → weight a < weight x
lighter_list2 x w a e = let k : weight x ≡ 1 + (weight w + (1 + (weight a + weight NIL))) = ap weight e in omega (arith, k)

pub lighter_lambda : (x h r w xs b : Object) → x ≡ Pair h r → h ≡ list3 w xs b → weight r + weight b < weight x
lighter_lambda x h r w xs b e k =
    let l = lighter_list3 h w xs b k in
    let d : weight x ≡ 1 + (weight h + weight r) = ap weight e in
    omega (arith, l, d)

-- ---- one part after another

weight_of_all : (os : List Object) (fs gs : List Form) → forms_weight os (fs ++ gs) ≡ forms_weight os fs + forms_weight os gs
weight_of_all os [] gs = sym (zero-add (forms_weight os gs))
weight_of_all os (f ∷ fs) gs = let ih = weight_of_all os fs gs in omega (arith, ih)

forms_of_both : (os : List Object) (fs gs : List Form) → have_forms os (fs ++ gs) ≡ (have_forms os fs && have_forms os gs)
forms_of_both os fs gs = list_all-append (has_form os) fs gs

both_in : (os : List Object) (fs gs : List Form) → AreFormsIn os fs → AreFormsIn os gs → AreFormsIn os (fs ++ gs)
both_in os [] gs h k = k
both_in os (f ∷ fs) gs h k = (h.0, both_in os fs gs h.1 k)

pub popped_forms : (os : List Object) (fs all : List Form) (f : Form) → all ≡ fs ++ f ∷ [] → AreFormsIn os all → AreFormsIn os fs × IsFormIn os f
popped_forms os fs all f e h = go fs (subst (AreFormsIn os) e h)
  where
    go : (gs : List Form) → AreFormsIn os (gs ++ f ∷ []) → AreFormsIn os gs × IsFormIn os f
    go [] k = (tt, k.0)
    go (g ∷ gs) k = let p = go gs k.1 in ((k.0, p.0), p.1)

module _ (os : List Object) (fs all new : List Form) (f : Form) (e : all ≡ fs ++ f ∷ []) (w : IsEntered os (reference f) (has_form os f) fs new true) where
  pub entered_in : AreFormsIn os all → AreFormsIn os new
  entered_in h = subst (AreFormsIn os) (sym w.1) (both_in os fs w.0 (popped_forms os fs all f e h).0 w.2)

  pub entered_same : have_forms os new ≡ have_forms os all
  entered_same =
      ap (have_forms os) w.1
      ∙ (forms_of_both os fs w.0
      ∙ (ap (λ b. have_forms os fs && b) (sym w.3 ∙ sym (and-true (has_form os f))) ∙ (sym (forms_of_both os fs (f ∷ [])) ∙ ap (have_forms os) (sym e))))

  pub entered_lighter : forms_weight os new < forms_weight os all
  entered_lighter =
      let a : forms_weight os new ≡ forms_weight os fs + forms_weight os w.0 = ap (forms_weight os) w.1 ∙ weight_of_all os fs w.0 in
      let b : forms_weight os all ≡ forms_weight os fs + (weight (object_at os (reference f)) + 0) = ap (forms_weight os) e ∙ weight_of_all os fs (f ∷ []) in
      let l = w.4 in
      omega (arith, a, b, l)

pub refused_form : (os : List Object) (fs all : List Form) (f : Form) → all ≡ fs ++ f ∷ [] → has_form os f ≡ false → have_forms os all ≡ false
refused_form os fs all f e h = ap (have_forms os) e ∙ (forms_of_both os fs (f ∷ []) ∙ (ap (λ b. have_forms os fs && (b && true)) h ∙ and-false (have_forms os fs)))
