-- What a rule of a table proves: its pieces are read with schemes of formulas in the place of formulas and proofs, and each step is looked at.
use Rattle.std.proofs.Common.{◌≡◌, ℕ, zero, suc, Bool, true, false, ◌&&◌, cond, eqb, eqb-true, List, [], ◌∷◌, map, take, drop, get_or, refl, sym, ap, ap₂, ◌∙◌, subst}
use Rattle.std.specs.Prelude.{reverse}
use Rattle.std.proofs.lemmas.Bool.{and_parts}
use Rattle.std.proofs.lemmas.List.{take-map, drop-map}
use Rattle.indexmap.proofs.ReorderLemmas.{map-reverse}
use Rattle.mw_model.specs.Terms.Object.{Object, Pair, Symbol, NIL, symbol, nil_name, list2, list3}
use Rattle.mw_model.specs.Terms.Term.{Formula, Equal, Variable, Not, Or, formula_object, ArityTable}
use Rattle.mw_model.specs.Values.Primitive.{One}
use Rattle.mw_model.specs.Proofs.Proof.{Method, method_name, Expansion, Contraction, Associativity, Cut, Follows, by_expansion, by_contraction, by_associativity, by_cut}
use Rattle.mw_heap.specs.declared.vocabulary.word.Word.{Word}
use Rattle.mw_heap.specs.declared.vocabulary.word.Word.TheVariants as word
use Rattle.mw_heap.specs.Words.{word_object}
use Rattle.mw_build.specs.declared.piece.Piece.{Piece}
use Rattle.mw_build.specs.declared.piece.Piece.TheVariants as piece
use Rattle.mw_build.specs.Pieces.{Made, list_of, taken_by, object_of, run}
use Rattle.mw_build.specs.Rules.{made_by}
use Rattle.mw_build.specs.Stacks.{newest}
use Rattle.mw_taut.specs.declared.rules.TheConstants.{RULES}
use Rattle.mw_taut.specs.Rules.{rule_made}

-- a formula whose atoms are letters
pub data Scheme : Type 0 where
  letter : ℕ → Scheme
  no : Scheme → Scheme
  either : Scheme → Scheme → Scheme

-- what stands on the stack: a formula, a proof of one, a list of proofs, or something else
pub data Value : Type 0 where
  formula : Scheme → Value
  proof : Scheme → Value
  proofs : List Scheme → Value
  other : Value

abbrev same : Scheme → Scheme → Bool
same (letter i) (letter j) = eqb i j
same (no s) (no t) = same s t
same (either s t) (either u v) = same s u && same t v
same _ _ = false

same-eq : (s t : Scheme) → same s t ≡ true → s ≡ t
same-eq (letter i) (letter j) e = ap letter (eqb-true i j e)
same-eq (no s) (no t) e = ap no (same-eq s t e)
same-eq (either s t) (either u v) e = let k = and_parts (same s u) (same t v) e in ap₂ either (same-eq s u k.0) (same-eq t v k.1)
same-eq _ _ e = cc

-- whether a step of this name proves the scheme from these
abbrev is_step : Word → Scheme → List Scheme → Bool
is_step word.Expansion (either s t) (u ∷ []) = same t u
is_step word.Contraction s (t ∷ []) = same (either s s) t
is_step word.Associativity (either (either s t) u) (v ∷ []) = same (either s (either t u)) v
is_step word.Cut (either s t) (either u v ∷ (w ∷ [])) = same s v && same (either (no u) t) w
is_step _ _ _ = false

abbrev of_formula : Word → Scheme → Value
of_formula word.Pnot s = formula (no s)
of_formula word.PropositionalSchema (either (no s) t) = cond (same s t) (proof (either (no s) t)) other
of_formula _ _ = other

abbrev of_formulas : Word → Scheme → Scheme → Value
of_formulas word.Por s t = formula (either s t)
of_formulas _ _ _ = other

abbrev form_value : Word → List Value → Value
form_value w (formula s ∷ []) = of_formula w s
form_value w (formula s ∷ (formula t ∷ [])) = of_formulas w s t
form_value w (formula s ∷ (proofs ts ∷ [])) = cond (is_step w s ts) (proof s) other
form_value _ _ = other

abbrev one_more : Value → Value → Value
one_more (proof s) (proofs ts) = proofs (s ∷ ts)
one_more _ _ = other

abbrev list_value : List Value → Value
list_value [] = proofs []
list_value (v ∷ vs) = one_more v (list_value vs)

-- ---- the machine, as for objects

abbrev Valued : Type 0
Valued = ℕ → List Value → Value

abbrev value_of : Valued → List Value → List Value → Piece → Value
value_of valued given parts (piece.Given n) = get_or given n other
value_of valued given parts (piece.List n) = list_value parts
value_of valued given parts (piece.Form w n) = form_value w parts
value_of valued given parts (piece.Rule r n) = valued r parts
value_of _ _ _ _ = other

abbrev run_values : Valued → List Value → List Value → List Piece → List Value
run_values valued given stack [] = stack
run_values valued given stack (p ∷ ps) = run_values valued given (value_of valued given (reverse (take (taken_by p) stack)) p ∷ drop (taken_by p) stack) ps

abbrev newest_value : List Value → Value
newest_value [] = other
newest_value (v ∷ stack) = v

abbrev value_by : List (List Piece) → ℕ → Valued
value_by rules zero n given = other
value_by rules (suc depth) n given = newest_value (run_values (value_by rules depth) given [] (get_or rules n []))

abbrev pub rule_value : Valued
rule_value n given = value_by (map (λ x. x.now) RULES) 16 n given

-- ---- what the values mean

pub data ProvesAll (P : Object → Formula → Type 0) : Object → List Formula → Type 0 where
  none : ProvesAll P NIL []
  more : (p ps : Object) (F : Formula) (Fs : List Formula) → P p F → ProvesAll P ps Fs → ProvesAll P (Pair p ps) (F ∷ Fs)

-- the formulas Q and their proofs P are closed under the connectives and the steps of proofs
pub record AreClosed (A : ArityTable) (P : Object → Formula → Type 0) (Q : Formula → Type 0) : Type 0 where
  pub denial : (F : Formula) → Q F → Q (Not F)
  pub disjunction : (F G : Formula) → Q F → Q G → Q (Or F G)
  pub schema : (F : Formula) → Q (Or (Not F) F) → P (list2 (symbol "PROPOSITIONAL-SCHEMA") (formula_object (Or (Not F) F))) (Or (Not F) F)
  pub step : (m : Method) (F : Formula) (Fs : List Formula) (ps : Object) → Q F → ProvesAll P ps Fs → Follows NIL NIL A One m F Fs NIL → P (list3 (Symbol (method_name m)) (formula_object F) ps) F

-- the formula of a scheme, where letters stand for these
abbrev pub meant : List Formula → Scheme → Formula
meant Fs (letter i) = get_or Fs i (Equal (Variable nil_name) (Variable nil_name))
meant Fs (no s) = Not (meant Fs s)
meant Fs (either s t) = Or (meant Fs s) (meant Fs t)

abbrev pub Means : (Object → Formula → Type 0) → (Formula → Type 0) → List Formula → Value → Object → Type 0
Means P Q Fs (formula s) o = (o ≡ formula_object (meant Fs s)) × Q (meant Fs s)
Means P Q Fs (proof s) o = P o (meant Fs s)
Means P Q Fs (proofs ss) o = ProvesAll P o (map (meant Fs) ss)
Means P Q Fs other o = Unit {0}

pub data Known (P : Object → Formula → Type 0) (Q : Formula → Type 0) (Fs : List Formula) : Type 0 where
  known : (v : Value) (o : Object) → Means P Q Fs v o → Known P Q Fs

module _ {P : Object → Formula → Type 0} {Q : Formula → Type 0} {Fs : List Formula} where
  abbrev pub value : Known P Q Fs → Value
  value (known v o m) = v

  abbrev pub object : Known P Q Fs → Object
  object (known v o m) = o

  -- a letter's formula
  abbrev pub itself : (i : ℕ) → Q (meant Fs (letter i)) → Known P Q Fs
  itself i q = known (formula (letter i)) (formula_object (meant Fs (letter i))) (refl, q)

  abbrev pub proved : (s : Scheme) (p : Object) → P p (meant Fs s) → Known P Q Fs
  proved s p h = known (proof s) p h

  means : (k : Known P Q Fs) → Means P Q Fs (value k) (object k)
  means (known v o m) = m

module _ (A : ArityTable) {P : Object → Formula → Type 0} {Q : Formula → Type 0} (closed : AreClosed A P Q) (Fs : List Formula) where
  abbrev M : Value → Object → Type 0
  M v o = Means P Q Fs v o

  abbrev K : Type 0
  K = Known P Q Fs

  follows : (w : Word) (s : Scheme) (ts : List Scheme) → is_step w s ts ≡ true → (m : Method) × (word_object w ≡ Symbol (method_name m)) × Follows NIL NIL A One m (meant Fs s) (map (meant Fs) ts) NIL
  follows word.Expansion (either s t) (u ∷ []) e = (Expansion, refl, subst (λ x. Follows NIL NIL A One Expansion (Or (meant Fs s) (meant Fs t)) (meant Fs x ∷ []) NIL) (same-eq t u e) (by_expansion (meant Fs t) (meant Fs s)))
  follows word.Contraction s (t ∷ []) e = (Contraction, refl, subst (λ x. Follows NIL NIL A One Contraction (meant Fs s) (meant Fs x ∷ []) NIL) (same-eq (either s s) t e) (by_contraction (meant Fs s)))
  follows word.Associativity (either (either s t) u) (v ∷ []) e =
      (Associativity, refl, subst (λ x. Follows NIL NIL A One Associativity (meant Fs (either (either s t) u)) (meant Fs x ∷ []) NIL) (same-eq (either s (either t u)) v e) (by_associativity (meant Fs s) (meant Fs t) (meant Fs u)))
  follows word.Cut (either s t) (either u v ∷ (w ∷ [])) e =
      let k = and_parts (same s v) (same (either (no u) t) w) e in
      let F : Scheme → Scheme → Type 0 = λ x y. Follows NIL NIL A One Cut (Or (meant Fs s) (meant Fs t)) (Or (meant Fs u) (meant Fs x) ∷ meant Fs y ∷ []) NIL in
      (Cut, refl, subst (F v) (same-eq (either (no u) t) w k.1) (subst (λ x. F x (either (no u) t)) (same-eq s v k.0) (by_cut (meant Fs u) (meant Fs s) (meant Fs t))))
  follows _ _ _ e = cc

  step_means : (w : Word) (s : Scheme) (ts : List Scheme) (o q : Object) (b : Bool) → is_step w s ts ≡ b → M (formula s) o → M (proofs ts) q → M (cond b (proof s) other) (Pair (word_object w) (Pair o (Pair q NIL)))
  step_means w s ts o q true e h each =
      let f = follows w s ts e in
      subst (λ x. P x (meant Fs s)) (λ i. Pair (sym f.1 i) (Pair (sym h.0 i) (Pair q NIL))) (closed.step f.0 (meant Fs s) (map (meant Fs) ts) q h.1 each f.2)
  step_means w s ts o q false e h each = tt

  schema_means : (s t : Scheme) (o : Object) (b : Bool) → same s t ≡ b → M (formula (either (no s) t)) o → M (cond b (proof (either (no s) t)) other) (Pair (word_object word.PropositionalSchema) (Pair o NIL))
  schema_means s t o true e h =
      let G = meant Fs s in
      subst (λ x. P (Pair (word_object word.PropositionalSchema) (Pair x NIL)) (Or (Not G) (meant Fs t))) (sym h.0)
      (subst (λ x. Q (Or (Not G) (meant Fs x)) → P (Pair (word_object word.PropositionalSchema) (Pair (formula_object (Or (Not G) (meant Fs x))) NIL)) (Or (Not G) (meant Fs x))) (same-eq s t e) (closed.schema G) h.1)
  schema_means s t o false e h = tt

  of_formula_means : (w : Word) (s : Scheme) (o : Object) → M (formula s) o → M (of_formula w s) (Pair (word_object w) (Pair o NIL))
  of_formula_means word.Pnot s o h = (ap (λ x. list2 (symbol "PNOT*") x) h.0, closed.denial (meant Fs s) h.1)
  of_formula_means word.PropositionalSchema (either (no s) t) o h = schema_means s t o (same s t) refl h
  of_formula_means _ _ _ _ = tt

  of_formulas_means : (w : Word) (s t : Scheme) (o q : Object) → M (formula s) o → M (formula t) q → M (of_formulas w s t) (Pair (word_object w) (Pair o (Pair q NIL)))
  of_formulas_means word.Por s t o q h k = (ap₂ (λ x y. list3 (symbol "POR*") x y) h.0 k.0, closed.disjunction (meant Fs s) (meant Fs t) h.1 k.1)
  of_formulas_means _ _ _ _ _ _ _ = tt

  form_means : (w : Word) (ks : List K) → M (form_value w (map value ks)) (Pair (word_object w) (list_of (map object ks)))
  form_means w (known (formula s) o h ∷ []) = of_formula_means w s o h
  form_means w (known (formula s) o h ∷ (known (formula t) q k ∷ [])) = of_formulas_means w s t o q h k
  form_means w (known (formula s) o h ∷ (known (proofs ts) q k ∷ [])) = step_means w s ts o q (is_step w s ts) refl h k
  form_means _ _ = tt

  one_more_means : (v w : Value) (o q : Object) → M v o → M w q → M (one_more v w) (Pair o q)
  one_more_means (proof s) (proofs ts) o q h k = more o q (meant Fs s) (map (meant Fs) ts) h k
  one_more_means _ _ _ _ _ _ = tt

  list_means : (ks : List K) → M (list_value (map value ks)) (list_of (map object ks))
  list_means [] = none
  list_means (k ∷ ks) = one_more_means (value k) (list_value (map value ks)) (object k) (list_of (map object ks)) (means k) (list_means ks)

  given_means : (ks : List K) (n : ℕ) → M (get_or (map value ks) n other) (get_or (map object ks) n NIL)
  given_means [] n = tt
  given_means (k ∷ ks) zero = means k
  given_means (k ∷ ks) (suc n) = given_means ks n

  abbrev Agree : Valued → Made → Type 0
  Agree valued made = (r : ℕ) (ks : List K) → M (valued r (map value ks)) (made r (map object ks))

  piece_means : (valued : Valued) (made : Made) → Agree valued made → (given ks : List K) (p : Piece) → M (value_of valued (map value given) (map value ks) p) (object_of made (map object given) (map object ks) p)
  piece_means valued made agree given ks (piece.Given n) = given_means given n
  piece_means valued made agree given ks (piece.List n) = list_means ks
  piece_means valued made agree given ks (piece.Form w n) = form_means w ks
  piece_means valued made agree given ks (piece.Rule r n) = agree r ks
  piece_means _ _ _ _ _ _ = tt

  run_means : (valued : Valued) (made : Made) → Agree valued made → (given ks : List K) (ps : List Piece) → M (newest_value (run_values valued (map value given) (map value ks) ps)) (newest (run made (map object given) (map object ks) ps))
  run_means valued made agree given [] [] = tt
  run_means valued made agree given (k ∷ ks) [] = means k
  run_means valued made agree given ks (p ∷ ps) =
      let n = taken_by p in
      let parts = reverse (take n ks) in
      let taken : map value parts ≡ reverse (take n (map value ks)) = map-reverse value (take n ks) ∙ ap reverse (sym (take-map value n ks)) in
      let taken' : map object parts ≡ reverse (take n (map object ks)) = map-reverse object (take n ks) ∙ ap reverse (sym (take-map object n ks)) in
      let V = map value given in
      let O = map object given in
      subst (λ x. x)
      (λ i. M (newest_value (run_values valued V (value_of valued V (taken i) p ∷ sym (drop-map value n ks) i) ps)) (newest (run made O (object_of made O (taken' i) p ∷ sym (drop-map object n ks) i) ps)))
      (run_means valued made agree given (known (value_of valued V (map value parts) p) (object_of made O (map object parts) p) (piece_means valued made agree given parts p) ∷ drop n ks) ps)

  rules_agree : (rules : List (List Piece)) (depth : ℕ) → Agree (value_by rules depth) (made_by rules depth)
  rules_agree rules zero r ks = tt
  rules_agree rules (suc depth) r ks = run_means (value_by rules depth) (made_by rules depth) (rules_agree rules depth) ks [] (get_or rules r [])

  -- what the rule of this number makes of what is known
  pub rule_means : (n : ℕ) (given : List K) → Means P Q Fs (rule_value n (map value given)) (rule_made n (map object given))
  unfolding rule_made
  rule_means n given = rules_agree (map (λ x. x.now) RULES) 16 n given
