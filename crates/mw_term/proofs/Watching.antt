-- Where each denied test has its reason the marks are right, up to the first cell that waits; new names make only those wait that were
-- noted with their symbols; and a cell that is marked anew, where its mark changes, only those that were noted with it.
use Rattle.std.proofs.Common.{◌≡◌, ℕ, zero, suc, ◌<◌, ◌≤◌, Bool, true, false, ◌&&◌, cond, eqb, List, [], ◌∷◌, ◌⊎◌, length, slice_get, take, Option, Some, None, is_some, inl, inr, refl, sym, ap, ap₂, ◌∙◌, subst, arith, true≢false}
use Rattle.std.proofs.lemmas.Bool.{cases_eq}
use Rattle.std.proofs.lemmas.List.{length-take-le}
use Rattle.mw_model.specs.Terms.Object.{Name, Object, Natural, Symbol, Pair, named, symbol, same_name, same_object, NIL}
use Rattle.mw_model.specs.Terms.Term.{Term, Terms, Variable, Constant, If, Call, Lambda, NoTerms, More, Formula, Equal, Not, Or, ArityTable, arity_of, is_function_name, has_arity, count, are_formals, is_closed, is_term, are_terms, is_formula}
use Rattle.mw_model.specs.Terms.Reading.{names_of, term_of, terms_of, formula_of, when, that}
use Rattle.mw_model.proofs.Names.{same_name-eq}
use Rattle.mw_heap.specs.Objects.{object_at, Grows}
use Rattle.mw_heap.proofs.Objects.{object_at-Grows}
use Rattle.mw_heap.proofs.Lists.{slice_get-take}
use Rattle.mw_term.specs.Marking.{ObjectMark, AreMarks, counted, head_count, formal_count}
use Rattle.mw_term.specs.Watching.{Test, as_term, as_terms, as_formula, as_head, says, passes, mark_in, right_mark, Extends, NeverPasses, Reason, never, by_name, by_part, AreExplained, AreLasting}
use Rattle.mw_term.proofs.Marked.{is_present-when}

pub extends-same : (A : ArityTable) → Extends A A
extends-same A = record { kept = λ f n e. e; words = λ f w. refl }

pub extends-both : (A B C : ArityTable) → Extends A B → Extends B C → Extends A C
extends-both A B C p q = record { kept = λ f n e. q.kept f n (p.kept f n e); words = λ f w. q.words f w ∙ p.words f w }

pub extends-name : (A : ArityTable) (f : Name) (n : ℕ) → arity_of A f ≡ None → is_function_name f ≡ true → Extends A ((f, n) ∷ A)
extends-name A f n new name = record { kept = λ g m e. go g m e (same_name f g) refl; words = λ g w. other g w (same_name f g) refl }
  where
    go : (g : Name) (m : ℕ) → arity_of A g ≡ Some m → (b : Bool) → same_name f g ≡ b → cond b (Some n) (arity_of A g) ≡ Some m
    go g m e false d = e
    go g m e true d = let same = same_name-eq f g d in absurd (never-both (sym new ∙ (ap (arity_of A) same ∙ e)))
      where
        never-both : None ≡ Some m → ⊥
        never-both h = cc

    other : (g : Name) → is_function_name g ≡ false → (b : Bool) → same_name f g ≡ b → cond b (Some n) (arity_of A g) ≡ arity_of A g
    other g w false d = refl
    other g w true d = absurd (true≢false (sym name ∙ (ap is_function_name (same_name-eq f g d) ∙ w)))

pub both-true : (a b : Bool) → (a && b) ≡ true → (a ≡ true) × (b ≡ true)
both-true true b h = (refl, h)
both-true false b h = absurd (true≢false (sym h))

and-true : (a b : Bool) → a ≡ true → b ≡ true → (a && b) ≡ true
and-true a b p q = ap₂ ◌&&◌ p q

-- What passes a test does so with more names.
module _ (A B : ArityTable) (more : Extends A B) where
  pub more-arity : (f : Name) (n : ℕ) → has_arity (arity_of A f) n ≡ true → has_arity (arity_of B f) n ≡ true
  more-arity f n h = go (arity_of A f) refl h
    where
      go : (o : Option ℕ) → arity_of A f ≡ o → has_arity o n ≡ true → has_arity (arity_of B f) n ≡ true
      go None e h = absurd (true≢false (sym h))
      go (Some m) e h = ap (λ o. has_arity o n) (more.kept f m e) ∙ h

  mutual
    pub more-term : (t : Term) → is_term A t ≡ true → is_term B t ≡ true
    more-term (Variable x) h = h
    more-term (Constant c) h = h
    more-term (If a b c) h =
        let p = both-true _ _ h in
        let q = both-true _ _ p.1 in
        let r = both-true _ _ q.1 in
        and-true _ _ (more-arity (named "IF") 3 p.0) (and-true _ _ (more-term a q.0) (and-true _ _ (more-term b r.0) (more-term c r.1)))
    more-term (Call f ts) h =
        let p = both-true _ _ h in
        let q = both-true _ _ p.1 in
        and-true _ _ p.0 (and-true _ _ (more-arity f (count ts) q.0) (more-terms ts q.1))
    more-term (Lambda xs b ts) h =
        let rest = eqb (length xs) (count ts) && (is_term A b && are_terms A ts) in
        let p = both-true (are_formals xs) (is_closed xs b && rest) h in
        let q = both-true (is_closed xs b) rest p.1 in
        let r = both-true (eqb (length xs) (count ts)) (is_term A b && are_terms A ts) q.1 in
        let s = both-true (is_term A b) (are_terms A ts) r.1 in
        let t = and-true (is_term B b) (are_terms B ts) (more-term b s.0) (more-terms ts s.1) in
        let u = and-true (eqb (length xs) (count ts)) (is_term B b && are_terms B ts) r.0 t in
        let v = and-true (is_closed xs b) (eqb (length xs) (count ts) && (is_term B b && are_terms B ts)) q.0 u in
        and-true (are_formals xs) (is_closed xs b && (eqb (length xs) (count ts) && (is_term B b && are_terms B ts))) p.0 v

    more-terms : (ts : Terms) → are_terms A ts ≡ true → are_terms B ts ≡ true
    more-terms NoTerms h = refl
    more-terms (More t ts) h = let p = both-true _ _ h in and-true _ _ (more-term t p.0) (more-terms ts p.1)

  more-formula : (F : Formula) → is_formula A F ≡ true → is_formula B F ≡ true
  more-formula (Equal a b) h = let p = both-true _ _ h in and-true _ _ (more-term a p.0) (more-term b p.1)
  more-formula (Not f) h = more-formula f h
  more-formula (Or f g) h = let p = both-true _ _ h in and-true _ _ (more-formula f p.0) (more-formula g p.1)

  more-that : {X : Type 0} (test other : X → Bool) → ((x : X) → test x ≡ true → other x ≡ true) → (o : Option X) → is_some (that test o) ≡ true → is_some (that other o) ≡ true
  more-that test other all None h = h
  more-that test other all (Some x) h = is_present-when (other x) x ∙ all x (sym (is_present-when (test x) x) ∙ h)

  some-cond : (b c : Bool) (n : ℕ) → (b ≡ true → c ≡ true) → is_some (cond b (Some n) None) ≡ true → is_some (cond c (Some n) None) ≡ true
  some-cond true c n f h = ap (λ d. is_some (cond d (Some n) None)) (f refl)
  some-cond false c n f h = absurd (true≢false (sym h))

  pub more-counted : (o : Option Terms) → is_some (counted A o) ≡ true → is_some (counted B o) ≡ true
  more-counted None h = h
  more-counted (Some ts) h = some-cond (are_terms A ts) (are_terms B ts) (count ts) (more-terms ts) h

  more-head : (o : Option (List Name)) (p : Option Term) → is_some (head_count A o p) ≡ true → is_some (head_count B o p) ≡ true
  more-head None p h = h
  more-head (Some xs) None h = h
  more-head (Some xs) (Some b) h =
      some-cond (are_formals xs && (is_closed xs b && is_term A b)) (are_formals xs && (is_closed xs b && is_term B b)) (length xs)
      (λ e. let p = both-true (are_formals xs) (is_closed xs b && is_term A b) e in let q = both-true (is_closed xs b) (is_term A b) p.1 in and-true (are_formals xs) (is_closed xs b && is_term B b) p.0 (and-true (is_closed xs b) (is_term B b) q.0 (more-term b q.1)))
      h

  more-when : (b : Bool) (o p : Option ℕ) → (is_some o ≡ true → is_some p ≡ true) → is_some (when b o) ≡ true → is_some (when b p) ≡ true
  more-when true o p f h = f h
  more-when false o p f h = h

  pub more-formals : (x : Object) → is_some (formal_count A x) ≡ true → is_some (formal_count B x) ≡ true
  more-formals (Natural n) h = h
  more-formals (Symbol s) h = h
  more-formals (Pair l (Natural n)) h = h
  more-formals (Pair l (Symbol s)) h = h
  more-formals (Pair l (Pair xs (Natural n))) h = h
  more-formals (Pair l (Pair xs (Symbol s))) h = h
  more-formals (Pair l (Pair xs (Pair b z))) h = more-when (same_object l (symbol "LAMBDA") && same_object z NIL) _ _ (more-head (names_of xs) (term_of b)) h

  pub more-passes : (x : Object) (k : Test) → passes A x k ≡ true → passes B x k ≡ true
  more-passes x as_term h = more-that (is_term A) (is_term B) more-term (term_of x) h
  more-passes x as_terms h = more-counted (terms_of x) h
  more-passes x as_formula h = more-that (is_formula A) (is_formula B) more-formula (formula_of x) h
  more-passes x as_head h = more-formals x h

-- two marks that say the same of each test
pub same-tests : (m n : ObjectMark) → ((k : Test) → says m k ≡ says n k) → m ≡ n
same-tests m n h =
    ap₂ (λ a b. record { is_term = a; is_terms = b; is_formula = m.is_formula; is_head = m.is_head }) (h as_term) (h as_terms)
    ∙ ap₂ (λ a b. record { is_term = n.is_term; is_terms = n.is_terms; is_formula = a; is_head = b }) (h as_formula) (h as_head)

pub mark-found : (ns : List ObjectMark) (i : ℕ) → i < length ns → slice_get ns i ≡ Some (mark_in ns i)
mark-found [] i l = absurd (omega (arith, l))
mark-found (m ∷ ns) zero l = refl
mark-found (m ∷ ns) (suc i) l = mark-found ns i (omega (arith, l))

-- what never passes a test does not pass it now, and never does by a table with more names
pub never-now : (A : ArityTable) (o : Object) (k : Test) → NeverPasses A o k → passes A o k ≡ false
never-now A o k h = h A (extends-same A)

pub never-more : (A B : ArityTable) (o : Object) (k : Test) → Extends A B → NeverPasses A o k → NeverPasses B o k
never-more A B o k more h C e = h C (extends-both A B C more e)

-- The marks before the first cell that waits are right.
module _ (A : ArityTable) (os : List Object) (n : ℕ) (mark : ℕ → ObjectMark) (noted : ℕ → ℕ → Type 0) (waits : ℕ → Type 0) (h : AreExplained A os n mark noted waits) (end : ℕ) (first : (x : ℕ) → waits x → end ≤ x) where
  refuted : (x : ℕ) (k : Test) → ((w : ℕ) → w < x → w < end → w < n → (j : Test) → says (mark w) j ≡ passes A (object_at os w) j) → x < end → x < n → says (mark x) k ≡ false → passes A (object_at os x) k ≡ false
  refuted x k older below within denies = by (h.explained x k within (λ o. omega (arith, below, first x o)) denies)
    where
      by : Reason A os mark noted x k → passes A (object_at os x) k ≡ false
      by (never f) = never-now A (object_at os x) k f
      by (by_name s f before is new g note) = g A (extends-same A) new
      by (by_part w j before denied g note) = g A (extends-same A) (sym (older w before (omega (arith, before, below)) (omega (arith, before, within)) j) ∙ denied)

  exact-test : (x : ℕ) (k : Test) → ((w : ℕ) → w < x → w < end → w < n → (j : Test) → says (mark w) j ≡ passes A (object_at os w) j) → x < end → x < n → says (mark x) k ≡ passes A (object_at os x) k
  exact-test x k older below within = go (says (mark x) k) refl
    where
      go : (b : Bool) → says (mark x) k ≡ b → says (mark x) k ≡ passes A (object_at os x) k
      go true e = e ∙ sym (h.are_true x k within e)
      go false e = e ∙ sym (refuted x k older below within e)

  -- by induction on how many cells are looked at
  exact-below : (m x : ℕ) → x < m → x < end → x < n → (k : Test) → says (mark x) k ≡ passes A (object_at os x) k
  exact-below zero x l below within k = absurd (omega (arith, l))
  exact-below (suc m) x l below within k = exact-test x k (λ w before b i j. exact-below m w (omega (arith, l, before)) b i j) below within

  pub exact : (x : ℕ) → x < end → x < n → mark x ≡ right_mark A os x
  exact x below within = same-tests _ _ (λ k. exact-below (suc x) x (omega arith) below within k)

-- so a cell can be marked from them
pub marks-from : (A : ArityTable) (os : List Object) (ms : List ObjectMark) (end : ℕ) → end ≤ length ms → length ms ≤ length os → ((x : ℕ) → x < end → mark_in ms x ≡ right_mark A os x) → AreMarks A os (take end ms)
marks-from A os ms end fits within exact =
    let size : length (take end ms) ≡ end = length-take-le end ms fits in
    record {
      within = omega (arith, size, fits, within);
      each = λ i l.
          let below : i < end = omega (arith, l, size) in
          slice_get-take end ms i below ∙ (mark-found ms i (omega (arith, below, fits)) ∙ ap Some (exact i below));
    }

pub marks-all : (A : ArityTable) (os : List Object) (ms : List ObjectMark) → length ms ≤ length os → ((x : ℕ) → x < length ms → mark_in ms x ≡ right_mark A os x) → AreMarks A os ms
marks-all A os ms within exact = record { within = within; each = λ i l. mark-found ms i l ∙ ap Some (exact i l) }

-- the mark of a cell, where the marks are right
pub right-mark : (A : ArityTable) (os : List Object) (ms : List ObjectMark) → AreMarks A os ms → (x : ℕ) → x < length ms → mark_in ms x ≡ right_mark A os x
right-mark A os ms h x l = some-same (sym (mark-found ms x l) ∙ h.each x l)
  where
    some-same : {a b : ObjectMark} → Some a ≡ Some b → a ≡ b
    some-same e = cc

-- a reason by other marks of older cells, and other notes
pub reason-by : (A : ArityTable) (os : List Object) (mark other : ℕ → ObjectMark) (noted also : ℕ → ℕ → Type 0) (x : ℕ) (k : Test) → ((w : ℕ) → w < x → other w ≡ mark w) → ((w : ℕ) → noted w x → also w x) → Reason A os mark noted x k → Reason A os other also x k
reason-by A os mark other noted also x k same keeps (never g) = never g
reason-by A os mark other noted also x k same keeps (by_name s f before at absent g note) = by_name s f before at absent g (keeps s note)
reason-by A os mark other noted also x k same keeps (by_part w j before denied g note) = by_part w j before (ap (λ m. says m j) (same w before) ∙ denied) g (keeps w note)

-- by other marks that are the same
pub explained-by : (A : ArityTable) (os : List Object) (n : ℕ) (mark other : ℕ → ObjectMark) (noted : ℕ → ℕ → Type 0) (waits : ℕ → Type 0) → ((x : ℕ) → x < n → other x ≡ mark x) → AreExplained A os n mark noted waits → AreExplained A os n other noted waits
explained-by A os n mark other noted waits same h = record {
  within = h.within;
  are_true = λ x k l said. h.are_true x k l (ap (λ m. says m k) (sym (same x l)) ∙ said);
  explained = λ x k l waiting denies.
      reason-by A os mark other noted noted x k (λ w before. same w (omega (arith, before, l))) (λ w note. note) (h.explained x k l waiting (ap (λ m. says m k) (sym (same x l)) ∙ denies));
}

-- what is noted with nothing never passes
pub reason-never : (A : ArityTable) (os : List Object) (mark : ℕ → ObjectMark) (noted : ℕ → ℕ → Type 0) (x : ℕ) (k : Test) → ((w : ℕ) → noted w x → ⊥) → Reason A os mark noted x k → NeverPasses A (object_at os x) k
reason-never A os mark noted x k none (never g) = g
reason-never A os mark noted x k none (by_name s f before at absent g note) = absurd (none s note)
reason-never A os mark noted x k none (by_part w j before denied g note) = absurd (none w note)

-- Names come. Those that were noted with their symbols wait; what was noted still is, or waits.
module _ (A B : ArityTable) (more : Extends A B) (os : List Object) (n : ℕ) (mark : ℕ → ObjectMark) (noted after : ℕ → ℕ → Type 0) (waits : ℕ → Type 0)
    (kept : (w x : ℕ) → noted w x → after w x ⊎ waits x)
    (named : (s : ℕ) (f : Name) → s < n → object_at os s ≡ Symbol f → arity_of A f ≡ None → (arity_of B f ≡ None) ⊎ ((x : ℕ) → noted s x → waits x)) where
  named-reason : (x : ℕ) (k : Test) → x < n → (waits x → ⊥) → Reason A os mark noted x k → Reason B os mark after x k
  named-reason x k l waiting (never g) = never (never-more A B (object_at os x) k more g)
  named-reason x k l waiting (by_part w j before denied g note) =
      elim (kept w x note) [
        | inl a ↦ by_part w j before denied (λ C e. g C (extends-both A B C more e)) a
        | inr o ↦ absurd (waiting o)
      ]
  named-reason x k l waiting (by_name s f before at absent g note) =
      elim (named s f (omega (arith, before, l)) at absent) [
        | inr woken ↦ absurd (waiting (woken x note))
        | inl still ↦
            elim (kept s x note) [
              | inl a ↦ by_name s f before at still (λ C e. g C (extends-both A B C more e)) a
              | inr o ↦ absurd (waiting o)
            ]
      ]

  pub explained-names : (old : ℕ → Type 0) → ((x : ℕ) → old x → waits x) → AreExplained A os n mark noted old → AreExplained B os n mark after waits
  explained-names old wait h = record {
    within = h.within;
    are_true = λ x k l said. more-passes A B more (object_at os x) k (h.are_true x k l said);
    explained = λ x k l waiting denies. named-reason x k l waiting (h.explained x k l (λ o. waiting (wait x o)) denies);
  }

  pub lasting-names : (lasting : List Bool) → AreLasting A os mark lasting → AreLasting B os mark lasting
  lasting-names lasting h x k is denies = never-more A B (object_at os x) k more (h x k is denies)

-- The cell x is marked anew, or for the first time where it comes after those that have marks. Where its mark changes, what was noted with it
-- waits.
module _ (A : ArityTable) (os : List Object) (n m : ℕ) (mark new : ℕ → ObjectMark) (noted after : ℕ → ℕ → Type 0) (old waits : ℕ → Type 0) (h : AreExplained A os n mark noted old) (x : ℕ)
    (right : new x ≡ right_mark A os x)
    (others : (y : ℕ) → (y ≡ x → ⊥) → new y ≡ mark y)
    (wait : (y : ℕ) → old y → (y ≡ x) ⊎ waits y)
    (kept : (w y : ℕ) → noted w y → after w y ⊎ waits y)
    (woken : (y : ℕ) → y < n → x < y → (new x ≡ mark x) ⊎ (noted x y → waits y))
    (reasons : (waits x → ⊥) → (k : Test) → passes A (object_at os x) k ≡ false → Reason A os new after x k)
    (within : m ≤ length os)
    (have : (y : ℕ) → y < m → (y < n) ⊎ (y ≡ x)) where
  kept-reason : (y : ℕ) (k : Test) → y < n → (waits y → ⊥) → Reason A os mark noted y k → Reason A os new after y k
  kept-reason y k l waiting (never g) = never g
  kept-reason y k l waiting (by_name s f before at absent g note) =
      elim (kept s y note) [ inl a ↦ by_name s f before at absent g a | inr o ↦ absurd (waiting o) ]
  kept-reason y k l waiting (by_part w j before denied g note) =
      elim (kept w y note) [ inl a ↦ by_part w j before (go (cases_eq w x)) g a | inr o ↦ absurd (waiting o) ]
    where
      there : (w ≡ x) → (new x ≡ mark x) ⊎ (noted x y → waits y) → says (new w) j ≡ false
      there e (inl same) = ap (λ i. says (new i) j) e ∙ (ap (λ i. says i j) same ∙ (ap (λ i. says (mark i) j) (sym e) ∙ denied))
      there e (inr wakes) = absurd (waiting (wakes (subst (λ i. noted i y) e note)))

      go : (w ≡ x) ⊎ (w ≡ x → ⊥) → says (new w) j ≡ false
      go (inl q) = there q (woken y l (subst (λ i. i < y) q before))
      go (inr q) = ap (λ i. says i j) (others w q) ∙ denied

  pub explained-anew : AreExplained A os m new after waits
  explained-anew = record {
    within = within;
    are_true = λ y k l said. true-anew y k (cases_eq y x) (have y l) said;
    explained = λ y k l waiting denies. reason-anew y k (cases_eq y x) (have y l) waiting denies;
  }
    where
      true-anew : (y : ℕ) (k : Test) → (y ≡ x) ⊎ (y ≡ x → ⊥) → (y < n) ⊎ (y ≡ x) → says (new y) k ≡ true → passes A (object_at os y) k ≡ true
      true-anew y k (inl q) l said = ap (λ i. passes A (object_at os i) k) q ∙ (ap (λ i. says i k) (sym right) ∙ (ap (λ i. says (new i) k) (sym q) ∙ said))
      true-anew y k (inr q) (inl l) said = h.are_true y k l (ap (λ i. says i k) (sym (others y q)) ∙ said)
      true-anew y k (inr q) (inr e) said = absurd (q e)

      reason-anew : (y : ℕ) (k : Test) → (y ≡ x) ⊎ (y ≡ x → ⊥) → (y < n) ⊎ (y ≡ x) → (waits y → ⊥) → says (new y) k ≡ false → Reason A os new after y k
      reason-anew y k (inl q) l waiting denies =
          subst (λ i. Reason A os new after i k) (sym q) (reasons (λ o. waiting (subst waits (sym q) o)) k (ap (λ i. says i k) (sym right) ∙ (ap (λ i. says (new i) k) (sym q) ∙ denies)))
      reason-anew y k (inr q) (inl l) waiting denies =
          kept-reason y k l waiting (h.explained y k l (λ o. elim (wait y o) [ inl at ↦ q at | inr stays ↦ waiting stays ]) (ap (λ i. says i k) (sym (others y q)) ∙ denies))
      reason-anew y k (inr q) (inr e) waiting denies = absurd (q e)

-- the same objects stand in a heap that has grown
module _ (A : ArityTable) (os new : List Object) (grows : Grows os new) (n : ℕ) (within : n ≤ length os) (noted : ℕ → ℕ → Type 0) where
  same-object : (x : ℕ) → x < n → object_at new x ≡ object_at os x
  same-object x l = object_at-Grows os new grows x (omega (arith, l, within))

  pub grown-reason : (x : ℕ) (k : Test) → x < n → Reason A os (right_mark A os) noted x k → Reason A new (right_mark A new) noted x k
  grown-reason x k l (never g) = never (λ B e. ap (λ o. passes B o k) (same-object x l) ∙ g B e)
  grown-reason x k l (by_name s f before at absent g note) =
      by_name s f before (same-object s (omega (arith, before, l)) ∙ at) absent (λ B e none. ap (λ o. passes B o k) (same-object x l) ∙ g B e none) note
  grown-reason x k l (by_part w j before denied g note) =
      let there = same-object w (omega (arith, before, l)) in
      by_part w j before (ap (λ o. passes A o j) there ∙ denied)
      (λ B e none. ap (λ o. passes B o k) (same-object x l) ∙ g B e (ap (λ o. passes B o j) (sym there) ∙ none)) note
