-- The state of a watch between two steps: its marks are right up to the first cell that waits; a cell is marked anew, or the next one for the
-- first time; where none waits all marks are right.
use Rattle.std.proofs.Common.{◌≡◌, ℕ, zero, suc, ◌+◌, ◌<◌, ◌≤◌, ◌⊎◌, Bool, true, false, List, [], ◌∷◌, ◌++◌, length, get_or, set, take, length-append, inl, inr, refl, sym, ap, ◌∙◌, subst, true≢false, arith, rules}
use Rattle.std.proofs.lemmas.Bool.{cases_eq, cases_lt}
use Rattle.std.proofs.lemmas.List.{get_or-set_same, get_or-set_other, length-set}
use Rattle.mw_model.specs.Terms.Object.{Object}
use Rattle.mw_model.specs.Terms.Term.{ArityTable}
use Rattle.mw_heap.specs.Objects.{object_at, IsIn}
use Rattle.mw_term.specs.Marking.{ObjectMark, AreMarks}
use Rattle.mw_term.specs.Watching.{Test, says, passes, no_mark, mark_in, right_mark, NeverPasses, Lasts, Reason, AreLasting, IsOneOf, IsNoted, IsLastingIn}
use Rattle.mw_term.specs.Settling.{Waits, IsNotedWith, IsSettling, IsAwake, IsWatch}
use Rattle.mw_term.specs.declared.watch.Watch.{Watch}
use Rattle.mw_term.proofs.Watching.{exact, marks-from, marks-all, right-mark, reason-by, explained-by, explained-anew}

-- past its end a list has the value that is asked for
past-end : {X : Type 0} (xs : List X) (d : X) (i : ℕ) → length xs ≤ i → get_or xs i d ≡ d
past-end [] d i l = refl
past-end (x ∷ xs) d zero l = absurd (omega (arith, l))
past-end (x ∷ xs) d (suc i) l = past-end xs d i (omega (arith, l))

pub within-lasting : (lasting : List Bool) (x : ℕ) → IsLastingIn lasting x → x < length lasting
within-lasting lasting x is =
    elim (cases_lt x (length lasting)) [
      | inl l ↦ l
      | inr past ↦ absurd (true≢false (sym is ∙ past-end lasting false x past))
    ]

get-take : {X : Type 0} (xs : List X) (n : ℕ) (d : X) (i : ℕ) → i < n → get_or (take n xs) i d ≡ get_or xs i d
get-take xs zero d i l = absurd (omega (arith, l))
get-take [] (suc n) d i l = refl
get-take (x ∷ xs) (suc n) d zero l = refl
get-take (x ∷ xs) (suc n) d (suc i) l = get-take xs n d i (omega (arith, l))

pushed-there : {X : Type 0} (xs : List X) (x d : X) → get_or (xs ++ x ∷ []) (length xs) d ≡ x
pushed-there [] x d = refl
pushed-there (y ∷ xs) x d = pushed-there xs x d

pushed-other : {X : Type 0} (xs : List X) (x d : X) (i : ℕ) → (i ≡ length xs → ⊥) → get_or (xs ++ x ∷ []) i d ≡ get_or xs i d
pushed-other [] x d zero q = absurd (q refl)
pushed-other [] x d (suc i) q = refl
pushed-other (y ∷ xs) x d zero q = refl
pushed-other (y ∷ xs) x d (suc i) q = pushed-other xs x d i (λ e. q (ap suc e))

earlier-or-last : (j n : ℕ) → j < n + 1 → (j < n) ⊎ (j ≡ n)
earlier-or-last j n h = search (rules, arith)

module _ (A : ArityTable) (os : List Object) (ms : List ObjectMark) (w : Watch) (size : length ms ≡ length w.lasting.items) (waits : ℕ → Type 0) (h : IsSettling A os (mark_in ms) w waits) where
  fits : length ms ≤ length os
  fits = omega (arith, size, h.explained.within)

  module _ (end : ℕ) (first : (x : ℕ) → waits x → end ≤ x) where
    pub settled-mark : (x : ℕ) → x < end → x < length ms → mark_in ms x ≡ right_mark A os x
    settled-mark x l m = exact A os (length w.lasting.items) (mark_in ms) (IsNotedWith w) waits h.explained end first x l (omega (arith, m, size))

    pub settled-marks : end ≤ length ms → AreMarks A os (take end ms)
    settled-marks below = marks-from A os ms end below fits (λ x l. settled-mark x l (omega (arith, l, below)))

    pub settled-lasts : end ≤ length ms → (x : ℕ) → x < end → IsLastingIn w.lasting.items x → Lasts A (object_at os x)
    settled-lasts below x l is k denied = h.lasting x k is (ap (λ m. says m k) (settled-mark x l (omega (arith, l, below))) ∙ denied)

  -- where none waits
  module _ (none : (x : ℕ) → waits x → ⊥) where
    none-first : (x : ℕ) → waits x → length ms ≤ x
    none-first x o = absurd (none x o)

    pub all-marks : AreMarks A os ms
    all-marks = marks-all A os ms fits (λ x l. settled-mark (length ms) none-first x l l)

    pub all-last : (x : ℕ) → x < length ms → IsLastingIn w.lasting.items x → Lasts A (object_at os x)
    all-last x l is = settled-lasts (length ms) none-first (omega arith) x l is

pub none-in : (w : Watch) → w.waiting.keys ≡ [] → (x : ℕ) → Waits w x → ⊥
none-in w e x o = subst (λ ks. IsOneOf ks x) e o

pub settled-watch : (A : ArityTable) (os : List Object) (ms : List ObjectMark) (w : Watch) → length ms ≡ length w.lasting.items → IsSettling A os (mark_in ms) w (Waits w) → w.waiting.keys ≡ [] → IsWatch A os w
settled-watch A os ms w size h none =
    let right : ((x : ℕ) → x < length ms → mark_in ms x ≡ right_mark A os x) = λ x l. settled-mark A os ms w size (Waits w) h (length ms) (λ y o. absurd (none-in w none y o)) x l l in
    record {
      settled = record {
        explained = explained-by A os (length w.lasting.items) (mark_in ms) (right_mark A os) (IsNotedWith w) (Waits w) (λ x l. sym (right x (omega (arith, l, size)))) h.explained;
        lasting = λ x k is denied. h.lasting x k is (ap (λ m. says m k) (right x (omega (arith, size, within-lasting w.lasting.items x is))) ∙ denied);
      };
      none = none;
    }

-- the marks that stand are those of a watch that is awake
pub awake-settling : (A B : ArityTable) (os : List Object) (ms : List ObjectMark) (w : Watch) → AreMarks A os ms → length w.lasting.items ≤ length ms → IsAwake A B os w → IsSettling B os (mark_in (take (length w.lasting.items) ms)) w (Waits w)
awake-settling A B os ms w marked fits h = record {
  explained = explained-by B os (length w.lasting.items) (right_mark A os) (mark_in (take (length w.lasting.items) ms)) (IsNotedWith w) (Waits w) same h.explained;
  lasting = λ x k is denied. h.lasting x k is (ap (λ m. says m k) (sym (same x (within-lasting w.lasting.items x is))) ∙ denied);
}
  where
    same : (x : ℕ) → x < length w.lasting.items → mark_in (take (length w.lasting.items) ms) x ≡ right_mark A os x
    same x l = get-take ms (length w.lasting.items) no_mark x l ∙ right-mark A os ms marked x (omega (arith, l, fits))

-- the first cell that waited waits no more
module _ (A : ArityTable) (os : List Object) (mark : ℕ → ObjectMark) (old new : Watch) (same : new.lasting ≡ old.lasting) (notes : new.notes ≡ old.notes) (x : ℕ) (popped : old.waiting.keys ≡ x ∷ new.waiting.keys) (h : IsSettling A os mark old (Waits old)) where
  was : (y : ℕ) → Waits old y → (y ≡ x) ⊎ Waits new y
  was y o = subst (λ ks. IsOneOf ks y) popped o

  with-waits : (waits : ℕ → Type 0) → ((y : ℕ) → y < length old.lasting.items → Waits old y → waits y) → IsSettling A os mark new waits
  with-waits waits into = record {
    explained = record {
      within = subst (λ l. length l.items ≤ length os) (sym same) h.explained.within;
      are_true = λ y k l said. h.explained.are_true y k (subst (λ v. y < length v.items) same l) said;
      explained = λ y k l waiting denies.
          let below = subst (λ v. y < length v.items) same l in
          subst (λ n. Reason A os mark (λ p z. IsNoted n.by_part.entries p z) y k) (sym notes) (h.explained.explained y k below (λ o. waiting (into y below o)) denies);
    };
    lasting = λ y k is denied. h.lasting y k (subst (λ v. IsLastingIn v.items y) same is) denied;
  }

  pub popped-first : IsSettling A os mark new (λ y. (y ≡ x) ⊎ Waits new y)
  popped-first = with-waits (λ y. (y ≡ x) ⊎ Waits new y) (λ y l o. was y o)

  pub popped-beyond : length old.lasting.items ≤ x → IsSettling A os mark new (Waits new)
  popped-beyond beyond = with-waits (Waits new) (λ y l o. elim (was y o) [ inl e ↦ absurd (omega (arith, e, l, beyond)) | inr stays ↦ stays ])

-- the lasting ones, where that of x is made anew
lasting-anew : (A : ArityTable) (os : List Object) (mark new : ℕ → ObjectMark) (lasting after : List Bool) (x : ℕ) → AreLasting A os mark lasting → ((y : ℕ) → (y ≡ x → ⊥) → new y ≡ mark y) → ((y : ℕ) → (y ≡ x → ⊥) → get_or after y false ≡ get_or lasting y false)
    → (IsLastingIn after x → (k : Test) → says (new x) k ≡ false → NeverPasses A (object_at os x) k) → AreLasting A os new after
lasting-anew A os mark new lasting after x h others same here y k is denied = go (cases_eq y x)
  where
    go : (y ≡ x) ⊎ (y ≡ x → ⊥) → NeverPasses A (object_at os y) k
    go (inl q) = subst (λ i. NeverPasses A (object_at os i) k) (sym q) (here (subst (IsLastingIn after) q is) k (subst (λ i. says (new i) k ≡ false) q denied))
    go (inr q) = h y k (sym (same y q) ∙ is) (ap (λ m. says m k) (sym (others y q)) ∙ denied)

-- A cell gets a mark, and is noted with what it waits for.
module _ (A : ArityTable) (os : List Object) (ms after : List ObjectMark) (w new : Watch) (size : length ms ≡ length w.lasting.items) (waits : ℕ → Type 0) (h : IsSettling A os (mark_in ms) w waits) (x : ℕ) (m : ObjectMark) (lasts : Bool) (right : m ≡ right_mark A os x) (first : (y : ℕ) → waits y → x ≤ y) (noted : ℕ → ℕ → Type 0)
    (reasons : (k : Test) → passes A (object_at os x) k ≡ false → Reason A os (right_mark A os) noted x k) (last : lasts ≡ true → Lasts A (object_at os x)) (kept : (p y : ℕ) → IsNotedWith w p y → noted p y) where
  -- the next cell
  pub settled-next : x ≡ length ms → IsIn os x → after ≡ ms ++ m ∷ [] → new.lasting.items ≡ w.lasting.items ++ lasts ∷ [] → ((y : ℕ) → waits y → Waits new y) → ((p y : ℕ) → noted p y → IsNotedWith new p y) → IsSettling A os (mark_in after) new (Waits new)
  settled-next next within marks lasting wait notes = record {
    explained =
        explained-anew A os (length w.lasting.items) (length new.lasting.items) (mark_in ms) (mark_in after) (IsNotedWith w) (IsNotedWith new) waits (Waits new) h.explained x (there ∙ right) others (λ y o. inr (wait y o)) (λ p y o. inl (notes p y (kept p y o)))
        (λ y l b. absurd (omega (arith, l, b, next, size)))
        (λ waiting k denied.
        reason-by A os (right_mark A os) (mark_in after) noted (IsNotedWith new) x k
        (λ p l. others p (λ e. omega (arith, e, l)) ∙ settled-mark A os ms w size waits h x first p l (omega (arith, l, next)))
        (λ p o. notes p x o) (reasons k denied))
        (omega (arith, more, next, size, within))
        (λ y l. elim (earlier-or-last y (length w.lasting.items) (omega (arith, l, more))) [ inl e ↦ inl e | inr e ↦ inr (omega (arith, e, size, next)) ]);
    lasting =
        lasting-anew A os (mark_in ms) (mark_in after) w.lasting.items new.lasting.items x h.lasting others
        (λ y q. ap (λ l. get_or l y false) lasting ∙ pushed-other w.lasting.items lasts false y (λ e. q (omega (arith, e, next, size))))
        (λ is k denied. last (sym lasting-there ∙ is) k (ap (λ i. says i k) (sym (there ∙ right)) ∙ denied));
  }
    where
      more : length new.lasting.items ≡ length w.lasting.items + 1
      more = ap length lasting ∙ length-append w.lasting.items (lasts ∷ [])

      there : mark_in after x ≡ m
      there = ap (λ l. get_or l x no_mark) marks ∙ (ap (λ i. get_or (ms ++ m ∷ []) i no_mark) next ∙ pushed-there ms m no_mark)

      others : (y : ℕ) → (y ≡ x → ⊥) → mark_in after y ≡ mark_in ms y
      others y q = ap (λ l. get_or l y no_mark) marks ∙ pushed-other ms m no_mark y (λ e. q (e ∙ sym next))

      lasting-there : get_or new.lasting.items x false ≡ lasts
      lasting-there = ap (λ l. get_or l x false) lasting ∙ (ap (λ i. get_or (w.lasting.items ++ lasts ∷ []) i false) (next ∙ size) ∙ pushed-there w.lasting.items lasts false)

  -- a cell that had one
  pub settled-anew : x < length ms → after ≡ set ms x m → new.lasting.items ≡ set w.lasting.items x lasts → ((y : ℕ) → waits y → (y ≡ x) ⊎ Waits new y) → ((p y : ℕ) → noted p y → IsNotedWith new p y ⊎ Waits new y) → (m ≡ mark_in ms x) ⊎ ((y : ℕ) → noted x y → Waits new y)
      → IsSettling A os (mark_in after) new (Waits new)
  settled-anew below marks lasting wait notes woken = record {
    explained =
        explained-anew A os (length w.lasting.items) (length new.lasting.items) (mark_in ms) (mark_in after) (IsNotedWith w) (IsNotedWith new) waits (Waits new) h.explained x (there ∙ right) others wait (λ p y o. notes p y (kept p y o)) (λ y l b. wakes y woken)
        (λ waiting k denied.
        reason-by A os (right_mark A os) (mark_in after) noted (IsNotedWith new) x k
        (λ p l. others p (λ e. omega (arith, e, l)) ∙ settled-mark A os ms w size waits h x first p l (omega (arith, l, below)))
        (λ p o. elim (notes p x o) [ inl a ↦ a | inr o ↦ absurd (waiting o) ]) (reasons k denied))
        (omega (arith, same, h.explained.within))
        (λ y l. inl (omega (arith, l, same)));
    lasting =
        lasting-anew A os (mark_in ms) (mark_in after) w.lasting.items new.lasting.items x h.lasting others
        (λ y q. ap (λ l. get_or l y false) lasting ∙ get_or-set_other w.lasting.items x y lasts false q)
        (λ is k denied. last (sym lasting-there ∙ is) k (ap (λ i. says i k) (sym (there ∙ right)) ∙ denied));
  }
    where
      same : length new.lasting.items ≡ length w.lasting.items
      same = ap length lasting ∙ length-set w.lasting.items x lasts

      there : mark_in after x ≡ m
      there = ap (λ l. get_or l x no_mark) marks ∙ get_or-set_same ms x m no_mark below

      others : (y : ℕ) → (y ≡ x → ⊥) → mark_in after y ≡ mark_in ms y
      others y q = ap (λ l. get_or l y no_mark) marks ∙ get_or-set_other ms x y m no_mark q

      wakes : (y : ℕ) → (m ≡ mark_in ms x) ⊎ ((z : ℕ) → noted x z → Waits new z) → (mark_in after x ≡ mark_in ms x) ⊎ (IsNotedWith w x y → Waits new y)
      wakes y (inl e) = inl (there ∙ e)
      wakes y (inr f) = inr (λ o. f y (kept x y o))

      lasting-there : get_or new.lasting.items x false ≡ lasts
      lasting-there = ap (λ l. get_or l x false) lasting ∙ get_or-set_same w.lasting.items x lasts false (omega (arith, below, size))
