-- What a caller cites of marks: of no objects, as the heap grows, after a cut, and where names come.
use Rattle.std.proofs.Common.{◌≡◌, ℕ, ◌<◌, ◌≤◌, ◌⊎◌, List, [], length, take, Some, None, sym, ap, ◌∙◌, subst, arith}
use Rattle.std.proofs.lemmas.List.{length-take-le}
use Rattle.mw_model.specs.Terms.Object.{Name, Object, Symbol}
use Rattle.mw_model.specs.Terms.Term.{ArityTable, arity_of}
use Rattle.mw_heap.specs.Objects.{object_at, IsIn, Grows}
use Rattle.mw_heap.proofs.Lists.{slice_get-take}
use Rattle.mw_heap.proofs.Objects.{length-Grows, object_at-Grows, object_at-take}
use Rattle.mw_term.specs.Marking.{ObjectMark, AreMarks, mark_of_object}
use Rattle.mw_term.specs.Watching.{passes, right_mark, Extends, AreExplained, AreLasting}
use Rattle.mw_term.specs.Settling.{Waits, IsNotedWith, IsAwake, IsWatch}
use Rattle.mw_term.specs.declared.watch.Watch.{Watch}
use Rattle.mw_term.proofs.Watching.{explained-names, lasting-names, grown-reason}
use Rattle.mw_term.proofs.Settled.{within-lasting, none-in}

module _ (A : ArityTable) where
  pub AreMarks-none : (os : List Object) → AreMarks A os []
  AreMarks-none os = record { within = omega arith; each = λ i below. absurd (omega arith) }

  -- marks stay right as the heap grows
  pub AreMarks-grows : (old new : List Object) (ms : List ObjectMark) → Grows old new → AreMarks A old ms → AreMarks A new ms
  AreMarks-grows old new ms g h = record {
    within = omega (arith, h.within, length-Grows old new g);
    each = λ i below. h.each i below ∙ ap (λ x. Some (mark_of_object A x)) (sym (object_at-Grows old new g i (omega (arith, below, h.within))));
  }

  -- the marks up to a cut are those of the heap up to it, and of the heap
  pub AreMarks-take : (os : List Object) (ms : List ObjectMark) (n : ℕ) → AreMarks A os ms → n ≤ length ms → AreMarks A os (take n ms)
  AreMarks-take os ms n h below =
      let l : length (take n ms) ≡ n = length-take-le n ms below in
      record {
        within = omega (arith, l, below, h.within);
        each = λ i k. slice_get-take n ms i (omega (arith, l, k)) ∙ h.each i (omega (arith, l, k, below));
      }

  pub AreMarks-cut : (os : List Object) (ms : List ObjectMark) (n : ℕ) → length ms ≤ n → n ≤ length os → AreMarks A os ms → AreMarks A (take n os) ms
  AreMarks-cut os ms n below k h = record {
    within = omega (arith, length-take-le n os k, below);
    each = λ i j. h.each i j ∙ ap (λ x. Some (mark_of_object A x)) (sym (object_at-take n os i (omega (arith, j, below))));
  }

-- what is noted stays right as the heap grows
pub IsWatch-grows : (A : ArityTable) (old new : List Object) (w : Watch) → Grows old new → IsWatch A old w → IsWatch A new w
IsWatch-grows A old new w g h = record {
  settled = record {
    explained = record {
      within = omega (arith, length-Grows old new g, inside);
      are_true = λ x k l said. said;
      explained = λ x k l waits denied.
          grown-reason A old new g (length w.lasting.items) inside (IsNotedWith w) x k l (h.settled.explained.explained x k l waits (ap (λ o. passes A o k) (sym (same x l)) ∙ denied));
    };
    lasting = λ x k is denied B more.
        let l = within-lasting w.lasting.items x is in
        ap (λ o. passes B o k) (same x l) ∙ h.settled.lasting x k is (ap (λ o. passes A o k) (sym (same x l)) ∙ denied) B more;
  };
  none = h.none;
}
  where
    inside : length w.lasting.items ≤ length old
    inside = h.settled.explained.within

    same : (x : ℕ) → x < length w.lasting.items → object_at new x ≡ object_at old x
    same x l = object_at-Grows old new g x (omega (arith, l, inside))

-- names have come, and all that was noted with their symbols was woken
pub awake-names : (A B : ArityTable) → Extends A B → (os : List Object) (old new : Watch) → IsWatch A os old → new.lasting ≡ old.lasting → ((w x : ℕ) → IsNotedWith old w x → IsNotedWith new w x ⊎ Waits new x)
    → ((s : ℕ) (f : Name) → IsIn os s → object_at os s ≡ Symbol f → arity_of A f ≡ None → (arity_of B f ≡ None) ⊎ ((x : ℕ) → IsNotedWith old s x → Waits new x)) → IsAwake A B os new
awake-names A B more os old new h same kept named = record {
  explained =
      explained-names A B more os (length new.lasting.items) (right_mark A os) (IsNotedWith old) (IsNotedWith new) (Waits new) kept (λ s f l is absent. named s f (omega (arith, l, size, h.settled.explained.within)) is absent) (Waits old) (λ x o. absurd (none-in old h.none x o))
      (subst (λ n. AreExplained A os n (right_mark A os) (IsNotedWith old) (Waits old)) (sym size) h.settled.explained);
  lasting =
      lasting-names A B more os (length new.lasting.items) (right_mark A os) (IsNotedWith old) (IsNotedWith new) (Waits new) kept (λ s f l is absent. named s f (omega (arith, l, size, h.settled.explained.within)) is absent) new.lasting.items
      (subst (λ v. AreLasting A os (right_mark A os) v.items) (sym same) h.settled.lasting);
}
  where
    size : length new.lasting.items ≡ length old.lasting.items
    size = ap (λ v. length v.items) same
