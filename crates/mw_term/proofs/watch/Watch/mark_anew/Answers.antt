-- The marks before the cell are right, and so is the one that is made of them.
use Rattle.std.proofs.Common.{◌≡◌, ℕ, ◌≤◌, ◌⊎◌, take, set, inl, inr, sym, ap, ap₂, ◌∙◌, subst, arith}
use Rattle.mw_term.specs.Marking.{AreMarks}
use Rattle.mw_term.specs.Watching.{no_mark, mark_in, IsNoted, IsLastingIn}
use Rattle.mw_term.specs.Settling.{Waits}
use Rattle.mw_term.proofs.Settled.{settled-marks, settled-lasts, settled-anew}
use Rattle.mw_term.proofs.Woken.{any-default}
use Rattle.mw_term.proofs.watch.Watch.mark_anew.Goals as goal

pub mark_cell-requires-clause-marked : goal.mark_cell-requires-clause-marked
mark_cell-requires-clause-marked c =
    let w = c.args.self.now in
    let ms = c.args.cells.now.items in
    let first : ((y : ℕ) → (y ≡ c.args.x) ⊎ Waits w y → c.args.x ≤ y) = λ y o. elim o [ inl e ↦ omega (arith, e) | inr p ↦ c.requires.first y p ] in
    subst (AreMarks c.args.arity.now c.args.heap.now.objects) (sym (ap₂ take c.index-at.ensures c.as_slice.ensures.value))
    (settled-marks c.args.arity.now c.args.heap.now.objects ms w c.requires.size (λ y. (y ≡ c.args.x) ⊎ Waits w y) c.requires.settling c.args.x first (omega (arith, c.requires.within)))

pub note_reasons-requires-clause-marked : goal.note_reasons-requires-clause-marked
note_reasons-requires-clause-marked c =
    let w = c.args.self.now in
    let ms = c.args.cells.now.items in
    let first : ((y : ℕ) → (y ≡ c.args.x) ⊎ Waits w y → c.args.x ≤ y) = λ y o. elim o [ inl e ↦ omega (arith, e) | inr p ↦ c.requires.first y p ] in
    subst (AreMarks c.args.arity.now c.args.heap.now.objects) (sym (ap₂ take c.index-at.ensures c.as_slice.ensures.value))
    (settled-marks c.args.arity.now c.args.heap.now.objects ms w c.requires.size (λ y. (y ≡ c.args.x) ⊎ Waits w y) c.requires.settling c.args.x first (omega (arith, c.requires.within)))

pub note_reasons-requires-clause-lasting : goal.note_reasons-requires-clause-lasting
note_reasons-requires-clause-lasting c = λ x before is.
    let w = c.args.self.now in
    let ms = c.args.cells.now.items in
    let first : ((y : ℕ) → (y ≡ c.args.x) ⊎ Waits w y → c.args.x ≤ y) = λ y o. elim o [ inl e ↦ omega (arith, e) | inr p ↦ c.requires.first y p ] in
    settled-lasts c.args.arity.now c.args.heap.now.objects ms w c.requires.size (λ y. (y ≡ c.args.x) ⊎ Waits w y) c.requires.settling c.args.x first (omega (arith, c.requires.within)) x before (subst (λ l. IsLastingIn l x) c.as_slice-2.ensures.value is)

pub returns-clause-settling : goal.returns-clause-settling
returns-clause-settling c =
    let w = c.args.self.now in
    let ms = c.args.cells.now.items in
    let at = c.index-at.result in
    let first : ((y : ℕ) → (y ≡ c.args.x) ⊎ Waits w y → c.args.x ≤ y) = λ y o. elim o [ inl e ↦ omega (arith, e) | inr p ↦ c.requires.first y p ] in
    let woken = c.in_ok-wake_if_changed.ensures in
    let before : c.index.result.now ≡ mark_in ms c.args.x = c.index.ensures ∙ (any-default ms at c.index.result.now no_mark (omega (arith, c.index-at.ensures, c.requires.within)) ∙ ap (mark_in ms) c.index-at.ensures) in
    settled-anew c.args.arity.now c.args.heap.now.objects ms _ w _ c.requires.size (λ y. (y ≡ c.args.x) ⊎ Waits w y) c.requires.settling c.args.x c.in_ok-mark.mark c.in_ok-lasts.lasts c.in_ok-mark.ensures.mark first (IsNoted c.note_reasons.new.notes.by_part.entries) c.in_ok-lasts.ensures.reasons c.in_ok-lasts.ensures.lasts c.in_ok-lasts.ensures.kept c.requires.within
    (ap (λ i. set ms i c.in_ok-mark.mark) c.index-at.ensures)
    (ap (λ v. set v.items at c.in_ok-lasts.lasts) woken.same ∙ ap (λ i. set w.lasting.items i c.in_ok-lasts.lasts) c.index-at.ensures)
    (λ y o. elim o [ inl e ↦ inl e | inr p ↦ inr (woken.wait y p) ])
    (λ p y o. woken.kept p y o)
    (elim woken.woken [ inl e ↦ inl (e ∙ before) | inr f ↦ inr f ])
