-- The places of a slice are those of events, and what is written of them is owed.
use Rattle.std.proofs.Common.{◌≡◌, ℕ, zero, suc, ◌<◌, ◌≤◌, Bool, true, false, cond, eqb, List, [], ◌∷◌, ◌++◌, length, map, take, Option, Some, None, codes, refl, sym, ap, ap₂, ◌∙◌, subst, arith, eq-eqb, is_some}
use Rattle.std.specs.Prelude.{All, slice_index_or}
use Rattle.std.proofs.lemmas.Bool.{and_parts, ltb-true, or_left, or_right}
use Rattle.std.proofs.lemmas.List.{length-map}
use Rattle.mw_model.specs.Terms.Object.{Name, Object}
use Rattle.mw_model.specs.Values.Value.{pick}
use Rattle.mw_model.specs.Reports.Request.{Request}
use Rattle.mw_model.specs.Texts.Printing.{numeral}
use Rattle.mw_model.specs.Reports.Report.{spaced}
use Rattle.mw_model.specs.Texts.Written.{IsDatumLine}
use Rattle.mw_model.specs.Texts.Pieces.{InOrder, comment}
use Rattle.mw_commands.specs.Commands.Slice.{begins_with, event_at, some_passes, later_place, first_place, target, Needed, the_goal, the_profile, the_basis, is_idle, IsKept, IsSlice}
use Rattle.mw_commands.specs.Commands.Slicing.{accepted_events, SliceOwed}
use Rattle.mw_read.specs.Kinds.{kind_of}
use Rattle.mw_read.specs.declared.step.SyntaxKind.{SyntaxKind}
use Rattle.mw_kernel.specs.Knowledge.{Knowledge}
use Rattle.mw_slice.specs.Slices.{events_of}
use Rattle.mw_book.specs.Lines.{fault_line}
use Rattle.mw_answers.specs.Answering.{fault_of}
use Rattle.mw_answers.specs.LastTexts.{IsLastText, refused_for}
use Rattle.mw_book.specs.Sliced.{SlicedFor, name_asked}
use Rattle.mw_book.specs.declared.slice.Slicing.{Slicing}
use Rattle.mw_book.proofs.AnsweredBy.{last_by, refused_by}
use Rattle.mw_book.proofs.SlicedOne.{IsSliced, slice_request}

-- ---- places of events

first_place_within : (test : Object → Bool) (es : List Object) (g : ℕ) → first_place test es ≡ Some g → g < length es
first_place_within test [] g h = absurd (let e : ◌≡◌ {A = Option ℕ} None (Some g) = h in cc)
first_place_within test (e ∷ es) g h = go (test e) (first_place test es) (first_place_within test es) h
  where
    later : (o : Option ℕ) → ((k : ℕ) → o ≡ Some k → k < length es) → later_place o ≡ Some g → g < suc (length es)
    later None f i = absurd (let j : ◌≡◌ {A = Option ℕ} None (Some g) = i in cc)
    later (Some k) f i = let l = f k refl in let j : suc k ≡ g = (let q : Some (suc k) ≡ Some g = i in cc) in omega (arith, l, j)

    go : (b : Bool) (o : Option ℕ) → ((k : ℕ) → o ≡ Some k → k < length es) → cond b (Some 0) (later_place o) ≡ Some g → g < suc (length es)
    go true o f i = let j : 0 ≡ g = (let q : Some 0 ≡ Some g = i in cc) in omega (arith, j)
    go false o f i = later o f i

needed_within : (es : List Object) (goal j : ℕ) → Needed es goal j → j ≤ goal
needed_within es goal j the_goal = omega arith
needed_within es goal j (the_profile k l e) = omega (arith, l)
needed_within es goal j (the_basis i k n r) =
    let h = needed_within es goal i n in
    let l = ltb-true j i (and_parts _ _ r).0 in
    omega (arith, h, l)

kept_within : (es : List Object) (goal j : ℕ) → IsKept es goal j → j ≤ goal
kept_within es goal j = go (some_passes (begins_with "SWITCH") (take goal es))
  where
    go : (b : Bool) → pick b ((j ≤ goal) × (is_idle (event_at es j) ≡ false)) (Needed es goal j) → j ≤ goal
    go true h = h.0
    go false h = needed_within es goal j h

member_at : (xs : List ℕ) (k d : ℕ) → k < length xs → some_passes (λ i. eqb i (slice_index_or xs k d)) xs ≡ true
member_at [] k d l = absurd (omega (arith, l))
member_at (x ∷ xs) zero d l = or_left (eqb x x) (some_passes (λ i. eqb i x) xs) (eq-eqb x x refl)
member_at (x ∷ xs) (suc k) d l = or_right (eqb x (slice_index_or xs k d)) (some_passes (λ i. eqb i (slice_index_or xs k d)) xs) (member_at xs k d (omega (arith, l)))

pub places_within : (es : List Object) (name : Name) (goal : ℕ) (places : List ℕ) → target es name ≡ Some goal → IsSlice es goal places → All (λ j. j < length es) places
places_within es name goal places t s =
    let g = first_place_within _ es goal t in
    λ k d l. let h = kept_within es goal (slice_index_or places k d) ((s.just (slice_index_or places k d)).0 (member_at places k d l)) in omega (arith, g, h)

-- ---- what is written last

module _ (s : Slicing) (k : Knowledge) (q : Request) (given : List Object) (h : SlicedFor s k q given) where
  pub sliced_fault : (kind : SyntaxKind) (offset : ℕ) → IsLastText q given (fault_of (Some (kind, offset))) (codes "; " ++ fault_line (kind_of kind) offset)
  sliced_fault kind offset = last_by slice_request (λ p given. IsSliced (s, k) p given) q given h (fault_of (Some (kind, offset))) (codes "; " ++ fault_line (kind_of kind) offset) (λ p i. refl)

  -- the goal among the events that were accepted
  goal_found : (p : Name × ℕ) → IsSliced (s, k) p given → (goal : Option ℕ) → target (events_of s.slicer) (name_asked s) ≡ goal → target (accepted_events given p.1) p.0 ≡ goal
  goal_found p i goal e = ap₂ (λ es n. target es n) (sym i.accepted) (sym i.named) ∙ e

  pub sliced_absent : target (events_of s.slicer) (name_asked s) ≡ None → IsLastText q given None (comment (spaced (codes "none of") (numeral s.events)))
  sliced_absent e =
      let text = comment (spaced (codes "none of") (numeral s.events)) in
      last_by slice_request (λ p given. IsSliced (s, k) p given) q given h None text
      (λ p i. subst (λ goal. SliceOwed None goal given (accepted_events given p.1) text) (sym (goal_found p i None e)) (ap (λ n. comment (spaced (codes "none of") (numeral n))) i.counted))

  pub sliced_found : (goal : ℕ) (places : List ℕ) (body : List ℕ) → target (events_of s.slicer) (name_asked s) ≡ Some goal → IsSlice (events_of s.slicer) goal places → InOrder IsDatumLine (map (event_at (events_of s.slicer)) places) body →
      IsLastText q given None (body ++ comment (spaced (codes "kept") (spaced (numeral (length places)) (spaced (codes "of") (numeral s.events)))))
  sliced_found goal places body e is written =
      let text : ℕ → ℕ → List ℕ = λ kept events. body ++ comment (spaced (codes "kept") (spaced (numeral kept) (spaced (codes "of") (numeral events)))) in
      last_by slice_request (λ p given. IsSliced (s, k) p given) q given h None (text (length places) s.events)
      (λ p i.
      let accepted = accepted_events given p.1 in
      let kept = map (event_at accepted) places in
      subst (λ g. SliceOwed None g given accepted (text (length places) s.events)) (sym (goal_found p i (Some goal) e)) (
        kept,
        body,
        (places, subst (λ es. IsSlice es goal places) i.accepted is, refl),
        subst (λ es. InOrder IsDatumLine (map (event_at es) places) body) i.accepted written,
        ap₂ text (sym (length-map places (event_at accepted))) i.counted,
      ))

  pub sliced_refused : (n : ℕ) → n ≡ cond (is_some (target (events_of s.slicer) (name_asked s))) 0 1 → n ≡ refused_for q given
  sliced_refused n e = refused_by slice_request (λ p given. IsSliced (s, k) p given) q given h n (λ p i. e ∙ ap (λ goal. cond (is_some goal) 0 1) (sym (goal_found p i _ refl)))
