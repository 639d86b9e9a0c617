-- Functions that an event defines stand where they stood as the heap grows, and after a cut after them; and their entries mean them.
use Rattle.std.proofs.Common.{◌≡◌, ℕ, ◌≤◌, List, [], ◌∷◌, length, take, map, Some, sym, ap, ap₂, ◌∙◌, arith}
use Rattle.mw_model.specs.Terms.Object.{Object}
use Rattle.mw_model.specs.Values.Definition.{Function as Defined}
use Rattle.mw_model.specs.Events.Admission.{some_drafts}
use Rattle.mw_heap.specs.Objects.{object_at, Grows}
use Rattle.mw_heap.proofs.Objects.{Grows-take, IsIn-Grows, IsIn-take, object_at-Grows}
use Rattle.mw_define.specs.declared.admitted.Entry.{Entry}
use Rattle.mw_define.specs.Blocks.{Each2}
use Rattle.mw_define.specs.BlockTests.{IsFunctionEntry}
use Rattle.mw_preamble.specs.Entries.{AreFunctions}
use Rattle.mw_theory.specs.Admitting.{AreWithin, AreBefore, drafts_given, function_of_entry}
use Rattle.mw_theory.specs.declared.admitting.Drafts.{Drafts}
use Rattle.mw_theory.specs.declared.admitting.Drafts.TheVariants.{One, All}

-- the entries of functions mean them
pub functions-mean : (os : List Object) (B : List Defined) (es : List Entry) → Each2 (IsFunctionEntry os) B es → AreFunctions os (map function_of_entry es) B
functions-mean os [] [] h = tt
functions-mean os (f ∷ B) (e ∷ es) h =
    let g = h.0 in (
      record { name_in = g.name_in; formals_in = g.formals_in; body_in = g.body_in; name_is = g.name; formals_are = g.formals; body_is = g.body },
      functions-mean os B es h.1,
    )
functions-mean os [] (e ∷ es) h = absurd h
functions-mean os (f ∷ B) [] h = absurd h

pub within-grows : (old new : List Object) → Grows old new → (drafts : Drafts) → AreWithin old drafts → AreWithin new drafts
within-grows old new g (One d) h = (IsIn-Grows old new g d.name h.0, IsIn-Grows old new g d.formals h.1, IsIn-Grows old new g d.body h.2, IsIn-Grows old new g d.measure h.3)
within-grows old new g (All x) h = IsIn-Grows old new g x h

pub given-grows : (old new : List Object) → Grows old new → (drafts : Drafts) → AreWithin old drafts → drafts_given new drafts ≡ drafts_given old drafts
given-grows old new g (One d) h =
    ap (λ x. Some (x ∷ []))
    (ap₂ (λ a b. record { name = a; formals = b; body = object_at new d.body; measure = object_at new d.measure }) (object_at-Grows old new g d.name h.0) (object_at-Grows old new g d.formals h.1)
    ∙ ap₂ (λ a b. record { name = object_at old d.name; formals = object_at old d.formals; body = a; measure = b }) (object_at-Grows old new g d.body h.2) (object_at-Grows old new g d.measure h.3))
given-grows old new g (All x) h = ap some_drafts (object_at-Grows old new g x h)

pub within-cut : (os : List Object) (n m : ℕ) → m ≤ n → n ≤ length os → (drafts : Drafts) → AreBefore m drafts → AreWithin (take n os) drafts
within-cut os n m l w (One d) h = (IsIn-take n os d.name (omega (arith, h.0, l)) w, IsIn-take n os d.formals (omega (arith, h.1, l)) w, IsIn-take n os d.body (omega (arith, h.2, l)) w, IsIn-take n os d.measure (omega (arith, h.3, l)) w)
within-cut os n m l w (All x) h = IsIn-take n os x (omega (arith, h, l)) w

pub given-cut : (os : List Object) (n m : ℕ) → m ≤ n → n ≤ length os → (drafts : Drafts) → AreBefore m drafts → drafts_given (take n os) drafts ≡ drafts_given os drafts
given-cut os n m l w drafts h = sym (given-grows (take n os) os (Grows-take n os) drafts (within-cut os n m l w drafts h))
