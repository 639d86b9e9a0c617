-- The objects of references, and what parts come to, as the heap grows.
use Rattle.std.proofs.Common.{◌≡◌, ℕ, suc, suc-le-suc, arith, List, [], ◌∷◌, map, Option, Some, None, refl, ap, ap₂, ◌∙◌, option_map}
use Rattle.std.specs.Prelude.{All, IfSome}
use Rattle.mw_model.specs.Terms.Object.{Object}
use Rattle.mw_heap.specs.Objects.{object_at, IsIn, Grows}
use Rattle.mw_heap.proofs.Objects.{IsIn-Grows, object_at-Grows}
use Rattle.mw_taut.specs.declared.reduced.Change.{Change}
use Rattle.mw_taut.specs.declared.reduced.Reduced.{Reduced}
use Rattle.mw_taut.specs.declared.reduced.Reduced.TheVariants.{Fixed as FixedAt, Kept as KeptAt, Changed as ChangedAt}
use Rattle.mw_taut.specs.declared.table.Table.{Table}
use Rattle.mw_taut.specs.declared.case.Question.{Question}
use Rattle.mw_taut.specs.Reducing.{Fixed, Changed, other_at, form_at, each_at, IsOtherIn, IsFormIn}
use Rattle.mw_taut.specs.Cases.{IsQuestionIn, IsTableIn}

module _ (old new : List Object) (grows : Grows old new) where
  pub in_kept : (rs : List ℕ) → All (IsIn old) rs → All (IsIn new) rs
  in_kept rs h = λ k d l. IsIn-Grows old new grows _ (h k d l)

  pub question_kept : (q : Question) → IsQuestionIn old q → IsQuestionIn new q
  question_kept q h = record { formula = IsIn-Grows old new grows q.formula h.formula; equations = in_kept q.equations.now h.equations }

  pub map_kept : (rs : List ℕ) → All (IsIn old) rs → map (object_at new) rs ≡ map (object_at old) rs
  map_kept [] h = refl
  map_kept (r ∷ rs) h = ap₂ ◌∷◌ (object_at-Grows old new grows r (h 0 0 (omega arith))) (map_kept rs (λ k d l. h (suc k) d (suc-le-suc l)))

  pub denied_in_kept : (o : Option ℕ) → IfSome o (IsIn old) → IfSome o (IsIn new)
  denied_in_kept None h = h
  denied_in_kept (Some z) h = IsIn-Grows old new grows z h

  pub denied_kept : (o : Option ℕ) → IfSome o (IsIn old) → option_map (object_at new) o ≡ option_map (object_at old) o
  denied_kept None h = refl
  denied_kept (Some z) h = ap Some (object_at-Grows old new grows z h)

  pub other_in_kept : (s : Change) → IsOtherIn old s → IsOtherIn new s
  other_in_kept s h = record { formula = IsIn-Grows old new grows s.formula h.formula; denied = denied_in_kept s.denied h.denied; from = IsIn-Grows old new grows s.from h.from; to = IsIn-Grows old new grows s.to h.to }

  pub other_kept : (s : Change) → IsOtherIn old s → other_at new s ≡ other_at old s
  other_kept s h =
      ap₂ (λ x y. record { formula = x; denied = y; from = object_at new s.from; to = object_at new s.to }) (object_at-Grows old new grows s.formula h.formula) (denied_kept s.denied h.denied)
      ∙ ap₂ (λ x y. record { formula = object_at old s.formula; denied = option_map (object_at old) s.denied; from = x; to = y }) (object_at-Grows old new grows s.from h.from) (object_at-Grows old new grows s.to h.to)

  pub form_in_kept : (r : Reduced) → IsFormIn old r → IsFormIn new r
  form_in_kept (FixedAt s) h = IsIn-Grows old new grows s.proof h
  form_in_kept KeptAt h = h
  form_in_kept (ChangedAt s) h = other_in_kept s h

  pub form_kept : (r : Reduced) → IsFormIn old r → form_at new r ≡ form_at old r
  form_kept (FixedAt s) h = ap (λ p. Fixed (s.value, p)) (object_at-Grows old new grows s.proof h)
  form_kept KeptAt h = refl
  form_kept (ChangedAt s) h = ap Changed (other_kept s h)

  pub forms_in_kept : (rs : List Reduced) → All (IsFormIn old) rs → All (IsFormIn new) rs
  forms_in_kept rs h = λ k d l. form_in_kept _ (h k d l)

  pub forms_kept : (rs : List Reduced) → All (IsFormIn old) rs → each_at new rs ≡ each_at old rs
  forms_kept [] h = refl
  forms_kept (r ∷ rs) h = ap₂ ◌∷◌ (form_kept r (h 0 r (omega arith))) (forms_kept rs (λ k d l. h (suc k) d (suc-le-suc l)))

  pub table_in_kept : (t : Table) → IsTableIn old t → IsTableIn new t
  table_in_kept t h = record { formulas = in_kept t.formulas.items h.formulas; equations = in_kept t.equations.items h.equations; nodes = h.nodes; parts = h.parts; root = h.root }

pub ruleset kept = (in_kept, map_kept, other_in_kept, other_kept, form_in_kept, form_kept)
