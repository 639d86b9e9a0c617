-- The references of T and NIL.
use Rattle.std.specs.Prelude.{◌≡◌, List}
use Rattle.mw_model.specs.Terms.Object.{Object, T, NIL}
use Rattle.mw_heap.specs.Objects.{object_at, IsIn}
use Rattle.mw_base.specs.declared.truths.Truths.{Truths}

pub record AreTruths (os : List Object) (r : Truths) : Type 0 where
  pub t_in : IsIn os r.t
  pub nil_in : IsIn os r.nil
  pub t : object_at os r.t ≡ T
  pub nil : object_at os r.nil ≡ NIL
