-- The end of a list, a list with one more in front, and the first of a list of bindings.
use Rattle.std.specs.Prelude.{◌≡◌, ℕ, ◌+◌, ◌<◌, false, List, None}
use Rattle.mw_model.specs.Terms.Object.{Name, Object, Symbol, Pair, same_object, NIL}
use Rattle.mw_model.specs.Events.Expansion.{bindings}
use Rattle.mw_heap.specs.Objects.{object_at, IsIn}
use Rattle.mw_translate.specs.Meaning.{binding_names}
use Rattle.mw_translate.specs.declared.made.Made.{Made}
use Rattle.mw_translate.specs.declared.shape.Two.{Two}
use Rattle.mw_translate.specs.declared.progress.Progress.{Progress}
use Rattle.mw_translate.specs.declared.progress.Progress.TheVariants as progress

-- x is NIL, or not
abbrev pub IsEnd : List Object → ℕ → Progress → Type 0
IsEnd os x (progress.Made m) = (object_at os x ≡ NIL) × (m.object ≡ x) × (m.count ≡ 0)
IsEnd os x (progress.Wants p) = ⊥
IsEnd os x progress.Fails = same_object (object_at os x) NIL ≡ false

-- one more is in front
pub record IsPut (old new : List Object) (first rest : Made) (made : Made) : Type 0 where
  pub within : IsIn new made.object
  pub object : object_at new made.object ≡ Pair (object_at old first.object) (object_at old rest.object)
  pub count : made.count ≡ rest.count + 1

-- the object of x begins with a binding of a name
pub record IsBinding (os : List Object) (x : ℕ) (first : Two × ℕ) : Type 0 where
  pub name : Name
  pub name_in : IsIn os first.0.first
  pub after_in : IsIn os first.0.second
  pub rest_in : IsIn os first.1
  pub after_below : first.0.second < x
  pub rest_below : first.1 < x
  pub named : object_at os first.0.first ≡ Symbol name
  pub shape : object_at os x ≡ Pair (Pair (Symbol name) (object_at os first.0.second)) (object_at os first.1)

-- x is NIL; or no names and no bindings begin there
abbrev pub IsNoBinding : List Object → ℕ → Progress → Type 0
IsNoBinding os x (progress.Made m) = (object_at os x ≡ NIL) × (m.object ≡ x) × (m.count ≡ 0)
IsNoBinding os x (progress.Wants p) = ⊥
IsNoBinding os x progress.Fails = (binding_names (object_at os x) ≡ None) × (bindings (object_at os x) ≡ None)
