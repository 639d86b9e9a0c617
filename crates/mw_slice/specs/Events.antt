-- The events that were added, as objects.
use Rattle.std.specs.Prelude.{List, [], map, All, Option, Some, None}
use Rattle.mw_model.specs.Terms.Object.{Object}
use Rattle.mw_slice.specs.declared.added.Added.{Added}
use Rattle.mw_slice.specs.declared.part.Part.{Part}
use Rattle.mw_slice.specs.Heaps.{IsPlaced, object_in}
use Rattle.mw_slice.specs.Parts.{theorems_in}

abbrev pub AreIn : List (List Object) → List Added → Type 0
AreIn hs added = All (IsPlaced hs) added

abbrev pub objects_of : List (List Object) → List Added → List Object
objects_of hs added = map (object_in hs) added

abbrev pub theorems_of : List Object → Option Part → List Object
theorems_of os None = []
theorems_of os (Some p) = theorems_in os p
