-- What is still to be written of a text: parts, the next one last.
use Rattle.std.specs.Prelude.{◌≡◌, ℕ, ◌+◌, ◌<◌, List, [], ◌∷◌, ◌++◌, All}
use Rattle.mw_model.specs.Terms.Object.{Object, weight}
use Rattle.mw_model.specs.Texts.Printing.{tail_text, text_of}
use Rattle.mw_heap.specs.Objects.{object_at, IsIn}
use Rattle.mw_print.specs.declared.part.Part.{Part}
use Rattle.mw_print.specs.declared.part.Part.TheVariants.{Text, Tail}

abbrev pub part_text : List Object → Part → List ℕ
part_text os (Text x) = text_of (object_at os x)
part_text os (Tail x) = tail_text (object_at os x)

abbrev pub parts_text : List Object → List Part → List ℕ
parts_text os [] = []
parts_text os (p ∷ ps) = parts_text os ps ++ part_text os p

abbrev pub IsPart : List Object → Part → Type 0
IsPart os (Text x) = IsIn os x
IsPart os (Tail x) = IsIn os x

abbrev pub part_weight : List Object → Part → ℕ
part_weight os (Text x) = weight (object_at os x)
part_weight os (Tail x) = weight (object_at os x)

abbrev pub parts_weight : List Object → List Part → ℕ
parts_weight os [] = 0
parts_weight os (p ∷ ps) = parts_weight os ps + part_weight os p

-- the part p is written, or begun and what is left of it added to the parts: these stay parts, and weigh less
pub record Writes (os : List Object) (p : Part) (old_parts new_parts : List Part) (old new : List ℕ) : Type 0 where
  pub text : new ++ parts_text os new_parts ≡ old ++ (part_text os p ++ parts_text os old_parts)
  pub within : All (IsPart os) new_parts
  pub lighter : parts_weight os new_parts < part_weight os p + parts_weight os old_parts
