-- Parts of a raw term.
use Rattle.std.specs.Prelude.{ℕ}
use Rattle.mw_translate.specs.declared.part.Part.{Part}
use Rattle.mw_translate.specs.declared.part.Kind.{Kind}

-- a part by its kind and its cell
abbrev pub part_at : Kind → ℕ → Part
part_at k x = record { kind = k; cell = x }
