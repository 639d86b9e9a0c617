-- What a rewriter answers.
use Rattle.std.specs.Prelude.{List}
use Rattle.mw_model.specs.Terms.Object.{Object}
use Rattle.mw_heap.specs.Objects.{object_at, IsIn}
use Rattle.mw_proof.specs.declared.rewriter.Rewritten.{Rewritten}
use Rattle.mw_proof.specs.declared.rewriter.Rewritten.TheVariants.{Proof, Keep, Memory}

-- an object to which the proof turns; or it turns to none
abbrev pub IsRewriting : (Object → Type 0) → List Object → Rewritten → Type 0
IsRewriting turns os (Proof q) = IsIn os q × turns (object_at os q)
IsRewriting turns os Keep = (q : Object) → turns q → ⊥
IsRewriting turns os Memory = Unit {0}
