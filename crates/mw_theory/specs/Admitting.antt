-- Functions that an event defines.
use Rattle.std.specs.Prelude.{ℕ, ◌<◌, List, [], ◌∷◌, Option, Some}
use Rattle.mw_model.specs.Terms.Object.{Object}
use Rattle.mw_model.specs.Events.Admission.{Draft, some_drafts}
use Rattle.mw_heap.specs.Objects.{object_at, IsIn}
use Rattle.mw_define.specs.Blocks.{draft_at, IsDraftIn}
use Rattle.mw_define.specs.declared.admitted.Entry.{Entry}
use Rattle.mw_preamble.specs.declared.definition.Definition.{Definition}
use Rattle.mw_preamble.specs.declared.definition.Definition.TheVariants.{Function}
use Rattle.mw_theory.specs.declared.admitting.Drafts.{Drafts}
use Rattle.mw_theory.specs.declared.admitting.Drafts.TheVariants.{One, All}

abbrev pub AreWithin : List Object → Drafts → Type 0
AreWithin os (One d) = IsDraftIn os d
AreWithin os (All x) = IsIn os x

-- they stand before a mark
abbrev pub AreBefore : ℕ → Drafts → Type 0
AreBefore n (One d) = (d.name < n) × (d.formals < n) × (d.body < n) × (d.measure < n)
AreBefore n (All x) = x < n

-- what the event gives; nothing where its list is none of drafts
abbrev pub drafts_given : List Object → Drafts → Option (List Draft)
drafts_given os (One d) = Some (draft_at os d ∷ [])
drafts_given os (All x) = some_drafts (object_at os x)

abbrev pub function_of_entry : Entry → Definition
function_of_entry e = Function e.name e.formals e.body
