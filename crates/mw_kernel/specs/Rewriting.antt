-- Events that give definitions, by their proofs.
use Rattle.std.specs.Prelude.{List}
use Rattle.mw_model.specs.Terms.Object.{Object}
use Rattle.mw_heap.specs.Objects.{object_at}
use Rattle.mw_theory.specs.declared.admitting.Drafts.{Drafts}
use Rattle.mw_theory.specs.declared.admitting.Drafts.TheVariants.{One, All}
use Rattle.mw_theory.specs.Words.{define_event, define_all_event}

-- the DEFINE or the DEFINE-ALL that gives these definitions, with these proofs
abbrev pub defining_event : List Object → Drafts → Object → Object
defining_event os (One d) proofs = define_event (object_at os d.name) (object_at os d.formals) (object_at os d.body) (object_at os d.measure) proofs
defining_event os (All x) proofs = define_all_event (object_at os x) proofs
