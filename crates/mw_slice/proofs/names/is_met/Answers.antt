-- No pair is an atom that was met, and what was met stands in the heap that grew.
use Rattle.std.proofs.Common.{sym, ap, ◌∙◌}
use Rattle.mw_model.specs.Values.Primitive.{is_pair}
use Rattle.mw_heap.specs.Parts.{part_at}
use Rattle.mw_slice.proofs.References.{no_pair_met}
use Rattle.mw_slice.proofs.Growing.{inside_grows}
use Rattle.mw_slice.proofs.names.is_met.Goals as goal

pub has_name-requires-clause-inside : goal.has_name-requires-clause-inside
has_name-requires-clause-inside c = inside_grows c.args.to.now.objects c.nil.new.self.objects c.nil.ensures.grows c.args.basis.now c.requires.inside

pub returns-then-is_pair-clause-met : goal.returns-then-is_pair-clause-met
returns-then-is_pair-clause-met c = sym (no_pair_met c.args.to.now.objects (part_at c.args.from.now.objects c.args.part) c.args.basis.now.cells.keys (ap (λ o. is_pair (part_at c.args.from.now.objects o)) c.in-Some.is ∙ (sym c.is_pair.ensures ∙ c.if-is_pair.true)))

pub has_name-requires-2-clause-inside : goal.has_name-requires-2-clause-inside
has_name-requires-2-clause-inside c = inside_grows c.args.to.now.objects c.copy.new.to.objects c.copy.ensures.grows c.args.basis.now c.requires.inside
