-- What was added of the block is cut away again.
use Rattle.std.proofs.Common.{◌∙◌}
use Rattle.mw_theory.proofs.CutBack.{ends_long, begins_long, ends_cut, begins_cut}
use Rattle.mw_theory.proofs.adding.add_or_keep.Goals as goal

pub cut_back-requires-clause-functions : goal.cut_back-requires-clause-functions
cut_back-requires-clause-functions c = ends_long _ _ _ c.sizes_of-had.ensures.functions c.add_parts.ensures.arity_kept

pub cut_back-requires-clause-blocks : goal.cut_back-requires-clause-blocks
cut_back-requires-clause-blocks c = begins_long _ _ _ c.sizes_of-had.ensures.blocks c.add_parts.ensures.entries_kept

pub cut_back-requires-clause-axioms : goal.cut_back-requires-clause-axioms
cut_back-requires-clause-axioms c = ends_long _ _ _ c.sizes_of-had.ensures.axioms c.add_parts.ensures.known_kept

pub returns-in-Err-clause-err_arity : goal.returns-in-Err-clause-err_arity
returns-in-Err-clause-err_arity c = c.cut_back.ensures.arity ∙ ends_cut _ _ _ c.sizes_of-had.ensures.functions c.add_parts.ensures.arity_kept

pub returns-in-Err-clause-err_entries : goal.returns-in-Err-clause-err_entries
returns-in-Err-clause-err_entries c = c.cut_back.ensures.entries ∙ begins_cut _ _ _ c.sizes_of-had.ensures.blocks c.add_parts.ensures.entries_kept

pub returns-in-Err-clause-err_known : goal.returns-in-Err-clause-err_known
returns-in-Err-clause-err_known c = c.cut_back.ensures.known ∙ ends_cut _ _ _ c.sizes_of-had.ensures.axioms c.add_parts.ensures.known_kept
