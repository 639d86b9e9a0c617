-- The list is that of the arity table, which is the theory's.
use Rattle.std.proofs.Common.{◌≡◌, ◌∙◌, ap, subst}
use Rattle.mw_model.specs.Values.Definition.{arity_table}
use Rattle.mw_model.specs.Terms.Term.{table_object}
use Rattle.mw_heap.specs.Objects.{object_at}
use Rattle.mw_kernel.specs.Knowledge.{theory_of}
use Rattle.mw_theory.proofs.CallerLemmas.{held}
use Rattle.mw_kernel.proofs.kernel.Kernel.arity.Goals as goal

pub returns-clause-list : goal.returns-clause-list
returns-clause-list c =
    let h = held _ _ _ _ c.self.invariant in
    subst (λ v. object_at v.objects (c.self.inside.world.theory.arity_list) ≡ table_object (arity_table (theory_of v).definitions)) c.self.view_is (h.arities_listed ∙ ap table_object h.arities)
