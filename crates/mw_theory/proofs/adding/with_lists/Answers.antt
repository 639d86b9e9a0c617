-- The axioms mean in the grown heap what they meant.
use Rattle.std.proofs.Common.{ap₂, ◌∙◌}
use Rattle.mw_heap.proofs.Objects.{object_at-Grows, Grows-trans, IsIn-Grows}
use Rattle.mw_theory.specs.Knowledge.{put_all}
use Rattle.mw_theory.proofs.Initial.{map_grown}
use Rattle.mw_theory.proofs.Held.{all-grow}
use Rattle.mw_theory.proofs.adding.with_lists.Goals as goal

pub returns-clause-axiom_list : goal.returns-clause-axiom_list
returns-clause-axiom_list c =
    let os = c.args.heap.now.objects in
    let mid = c.list_pairs.new.heap.objects in
    let g = c.list_pairs.ensures.grows in
    let made = c.in_ok-axioms.ensures.made in
    (made.0, made.1 ∙ ap₂ put_all (map_grown os mid g c.args.axioms.now c.requires.axioms) (object_at-Grows os mid g c.args.lists.axioms c.requires.axiom_list))

pub with_all-requires-clause-members : goal.with_all-requires-clause-members
with_all-requires-clause-members c = all-grow _ _ c.in_ok-arity_list.ensures.grows c.args.axioms.now c.requires.axioms

pub with_all-requires-clause-list : goal.with_all-requires-clause-list
with_all-requires-clause-list c = IsIn-Grows _ _ c.in_ok-arity_list.ensures.grows _ c.requires.axiom_list

pub returns-in_err-axioms-clause-grows : goal.returns-in_err-axioms-clause-grows
returns-in_err-axioms-clause-grows c = Grows-trans _ _ _ c.in_ok-arity_list.ensures.grows c.with_all.ensures.grows

pub returns-clause-grows : goal.returns-clause-grows
returns-clause-grows c = Grows-trans _ _ _ c.in_ok-arity_list.ensures.grows c.with_all.ensures.grows

pub returns-clause-arity_list_in : goal.returns-clause-arity_list_in
returns-clause-arity_list_in c = IsIn-Grows _ _ c.with_all.ensures.grows _ c.in_ok-arity_list.ensures.within

pub returns-clause-arity_list : goal.returns-clause-arity_list
returns-clause-arity_list c = λ A listed. object_at-Grows _ _ c.with_all.ensures.grows _ c.in_ok-arity_list.ensures.within ∙ c.in_ok-arity_list.ensures.listed A listed
