-- The name and the list mean in the end what they meant.
use Rattle.std.proofs.Common.{ap₂, ◌∙◌}
use Rattle.mw_model.specs.Terms.Object.{Pair}
use Rattle.mw_heap.proofs.Objects.{Grows-trans, IsIn-Grows, object_at-Grows}
use Rattle.mw_theory.proofs.Results.{IfOk-map}
use Rattle.mw_theory.proofs.front.with_pair.Goals as goal

pub cons-requires-clause-first_in : goal.cons-requires-clause-first_in
cons-requires-clause-first_in c = IsIn-Grows _ _ c.in_ok-count.ensures.grows _ c.requires.name

pub cons-requires-2-clause-second_in : goal.cons-requires-2-clause-second_in
cons-requires-2-clause-second_in c = IsIn-Grows _ _ (Grows-trans _ _ _ c.in_ok-count.ensures.grows c.in_ok-entry.ensures.grows) _ c.requires.list

pub returns-in_err-entry-clause-grows : goal.returns-in_err-entry-clause-grows
returns-in_err-entry-clause-grows c = Grows-trans _ _ _ c.in_ok-count.ensures.grows c.cons.ensures.grows

pub returns-clause-grows : goal.returns-clause-grows
returns-clause-grows c = Grows-trans _ _ _ c.in_ok-count.ensures.grows (Grows-trans _ _ _ c.in_ok-entry.ensures.grows c.cons-2.ensures.grows)

pub returns-clause-made : goal.returns-clause-made
returns-clause-made c =
    let count = c.in_ok-count.ensures in
    let entry = c.in_ok-entry.ensures in
    let grows = Grows-trans _ _ _ count.grows entry.grows in
    IfOk-map c.cons-2.result _ _ (λ r made. (
      made.0,
      made.1
          ∙ ap₂ Pair (entry.made.1 ∙ ap₂ Pair (object_at-Grows _ _ count.grows c.args.name c.requires.name) count.made.1) (object_at-Grows _ _ grows c.args.list c.requires.list),
    )) c.cons-2.ensures.made
