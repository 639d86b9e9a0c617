-- The distinct proofs are those that are complete.
use Rattle.std.proofs.Common.{◌≡◌, ℕ, List, ◌++◌, map, ap, ◌∙◌, subst}
use Rattle.mw_model.specs.Terms.Object.{Object}
use Rattle.mw_model.specs.Texts.Pieces.{InOrder, numbered}
use Rattle.mw_commands.specs.Commands.Flattening.{IsStepLine, number_among}
use Rattle.mw_heap.specs.Objects.{object_at}
use Rattle.mw_flat.proofs.flattening.write_complete.Goals as goal

pub returns-clause-steps : goal.returns-clause-steps
returns-clause-steps c =
    subst (λ (qs : List Object). (text : List ℕ) × InOrder (IsStepLine qs) (numbered 1 qs) text × (c.write_steps.new.out.items ≡ c.args.out.now.items ++ text)) c.requires.distinct c.in_ok-write_steps.ensures.steps

pub returns-clause-numbers : goal.returns-clause-numbers
returns-clause-numbers c =
    c.in_ok-numbers.ensures ∙ ap (λ (qs : List Object). map (λ r. number_among qs (object_at c.args.heap.now.objects r)) c.args.proofs.now) c.requires.distinct
