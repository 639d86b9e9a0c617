-- By the lemma on the members of a list.
use Rattle.std.proofs.Common.{sym, ◌∙◌}
use Rattle.mw_proof.proofs.ProofMembers.{members}
use Rattle.mw_proof.proofs.members.members_of.Goals as goal

pub returns-clause-members : goal.returns-clause-members
returns-clause-members c =
    members c.args.heap.now.objects c.args.p c.in-Pair.method c.in-Pair.rest c.in-Pair-view.conclusion c.in-Pair-view.rest
    c.next_member-subproofs.result.0 c.next_member-subproofs.result.1 c.next_member-extras.result.0 c.next_member-extras.result.1
    c.in-Pair.ensures.shows.2 c.in-Pair.ensures.below c.in-Pair-view.ensures.shows.2 c.in-Pair-view.ensures.below
    c.next_member-subproofs.ensures c.next_member-extras.ensures (sym c.is_nil.ensures ∙ c.if-not-is_nil.false)
