-- A proof at a time.
use Rattle.mw_heap.specs.Objects.{object_at}
use Rattle.mw_heap.proofs.NoPair.{shown_no_pair}
use Rattle.mw_theory.proofs.CallerLemmas.{held-grows}
use Rattle.mw_kernel.proofs.Rewritten.{Rewrites-next, all_rewritten}
use Rattle.mw_kernel.proofs.rewriting.rewritten_members.Goals as goal

pub rewritten_proof-requires-clause-stands : goal.rewritten_proof-requires-clause-stands
rewritten_proof-requires-clause-stands g c = record { held = held-grows _ _ c.loop-proof.invariant.grows _ c.requires.stands.held; marked = c.loop-proof.invariant.marked }

pub loop-proof-preserved : goal.loop-proof-preserved
loop-proof-preserved g c =
    let pair = c.in-Pair.ensures in
    let made = c.in_ok-turned.ensures in
    Rewrites-next g.R.Rewriter.turns c.args.heap.now.objects c.args.theory.now c.args.proofs _ _ _ _ c.loop-proof.invariant c.requires.stands.held c.in-Pair.proof c.in-Pair.more pair.below.0 pair.below.1 pair.shows.2 _ _ made.kept.grows made.kept.marked c.in_ok-turned.turned made.within made.turned _ c.in_ok-push.ensures.items

pub returns : goal.returns
returns g c =
    let now = c.loop-proof.heap.objects in
    let w = c.loop-proof.invariant in
    record {
      kept = record { grows = w.grows; marked = w.marked };
      within = w.within;
      turned = all_rewritten g.R.Rewriter.turns c.args.heap.now.objects c.args.theory.now c.args.proofs now c.loop-proof.marks c.loop-proof.rest c.loop-proof.members.items w (shown_no_pair now c.view.result (object_at now c.loop-proof.rest) c.view.ensures.shows c.in_default.not-Pair);
    }
