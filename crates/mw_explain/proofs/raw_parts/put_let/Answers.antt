-- The bindings, and then the body.
use Rattle.std.proofs.Common.{ap, arith}
use Rattle.std.proofs.lemmas.Result.{on_ok_weaker}
use Rattle.mw_heap.specs.Objects.{object_at}
use Rattle.mw_heap.proofs.NoPair.{shown_no_pair}
use Rattle.mw_bad_steps.specs.Members.{members_in}
use Rattle.mw_explain.specs.RawParts.{let_members, binding_members}
use Rattle.mw_explain.proofs.PuttingParts.{puts-none, puts-both, no-let}
use Rattle.mw_explain.proofs.raw_parts.put_let.Goals as goal

pub returns : goal.returns
returns c =
    let os = c.args.heap.now.objects in
    let below = c.in-Pair.ensures.below in
    on_ok_weaker c.put_members.result
    (λ p. puts-both os c.args.rest c.in-Pair.bindings c.in-Pair.body (let_members (object_at os c.args.rest)) (binding_members (object_at os c.in-Pair.bindings)) (members_in (object_at os c.in-Pair.body)) c.args.parts.now.refs.items c.put_bindings.new.parts.refs.items c.put_members.new.parts.refs.items (ap let_members c.in-Pair.ensures.shows.2) (omega (arith, below.0)) (omega (arith, below.1)) c.in_ok-put_bindings.ensures p)
    c.put_members.ensures

pub returns-in_default : goal.returns-in_default
returns-in_default c =
    let os = c.args.heap.now.objects in
    puts-none os c.args.rest (let_members (object_at os c.args.rest)) c.args.parts.now.refs.items (no-let (object_at os c.args.rest) (shown_no_pair os c.view.result (object_at os c.args.rest) c.view.ensures.shows c.in_default.not-Pair))
