-- The body, and then the actuals.
use Rattle.std.proofs.lemmas.Result.{on_ok_weaker}
use Rattle.mw_explain.proofs.PuttingParts.{puts-lambda}
use Rattle.mw_explain.proofs.raw_parts.put_lambda.Goals as goal

pub returns : goal.returns
returns c =
    let third = c.in-Some.ensures in
    on_ok_weaker c.put_members.result
    (λ p x h a. puts-lambda c.args.heap.now.objects x c.args.head c.args.actuals c.in-Some.body third.0 third.1 third.2 c.args.parts.now.refs.items c.push.new.self.items c.put_members.new.parts.refs.items third.3 third.4 c.in_ok-push.ensures.items p h a)
    c.put_members.ensures
