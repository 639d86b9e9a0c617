-- An entry more, and a key if it is new; both as they were where the entry is refused.
use Rattle.std.proofs.Common.{◌≡◌, true, false, not, ◌∙◌, ap}
use Rattle.std.specs.Result.{is_ok}
use Rattle.mw_rules.proofs.Counted.{if-true, if-false, keys-before, AreCounted-added}
use Rattle.mw_rules.proofs.known.Known.add.Goals as goal

pub invariant_of-self-then-is_err : goal.invariant_of-self-then-is_err
invariant_of-self-then-is_err c =
    let refused : is_ok c.push.result ≡ false = c.is_err.ensures.negation ∙ ap not c.if-is_err.true in
    let entries : c.push.new.self.items ≡ c.self.inside.entries.items = if-false (is_ok c.push.result) _ _ _ c.push.ensures.items refused in
    let keys : c.truncate.new.self.keys ≡ c.self.inside.distinct.keys = c.truncate.ensures.keys ∙ keys-before _ _ _ c.args.x _ c.in_ok-insert.ensures.keys c.len-had.ensures.len in
    rw (entries, keys) c.self.invariant

pub invariant_of-self-else-is_err : goal.invariant_of-self-else-is_err
invariant_of-self-else-is_err c =
    let taken : is_ok c.push.result ≡ true = c.is_err.ensures.negation ∙ ap not c.if-is_err.false in
    rw (if-true (is_ok c.push.result) _ _ _ c.push.ensures.items taken)
    (AreCounted-added c.self.inside.entries.items c.self.inside.distinct.keys c.insert.new.self.keys _ c.args.x c.len.result c.self.invariant c.in_ok-insert.ensures.keys c.len.ensures.len c.in_ok-insert.ensures.updates.0)
