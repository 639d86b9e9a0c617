-- The oldest entries, and as many keys as they count.
use Rattle.std.proofs.Common.{◌≡◌, ◌≤◌, length, sym, ◌∙◌, ap, drop, ◌-◌, arith}
use Rattle.mw_rules.specs.Known.{references, distinct_among}
use Rattle.mw_rules.proofs.Counted.{AreCounted-take, distinct_among-at, references-take, references-length}
use Rattle.mw_rules.proofs.known.Known.cut.Goals as goal
use Rattle.mw_rules.proofs.known.Known.cut.Goals.{in-0, in_default}

fits : (c : goal.After-truncate-2) → c.args.count ≤ length c.self.inside.entries.items
fits c =
    let e : length c.args.self.now ≡ length c.self.inside.entries.items = ap length (sym c.self.view_is) ∙ references-length c.self.inside.entries.items in
    omega (arith, c.requires)

pub invariant_of-self : goal.invariant_of-self
invariant_of-self c =
    let es = c.self.inside.entries.items in
    let ks = c.self.inside.distinct.keys in
    let counted : c.match-count.distinct ≡ distinct_among es c.args.count = elim c.match-count.branch [
      | in-0 w ↦ w.distinct-is ∙ ap (distinct_among es) (sym w.in-0.is)
      | in_default w ↦ w.distinct-is ∙ distinct_among-at es c.args.count w.index.result.now (omega arith) (fits c) w.index.ensures
    ] in
    rw (c.truncate.ensures.items, c.truncate-2.ensures.keys, counted) (AreCounted-take es ks c.self.invariant c.args.count (fits c))

pub returns : goal.returns
returns c =
    let es = c.self.inside.entries.items in
    ap references c.truncate.ensures.items ∙ (references-take es c.args.count (fits c) ∙ ap (λ k. drop (length k - c.args.count) k) c.self.view_is)
