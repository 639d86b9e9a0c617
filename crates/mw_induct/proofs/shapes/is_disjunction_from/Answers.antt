-- The first disjunct decides.
use Rattle.std.proofs.Common.{sym, ◌∙◌}
use Rattle.mw_model.specs.Terms.Object.{Pair, NIL, symbol}
use Rattle.mw_heap.specs.Objects.{object_at}
use Rattle.mw_induct.proofs.Forms.{or_from, not_from, other_first}
use Rattle.mw_induct.proofs.shapes.is_disjunction_from.Goals as goal
use Rattle.mw_induct.proofs.shapes.is_disjunction_from.Goals.{in-Some+else-same, in_default}

pub returns-then-same-clause-yes : goal.returns-then-same-clause-yes
returns-then-same-clause-yes c = λ h.
    let o = object_at c.args.heap.now.objects in
    (Pair _ NIL, or_from (o c.args.x) _ _ (o c.args.a) c.in-Some.ensures.members (sym c.same.ensures.same ∙ c.if-same.true))

pub returns-clause-no : goal.returns-clause-no
returns-clause-no c = λ h.
    let o = object_at c.args.heap.now.objects in
    not_from (o c.args.x) (o c.args.a) (sym c.same-2.ensures.same ∙ h) (λ b. elim c.match-members_after.branch [
      | in-Some+else-same w ↦ other_first (o c.args.x) (symbol "POR*") _ _ (o c.args.a) b w.in-Some.ensures.members (sym w.same.ensures.same ∙ w.if-same.false)
      | in_default w ↦ w.in_default.ensures.members (o c.args.a) b
    ])

pub returns-clause-yes : goal.returns-clause-yes
returns-clause-yes c = λ h. (NIL, sym c.same-2.ensures.same ∙ h)
