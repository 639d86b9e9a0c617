-- Formals are read one by one.
use Rattle.std.proofs.Common.{◌∷◌, [], ◌++◌, sym, ap, ◌∙◌, if◌then◌else◌}
use Rattle.mw_term.proofs.FormalList.{before-step, before-refused}
use Rattle.mw_term.proofs.formals.add_formals.Goals as goal

pub returns-then-not-branch-clause-formals : goal.returns-then-not-branch-clause-formals
returns-then-not-branch-clause-formals c =
    sym (before-refused c.args.heap.now.objects c.args.x c.loop-first.formals.keys c.loop-first.rest c.in-Pair.first c.in-Pair.more c.loop-first.invariant c.in-Pair.ensures.shows.2 (sym c.in_ok-add_formal.ensures.new ∙ c.if-not-branch.true))

pub loop-first-preserved : goal.loop-first-preserved
loop-first-preserved c =
    before-step c.args.heap.now.objects c.args.x c.loop-first.formals.keys c.add_formal.new.formals.keys c.loop-first.rest c.in-Pair.first c.in-Pair.more c.loop-first.invariant c.in-Pair.ensures.shows.2 c.in-Pair.ensures.shows.0 c.in-Pair.ensures.shows.1
    (sym c.in_ok-add_formal.ensures.new ∙ c.if-not-branch.false)
    (c.in_ok-add_formal.ensures.added ∙ ap (λ b. if b then c.loop-first.formals.keys ++ c.in-Pair.first ∷ [] else c.loop-first.formals.keys) c.if-not-branch.false)
