-- What waits is taken up one after another.
use Rattle.std.proofs.Common.{ℕ, ◌∷◌, ◌++◌, [], refl, sym, ap, ◌∙◌, arith}
use Rattle.mw_model.specs.Laws.Rules.{substitute_object}
use Rattle.mw_model.proofs.Names.{same_object-from}
use Rattle.mw_heap.specs.Objects.{object_at}
use Rattle.mw_subst.specs.Sigma.{sigma_object}
use Rattle.mw_subst.specs.declared.part.Part.{Part}
use Rattle.mw_subst.specs.declared.part.Part.TheVariants.{Term}
use Rattle.mw_subst.proofs.Comparing.{compared-all, compared-first, not_same}
use Rattle.mw_subst.proofs.TakingUp.{claim_in, refused_whole, taken_up}
use Rattle.mw_subst.proofs.instance.compare.Goals as goal

pub loop-part-init : goal.loop-part-init
loop-part-init c =
    let os = c.args.heap.now.objects in
    let whole : Part × ℕ = (Term c.args.x, c.args.y) in (
      refl,
      compared-first os (sigma_object os c.args.sigma.now) whole c.args.noted.now.terms c.args.noted.now.lists c.push.new.self.items c.requires.no_terms c.requires.no_lists
          (c.in_ok-push.ensures.items ∙ ap (λ ws. ws ++ whole ∷ []) c.new-waiting.ensures.items) (c.requires.within, c.requires.instance),
    )

pub take_up-requires-clause-within : goal.take_up-requires-clause-within
take_up-requires-clause-within c = (claim_in c.args.heap.now.objects c.args.sigma.now (Term c.args.x, c.args.y) c.loop-part.noted c.pop.new.self.items (c.in-Some.part, c.in-Some.cell) c.loop-part.invariant.1 c.in-Some.ensures.items c.loop-part.invariant.0).0

pub take_up-requires-clause-instance : goal.take_up-requires-clause-instance
take_up-requires-clause-instance c = (claim_in c.args.heap.now.objects c.args.sigma.now (Term c.args.x, c.args.y) c.loop-part.noted c.pop.new.self.items (c.in-Some.part, c.in-Some.cell) c.loop-part.invariant.1 c.in-Some.ensures.items c.loop-part.invariant.0).1

pub returns-then-not-branch-clause-instance : goal.returns-then-not-branch-clause-instance
returns-then-not-branch-clause-instance c =
    let os = c.args.heap.now.objects in
    let i = c.loop-part.invariant in
    not_same (substitute_object (sigma_object os c.args.sigma.now) (object_at os c.args.x)) (object_at os c.args.y)
    (refused_whole os c.args.sigma.now (Term c.args.x, c.args.y) c.loop-part.noted c.pop.new.self.items (c.in-Some.part, c.in-Some.cell) i.1 c.in-Some.ensures.items i.0 c.in_ok-take_up.ensures.taken c.order.ensures.distinct c.if-not-branch.true)

pub loop-part-smaller : goal.loop-part-smaller
loop-part-smaller c =
    let i = c.loop-part.invariant in
    (taken_up c.args.heap.now.objects c.args.sigma.now (Term c.args.x, c.args.y) c.loop-part.noted c.pop.new.self.items (c.in-Some.part, c.in-Some.cell) i.1 c.in-Some.ensures.items i.0 c.in_ok-take_up.ensures.taken c.in_ok-take_up.ensures.unique c.if-not-branch.false).1

pub loop-part-preserved : goal.loop-part-preserved
loop-part-preserved c =
    let i = c.loop-part.invariant in
    let g = taken_up c.args.heap.now.objects c.args.sigma.now (Term c.args.x, c.args.y) c.loop-part.noted c.pop.new.self.items (c.in-Some.part, c.in-Some.cell) i.1 c.in-Some.ensures.items i.0 c.in_ok-take_up.ensures.taken c.in_ok-take_up.ensures.unique c.if-not-branch.false in
    (c.take_up.ensures.objects ∙ i.0, g.0)

pub returns-clause-instance : goal.returns-clause-instance
returns-clause-instance c =
    let os = c.args.heap.now.objects in
    let s = sigma_object os c.args.sigma.now in
    let noted = c.loop-part.noted in
    let whole : Part × ℕ = (Term c.args.x, c.args.y) in
    sym (same_object-from (substitute_object s (object_at os c.args.x)) (object_at os c.args.y) (compared-all os s whole noted.terms noted.lists c.loop-part.waiting.items c.loop-part.invariant.1 (omega (arith, c.in_default.ensures.cases.0, c.loop-part.waiting.ok.0))))
