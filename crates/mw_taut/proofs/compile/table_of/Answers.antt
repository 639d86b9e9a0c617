-- Of the whole that waits at first nothing is left to do at last.
use Rattle.std.proofs.Common.{◌≡◌, ◌<◌, [], ◌∷◌, ◌++◌, length, sym, ap, ◌∙◌, subst, arith}
use Rattle.mw_taut.specs.Building.{IsBuilt, IsHere, IsNew, left_over}
use Rattle.mw_taut.proofs.Building.{built_first}
use Rattle.mw_taut.proofs.Elements.{each_front}
use Rattle.mw_taut.proofs.Compiling.{empty_list, built_all, built_some, table_built}
use Rattle.mw_taut.proofs.compile.table_of.Goals as goal

pub loop-x-init : goal.loop-x-init
loop-x-init c = λ A F e f.
    let first = built_first A c.args.heap.now.objects F c.args.f c.requires.within e f in
    let B = IsBuilt A c.args.heap.now.objects F in
    let parts = c.new-parts.result.keys in
    let nodes = c.new-nodes.result.items in
    subst (B parts nodes c.new-equations.result.items) (sym (c.in_ok-push.ensures.items ∙ ap (λ l. l ++ c.args.f ∷ []) c.new-path.ensures.items))
    (subst (λ l. B parts nodes l (c.args.f ∷ [])) (sym c.new-equations.ensures.items)
    (subst (λ l. B parts l [] (c.args.f ∷ [])) (sym c.new-nodes.ensures.items)
    (subst (λ l. B l [] [] (c.args.f ∷ [])) (sym (empty_list parts c.new-parts.ensures.len)) first)))

pub advance-requires-clause-built : goal.advance-requires-clause-built
advance-requires-clause-built c =
    let w = c.requires.formula in
    (w.0, w.1, subst (IsBuilt w.0 c.args.heap.now.objects w.1 c.loop-x.parts.keys c.loop-x.nodes.items c.loop-x.equations.items) c.in-Some.ensures.items (c.loop-x.invariant w.0 w.1 w.2 w.3))

pub advance-requires-clause-within : goal.advance-requires-clause-within
advance-requires-clause-within c =
    let b = advance-requires-clause-built c in
    (each_front (IsHere b.0 c.args.heap.now.objects) c.pop.new.self.items c.in-Some.x b.2.path_here).1.within

pub advance-requires-clause-new : goal.advance-requires-clause-new
advance-requires-clause-new c =
    let b = advance-requires-clause-built c in
    (each_front (IsNew c.loop-x.parts.keys) c.pop.new.self.items c.in-Some.x b.2.new).1

pub loop-x-preserved : goal.loop-x-preserved
loop-x-preserved c = λ A F e f.
    c.in_ok-advance.ensures.built A F (subst (IsBuilt A c.args.heap.now.objects F c.loop-x.parts.keys c.loop-x.nodes.items c.loop-x.equations.items) c.in-Some.ensures.items (c.loop-x.invariant A F e f))

pub loop-x-smaller : goal.loop-x-smaller
loop-x-smaller c =
    let w = c.requires.formula in
    let b = subst (IsBuilt w.0 c.args.heap.now.objects w.1 c.loop-x.parts.keys c.loop-x.nodes.items c.loop-x.equations.items) c.in-Some.ensures.items (c.loop-x.invariant w.0 w.1 w.2 w.3) in
    subst (λ l. left_over c.args.heap.now.objects c.args.f c.advance.new.parts.keys c.advance.new.path.items < left_over c.args.heap.now.objects c.args.f c.loop-x.parts.keys l) (sym c.in-Some.ensures.items) (c.in_ok-advance.ensures.falls c.args.f w.0 w.1 w.2 b)

pub overflow_sub-root : goal.overflow_sub-root
overflow_sub-root c =
    let w = c.requires.formula in
    let some = built_some w.0 _ w.1 _ _ _ _ (c.loop-x.invariant w.0 w.1 w.2 w.3) _ c.in_default.ensures.items (omega (arith, c.in_default.ensures.cases.1, c.pop.new.self.ok.0)) in
    omega (arith, some, c.len-root.ensures, c.loop-x.nodes.ok.0)

pub returns : goal.returns
returns c = λ A F e f.
    let os = c.args.heap.now.objects in
    let nodes = c.loop-x.nodes in
    let none : length c.pop.new.self.items ≡ 0 = omega (arith, c.in_default.ensures.cases.1, c.pop.new.self.ok.0) in
    let all = built_all A os F _ _ _ _ (c.loop-x.invariant A F e f) _ c.in_default.ensures.items none in
    let some = built_some A os F _ _ _ _ (c.loop-x.invariant A F e f) _ c.in_default.ensures.items none in
    let keys = c.in_ok-formulas.ensures.items ∙ c.as_slice.ensures.keys in
    table_built A os F _ (subst (λ ks. IsBuilt A os F ks nodes.items c.loop-x.equations.items []) (sym keys) all) (omega (arith, some, c.len-root.ensures, nodes.ok.0))
