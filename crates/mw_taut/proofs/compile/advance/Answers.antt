-- What the path and the table hold after a step, and that less is left to do.
use Rattle.std.proofs.Common.{length, arith, ◌≡◌, [], ◌∷◌, ◌++◌, ap, ◌∙◌}
use Rattle.mw_taut.proofs.Advancing.{wants_built, wants_fall, puts_built, puts_fall}
use Rattle.mw_taut.proofs.Places.{put_last}
use Rattle.mw_taut.proofs.compile.advance.Goals as goal

pub returns-in_ok-push-in-Wants-2-clause-built : goal.returns-in_ok-push-in-Wants-2-clause-built
returns-in_ok-push-in-Wants-2-clause-built c = λ A F h.
    let part = c.in-Wants.part in
    wants_built A c.args.heap.now.objects F c.args.parts.now.keys c.args.nodes.now.items c.args.equations.now.items c.args.path.now.items c.push-in-Wants.new.self.items c.args.x h part c.in-Wants.ensures
    (c.in_ok-push-in-Wants-2.ensures.items ∙ ap (λ l. l ++ part ∷ []) c.in_ok-push-in-Wants.ensures.items)

pub returns-in_ok-push-in-Wants-2-clause-falls : goal.returns-in_ok-push-in-Wants-2-clause-falls
returns-in_ok-push-in-Wants-2-clause-falls c = λ f A F e h.
    let part = c.in-Wants.part in
    wants_fall A c.args.heap.now.objects F c.args.parts.now.keys c.args.nodes.now.items c.args.equations.now.items c.args.path.now.items c.push-in-Wants.new.self.items c.args.x h f part c.in-Wants.ensures
    (c.in_ok-push-in-Wants-2.ensures.items ∙ ap (λ l. l ++ part ∷ []) c.in_ok-push-in-Wants.ensures.items)

pub returns-in_ok-insert-in-Made-clause-built : goal.returns-in_ok-insert-in-Made-clause-built
returns-in_ok-insert-in-Made-clause-built c = λ A F h.
    let count : c.len.result ≡ length c.args.equations.now.items = omega (arith, c.len.ensures, c.args.equations.now.ok.0) in
    puts_built A c.args.heap.now.objects F c.args.parts.now.keys c.args.nodes.now.items c.args.equations.now.items c.args.path.now.items c.args.path.now.items c.args.x h c.in-Made.node c.len.result c.put_equation.new.equations.items c.order.ensures.distinct c.in-Made.ensures
    c.insert.new.self.keys c.push-in-Made.new.self.items count (c.in_ok-insert-in-Made.ensures.keys ∙ put_last c.args.parts.now.keys c.args.x c.requires.new) c.in_ok-push-in-Made.ensures.items c.in_ok-put_equation-in-Made.ensures

pub returns-in_ok-insert-in-Made-clause-falls : goal.returns-in_ok-insert-in-Made-clause-falls
returns-in_ok-insert-in-Made-clause-falls c = λ f A F e h.
    puts_fall A c.args.heap.now.objects F c.args.parts.now.keys c.args.nodes.now.items c.args.equations.now.items c.args.path.now.items c.args.path.now.items c.args.x h f c.insert.new.self.keys e c.requires.within c.requires.new (c.in_ok-insert-in-Made.ensures.keys ∙ put_last c.args.parts.now.keys c.args.x c.requires.new)
