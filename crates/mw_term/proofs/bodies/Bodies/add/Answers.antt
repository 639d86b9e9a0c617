-- The others stay as they were, or are forgotten.
use Rattle.mw_term.proofs.HeldBodies.{AreBodies-add}
use Rattle.mw_term.proofs.bodies.Bodies.add.Goals as goal

pub returns-clause-bodies : goal.returns-clause-bodies
returns-clause-bodies c = λ os before here.
    AreBodies-add os c.make_room_for.new.self.found.entries c.insert.new.self.entries c.args.body c.args.variables c.in_ok-insert.ensures.updates.0 here (c.make_room_for.ensures os before)
