-- All were forgotten.
use Rattle.mw_term.proofs.HeldBodies.{AreBodies-none}
use Rattle.mw_term.proofs.bodies.Bodies.make_room_for.Goals as goal

pub returns : goal.returns
returns c = λ os before. AreBodies-none os c.clear.new.self.entries c.clear.ensures.empty
