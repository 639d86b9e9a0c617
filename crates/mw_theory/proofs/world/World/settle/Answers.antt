-- What each call says is what the event comes to.
use Rattle.mw_theory.proofs.Settlings.{sound-as, settles-as}
use Rattle.mw_theory.proofs.world.World.settle.Goals as goal

pub verify-requires-clause-sound : goal.verify-requires-clause-sound
verify-requires-clause-sound g c = sound-as (g.J.Judge.judges c.args.judge.now c.args.self.now.heap.objects) c.args.self.now _ _ c.in-Verify.is c.requires.sound

pub returns-in-Verify-clause-settled : goal.returns-in-Verify-clause-settled
returns-in-Verify-clause-settled g c = settles-as (g.J.Judge.judges c.args.judge.now c.args.self.now.heap.objects) c.args.self.now _ _ c.in-Verify.is c.verify.result c.verify.new.self c.verify.ensures.settled

pub define-requires-clause-sound : goal.define-requires-clause-sound
define-requires-clause-sound g c = sound-as (g.J.Judge.judges c.args.judge.now c.args.self.now.heap.objects) c.args.self.now _ _ c.in-Define.is c.requires.sound

pub returns-in-Define-clause-settled : goal.returns-in-Define-clause-settled
returns-in-Define-clause-settled g c = settles-as (g.J.Judge.judges c.args.judge.now c.args.self.now.heap.objects) c.args.self.now _ _ c.in-Define.is c.define.result c.define.new.self c.define.ensures.settled

pub define-requires-in-DefineAll-clause-sound : goal.define-requires-in-DefineAll-clause-sound
define-requires-in-DefineAll-clause-sound g c = sound-as (g.J.Judge.judges c.args.judge.now c.args.self.now.heap.objects) c.args.self.now _ _ c.in-DefineAll.is c.requires.sound

pub returns-in-DefineAll-clause-settled : goal.returns-in-DefineAll-clause-settled
returns-in-DefineAll-clause-settled g c = settles-as (g.J.Judge.judges c.args.judge.now c.args.self.now.heap.objects) c.args.self.now _ _ c.in-DefineAll.is c.define-in-DefineAll.result c.define-in-DefineAll.new.self c.define-in-DefineAll.ensures.settled

pub skolem-requires-clause-sound : goal.skolem-requires-clause-sound
skolem-requires-clause-sound g c = sound-as (g.J.Judge.judges c.args.judge.now c.args.self.now.heap.objects) c.args.self.now _ _ c.in-Skolem.is c.requires.sound

pub returns-in-Skolem-clause-settled : goal.returns-in-Skolem-clause-settled
returns-in-Skolem-clause-settled g c = settles-as (g.J.Judge.judges c.args.judge.now c.args.self.now.heap.objects) c.args.self.now _ _ c.in-Skolem.is c.skolem.result c.skolem.new.self c.skolem.ensures

pub returns-in-Profile-clause-settled : goal.returns-in-Profile-clause-settled
returns-in-Profile-clause-settled g c = settles-as (g.J.Judge.judges c.args.judge.now c.args.self.now.heap.objects) c.args.self.now _ _ c.in-Profile.is c.set_profile.result c.set_profile.new.self c.set_profile.ensures
