-- The world's step, told of what the kernel held.
use Rattle.std.proofs.Common.{length, sym, subst}
use Rattle.mw_model.specs.Events.Theory.{IsSound}
use Rattle.mw_kernel.specs.Knowledge.{theory_of}
use Rattle.mw_kernel.specs.Proofs.{judged_for}
use Rattle.mw_theory.specs.Settled.{settles}
use Rattle.mw_theory.specs.Words.{StandsBefore}
use Rattle.mw_kernel.proofs.Comings.{comes-settled, comes-unsettled}
use Rattle.mw_kernel.proofs.kernel.Kernel.settle.Goals as goal

pub settle-requires-clause-within : goal.settle-requires-clause-within
settle-requires-clause-within c = subst (λ v. StandsBefore (length v.objects) c.args.event) (sym c.self.view_is) c.requires.within

pub settle-requires-clause-sound : goal.settle-requires-clause-sound
settle-requires-clause-sound c = subst (λ v. IsSound (settles (judged_for v.steps) v.objects (theory_of v) c.args.event).1) (sym c.self.view_is) c.requires.sound

pub returns-in_err-refused : goal.returns-in_err-refused
returns-in_err-refused c =
    comes-unsettled c.self.inside.world c.settle.new.self c.self.inside.checker.steps c.settle.new.judge.steps c.settle.ensures.limit c.args.self.now c.self.view_is (λ v. settles (judged_for v.steps) v.objects (theory_of v) c.args.event) c.from_residual.result c.from_residual.ensures.0 _ c.in_err-refused.ensures.settled

pub returns : goal.returns
returns c =
    let s = c.in_ok-refused.ensures.settled in
    comes-settled c.self.inside.world c.settle.new.self c.self.inside.checker.steps c.settle.new.judge.steps c.settle.ensures.limit c.args.self.now c.self.view_is (λ v. settles (judged_for v.steps) v.objects (theory_of v) c.args.event) c.in_ok-refused.refused c.fate_after.result s c.fate_after.ensures.fate
    (c.fate_after.ensures.kept _ _ s.kept) (c.fate_after.ensures.objects _ _ s.grows)
