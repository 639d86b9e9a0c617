-- Nothing is shown; the heap is cut.
use Rattle.std.proofs.Common.{[], ◌∙◌, subst}
use Rattle.mw_model.specs.Events.Refusal.{RANGE}
use Rattle.mw_theory.proofs.CallerLemmas.{OnOk-map}
use Rattle.mw_kernel.specs.Explained.{PutsLine}
use Rattle.mw_kernel.proofs.Reasoned.{datum-why, range-shown}
use Rattle.mw_kernel.proofs.Told.{told-theory}
use Rattle.mw_kernel.proofs.kernel.Kernel.explained_range.Goals as goal

pub returns-clause-theory : goal.returns-clause-theory
returns-clause-theory c = c.cut.ensures.theory ∙ told-theory c.self.inside.world c.self.invariant c.args.self.now c.self.view_is c.put_reason-put.new.heap.objects c.put_reason-put.ensures.grows

pub returns-clause-why : goal.returns-clause-why
returns-clause-why c =
    let before = c.args.out.now.items in
    let after = c.put_reason-put.new.out.items in
    OnOk-map c.put_reason-put.result _ _ (λ h t N e. subst (λ x. PutsLine x before after) (datum-why c.args.number RANGE t N e [] (range-shown t N e)) h) c.put_reason-put.ensures.put
