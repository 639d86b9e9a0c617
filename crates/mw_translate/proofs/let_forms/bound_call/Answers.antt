-- One call, or one inside the other.
use Rattle.std.proofs.Common.{IfOk, sym, subst}
use Rattle.mw_model.specs.Events.Expansion.{bound_names}
use Rattle.mw_translate.specs.Bound.{IsBound}
use Rattle.mw_translate.specs.Meaning.{values_of}
use Rattle.mw_translate.specs.declared.let_forms.Order.{Order}
use Rattle.mw_translate.proofs.LetForms.{let-bound}
use Rattle.mw_translate.proofs.let_forms.bound_call.Goals as goal

pub returns-in-Parallel-clause-made : goal.returns-in-Parallel-clause-made
returns-in-Parallel-clause-made c = λ A ps b n v e t w.
    subst (λ (o : Order). IfOk c.let_call.result (IsBound A c.let_call.new.heap.objects o ps b)) (sym c.in-Parallel.is)
    (let-bound A c.let_call.new.heap.objects ps b c.let_call.result t w (c.let_call.ensures.made A (bound_names ps) (values_of ps) b n v e t))

pub returns-in_ok-bindings-in-Sequential-clause-made : goal.returns-in_ok-bindings-in-Sequential-clause-made
returns-in_ok-bindings-in-Sequential-clause-made c = λ A ps b n v e t w.
    subst (λ (o : Order). IfOk c.let_all.result (IsBound A c.let_all.new.heap.objects o ps b)) (sym c.in-Sequential.is)
    (c.let_all.ensures.made A ps b (c.in_ok-bindings-in-Sequential.ensures.bindings ps n v) e t w)
