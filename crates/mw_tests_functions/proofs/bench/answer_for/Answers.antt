-- A new table has no functions.
use Rattle.std.proofs.Common.{sym, ◌∙◌, subst}
use Rattle.mw_tests_functions.specs.Tested.{IsPlain}
use Rattle.mw_tests_functions.proofs.bench.answer_for.Goals as goal

pub answer_in-requires : goal.answer_in-requires
answer_in-requires c =
    let os = c.deref_mut.result.now.objects in
    subst (IsPlain os) (sym (c.deref_mut-2.ensures.value ∙ c.in_ok-table.ensures.ok)) (c.new-3.ensures os)
