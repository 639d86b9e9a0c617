-- A new table has no functions.
use Rattle.std.proofs.Common.{sym, ◌∙◌, subst}
use Rattle.mw_tests_functions.specs.Tested.{IsPlain}
use Rattle.mw_tests_functions.proofs.turns.turns.Goals as goal

pub turns_in-requires : goal.turns_in-requires
turns_in-requires c =
    let os = c.deref_mut.result.now.objects in
    subst (IsPlain os) (sym (c.deref_mut-2.ensures.value ∙ c.in_ok-table.ensures.ok)) (c.new-3.ensures os)
