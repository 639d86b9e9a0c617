-- The premise that the measure is an ordinal, and those that it falls behind it.
use Rattle.std.proofs.lemmas.Result.{on_ok_weaker}
use Rattle.mw_model.specs.Laws.RulesInduction.{all_falls_object}
use Rattle.mw_bad_steps.specs.Members.{members_in}
use Rattle.mw_bad_steps.proofs.CasesKept.{AreCases-Grows}
use Rattle.mw_bad_steps.proofs.PremisesPut.{puts_first, same_three}
use Rattle.mw_bad_steps.proofs.falls.put_measured.Goals as goal

pub returns-clause-put : goal.returns-clause-put
returns-clause-put c =
    let os = c.args.heap.now.objects in
    let mid = c.ordinal.new.heap.objects in
    let cases = c.requires.cases in
    let first = c.in_ok-first.ensures in
    let same = same_three os mid first.grows (λ m q s. members_in (all_falls_object m q s)) c.args.measure c.args.cases.now.conditions c.args.cases.now.substitutions c.requires.within cases.conditions cases.substitutions in
    on_ok_weaker c.put_all_falls.result (puts_first os mid _ _ _ _ _ _ _ _ first.grows c.requires.premises first.within first.made c.in_ok-push.ensures.items same) c.put_all_falls.ensures.put

pub put_all_falls-requires-clause-cases : goal.put_all_falls-requires-clause-cases
put_all_falls-requires-clause-cases c = AreCases-Grows c.args.heap.now.objects c.ordinal.new.heap.objects c.args.cases.now c.in_ok-first.ensures.grows c.requires.cases
