-- The first premise, and those of the cases behind it.
use Rattle.std.proofs.lemmas.Result.{on_ok_weaker}
use Rattle.mw_model.specs.Terms.Object.{NIL}
use Rattle.mw_model.specs.Laws.RulesInduction.{steps_object}
use Rattle.mw_bad_steps.specs.Members.{members_in}
use Rattle.mw_bad_steps.proofs.CasesKept.{AreCases-Grows}
use Rattle.mw_bad_steps.proofs.PremisesPut.{puts_first, same_three}
use Rattle.mw_bad_steps.proofs.premises.put_based.Goals as goal

pub returns-clause-put : goal.returns-clause-put
returns-clause-put c =
    let os = c.args.heap.now.objects in
    let mid = c.base.new.heap.objects in
    let cases = c.requires.cases in
    let first = c.in_ok-first.ensures in
    let same = same_three os mid first.grows (λ a q s. members_in (steps_object a q s NIL)) c.args.a c.args.cases.now.conditions c.args.cases.now.substitutions c.requires.within cases.conditions cases.substitutions in
    on_ok_weaker c.put_steps.result (puts_first os mid _ _ _ _ _ _ _ _ first.grows c.requires.premises first.within first.made c.in_ok-push.ensures.items same) c.put_steps.ensures.put

pub put_steps-requires-clause-cases : goal.put_steps-requires-clause-cases
put_steps-requires-clause-cases c = AreCases-Grows c.args.heap.now.objects c.base.new.heap.objects c.args.cases.now c.in_ok-first.ensures.grows c.requires.cases
