-- The same members and marks, in the heap with the conclusions of the subproofs.
use Rattle.std.proofs.Common.{map, ap, ◌∙◌, subst}
use Rattle.std.proofs.lemmas.Result.{IfOk-weaker}
use Rattle.mw_heap.specs.Objects.{object_at}
use Rattle.mw_heap.specs.Variants.{profile_of}
use Rattle.mw_heap.proofs.Objects.{object_at-Grows}
use Rattle.mw_term.proofs.CallerLemmas.{AreMarks-grows}
use Rattle.mw_rules.specs.Methods.{method_of_logic}
use Rattle.mw_commands.specs.Commands.ExplanationSteps.{are_extras}
use Rattle.mw_bad_steps.specs.Candidates.{IsCandidate, meant_of}
use Rattle.mw_bad_steps.proofs.mending.meant.Goals as goal

pub returns-clause-meant : goal.returns-clause-meant
returns-clause-meant c = IfOk-weaker c.candidate.result _ _ (λ o h A F Fs k g gs d l e.
    let os = c.args.heap.now.objects in
    let mid = c.conclusions_shown.new.heap.objects in
    let gr = c.conclusions_shown.ensures.grows in
    let mem = c.args.members.now in
    let m = method_of_logic c.args.method in
    let here = object_at-Grows os mid gr mem.conclusion c.requires.conclusion in
    let there = object_at-Grows os mid gr mem.extras c.requires.extras in
    subst (λ y. IsCandidate c.candidate.new.heap.objects (meant_of (profile_of c.args.profile) m F Fs y) o) there
    (h A F Fs (AreMarks-grows A os mid c.args.marks.now gr k) g gs (here ∙ d) (ap (map (object_at mid)) c.deref.ensures.value ∙ (c.in_ok-conclusions.ensures.shown.1 ∙ l)) (ap (are_extras A m) there ∙ e))) c.candidate.ensures.meant
