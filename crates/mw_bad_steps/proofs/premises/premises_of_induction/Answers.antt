-- All premises, as a list.
use Rattle.std.proofs.Common.{◌∷◌, ◌++◌, ap, ap₂, ◌∙◌}
use Rattle.std.proofs.lemmas.Result.{IfOk-weaker}
use Rattle.mw_model.specs.Terms.Object.{Pair, NIL}
use Rattle.mw_model.specs.Laws.RulesInduction.{disjunction_object, steps_object, ordinal_object, all_falls_object}
use Rattle.mw_heap.specs.Objects.{object_at}
use Rattle.mw_heap.specs.Lists.{list_object}
use Rattle.mw_heap.proofs.Objects.{Grows-trans}
use Rattle.mw_commands.specs.Commands.ExplanationSteps.{listed}
use Rattle.mw_bad_steps.specs.Members.{members_in}
use Rattle.mw_bad_steps.proofs.CasesKept.{AreCases-Grows, cases_begun}
use Rattle.mw_bad_steps.proofs.PremisesPut.{PutsObjects-then, listed_objects, same_three, premises_listed}
use Rattle.mw_bad_steps.proofs.premises.premises_of_induction.Goals as goal

pub returns-clause-made : goal.returns-clause-made
returns-clause-made c =
    let h0 = c.args.heap.now.objects in
    let h1 = c.nil.new.self.objects in
    let h2 = c.put_based.new.heap.objects in
    let h3 = c.put_measured.new.heap.objects in
    let g1 = c.in_ok-nil.ensures.grows in
    let g2 = Grows-trans h0 h1 h2 g1 c.put_based.ensures.grows in
    let some = c.put_based.new.premises.items in
    let has = c.put_measured.new.premises.items in
    let a = c.args.a in
    let m = c.args.measure in
    let q = c.args.conditions in
    let s = c.args.cases in
    let i = c.requires in
    let xs = same_three h0 h1 g1 (λ y z w. disjunction_object (Pair y z) ∷ members_in (steps_object y z w NIL)) a q s i.within i.conditions i.cases in
    let ys = same_three h0 h2 g2 (λ y z w. ordinal_object y ∷ members_in (all_falls_object y z w)) m q s i.measure i.conditions i.cases in
    let had = c.new-premises.result.items in
    let front = disjunction_object (Pair (object_at h1 a) (object_at h1 q)) ∷ members_in (steps_object (object_at h1 a) (object_at h1 q) (object_at h1 s) NIL) in
    let back = ordinal_object (object_at h2 m) ∷ members_in (all_falls_object (object_at h2 m) (object_at h2 q) (object_at h2 s)) in
    let puts = PutsObjects-then h1 h2 h3 had some has front back c.in_ok-put_based.ensures.put c.in_ok-put_measured.ensures.put in
    let listed = listed_objects h1 h3 had has (front ++ back) c.new-premises.ensures.items puts ∙ (ap₂ (λ l k. listed (l ++ k)) xs ys ∙ premises_listed (object_at h0 a) (object_at h0 m) (object_at h0 q) (object_at h0 s)) in
    IfOk-weaker c.list_of.result _ _ (λ r made. made.1 ∙ (ap (list_object h3) c.deref.ensures.value ∙ listed)) c.list_of.ensures.made

pub put_based-requires-clause-cases : goal.put_based-requires-clause-cases
put_based-requires-clause-cases c =
    let nil = c.in_ok-nil.ensures in
    cases_begun c.args.heap.now.objects c.nil.new.self.objects _ nil.grows c.requires.conditions c.requires.cases c.requires.pairs nil.made.0 nil.made.1

pub put_measured-requires-clause-cases : goal.put_measured-requires-clause-cases
put_measured-requires-clause-cases c =
    let nil = c.in_ok-nil.ensures in
    AreCases-Grows c.nil.new.self.objects c.put_based.new.heap.objects _ c.put_based.ensures.grows (cases_begun c.args.heap.now.objects c.nil.new.self.objects _ nil.grows c.requires.conditions c.requires.cases c.requires.pairs nil.made.0 nil.made.1)
