-- A part goes, and the parts of it that have to have a form come.
use Rattle.std.proofs.Common.{true, sym, ◌∙◌, subst}
use Rattle.mw_bad_steps.specs.Forms.{reference, has_form, IsFormIn, IsEntered}
use Rattle.mw_bad_steps.proofs.FormTests.{popped_forms, entered_in, entered_same, entered_lighter}
use Rattle.mw_bad_steps.proofs.form.has_form.Goals as goal

pub enter-requires : goal.enter-requires
enter-requires c =
    let os = c.args.heap.now.objects in
    let inv = c.loop-next.invariant in
    let n = c.in-Some.next in
    let same = c.take_look.ensures ∙ inv.objects in
    subst (λ h. IsFormIn h n) (sym same) (popped_forms os c.pop.new.self.items c.loop-next.waiting.items n c.in-Some.ensures.items inv.within).1

pub loop-next-smaller : goal.loop-next-smaller
loop-next-smaller c =
    let os = c.args.heap.now.objects in
    let h = c.take_look.new.self.objects in
    let n = c.in-Some.next in
    let fs = c.pop.new.self.items in
    let new = c.enter.new.waiting.items in
    let same = c.take_look.ensures ∙ c.loop-next.invariant.objects in
    let w = subst (λ o. IsEntered o (reference n) (has_form o n) fs new true) same (subst (IsEntered h (reference n) (has_form h n) fs new) c.if-not-branch.false c.in_ok-enter.ensures) in
    entered_lighter os fs c.loop-next.waiting.items new n c.in-Some.ensures.items w

pub loop-next-preserved : goal.loop-next-preserved
loop-next-preserved c =
    let os = c.args.heap.now.objects in
    let h = c.take_look.new.self.objects in
    let inv = c.loop-next.invariant in
    let n = c.in-Some.next in
    let fs = c.pop.new.self.items in
    let new = c.enter.new.waiting.items in
    let all = c.loop-next.waiting.items in
    let same = c.take_look.ensures ∙ inv.objects in
    let w = subst (λ o. IsEntered o (reference n) (has_form o n) fs new true) same (subst (IsEntered h (reference n) (has_form h n) fs new) c.if-not-branch.false c.in_ok-enter.ensures) in
    record {
      objects = same;
      within = entered_in os fs all new n c.in-Some.ensures.items w inv.within;
      same = entered_same os fs all new n c.in-Some.ensures.items w ∙ inv.same;
    }
