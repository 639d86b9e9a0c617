-- The first two conclusions, or the first.
use Rattle.std.proofs.Common.{sym, ◌∙◌, subst}
use Rattle.std.proofs.lemmas.Result.{IfOk-weaker}
use Rattle.mw_heap.specs.Objects.{object_at}
use Rattle.mw_rules.specs.Methods.{method_of_logic}
use Rattle.mw_bad_steps.specs.Candidates.{IsCandidate, by_premises}
use Rattle.mw_bad_steps.proofs.FromPremises.{from_both, from_first}
use Rattle.mw_bad_steps.proofs.Methods.{of_cut}
use Rattle.mw_bad_steps.proofs.candidates.from_premises.Goals as goal

pub returns-in-Cut-clause-meant : goal.returns-in-Cut-clause-meant
returns-in-Cut-clause-meant c = IfOk-weaker c.cut.result _ _ (λ o h A F Fs k i e d x.
    let os = c.args.heap.now.objects in
    let new = c.cut.new.heap.objects in
    let y = object_at os c.args.extras in
    subst (λ m. IsCandidate new (by_premises (method_of_logic m) F Fs y) o) (sym c.in-Cut.is)
    (from_both os new F y c.args.conclusions.now Fs c.in-Some.first c.in-Some-nth.second o (sym c.nth.ensures ∙ c.in-Some.is) (sym c.nth-in-Cut.ensures ∙ c.in-Some-nth.is) d (λ G H g j. h G H g j))) c.cut.ensures.meant

pub returns : goal.returns
returns c = record {
  grows = c.from_one.ensures.grows;
  within = c.from_one.ensures.within;
  meant = IfOk-weaker c.from_one.result _ _ (λ o h A F Fs k i e d x.
      from_first c.args.heap.now.objects _ F (object_at c.args.heap.now.objects c.args.extras) A (method_of_logic c.args.method) c.args.conclusions.now Fs c.in-Some.first o (λ q. c.in_default-method.not-Cut (of_cut c.args.method q)) (sym c.nth.ensures ∙ c.in-Some.is) d i (λ G j g. h A F G k j e g x)) c.from_one.ensures.meant;
}
