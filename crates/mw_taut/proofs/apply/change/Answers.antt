-- Each reference means in the grown heaps what it meant in the heap in which it was made.
use Rattle.std.proofs.Common.{◌∙◌, ◌+◌, ap, rules}
use Rattle.mw_heap.proofs.Objects.{object_at-Grows, Grows-trans}
use Rattle.mw_taut.specs.Rules.{rule_made}
use Rattle.mw_taut.proofs.Given.{given_same}
use Rattle.mw_taut.proofs.Growing.{growing}
use Rattle.mw_taut.proofs.Kept.{denied_kept}
use Rattle.mw_taut.proofs.apply.change.Goals as goal

pub returns : goal.returns
returns c =
    let to_from = c.apply.ensures.grows in
    let to_to = Grows-trans _ _ _ to_from c.apply-2.ensures.grows in
    let after = Grows-trans _ _ _ c.apply-2.ensures.grows c.apply-3.ensures.grows in
    let from = c.in_ok-from.ensures.made ∙ ap (rule_made (c.args.rule + 1)) (given_same _ _ to_from _ c.requires.given_in) in
    let to = c.in_ok-to.ensures.made ∙ ap (rule_made (c.args.rule + 2)) (given_same _ _ to_to _ c.requires.given_in) in
    record {
      grows = search (rules, growing);
      within = search (rules, growing);
      made = λ i. record {
        formula = (object_at-Grows _ _ after _ c.in_ok-formula.ensures.within ∙ c.in_ok-formula.ensures.made) i;
        denied = denied_kept _ _ (Grows-trans _ _ _ to_from after) _ c.requires.denied_in i;
        from = (object_at-Grows _ _ c.apply-3.ensures.grows _ c.in_ok-from.ensures.within ∙ from) i;
        to = to i;
      };
    }
