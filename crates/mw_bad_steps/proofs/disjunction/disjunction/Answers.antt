-- A member goes before the disjunction of those after it.
use Rattle.std.proofs.Common.{◌≡◌, ◌-◌, ◌<◌, suc, length, drop, sym, ap, ap₂, ◌∙◌, subst, arith, drop-cons}
use Rattle.std.proofs.lemmas.List.{length-drop}
use Rattle.std.proofs.lemmas.List.Elements.{All-get_or}
use Rattle.mw_model.specs.Laws.Rules.{or_object}
use Rattle.mw_model.specs.Laws.RulesInduction.{disjunction_object}
use Rattle.mw_heap.specs.Objects.{object_at, IsIn}
use Rattle.mw_heap.specs.Lists.{list_object}
use Rattle.mw_heap.proofs.Objects.{Grows-trans, object_at-Grows}
use Rattle.mw_bad_steps.proofs.Disjunctions.{disjunction-more}
use Rattle.mw_bad_steps.proofs.disjunction.disjunction.Goals as goal

pub loop-index-preserved : goal.loop-index-preserved
loop-index-preserved c =
    let os = c.args.heap.now.objects in
    let members = c.args.members.now in
    let inv = c.loop-index.invariant in
    let index = c.loop-index.index in
    let item = c.index-members-index.result in
    let some : 0 < index = omega (arith, c.loop-index-test.true) in
    let next : suc (index - 1) ≡ index = omega (arith, some) in
    let within : index - 1 < length members = omega (arith, some, inv.some) in
    let at = c.index-members-index.is in
    let is_in = subst (IsIn os) (sym at) (All-get_or (IsIn os) members (index - 1) item within c.requires) in
    let rest = drop-cons members (index - 1) item within in
    let more : 0 < length (drop (suc (index - 1)) members) = omega (arith, length-drop (suc (index - 1)) members, inv.some, some) in
    let first = object_at-Grows _ _ inv.grows item is_in ∙ ap (object_at os) at in
    let others = inv.made ∙ ap (λ n. disjunction_object (list_object os (drop n members))) (sym next) in
    record {
      grows = Grows-trans _ _ _ inv.grows c.in_ok-made.ensures.grows;
      within = c.in_ok-made.ensures.within;
      some = within;
      made = c.in_ok-made.ensures.made ∙ (ap₂ or_object first others ∙ (sym (disjunction-more os _ _ more) ∙ sym (ap (λ l. disjunction_object (list_object os l)) rest)));
    }
