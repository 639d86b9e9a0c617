-- The copy has the same references.
use Rattle.std.proofs.Common.{sym, ap₂, ◌∙◌, subst}
use Rattle.std.proofs.lemmas.Result.{IfOk-weaker}
use Rattle.mw_model.specs.Terms.Object.{NIL}
use Rattle.mw_translate.specs.Lets.{prepend, AreAllIn}
use Rattle.mw_translate.proofs.Appended.{all_in-Grows, prepend-Grows}
use Rattle.mw_heap.proofs.Objects.{Grows-trans}
use Rattle.mw_define.proofs.listing.list_of.Goals as goal

pub put_before-requires-clause-front_in : goal.put_before-requires-clause-front_in
put_before-requires-clause-front_in c = subst (AreAllIn c.nil.new.self.objects) (sym c.in_ok-copy.ensures.items) (all_in-Grows c.args.heap.now.objects c.nil.new.self.objects c.args.formulas.now c.in_ok-nil.ensures.grows c.requires)

pub returns-clause-made : goal.returns-clause-made
returns-clause-made c =
    let os = c.args.heap.now.objects in
    let mid = c.nil.new.self.objects in
    let same = ap₂ (prepend mid) c.in_ok-copy.ensures.items c.in_ok-nil.ensures.made.1 ∙ prepend-Grows os mid c.args.formulas.now NIL c.in_ok-nil.ensures.grows c.requires in
    IfOk-weaker c.put_before.result _ _ (λ r made. (made.0, made.1 ∙ same)) c.put_before.ensures.made

pub returns-clause-grows : goal.returns-clause-grows
returns-clause-grows c = Grows-trans _ _ _ c.in_ok-nil.ensures.grows c.put_before.ensures.grows
