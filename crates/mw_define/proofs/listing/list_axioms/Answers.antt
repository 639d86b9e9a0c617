-- The list of what was made.
use Rattle.std.proofs.Common.{ap, ◌∙◌}
use Rattle.std.proofs.lemmas.Result.{IfOk-weaker}
use Rattle.mw_model.specs.Terms.Object.{NIL}
use Rattle.mw_translate.specs.Lets.{prepend}
use Rattle.mw_translate.proofs.Appended.{all_in-Grows, prepend-Grows}
use Rattle.mw_define.proofs.BlockAxioms.{axioms-in, listed-axioms}
use Rattle.mw_heap.proofs.Objects.{Grows-trans}
use Rattle.mw_define.proofs.listing.list_axioms.Goals as goal

pub put_before-requires-clause-front_in : goal.put_before-requires-clause-front_in
put_before-requires-clause-front_in c =
    all_in-Grows c.axioms_of.new.heap.objects c.nil.new.self.objects c.in_ok-axioms.axioms.items c.in_ok-nil.ensures.grows
    (axioms-in c.args.heap.now.objects c.axioms_of.new.heap.objects c.args.block.now c.in_ok-axioms.axioms.items c.in_ok-axioms.ensures.made)

pub returns-clause-made : goal.returns-clause-made
returns-clause-made c =
    let os = c.args.heap.now.objects in
    let mid = c.axioms_of.new.heap.objects in
    let new = c.nil.new.self.objects in
    let rs = c.in_ok-axioms.axioms.items in
    let same =
    ap (prepend new rs) c.in_ok-nil.ensures.made.1
    ∙ (prepend-Grows mid new rs NIL c.in_ok-nil.ensures.grows (axioms-in os mid c.args.block.now rs c.in_ok-axioms.ensures.made) ∙ listed-axioms os mid c.args.block.now rs c.in_ok-axioms.ensures.made) in
    IfOk-weaker c.put_before.result _ _ (λ r made. (made.0, made.1 ∙ same)) c.put_before.ensures.made

pub returns-in_err-nil-clause-grows : goal.returns-in_err-nil-clause-grows
returns-in_err-nil-clause-grows c = Grows-trans _ _ _ c.in_ok-axioms.ensures.grows c.in_err-nil.ensures.grows

pub returns-clause-grows : goal.returns-clause-grows
returns-clause-grows c = Grows-trans _ _ _ c.in_ok-axioms.ensures.grows (Grows-trans _ _ _ c.in_ok-nil.ensures.grows c.put_before.ensures.grows)
