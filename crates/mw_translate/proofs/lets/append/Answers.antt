-- The members of the first list stand before the second.
use Rattle.std.proofs.Common.{◌≡◌, IfOk, sym, subst}
use Rattle.mw_heap.specs.Objects.{object_at, IsIn}
use Rattle.mw_translate.proofs.Appended.{all_in-from, members_before}
use Rattle.mw_translate.proofs.lets.append.Goals as goal

pub put_before-requires-clause-front_in : goal.put_before-requires-clause-front_in
put_before-requires-clause-front_in c = all_in-from _ _ c.in_ok-members.ensures.within

pub returns-clause-made : goal.returns-clause-made
returns-clause-made c =
    let os = c.args.heap.now.objects in
    let new = c.put_before.new.heap.objects in
    subst (λ o. IfOk c.put_before.result (λ r. IsIn new r × (object_at new r ≡ o))) (sym (members_before os _ (object_at os c.args.front) (object_at os c.args.back) c.in_ok-members.ensures.members)) c.put_before.ensures.made
