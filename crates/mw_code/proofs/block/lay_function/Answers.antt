-- The call after the code of the body changes nothing of what that needs.
use Rattle.std.proofs.Common.{◌≡◌, ◌+◌, max, [], ◌∷◌, ◌++◌, length, refl, sym, ap, ap₂, ◌∙◌, arith, rules, length-append}
use Rattle.mw_code.specs.declared.instruction.Instruction.TheVariants.{TailCall}
use Rattle.mw_code.specs.Needs.{need_at}
use Rattle.mw_code.proofs.NeedLemmas.{need-extends}
use Rattle.mw_code.proofs.block.lay_function.Goals as goal

pub returns-clause-laid : goal.returns-clause-laid
returns-clause-laid c =
    let S = c.args.context.now.signature.now in
    let e = c.in_ok-entry.entry in
    let mid = c.lay_out.new.code.items in
    let new = c.push.new.self.items in
    let place = c.in_ok-entry.ensures.place.0 in
    let same : c.in-Ok.index ≡ c.args.index = search rules in
    let code-is : new ≡ mid ++ TailCall c.args.index ∷ [] = c.in_ok-push.ensures.items ∙ ap (λ i. mid ++ TailCall i ∷ []) same in
    let need : need_at S new e.place ≡ need_at S mid e.place = need-extends S mid new (TailCall c.args.index ∷ [], code-is) e.place (omega (arith, place)) in
    let width : e.width ≡ c.args.task.height + need_at S new e.place = c.in_ok-entry.ensures.wide ∙ ap₂ (λ m n. m + n) c.in_ok-entry.ensures.place.1 (sym need) in
    record {
      arity = refl;
      end = search rules;
      noted = c.max.ensures ∙ ap (max c.args.widest) width;
      start = e.place;
      start_is = refl;
      fits = search rules;
      mid = mid;
      extends = c.in_ok-entry.ensures.extends;
      place = place;
      code_is = code-is;
      laid = λ A f. c.in_ok-entry.ensures.laid A f;
    }

pub returns-clause-few : goal.returns-clause-few
returns-clause-few c =
    let mid = c.lay_out.new.code.items in
    omega (arith, c.in_ok-entry.ensures.few, ap length c.in_ok-push.ensures.items, length-append mid (TailCall c.in-Ok.index ∷ []))
