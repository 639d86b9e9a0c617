-- One more call was made.
use Rattle.std.proofs.Common.{◌∷◌, [], Some, None, ◌∙◌, subst, rules, arith, IfSome}
use Rattle.mw_model.specs.Terms.Term.{NoTerms, More}
use Rattle.mw_heap.specs.Objects.{IsIn}
use Rattle.mw_heap.proofs.Objects.{IsIn-Grows, object_at-Grows, Grows-trans}
use Rattle.mw_translate.specs.Lets.{ArePairsIn, IsLet}
use Rattle.mw_translate.proofs.LetForms.{IsInside, inside-start, inside-step, inside-end, pairs-front}
use Rattle.mw_translate.proofs.let_forms.let_all.Goals as goal

pub loop-binding-init : goal.loop-binding-init
loop-binding-init c = record {
  grows = search rules;
  left_in = c.requires.bindings_in;
  within = c.requires.body_in;
  inside = λ A ps b are o t v. inside-start A c.args.heap.now.objects ps b c.args.bindings.items c.args.body are o t v;
}

pub let_one-requires-clause-name_in : goal.let_one-requires-clause-name_in
let_one-requires-clause-name_in c =
    let h = c.loop-binding.invariant in
    let p = pairs-front c.args.heap.now.objects c.pop.new.self.items c.in-Some.binding (subst (ArePairsIn c.args.heap.now.objects) c.in-Some.ensures.items h.left_in) in
    IsIn-Grows c.args.heap.now.objects c.loop-binding.heap.objects h.grows c.in-Some.binding.first p.1.0

pub let_one-requires-clause-value_in : goal.let_one-requires-clause-value_in
let_one-requires-clause-value_in c =
    let h = c.loop-binding.invariant in
    let p = pairs-front c.args.heap.now.objects c.pop.new.self.items c.in-Some.binding (subst (ArePairsIn c.args.heap.now.objects) c.in-Some.ensures.items h.left_in) in
    IsIn-Grows c.args.heap.now.objects c.loop-binding.heap.objects h.grows c.in-Some.binding.second p.1.1

pub loop-binding-preserved : goal.loop-binding-preserved
loop-binding-preserved c =
    let h0 = c.args.heap.now.objects in
    let h = c.loop-binding.heap.objects in
    let new = c.let_one.new.heap.objects in
    let i = c.loop-binding.invariant in
    let rest = c.pop.new.self.items in
    let binding = c.in-Some.binding in
    let p = pairs-front h0 rest binding (subst (ArePairsIn h0) c.in-Some.ensures.items i.left_in) in
    let one = object_at-Grows h0 h i.grows binding.first p.1.0 in
    let two = object_at-Grows h0 h i.grows binding.second p.1.1 in
    record {
      grows = Grows-trans h0 h new i.grows c.in_ok-call.ensures.grows;
      left_in = p.0;
      within = subst (λ o. IfSome o (IsIn new)) c.in-Some-2.is c.in_ok-call.ensures.within;
      inside = λ A ps b are o t v.
          inside-step A h0 ps b h new rest binding c.loop-binding.made (Some c.in-Some-2.call)
          (subst (λ l. IsInside A h0 ps b h l c.loop-binding.made) c.in-Some.ensures.items (i.inside A ps b are o t v))
          (λ x u d m n e w. subst (IsLet new (x ∷ []) (More u NoTerms) d) c.in-Some-2.is (c.in_ok-call.ensures.made A x u d (one ∙ m) (two ∙ n) e w));
    }

pub returns-in_default-2-clause-made : goal.returns-in_default-2-clause-made
returns-in_default-2-clause-made c = λ A ps b are o t v.
    let h0 = c.args.heap.now.objects in
    let h = c.loop-binding.heap.objects in
    let new = c.let_one.new.heap.objects in
    let i = c.loop-binding.invariant in
    let rest = c.pop.new.self.items in
    let binding = c.in-Some.binding in
    let p = pairs-front h0 rest binding (subst (ArePairsIn h0) c.in-Some.ensures.items i.left_in) in
    let one = object_at-Grows h0 h i.grows binding.first p.1.0 in
    let two = object_at-Grows h0 h i.grows binding.second p.1.1 in
    inside-step A h0 ps b h new rest binding c.loop-binding.made None
    (subst (λ l. IsInside A h0 ps b h l c.loop-binding.made) c.in-Some.ensures.items (i.inside A ps b are o t v))
    (λ x u d m n e w. subst (IsLet new (x ∷ []) (More u NoTerms) d) c.in_default-2.is (c.in_ok-call.ensures.made A x u d (one ∙ m) (two ∙ n) e w))

pub returns-clause-made : goal.returns-clause-made
returns-clause-made c = λ A ps b are o t v.
    let i = c.loop-binding.invariant in
    inside-end A c.args.heap.now.objects ps b c.loop-binding.heap.objects c.loop-binding.bindings.items c.loop-binding.made (omega (arith, c.in_default.ensures.cases)) i.within (i.inside A ps b are o t v)
