-- From the names, the values and the body.
use Rattle.std.proofs.Common.{◌+◌, sym, ap, ◌∙◌, arith}
use Rattle.mw_model.specs.Terms.Object.{list2}
use Rattle.mw_model.specs.Events.Expansion.{expanded, bindings}
use Rattle.mw_heap.specs.Objects.{object_at}
use Rattle.mw_translate.specs.Bound.{bound_form}
use Rattle.mw_translate.specs.Contexts.{arities, entries}
use Rattle.mw_translate.specs.Meaning.{of_term}
use Rattle.mw_translate.proofs.Combine.{made_found, made-at, step_made, one-of-three}
use Rattle.mw_translate.proofs.Called.{body_of}
use Rattle.mw_translate.proofs.LetForms.{values_made, names_made, bound-names, bound-values, bound-body, bound-made}
use Rattle.mw_translate.proofs.let_forms.step_let.Goals as goal

pub bound_call-requires-clause-names_in : goal.bound_call-requires-clause-names_in
bound_call-requires-clause-names_in c = (made_found (arities c.args.context.now) c.args.heap.now.objects (entries c.args.context.now) c.new-names.result c.in-Ok.a c.requires.made c.in-Ok.ensures.three.0).object_in

pub bound_call-requires-clause-values_in : goal.bound_call-requires-clause-values_in
bound_call-requires-clause-values_in c = (made_found (arities c.args.context.now) c.args.heap.now.objects (entries c.args.context.now) c.new-values.result c.in-Ok.b c.requires.made c.in-Ok.ensures.three.1).object_in

pub bound_call-requires-clause-body_in : goal.bound_call-requires-clause-body_in
bound_call-requires-clause-body_in c = (made_found (arities c.args.context.now) c.args.heap.now.objects (entries c.args.context.now) c.new-body.result c.in-Ok.c c.requires.made c.in-Ok.ensures.three.2).object_in

pub returns-in-Err-clause-step : goal.returns-in-Err-clause-step
returns-in-Err-clause-step c =
    let A = arities c.args.context.now in
    let os = c.args.heap.now.objects in
    let o = c.args.order in
    let bs = object_at os c.in-Some.two.0 in
    let b = object_at os c.in-Some.two.1 in
    let shape = ap (λ r. of_term A (bound_form o r)) c.in-Some.ensures.0 in
    one-of-three A os (entries c.args.context.now) (of_term A (bound_form o (object_at os c.args.rest))) (c.args.rest + 1) c.new-names.ensures c.new-values.ensures c.new-body.ensures
    (omega (arith, c.in-Some.ensures.1)) (omega (arith, c.in-Some.ensures.1)) (omega (arith, c.in-Some.ensures.2))
    (λ n. shape ∙ bound-names A o bs b n) (λ n. shape ∙ bound-values A o bs b n) (λ n. shape ∙ bound-body A o bs b n) c.in-Err.ensures.wanted

pub returns-in_ok-call-in-Ok-clause-step : goal.returns-in_ok-call-in-Ok-clause-step
returns-in_ok-call-in-Ok-clause-step c =
    let A = arities c.args.context.now in
    let os = c.args.heap.now.objects in
    let es = entries c.args.context.now in
    let o = c.args.order in
    let new = c.bound_call.new.heap.objects in
    let bs = object_at os c.in-Some.two.0 in
    let b = object_at os c.in-Some.two.1 in
    let goal = of_term A (bound_form o (object_at os c.args.rest)) in
    let n = made-at A os es goal (c.args.rest + 1) c.requires.made c.new-names.ensures c.in-Ok.ensures.three.0 in
    let v = values_made A (bindings bs) (object_at os c.in-Ok.b.object, c.in-Ok.b.count) (made-at A os es goal (c.args.rest + 1) c.requires.made c.new-values.ensures c.in-Ok.ensures.three.1) in
    let t = body_of A (expanded b) (object_at os c.in-Ok.c.object, c.in-Ok.c.count) (made-at A os es goal (c.args.rest + 1) c.requires.made c.new-body.ensures c.in-Ok.ensures.three.2) in
    let names = names_made A bs v.0 (object_at os c.in-Ok.a.object, c.in-Ok.a.count) v.1 n in
    let call = c.in_ok-call-in-Ok.ensures.made A v.0 t.0 (sym names) (sym v.3) (sym t.3) t.2 v.2 in
    step_made A os new es goal (of_term A (bound_form o (list2 bs b))) (c.args.rest + 1) c.made_or_fails.result (ap (λ r. of_term A (bound_form o r)) c.in-Some.ensures.0)
    (bound-made A o bs b new v.0 t.0 c.in_ok-call-in-Ok.call c.made_or_fails.result v.1 t.1 call c.made_or_fails.ensures)
