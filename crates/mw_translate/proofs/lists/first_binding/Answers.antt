-- The first binding, or how the list ends.
use Rattle.std.proofs.Common.{◌≡◌, None, refl, sym, ap₂, ◌∙◌, subst, arith}
use Rattle.mw_model.specs.Terms.Object.{Pair}
use Rattle.mw_model.specs.Values.Primitive.{name_of}
use Rattle.mw_model.specs.Events.Expansion.{bindings}
use Rattle.mw_heap.specs.Objects.{object_at}
use Rattle.mw_term.proofs.Symbols.{symbol_is}
use Rattle.mw_translate.specs.Meaning.{binding_names}
use Rattle.mw_translate.proofs.Listed.{unnamed, end-unbound}
use Rattle.mw_translate.proofs.lists.first_binding.Goals as goal

pub returns-in-Some-clause-first : goal.returns-in-Some-clause-first
returns-in-Some-clause-first c =
    let os = c.args.heap.now.objects in
    let named = symbol_is (object_at os c.in-Some.named.first) c.in-Some.ensures.4 in
    record {
      name = name_of (object_at os c.in-Some.named.first);
      name_in = c.in-Some.ensures.0;
      after_in = c.in-Some.ensures.1;
      rest_in = c.in-Pair.ensures.shows.1;
      after_below = omega (arith, c.in-Some.ensures.3, c.in-Pair.ensures.below.0);
      rest_below = c.in-Pair.ensures.below.1;
      named = named;
      shape = c.in-Pair.ensures.shows.2 ∙ ap₂ Pair (c.in-Some.ensures.5 ∙ ap₂ Pair named refl) refl;
    }

pub returns-in-None-clause-end : goal.returns-in-None-clause-end
returns-in-None-clause-end c =
    let os = c.args.heap.now.objects in
    subst (λ o. (binding_names o ≡ None) × (bindings o ≡ None)) (sym c.in-Pair.ensures.shows.2) (unnamed (object_at os c.in-Pair.binding) (object_at os c.in-Pair.rest) c.in-None.ensures)

pub returns-in-Symbol-clause-end : goal.returns-in-Symbol-clause-end
returns-in-Symbol-clause-end c = end-unbound c.args.heap.now.objects c.args.x c.end_of_list.result c.in-Symbol.ensures.shows c.end_of_list.ensures
