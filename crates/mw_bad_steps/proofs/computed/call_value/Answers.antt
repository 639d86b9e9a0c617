-- No primitive function, and other actuals than constants.
use Rattle.std.proofs.Common.{sym, ◌∙◌}
use Rattle.mw_model.specs.Values.Primitive.{name_of}
use Rattle.mw_heap.specs.Objects.{object_at}
use Rattle.mw_heap.specs.Variants.{profile_of}
use Rattle.mw_bad_steps.proofs.ComputedValues.{no_word_value, no_constants_value}
use Rattle.mw_bad_steps.proofs.computed.call_value.Goals as goal

pub returns-in_default-named-clause-value : goal.returns-in_default-named-clause-value
returns-in_default-named-clause-value c = λ A t i e.
    let os = c.args.heap.now.objects in
    no_word_value (profile_of c.args.profile) os A t (object_at os c.args.call) (object_at os c.in-Pair.f) (object_at os c.in-Pair.constants) i e c.in-Pair.ensures.shows.2
    (sym (c.named.ensures (name_of (object_at os c.in-Pair.f)) c.name_of.ensures) ∙ c.in_default-named.is)

pub returns-then-not-are_constants-clause-value : goal.returns-then-not-are_constants-clause-value
returns-then-not-are_constants-clause-value c = λ A t i e.
    let os = c.args.heap.now.objects in
    no_constants_value (profile_of c.args.profile) os A t (object_at os c.args.call) (object_at os c.in-Pair.f) (object_at os c.in-Pair.constants) i e c.in-Pair.ensures.shows.2
    (sym c.are_constants.ensures ∙ c.if-not-are_constants.true)
