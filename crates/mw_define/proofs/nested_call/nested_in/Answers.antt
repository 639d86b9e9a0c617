-- The calls that were found are all.
use Rattle.std.proofs.Common.{List, [], sym, ap, ◌∙◌, subst}
use Rattle.mw_model.specs.Terms.Object.{Object}
use Rattle.mw_model.specs.Events.Obligation.{collect}
use Rattle.mw_heap.specs.Objects.{Grows}
use Rattle.mw_term.specs.Parts.{names_at}
use Rattle.mw_define.specs.Collecting.{AreFoundCalls, found_calls}
use Rattle.mw_define.specs.Knowing.{AreKnown}
use Rattle.mw_define.specs.NestedCall.{IsFirstFound}
use Rattle.mw_define.proofs.Knowing.{known-own, known-before, known-names}
use Rattle.mw_define.proofs.FirstNested.{found-as}
use Rattle.mw_define.proofs.nested_call.nested_in.Goals as goal

pub first_nested-requires-clause-calls : goal.first_nested-requires-clause-calls
first_nested-requires-clause-calls c =
    let new = c.find_calls.new.heap.objects in
    let keys = c.args.known.now.names.keys in
    let same = known-names c.args.heap.now.objects new keys c.find_calls.new.known c.in_ok-calls.ensures.grows c.requires.known.symbols c.in_ok-calls.ensures.known in
    subst (λ l. AreFoundCalls new (names_at new c.find_calls.new.known.names.keys) l) (sym c.as_slice.ensures.value)
    (subst (λ ns. AreFoundCalls new ns c.in_ok-calls.calls.items) (sym same) c.in_ok-calls.ensures.found)

pub first_nested-requires-clause-known : goal.first_nested-requires-clause-known
first_nested-requires-clause-known c = known-own c.find_calls.new.heap.objects c.args.known.now.names.keys c.find_calls.new.known c.in_ok-calls.ensures.known

pub returns-in_err-take_searches-clause-grows : goal.returns-in_err-take_searches-clause-grows
returns-in_err-take_searches-clause-grows c = subst (Grows c.args.heap.now.objects) (sym c.take_searches.ensures) c.in_ok-calls.ensures.grows

pub returns-clause-grows : goal.returns-clause-grows
returns-clause-grows c = subst (Grows c.args.heap.now.objects) (sym c.in_ok-take_searches.ensures) c.in_ok-calls.ensures.grows

pub returns-clause-known : goal.returns-clause-known
returns-clause-known c =
    let new = c.find_calls.new.heap.objects in
    subst (λ (h : List Object). AreKnown h c.args.known.now.names.keys c.first_nested.new.known) (sym c.in_ok-take_searches.ensures)
    (known-before new new c.args.known.now.names.keys c.find_calls.new.known c.first_nested.new.known c.in_ok-calls.ensures.known c.in_ok-nested.ensures.known)

pub returns-clause-nested : goal.returns-clause-nested
returns-clause-nested c = λ B t n e.
    let new = c.find_calls.new.heap.objects in
    let keys = c.args.known.now.names.keys in
    let same = known-names c.args.heap.now.objects new keys c.find_calls.new.known c.in_ok-calls.ensures.grows c.requires.known.symbols c.in_ok-calls.ensures.known in
    subst (λ (h : List Object). IsFirstFound B h (collect B [] t) c.in_ok-nested.nested) (sym c.in_ok-take_searches.ensures)
    (found-as B new (found_calls B new c.as_slice.result.now) (collect B [] t) c.in_ok-nested.nested (ap (found_calls B new) c.as_slice.ensures.value ∙ c.in_ok-calls.ensures.calls B t n e) (c.in_ok-nested.ensures.nested B (n ∙ sym same)))
