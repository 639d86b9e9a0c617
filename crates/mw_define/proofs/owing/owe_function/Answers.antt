-- The calls that were found are all.
use Rattle.std.proofs.Common.{List, sym, ap, ◌∙◌, subst}
use Rattle.mw_model.specs.Terms.Object.{Object}
use Rattle.mw_heap.specs.Objects.{Grows}
use Rattle.mw_heap.proofs.Objects.{Grows-trans}
use Rattle.mw_term.specs.Parts.{names_at}
use Rattle.mw_define.specs.Collecting.{AreFoundCalls, found_calls}
use Rattle.mw_define.specs.Blocks.{functions_at, function_at}
use Rattle.mw_define.specs.Knowing.{AreKnown}
use Rattle.mw_define.specs.Owed.{AreBlock, OwesOne}
use Rattle.mw_define.proofs.Knowing.{known-own, known-before, known-names}
use Rattle.mw_define.proofs.Expanding.{functions-Grows}
use Rattle.mw_define.proofs.OwedCalls.{has-names}
use Rattle.mw_define.proofs.OwedBlock.{block-Grows, named-Grows, kept-calls, one-later}
use Rattle.mw_define.proofs.owing.owe_function.Goals as goal

pub find_calls-requires-clause-within : goal.find_calls-requires-clause-within
find_calls-requires-clause-within c = c.requires.named.expanded.within.2

pub find_calls-requires-clause-read : goal.find_calls-requires-clause-read
find_calls-requires-clause-read c = ((function_at c.args.heap.now.objects c.args.function.now).body, c.requires.named.expanded.body)

pub owe_found-requires-clause-block : goal.owe_found-requires-clause-block
owe_found-requires-clause-block c =
    let new = c.find_calls.new.heap.objects in
    let es = c.args.block.now in
    subst (λ ks. AreBlock new ks es) (sym c.in_ok-calls.ensures.known.same) (block-Grows c.args.heap.now.objects new c.in_ok-calls.ensures.grows c.args.known.now.names.keys es c.requires.block)

pub owe_found-requires-clause-named : goal.owe_found-requires-clause-named
owe_found-requires-clause-named c = named-Grows c.args.heap.now.objects c.find_calls.new.heap.objects c.in_ok-calls.ensures.grows c.args.block.now c.args.function.now.name c.args.function.now c.requires.block.expanded c.requires.named.expanded.within.0 c.requires.named

pub owe_found-requires-clause-calls : goal.owe_found-requires-clause-calls
owe_found-requires-clause-calls c =
    let os = c.args.heap.now.objects in
    let new = c.find_calls.new.heap.objects in
    let rs = c.args.known.now.names.keys in
    let same = known-names os new rs c.find_calls.new.known c.in_ok-calls.ensures.grows c.requires.block.symbols c.in_ok-calls.ensures.known in
    subst (λ l. AreFoundCalls new (names_at new c.find_calls.new.known.names.keys) l) (sym c.as_slice.ensures.value)
    (subst (λ ns. AreFoundCalls new ns c.in_ok-calls.calls.items) (sym same) c.in_ok-calls.ensures.found)

pub owe_found-requires-clause-known : goal.owe_found-requires-clause-known
owe_found-requires-clause-known c = known-own c.find_calls.new.heap.objects c.args.known.now.names.keys c.find_calls.new.known c.in_ok-calls.ensures.known

pub owe_found-requires-clause-all : goal.owe_found-requires-clause-all
owe_found-requires-clause-all c =
    let os = c.args.heap.now.objects in
    let new = c.find_calls.new.heap.objects in
    let es = c.args.block.now in
    let e = c.args.function.now in
    let g = c.in_ok-calls.ensures.grows in
    let b = c.requires.block in
    ap (found_calls (functions_at new es) new) c.as_slice.ensures.value
    ∙ (ap (λ B. found_calls B new c.in_ok-calls.calls.items) (functions-Grows os new g es b.expanded)
    ∙ (c.in_ok-calls.ensures.calls (functions_at os es) (function_at os e).body (has-names os es c.args.known.now.names.keys b.refs) c.requires.named.expanded.body
    ∙ sym (kept-calls os new new g es e c.args.owed.now c.args.owed.now b.expanded c.requires.named.expanded.within)))

pub returns-in_err-recursion-clause-grows : goal.returns-in_err-recursion-clause-grows
returns-in_err-recursion-clause-grows c = Grows-trans c.args.heap.now.objects c.find_calls.new.heap.objects c.owe_found.new.heap.objects c.find_calls.ensures.grows c.owe_found.ensures.grows

pub returns-in_err-take_searches-clause-grows : goal.returns-in_err-take_searches-clause-grows
returns-in_err-take_searches-clause-grows c = subst (Grows c.args.heap.now.objects) (sym c.take_searches.ensures) (Grows-trans c.args.heap.now.objects c.find_calls.new.heap.objects c.owe_found.new.heap.objects c.find_calls.ensures.grows c.owe_found.ensures.grows)

pub returns-clause-grows : goal.returns-clause-grows
returns-clause-grows c = subst (Grows c.args.heap.now.objects) (sym c.take_searches.ensures) (Grows-trans c.args.heap.now.objects c.find_calls.new.heap.objects c.owe_found.new.heap.objects c.find_calls.ensures.grows c.owe_found.ensures.grows)

pub returns-clause-known : goal.returns-clause-known
returns-clause-known c = subst (λ (h : List Object). AreKnown h c.args.known.now.names.keys c.owe_found.new.known) (sym c.in_ok-take_searches.ensures)
    (known-before c.find_calls.new.heap.objects c.owe_found.new.heap.objects c.args.known.now.names.keys c.find_calls.new.known c.owe_found.new.known c.in_ok-calls.ensures.known c.in_ok-recursion.ensures.known)

pub returns-clause-owed : goal.returns-clause-owed
returns-clause-owed c = subst (λ (h : List Object). OwesOne c.args.heap.now.objects h c.args.block.now c.args.function.now c.args.owed.now c.owe_found.new.owed c.in_ok-recursion.recursion) (sym c.in_ok-take_searches.ensures) (one-later c.args.heap.now.objects c.find_calls.new.heap.objects c.owe_found.new.heap.objects c.in_ok-calls.ensures.grows c.args.block.now c.args.function.now c.args.owed.now c.owe_found.new.owed c.requires.block.expanded c.requires.named.expanded.within c.in_ok-recursion.recursion c.in_ok-recursion.ensures.owed)
