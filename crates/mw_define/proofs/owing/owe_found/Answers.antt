-- Nested, or the ordinal and one call after another.
use Rattle.std.proofs.Common.{List, ◌≡◌, Bool, ◌∷◌, [], length, sym, ap, ◌∙◌, subst, eqb-true}
use Rattle.std.proofs.lemmas.List.{nil_from_length}
use Rattle.mw_model.specs.Terms.Object.{Object}
use Rattle.mw_model.specs.Values.Primitive.{name_of}
use Rattle.mw_model.specs.Events.Obligation.{ordinal_formula, measure_of, is_empty, some_nested}
use Rattle.mw_heap.specs.Objects.{object_at, Grows}
use Rattle.mw_term.specs.Parts.{names_at}
use Rattle.mw_define.specs.Blocks.{functions_at, measures_at}
use Rattle.mw_define.specs.Collecting.{AreFoundCalls, found_calls}
use Rattle.mw_define.specs.Knowing.{AreKnown}
use Rattle.mw_define.specs.Owed.{Adds, AreBlock, owed_at, calls_of, OwesBy}
use Rattle.mw_define.proofs.Collection.{founds-Grows}
use Rattle.mw_define.proofs.Knowing.{known-own, known-before, known-names, known-Grows}
use Rattle.mw_define.proofs.OwedCalls.{has-names}
use Rattle.mw_define.proofs.OwedBlock.{block-Grows, named-Grows, found-at, found-empty, calls-next, calls-end}
use Rattle.mw_define.proofs.owing.owe_found.Goals as goal
use Rattle.mw_define.proofs.owing.owe_found.Goals.{After-is_empty}

pub returns-then-branch-clause-owed : goal.returns-then-branch-clause-owed
returns-then-branch-clause-owed c =
    let os = c.args.heap.now.objects in
    let B = functions_at os c.args.block.now in
    ap (some_nested B) (sym c.requires.all) ∙ (sym (c.in_ok-are_nested.ensures.nested B (has-names os c.args.block.now c.args.known.now.names.keys c.requires.block.refs)) ∙ c.if-branch.true)

pub foresee-requires-clause-block : goal.foresee-requires-clause-block
foresee-requires-clause-block c =
    let new = c.owe_ordinal.new.heap.objects in
    subst (λ ks. AreBlock new ks c.args.block.now) (sym c.in_ok-are_nested.ensures.known.same) (block-Grows c.args.heap.now.objects new c.in_ok-owe_ordinal.ensures.grows c.args.known.now.names.keys c.args.block.now c.requires.block)

pub foresee-requires-clause-calls : goal.foresee-requires-clause-calls
foresee-requires-clause-calls c =
    let os = c.args.heap.now.objects in
    let new = c.owe_ordinal.new.heap.objects in
    let rs = c.args.known.now.names.keys in
    let known = c.are_nested.new.known in
    let g = c.in_ok-owe_ordinal.ensures.grows in
    subst (λ ns. AreFoundCalls new ns c.args.calls.now) (sym (known-names os new rs known g c.requires.block.symbols (known-Grows os new rs known g c.in_ok-are_nested.ensures.known)))
    (founds-Grows os new (names_at os rs) g c.args.calls.now c.requires.calls)

pub returns-in_err-foresee-clause-grows : goal.returns-in_err-foresee-clause-grows
returns-in_err-foresee-clause-grows c = subst (λ (h : List Object). Grows c.args.heap.now.objects h) (sym c.foresee.ensures) c.in_ok-owe_ordinal.ensures.grows

pub loop-call-init : goal.loop-call-init
loop-call-init c =
    let os = c.args.heap.now.objects in
    let es = c.args.block.now in
    let rs = c.args.known.now.names.keys in
    let same = sym c.in_ok-foresee.ensures in
    let g = c.in_ok-owe_ordinal.ensures.grows in (
      record {
        grows = subst (λ (h : List Object). Grows os h) same g;
        adds = subst (λ (h : List Object). Adds os h c.args.owed.now c.owe_ordinal.new.owed (ordinal_formula (measure_of (measures_at os es) (name_of (object_at os c.args.function.now.name))) ∷ [])) same c.in_ok-owe_ordinal.ensures.owed;
      },
      subst (λ (h : List Object). AreKnown h rs c.are_nested.new.known) same (known-Grows os c.owe_ordinal.new.heap.objects rs c.are_nested.new.known g c.in_ok-are_nested.ensures.known),
    )

pub owe_call-requires-clause-block : goal.owe_call-requires-clause-block
owe_call-requires-clause-block c =
    let cur = c.loop-call.heap.objects in
    let es = c.args.block.now in
    subst (λ ks. AreBlock cur ks es) (sym c.loop-call.invariant.1.same) (block-Grows c.args.heap.now.objects cur c.loop-call.invariant.0.grows c.args.known.now.names.keys es c.requires.block)

pub owe_call-requires-clause-named : goal.owe_call-requires-clause-named
owe_call-requires-clause-named c = named-Grows c.args.heap.now.objects c.loop-call.heap.objects c.loop-call.invariant.0.grows c.args.block.now c.args.function.now.name c.args.function.now c.requires.block.expanded c.requires.named.expanded.within.0 c.requires.named

pub owe_call-requires-clause-call : goal.owe_call-requires-clause-call
owe_call-requires-clause-call c =
    let os = c.args.heap.now.objects in
    let cur = c.loop-call.heap.objects in
    let rs = c.args.known.now.names.keys in
    let g = c.loop-call.invariant.0.grows in
    let same = known-names os cur rs c.loop-call.known g c.requires.block.symbols c.loop-call.invariant.1 in
    let h = founds-Grows os cur (names_at os rs) g (c.call-item.result ∷ []) (found-at os (names_at os rs) c.args.calls.now c.loop-call.call-index c.call-item.result c.requires.calls c.loop-call-test.true c.call-item.is) in
    let k = subst (λ ns. AreFoundCalls cur ns (c.call-item.result ∷ [])) (sym same) h in
    (k.0, k.1)

pub owe_call-requires-clause-known : goal.owe_call-requires-clause-known
owe_call-requires-clause-known c = known-own c.loop-call.heap.objects c.args.known.now.names.keys c.loop-call.known c.loop-call.invariant.1

pub loop-call-preserved : goal.loop-call-preserved
loop-call-preserved c = (
  calls-next c.args.heap.now.objects c.loop-call.heap.objects c.owe_call.new.heap.objects c.args.block.now c.args.function.now (names_at c.args.heap.now.objects c.args.known.now.names.keys) c.args.owed.now c.loop-call.owed c.owe_call.new.owed c.args.calls.now c.loop-call.call-index c.call-item.result c.requires.block.expanded c.requires.named.expanded.within c.requires.calls c.loop-call-test.true c.call-item.is
      c.loop-call.invariant.0 c.in_ok-owe_call.ensures.grows c.in_ok-owe_call.ensures.owed,
  known-before c.loop-call.heap.objects c.owe_call.new.heap.objects c.args.known.now.names.keys c.loop-call.known c.owe_call.new.known c.loop-call.invariant.1 c.in_ok-owe_call.ensures.known,
)

-- what was added where no call is nested, and whether there are calls
owes : (c : goal.After-is_empty) (none : Bool) → is_empty (calls_of c.args.heap.now.objects c.args.block.now c.args.function.now) ≡ none → OwesBy c.args.heap.now.objects c.loop-call.heap.objects c.args.block.now c.args.function.now c.args.owed.now c.loop-call.owed none
owes c none empty =
    let os = c.args.heap.now.objects in
    let es = c.args.block.now in
    let e = c.args.function.now in
    let B = functions_at os es in
    record {
      flat = ap (some_nested B) (sym c.requires.all) ∙ (sym (c.in_ok-are_nested.ensures.nested B (has-names os es c.args.known.now.names.keys c.requires.block.refs)) ∙ c.if-branch.false);
      empty = empty;
      adds = subst (λ cs. Adds os c.loop-call.heap.objects c.args.owed.now c.loop-call.owed (ordinal_formula (measure_of (measures_at os es) (name_of (object_at os e.name))) ∷ owed_at os es e cs)) c.requires.all
          (calls-end os c.loop-call.heap.objects es e c.args.owed.now c.loop-call.owed c.args.calls.now c.loop-call.call-index c.loop-call-test.false c.loop-call.invariant.0);
    }

pub returns-then-is_empty-clause-owed : goal.returns-then-is_empty-clause-owed
returns-then-is_empty-clause-owed c =
    let os = c.args.heap.now.objects in
    let B = functions_at os c.args.block.now in
    let none = nil_from_length c.args.calls.now (eqb-true (length c.args.calls.now) 0 (sym c.is_empty.ensures ∙ c.if-is_empty.true)) in
    owes (goal.at.returns-then-is_empty-clause-owed c).After-is_empty _ (ap is_empty (sym c.requires.all) ∙ ap (λ l. is_empty (found_calls B os l)) none)

pub returns-else-is_empty-clause-owed : goal.returns-else-is_empty-clause-owed
returns-else-is_empty-clause-owed c =
    let os = c.args.heap.now.objects in
    let rs = c.args.known.now.names.keys in
    let B = functions_at os c.args.block.now in
    owes (goal.at.returns-else-is_empty-clause-owed c).After-is_empty _
    (ap is_empty (sym c.requires.all) ∙ found-empty B os (names_at os rs) c.args.calls.now (has-names os c.args.block.now rs c.requires.block.refs) c.requires.calls (sym c.is_empty.ensures ∙ c.if-is_empty.false))
