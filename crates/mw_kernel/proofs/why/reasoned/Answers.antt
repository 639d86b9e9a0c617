-- Each part means in the end what it meant when it was made.
use Rattle.std.proofs.Common.{ap, ap₂, ◌∙◌}
use Rattle.mw_model.specs.Terms.Object.{Symbol, Pair, name_of_bytes, is_name}
use Rattle.mw_heap.specs.Variants.{refusal_of}
use Rattle.mw_heap.proofs.Objects.{Grows-trans, IsIn-Grows, object_at-Grows}
use Rattle.mw_theory.proofs.CallerLemmas.{IfOk-map}
use Rattle.mw_kernel.proofs.ReasonNames.{reason_is_name}
use Rattle.mw_kernel.proofs.Reasoned.{listed-is}
use Rattle.mw_kernel.proofs.why.reasoned.Goals as goal

pub symbol-requires : goal.symbol-requires
symbol-requires c = ap is_name (c.as_bytes.ensures.value ∙ c.word.ensures) ∙ reason_is_name (refusal_of c.args.reason)

pub cons-requires-clause-first_in : goal.cons-requires-clause-first_in
cons-requires-clause-first_in c = c.in_ok-word.ensures.made.0

pub cons-requires-clause-second_in : goal.cons-requires-clause-second_in
cons-requires-clause-second_in c = IsIn-Grows _ _ c.in_ok-word.ensures.grows _ c.in_ok-list.ensures.made.0

pub cons-requires-2-clause-first_in : goal.cons-requires-2-clause-first_in
cons-requires-2-clause-first_in c = c.in_ok-count.ensures.made.0

pub cons-requires-2-clause-second_in : goal.cons-requires-2-clause-second_in
cons-requires-2-clause-second_in c = IsIn-Grows _ _ c.in_ok-count.ensures.grows _ c.in_ok-tail.ensures.made.0

pub cons-requires-3-clause-first_in : goal.cons-requires-3-clause-first_in
cons-requires-3-clause-first_in c = c.in_ok-why.ensures.made.0

pub cons-requires-3-clause-second_in : goal.cons-requires-3-clause-second_in
cons-requires-3-clause-second_in c = IsIn-Grows _ _ c.in_ok-why.ensures.grows _ c.in_ok-rest.ensures.made.0

pub returns-in_err-word-clause-grows : goal.returns-in_err-word-clause-grows
returns-in_err-word-clause-grows c = Grows-trans _ _ _ c.in_ok-list.ensures.grows c.symbol.ensures.grows

pub returns-in_err-tail-clause-grows : goal.returns-in_err-tail-clause-grows
returns-in_err-tail-clause-grows c = Grows-trans _ _ _ c.in_ok-list.ensures.grows (Grows-trans _ _ _ c.in_ok-word.ensures.grows c.cons.ensures.grows)

pub returns-in_err-count-clause-grows : goal.returns-in_err-count-clause-grows
returns-in_err-count-clause-grows c =
    Grows-trans _ _ _ c.in_ok-list.ensures.grows (Grows-trans _ _ _ c.in_ok-word.ensures.grows (Grows-trans _ _ _ c.in_ok-tail.ensures.grows c.nat.ensures.grows))

pub returns-in_err-rest-clause-grows : goal.returns-in_err-rest-clause-grows
returns-in_err-rest-clause-grows c =
    Grows-trans _ _ _ c.in_ok-list.ensures.grows
    (Grows-trans _ _ _ c.in_ok-word.ensures.grows (Grows-trans _ _ _ c.in_ok-tail.ensures.grows (Grows-trans _ _ _ c.in_ok-count.ensures.grows c.cons-2.ensures.grows)))

pub returns-in_err-why-clause-grows : goal.returns-in_err-why-clause-grows
returns-in_err-why-clause-grows c =
    Grows-trans _ _ _ c.in_ok-list.ensures.grows
    (Grows-trans _ _ _ c.in_ok-word.ensures.grows
    (Grows-trans _ _ _ c.in_ok-tail.ensures.grows (Grows-trans _ _ _ c.in_ok-count.ensures.grows (Grows-trans _ _ _ c.in_ok-rest.ensures.grows c.symbol-2.ensures.grows))))

pub returns-clause-grows : goal.returns-clause-grows
returns-clause-grows c =
    Grows-trans _ _ _ c.in_ok-list.ensures.grows
    (Grows-trans _ _ _ c.in_ok-word.ensures.grows
    (Grows-trans _ _ _ c.in_ok-tail.ensures.grows
    (Grows-trans _ _ _ c.in_ok-count.ensures.grows (Grows-trans _ _ _ c.in_ok-rest.ensures.grows (Grows-trans _ _ _ c.in_ok-why.ensures.grows c.cons-3.ensures.grows)))))

pub returns-clause-made : goal.returns-clause-made
returns-clause-made c =
    let list = c.in_ok-list.ensures in
    let word = c.in_ok-word.ensures in
    let tail = c.in_ok-tail.ensures in
    let count = c.in_ok-count.ensures in
    let rest = c.in_ok-rest.ensures in
    let why = c.in_ok-why.ensures in
    IfOk-map c.cons-3.result _ _ (λ r made. (
      made.0,
      made.1
          ∙ ap₂ Pair why.made.1
          (object_at-Grows _ _ why.grows c.in_ok-rest.rest rest.made.0
          ∙ (rest.made.1
          ∙ ap₂ Pair count.made.1
          (object_at-Grows _ _ count.grows c.in_ok-tail.tail tail.made.0
          ∙ (tail.made.1
          ∙ ap₂ Pair (word.made.1 ∙ ap (λ b. Symbol (name_of_bytes b)) (c.as_bytes.ensures.value ∙ c.word.ensures))
          (object_at-Grows _ _ word.grows c.in_ok-list.list list.made.0 ∙ (list.made.1 ∙ listed-is c.args.heap.now.objects c.args.parts.now)))))),
    )) c.cons-3.ensures.made
