-- What was made is a constant, and the heap grew by each part of it.
use Rattle.std.proofs.Common.{ap₂, ◌∙◌}
use Rattle.mw_model.specs.Terms.Object.{Pair}
use Rattle.mw_heap.proofs.Objects.{Grows-trans, IsIn-Grows, object_at-Grows}
use Rattle.mw_code.proofs.PieceForms.{if_ok-along}
use Rattle.mw_tests_functions.proofs.Forms.{constant-term}
use Rattle.mw_tests_functions.proofs.terms.constant.Goals as goal

pub returns-clause-term : goal.returns-clause-term
returns-clause-term c =
    let nil = object_at-Grows c.nil.new.self.objects c.nat.new.self.objects c.in_ok-n.ensures.grows c.in_ok-nil.nil c.in_ok-nil.ensures.made.0 ∙ c.in_ok-nil.ensures.made.1 in
    let rest = object_at-Grows c.cons.new.self.objects c.symbol.new.self.objects c.in_ok-quote.ensures.grows c.in_ok-rest.rest c.in_ok-rest.ensures.made.0 ∙ (c.in_ok-rest.ensures.made.1 ∙ ap₂ Pair c.in_ok-n.ensures.made.1 nil) in
    if_ok-along c.cons-2.result (λ r h. constant-term c.cons-2.new.self.objects r c.args.n h.0 (h.1 ∙ ap₂ Pair c.in_ok-quote.ensures.made.1 rest)) c.cons-2.ensures.made

pub cons-requires-clause-second_in : goal.cons-requires-clause-second_in
cons-requires-clause-second_in c = IsIn-Grows _ _ c.in_ok-n.ensures.grows _ c.in_ok-nil.ensures.made.0

pub cons-requires-2-clause-second_in : goal.cons-requires-2-clause-second_in
cons-requires-2-clause-second_in c = IsIn-Grows _ _ c.in_ok-quote.ensures.grows _ c.in_ok-rest.ensures.made.0

pub returns-in_err-n-clause-grows : goal.returns-in_err-n-clause-grows
returns-in_err-n-clause-grows c = Grows-trans _ _ _ c.in_ok-nil.ensures.grows c.in_err-n.ensures.grows

pub returns-in_err-rest-clause-grows : goal.returns-in_err-rest-clause-grows
returns-in_err-rest-clause-grows c = Grows-trans _ _ _ c.in_ok-nil.ensures.grows (Grows-trans _ _ _ c.in_ok-n.ensures.grows c.in_err-rest.ensures.grows)

pub returns-in_err-quote-clause-grows : goal.returns-in_err-quote-clause-grows
returns-in_err-quote-clause-grows c = Grows-trans _ _ _ c.in_ok-nil.ensures.grows (Grows-trans _ _ _ c.in_ok-n.ensures.grows (Grows-trans _ _ _ c.in_ok-rest.ensures.grows c.in_err-quote.ensures.grows))

pub returns-clause-grows : goal.returns-clause-grows
returns-clause-grows c = Grows-trans _ _ _ c.in_ok-nil.ensures.grows (Grows-trans _ _ _ c.in_ok-n.ensures.grows (Grows-trans _ _ _ c.in_ok-rest.ensures.grows (Grows-trans _ _ _ c.in_ok-quote.ensures.grows c.cons-2.ensures.grows)))
