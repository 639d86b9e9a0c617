-- The equation and the quotation make: t = 't.
use Rattle.std.proofs.Common.{sym}
use Rattle.mw_model.specs.Terms.Object.{symbol, list2, T}
use Rattle.mw_model.proofs.Names.{same_object-eq}
use Rattle.mw_heap.specs.Objects.{object_at}
use Rattle.mw_induct.proofs.Forms.{other_second, true_from}
use Rattle.mw_induct.proofs.shapes.true_term.Goals as goal

pub returns-in_default-clause-term : goal.returns-in_default-clause-term
returns-in_default-clause-term c = λ t. c.in_default.ensures.members t (list2 (symbol "QUOTE") T)

pub returns-in_default-member_after-clause-term : goal.returns-in_default-member_after-clause-term
returns-in_default-member_after-clause-term c =
    λ t. other_second _ (symbol "PEQUAL*") _ _ t (list2 (symbol "QUOTE") T) c.in-Some.ensures.members (c.in_default-member_after.ensures.member T)

pub returns-then-is_word-clause-term : goal.returns-then-is_word-clause-term
returns-then-is_word-clause-term c =
    let value = same_object-eq (object_at c.args.heap.now.objects c.in-Some-member_after.value) T (sym c.if-is_word.ensures) in
    true_from _ _ _ _ c.in-Some.ensures.members c.in-Some-member_after.ensures.member value
