-- The premise that the measure is an ordinal and those by which it falls make the premises on it.
use Rattle.std.proofs.Common.{◌≡◌, subst}
use Rattle.std.specs.Prelude.{IfOk}
use Rattle.mw_model.specs.Laws.RulesInduction.{ordinal_object}
use Rattle.mw_heap.specs.Objects.{object_at, IsIn}
use Rattle.mw_induct.specs.Scheme.{falls_of}
use Rattle.mw_induct.proofs.Rests.{first_fits, first_fits_not, All-from}
use Rattle.mw_induct.proofs.premises.are_measured.Goals as goal

pub returns-clause-premises : goal.returns-clause-premises
returns-clause-premises c =
    let os = c.args.heap.now.objects in
    subst (λ z. IfOk c.are_all_falls.result (λ b. b ≡ z))
    (first_fits os c.args.conclusions.now _ c.if-is_empty.ensures c.index-conclusions-0.is (ordinal_object (object_at os c.args.scheme.now.measure)) (falls_of os c.args.scheme.now) c.if-not-is_ordinal_premise.ensures)
    c.are_all_falls.ensures.falls

pub returns-then-not-is_ordinal_premise-clause-premises : goal.returns-then-not-is_ordinal_premise-clause-premises
returns-then-not-is_ordinal_premise-clause-premises c =
    let os = c.args.heap.now.objects in
    first_fits_not os c.args.conclusions.now _ c.if-is_empty.ensures c.index-conclusions-0.is (ordinal_object (object_at os c.args.scheme.now.measure)) (falls_of os c.args.scheme.now) c.if-not-is_ordinal_premise.ensures

pub are_all_falls-requires-clause-conclusions : goal.are_all_falls-requires-clause-conclusions
are_all_falls-requires-clause-conclusions c = All-from (IsIn c.args.heap.now.objects) 1 c.args.conclusions.now c.requires.conclusions
