-- The last tests.
use Rattle.std.proofs.Common.{sym, ap, ap₂, ◌∙◌}
use Rattle.mw_model.specs.Events.Obligation.{obligations, is_nested}
use Rattle.mw_model.specs.Laws.RulesInduction.{formulas_object}
use Rattle.mw_heap.proofs.Objects.{object_at-Grows, IsIn-Grows, Grows-trans}
use Rattle.mw_define.specs.Owed.{is_past}
use Rattle.mw_define.specs.BlockTests.{not_closed_at, nested_at, too_many_at}
use Rattle.mw_define.proofs.Expanding.{functions-Grows, measures-Grows}
use Rattle.mw_define.proofs.OwedBlock.{block-Grows, counted-Grows}
use Rattle.mw_define.proofs.BlockRead.{closed-all}
use Rattle.mw_define.proofs.admission.admit_expanded.Goals as goal

pub list_axioms-requires : goal.list_axioms-requires
list_axioms-requires c = c.requires.expanded

pub list_obligations-requires : goal.list_obligations-requires
list_obligations-requires c = block-Grows c.args.heap.now.objects c.list_axioms.new.heap.objects c.in_ok-axioms.ensures.grows c.args.names.keys c.args.block.now c.requires

pub returns-in_default-clause-admitted : goal.returns-in_default-clause-admitted
returns-in_default-clause-admitted c = not_closed_at (rw c.in_default.is at c.in_ok-entries.ensures)

pub returns-in-Nested-clause-admitted : goal.returns-in-Nested-clause-admitted
returns-in-Nested-clause-admitted c =
    let os = c.args.heap.now.objects in
    let es = c.args.block.now in
    let same = functions-Grows os c.list_axioms.new.heap.objects c.in_ok-axioms.ensures.grows es c.requires.expanded in
    nested_at (closed-all os es c.in-Some.entries.items (rw c.in-Some.is at c.in_ok-entries.ensures)) (ap (λ B. is_nested B B) (sym same) ∙ (rw c.in-Nested.is at c.in_ok-list_obligations.ensures.listed))

pub returns-in-TooMany-clause-admitted : goal.returns-in-TooMany-clause-admitted
returns-in-TooMany-clause-admitted c =
    let os = c.args.heap.now.objects in
    let mid = c.list_axioms.new.heap.objects in
    let es = c.args.block.now in
    let g = c.in_ok-axioms.ensures.grows in
    let same = functions-Grows os mid g es c.requires.expanded in
    let q = rw c.in-TooMany.is at c.in_ok-list_obligations.ensures.listed in
    too_many_at (closed-all os es c.in-Some.entries.items (rw c.in-Some.is at c.in_ok-entries.ensures)) (ap (λ B. is_nested B B) (sym same) ∙ q.0) (ap (is_past c.args.most) (sym (counted-Grows os mid g es c.requires.expanded)) ∙ q.1)

pub returns-in-Formulas-clause-admitted : goal.returns-in-Formulas-clause-admitted
returns-in-Formulas-clause-admitted c =
    let os = c.args.heap.now.objects in
    let mid = c.list_axioms.new.heap.objects in
    let new = c.list_obligations.new.heap.objects in
    let es = c.args.block.now in
    let r = c.in_ok-axioms.axioms in
    let g = c.in_ok-list_obligations.ensures.grows in
    let made = c.in_ok-axioms.ensures.made in
    let q = rw c.in-Formulas.is at c.in_ok-list_obligations.ensures.listed in
    let functions = functions-Grows os mid c.in_ok-axioms.ensures.grows es c.requires.expanded in
    let measures = measures-Grows os mid c.in_ok-axioms.ensures.grows es c.requires.expanded in
    record {
      obligations = record {
        flat = ap (λ B. is_nested B B) (sym functions) ∙ q.flat;
        few = ap (is_past c.args.most) (sym (counted-Grows os mid c.in_ok-axioms.ensures.grows es c.requires.expanded)) ∙ q.few;
        within = q.within;
        obligations = q.obligations ∙ ap₂ (λ B M. formulas_object (obligations B M)) functions measures;
      };
      axioms_in = IsIn-Grows mid new g r made.0;
      axioms = object_at-Grows mid new g r made.0 ∙ made.1;
      entries = rw c.in-Some.is at c.in_ok-entries.ensures;
    }

pub returns-in_err-list_obligations-clause-grows : goal.returns-in_err-list_obligations-clause-grows
returns-in_err-list_obligations-clause-grows c = Grows-trans _ _ _ c.in_ok-axioms.ensures.grows c.in_err-list_obligations.ensures.grows

pub returns-in-Nested-clause-grows : goal.returns-in-Nested-clause-grows
returns-in-Nested-clause-grows c = Grows-trans _ _ _ c.in_ok-axioms.ensures.grows c.in_ok-list_obligations.ensures.grows

pub returns-in-TooMany-clause-grows : goal.returns-in-TooMany-clause-grows
returns-in-TooMany-clause-grows c = Grows-trans _ _ _ c.in_ok-axioms.ensures.grows c.in_ok-list_obligations.ensures.grows

pub returns-in-Formulas-clause-grows : goal.returns-in-Formulas-clause-grows
returns-in-Formulas-clause-grows c = Grows-trans _ _ _ c.in_ok-axioms.ensures.grows c.in_ok-list_obligations.ensures.grows
