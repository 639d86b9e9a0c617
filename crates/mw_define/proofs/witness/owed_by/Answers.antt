-- The axiom, and lists of one, none and one.
use Rattle.std.proofs.Common.{refl, ap, ◌∙◌}
use Rattle.mw_model.specs.Terms.Object.{list1}
use Rattle.mw_heap.proofs.Objects.{object_at-Grows, IsIn-Grows, Grows-trans}
use Rattle.mw_define.specs.declared.admitted.Entry.{Entry}
use Rattle.mw_define.proofs.witness.owed_by.Goals as goal

pub returns-in_err-axioms-clause-grows : goal.returns-in_err-axioms-clause-grows
returns-in_err-axioms-clause-grows c = Grows-trans _ _ _ c.in_ok-axiom.ensures.grows c.in_err-axioms.ensures.grows

pub returns-in_err-obligations-clause-grows : goal.returns-in_err-obligations-clause-grows
returns-in_err-obligations-clause-grows c = Grows-trans _ _ _ (Grows-trans _ _ _ c.in_ok-axiom.ensures.grows c.in_ok-axioms.ensures.grows) c.in_err-obligations.ensures.grows

pub returns-in_err-entries-clause-grows : goal.returns-in_err-entries-clause-grows
returns-in_err-entries-clause-grows c = Grows-trans _ _ _ (Grows-trans _ _ _ c.in_ok-axiom.ensures.grows c.in_ok-axioms.ensures.grows) c.in_ok-obligations.ensures.grows

pub returns-clause-grows : goal.returns-clause-grows
returns-clause-grows c = Grows-trans _ _ _ (Grows-trans _ _ _ c.in_ok-axiom.ensures.grows c.in_ok-axioms.ensures.grows) c.in_ok-obligations.ensures.grows

pub returns-clause-owed : goal.returns-clause-owed
returns-clause-owed c =
    let axioms = c.in_ok-axioms.ensures.made in
    let g = c.in_ok-obligations.ensures.grows in
    let only : Entry = record { name = c.args.name; formals = c.args.list; body = c.args.term } in
    record {
      obligations_in = c.in_ok-obligations.ensures.made.0;
      obligations = c.in_ok-obligations.ensures.made.1;
      axioms_in = IsIn-Grows _ _ g c.in_ok-axioms.axioms axioms.0;
      axioms = object_at-Grows _ _ g c.in_ok-axioms.axioms axioms.0 ∙ (axioms.1 ∙ ap list1 c.in_ok-axiom.ensures.made.1);
      entry = only;
      entries = c.in_ok-entries.ensures.items;
      entry_name = refl;
      entry_formals = refl;
      entry_body = refl;
    }
