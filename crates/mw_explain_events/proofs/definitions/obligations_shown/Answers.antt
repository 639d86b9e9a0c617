-- The members of their list.
use Rattle.std.proofs.Common.{List, sym, subst}
use Rattle.mw_model.specs.Terms.Object.{Object}
use Rattle.mw_heap.specs.Objects.{object_at}
use Rattle.mw_theory.specs.Admitting.{AreWithin, drafts_given}
use Rattle.mw_explain_events.specs.Defining.{Owe}
use Rattle.mw_explain_events.proofs.Showing.{members-shown-by}
use Rattle.mw_explain_events.proofs.definitions.obligations_shown.Goals as goal

pub obligations-requires-clause-drafts : goal.obligations-requires-clause-drafts
obligations-requires-clause-drafts c = subst (λ (h : List Object). AreWithin h c.args.drafts) (sym c.take_looks.ensures) c.requires.drafts

pub obligations-requires-clause-owe : goal.obligations-requires-clause-owe
obligations-requires-clause-owe c = (c.requires.owe.0, subst (λ (h : List Object). Owe c.args.arity.now (drafts_given h c.args.drafts) c.requires.owe.0) (sym c.take_looks.ensures) c.requires.owe.1)

pub returns-clause-shown : goal.returns-clause-shown
returns-clause-shown c =
    let new = c.obligations.new.heap.objects in
    members-shown-by new (λ v. v.items) c.list_members.result (object_at new c.in_ok-owed.owed) _ c.list_members.ensures.within c.list_members.ensures.members
    (λ Fs o. c.in_ok-owed.ensures.owed Fs (subst (λ (h : List Object). Owe c.args.arity.now (drafts_given h c.args.drafts) Fs) (sym c.take_looks.ensures) o))
