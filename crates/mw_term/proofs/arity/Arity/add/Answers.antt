use Rattle.std.proofs.Common.{◌≡◌, [], ◌∷◌, ◌++◌, true, sym, ap, ap₂, ◌∙◌, subst}
use Rattle.indexmap.proofs.CallerLemmas.{insert_entry-new}
use Rattle.mw_model.specs.Terms.Object.{is_name, name_of_bytes}
use Rattle.mw_model.specs.Terms.Term.{arity_of}
use Rattle.mw_term.specs.Tables.{AreNamed, table_of, same_key}
use Rattle.mw_term.proofs.Entries.{named-append, entries_before-append, lookup-none}
use Rattle.mw_term.proofs.arity.Arity.add.Goals as goal
use Rattle.mw_term.proofs.arity.Arity.add.Goals.{In_ok-insert}

-- the new entry goes last
appended : (c : In_ok-insert) → c.insert.new.self.entries ≡ c.self.inside.arities.entries ++ (c.in_ok-owned.owned, c.args.count) ∷ []
appended c =
    c.in_ok-insert.ensures.entries
    ∙ insert_entry-new same_key c.self.inside.arities c.in_ok-owned.owned c.args.count
    (lookup-none c.in_ok-owned.owned c.args.name.now c.self.inside.arities.entries c.in_ok-owned.ensures.items c.requires.name c.self.invariant.named c.self.invariant.distinct
    (ap (λ A. arity_of A (name_of_bytes c.args.name.now)) c.self.view_is ∙ c.requires.absent))

pub invariant_of-self-2 : goal.invariant_of-self-2
invariant_of-self-2 c = record {
  named =
      let key : is_name c.in_ok-owned.owned.items ≡ true = subst (λ b. is_name b ≡ true) (sym c.in_ok-owned.ensures.items) c.requires.name in
      subst AreNamed (sym (appended (goal.at.invariant_of-self-2 c).In_ok-insert)) (named-append c.self.inside.arities.entries c.in_ok-owned.owned c.args.count c.self.invariant.named key);
  distinct = c.in_ok-insert.ensures.unique;
}

pub returns-clause-added : goal.returns-clause-added
returns-clause-added c =
    ap table_of (appended (goal.at.returns-clause-added c).In_ok-insert)
    ∙ (entries_before-append c.self.inside.arities.entries c.in_ok-owned.owned c.args.count []
    ∙ ap₂ (λ b A. (name_of_bytes b, c.args.count) ∷ A) c.in_ok-owned.ensures.items c.self.view_is)
