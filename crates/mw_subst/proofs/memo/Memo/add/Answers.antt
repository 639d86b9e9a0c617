-- A new part goes last, so no part is there twice.
use Rattle.std.proofs.Common.{◌≡◌, None, refl, sym, ap, ◌∙◌}
use Rattle.mw_subst.specs.Memo.{found}
use Rattle.mw_subst.specs.declared.part.Part.TheVariants.{Term, Terms}
use Rattle.mw_subst.proofs.Found.{unique-added}
use Rattle.mw_subst.proofs.memo.Memo.add.Goals as goal

pub returns-in_ok-add-in-Term-clause-unique : goal.returns-in_ok-add-in-Term-clause-unique
returns-in_ok-add-in-Term-clause-unique c =
    let terms = c.args.self.now.terms in
    let lists = c.args.self.now.lists in
    let none : found terms lists (Term c.in-Term.x) ≡ None = ap (found terms lists) (sym c.in-Term.is) ∙ c.requires.new in
    unique-added terms lists c.add.new.self lists (Term c.in-Term.x) c.args.made c.requires.unique none (c.in_ok-add-in-Term.ensures.added, refl)

pub returns-in_ok-add-in-Terms-clause-unique : goal.returns-in_ok-add-in-Terms-clause-unique
returns-in_ok-add-in-Terms-clause-unique c =
    let terms = c.args.self.now.terms in
    let lists = c.args.self.now.lists in
    let none : found terms lists (Terms c.in-Terms.x) ≡ None = ap (found terms lists) (sym c.in-Terms.is) ∙ c.requires.new in
    unique-added terms lists terms c.add-in-Terms.new.self (Terms c.in-Terms.x) c.args.made c.requires.unique none (refl, c.in_ok-add-in-Terms.ensures.added)
