-- A name that has no arity is noted.
use Rattle.std.proofs.Common.{◌≡◌, is_some, refl, sym, ap, ◌∙◌, true≢false}
use Rattle.mw_model.specs.Terms.Object.{name_of_bytes}
use Rattle.mw_model.specs.Terms.Term.{arity_of}
use Rattle.mw_model.specs.Values.Primitive.{name_of}
use Rattle.mw_model.proofs.Names.{name_of_bytes-bytes}
use Rattle.mw_heap.specs.Objects.{object_at}
use Rattle.mw_term.proofs.Noted.{added-noted, added-kept}
use Rattle.mw_term.proofs.noting.note_name.Goals as goal

pub returns-then-is_some-clause-named : goal.returns-then-is_some-clause-named
returns-then-is_some-clause-named c = λ f is word absent.
    let o = object_at c.args.heap.now.objects c.args.head in
    let named : name_of_bytes c.name_of.result.now ≡ name_of o = ap name_of_bytes (sym c.name_of.ensures) ∙ name_of_bytes-bytes (name_of o) in
    absurd (true≢false (sym c.if-is_some.true ∙ (c.is_some.ensures ∙ ap is_some (c.lookup.ensures ∙ (ap (arity_of c.args.arity.now) (named ∙ ap name_of is) ∙ absent)))))

pub returns-clause-named : goal.returns-clause-named
returns-clause-named c = λ f is word absent. (refl, added-noted c.args.notes.now.by_part.entries c.add.new.self.by_part.entries c.args.head c.args.cell c.in_ok-add.ensures)

pub returns-clause-kept : goal.returns-clause-kept
returns-clause-kept c = added-kept c.args.notes.now.by_part.entries c.add.new.self.by_part.entries c.args.head c.args.cell c.in_ok-add.ensures
