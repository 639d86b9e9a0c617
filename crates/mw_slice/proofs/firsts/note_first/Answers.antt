-- A formula that has a place keeps it, and another gets this one.
use Rattle.std.proofs.Common.{◌≡◌, None, not, cond, Some, nat_eq, sym, ap, ◌∙◌}
use Rattle.std.specs.Map.{lookup}
use Rattle.indexmap.proofs.CallerLemmas.{insert_entry-new}
use Rattle.mw_heap.specs.Objects.{object_at}
use Rattle.mw_slice.specs.Firsts.{proves, first_or}
use Rattle.mw_slice.proofs.References.{first_by-reference}
use Rattle.mw_slice.proofs.FirstPlaces.{noted_new, noted_before, firsts-push, none_of, some_of}
use Rattle.mw_slice.proofs.Growing.{firsts_grow, first_by-grows}
use Rattle.mw_slice.proofs.firsts.note_first.Goals as goal

pub place_of-requires-clause-firsts : goal.place_of-requires-clause-firsts
place_of-requires-clause-firsts c = firsts_grow c.args.to.now.objects c.copy_part.new.to.objects c.copy_part.ensures.grows c.args.firsts.now.entries c.requires.firsts

pub returns-in_ok-insert-clause-firsts : goal.returns-in_ok-insert-clause-firsts
returns-in_ok-insert-clause-firsts c =
    let new = c.copy_part.new.to.objects in
    let entries = c.args.firsts.now.entries in
    let f = c.in_ok-formula.formula in
    let made = c.in_ok-formula.ensures.made in
    let all = firsts_grow c.args.to.now.objects new c.copy_part.ensures.grows entries c.requires.firsts in
    let none : lookup (nat_eq f) entries ≡ None = first_by-reference new c.order.ensures.distinct f entries made.0 all ∙ (sym c.place_of.ensures ∙ none_of c.place_of.result (c.is_none.ensures ∙ ap not c.if-is_none.true)) in
    firsts-push new entries c.insert.new.self.entries f c.args.place (c.in_ok-insert.ensures.entries ∙ insert_entry-new nat_eq c.args.firsts.now f c.args.place none) all made.0

pub returns-in_ok-insert-clause-noted : goal.returns-in_ok-insert-clause-noted
returns-in_ok-insert-clause-noted c = λ x.
    let os = c.args.to.now.objects in
    let new = c.copy_part.new.to.objects in
    let entries = c.args.firsts.now.entries in
    let e = object_at c.args.from.now.objects c.args.event in
    let f = c.in_ok-formula.formula in
    let made = c.in_ok-formula.ensures.made in
    let all = firsts_grow os new c.copy_part.ensures.grows entries c.requires.firsts in
    let none : lookup (nat_eq f) entries ≡ None = first_by-reference new c.order.ensures.distinct f entries made.0 all ∙ (sym c.place_of.ensures ∙ none_of c.place_of.result (c.is_none.ensures ∙ ap not c.if-is_none.true)) in
    noted_new new entries e c.args.place f c.insert.new.self.entries (sym c.is_headed.ensures ∙ c.if-not-is_headed.false) (made.1 ∙ c.third_of.ensures.value) (c.in_ok-insert.ensures.entries ∙ insert_entry-new nat_eq c.args.firsts.now f c.args.place none) x
    ∙ ap (λ o. first_or o (cond (proves x e) (Some c.args.place) None)) (first_by-grows os new c.copy_part.ensures.grows entries c.requires.firsts x)

pub returns-else-is_none-clause-firsts : goal.returns-else-is_none-clause-firsts
returns-else-is_none-clause-firsts c = firsts_grow c.args.to.now.objects c.copy_part.new.to.objects c.copy_part.ensures.grows c.args.firsts.now.entries c.requires.firsts

pub returns-else-is_none-clause-noted : goal.returns-else-is_none-clause-noted
returns-else-is_none-clause-noted c = λ x.
    let os = c.args.to.now.objects in
    let new = c.copy_part.new.to.objects in
    let entries = c.args.firsts.now.entries in
    let e = object_at c.args.from.now.objects c.args.event in
    let made = c.in_ok-formula.ensures.made in
    let some = some_of c.place_of.result (c.is_none.ensures ∙ ap not c.if-is_none.false) in
    noted_before new entries e c.args.place (object_at new c.in_ok-formula.formula) some.0 (sym c.is_headed.ensures ∙ c.if-not-is_headed.false) (made.1 ∙ c.third_of.ensures.value) (sym c.place_of.ensures ∙ some.1) x
    ∙ ap (λ o. first_or o (cond (proves x e) (Some c.args.place) None)) (first_by-grows os new c.copy_part.ensures.grows entries c.requires.firsts x)
