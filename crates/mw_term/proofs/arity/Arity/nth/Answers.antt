-- The entry at the place.
use Rattle.std.proofs.Common.{◌≡◌, ◌<◌, ◌+◌, ◌-◌, true, [], ◌∷◌, length, drop, Some, sym, ap, ap₂, ◌∙◌, subst, arith}
use Rattle.std.specs.List.{slice_get}
use Rattle.mw_model.specs.Terms.Object.{is_name, name_of_bytes}
use Rattle.mw_term.specs.Tables.{table_of}
use Rattle.mw_term.proofs.Entries.{length-entries_before, entries_before-at, named-at}
use Rattle.mw_term.proofs.arity.Arity.nth.Goals as goal

pub unreachable-requires : goal.unreachable-requires
unreachable-requires c =
    let es = c.self.inside.arities.entries in
    let within : c.args.index < length es = omega (arith, length-entries_before es [], ap length c.self.view_is, c.requires) in
    cc (c.in_default.ensures.found.1 within)

pub returns-clause-name : goal.returns-clause-name
returns-clause-name c =
    let es = c.self.inside.arities.entries in
    let at : slice_get es c.args.index ≡ Some (c.in-Some.name.now, c.in-Some.count.now) = sym c.in-Some.ensures.entry in
    subst (λ b. is_name b ≡ true) (sym c.as_slice.ensures.value) (named-at es c.args.index (c.in-Some.name.now, c.in-Some.count.now) c.self.invariant.named at)

pub returns-clause-pair : goal.returns-clause-pair
returns-clause-pair c =
    let es = c.self.inside.arities.entries in
    let at : slice_get es c.args.index ≡ Some (c.in-Some.name.now, c.in-Some.count.now) = sym c.in-Some.ensures.entry in
    let l : length es ≡ length c.args.self.now = omega (arith, length-entries_before es [], ap length c.self.view_is) in
    ap₂ (λ n A. drop (n - (c.args.index + 1)) A) (sym l) (sym c.self.view_is)
    ∙ (entries_before-at es c.args.index (c.in-Some.name.now, c.in-Some.count.now) at
    ∙ (ap (λ b. (name_of_bytes b, c.in-Some.count.now) ∷ drop (length es - c.args.index) (table_of es)) (sym c.as_slice.ensures.value)
    ∙ ap₂ (λ n A. (name_of_bytes c.as_slice.result.now, c.in-Some.count.now) ∷ drop (n - c.args.index) A) l c.self.view_is))
