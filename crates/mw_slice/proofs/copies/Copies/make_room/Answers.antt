-- Blank notes say nothing.
use Rattle.std.proofs.Common.{rules, ◌≤◌, ◌+◌, ◌-◌, ◌++◌, length, replicate, vec_len, ap, ◌∙◌}
use Rattle.std.proofs.lemmas.List.{take_all}
use Rattle.mw_slice.specs.Copies.{noted, copy_of}
use Rattle.mw_slice.proofs.Noted.{blank_noted}
use Rattle.mw_slice.proofs.copies.Copies.make_room.Goals as goal

pub returns-in_ok-resize-clause-kept : goal.returns-in_ok-resize-clause-kept
returns-in_ok-resize-clause-kept c = λ y.
    let round = c.self.inside.round in
    let notes = c.self.inside.notes.items in
    let end = c.index-then-len-index.result + 1 in
    let long : length notes ≤ end = search rules in
    ap (λ l. copy_of (noted round l) y) c.in_ok-resize.ensures.items
    ∙ (ap (λ l. copy_of (noted round (l ++ replicate (end - vec_len c.self.inside.notes) (record { round = 0; made = c.args.x }))) y) (take_all end notes long)
    ∙ (blank_noted round notes (end - vec_len c.self.inside.notes) c.args.x c.self.invariant.some y ∙ ap (λ v. copy_of v y) c.self.view_is))
