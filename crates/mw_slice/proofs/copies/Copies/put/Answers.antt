-- The cell has this copy, and each other cell the one that it had.
use Rattle.std.proofs.Common.{◌<◌, cond, nat_eq, length, set, Some, ap, ◌∙◌, arith}
use Rattle.std.proofs.lemmas.List.{length-map}
use Rattle.mw_slice.specs.Copies.{noted_in, noted, copy_of}
use Rattle.mw_slice.proofs.Noted.{put_noted}
use Rattle.mw_slice.proofs.copies.Copies.put.Goals as goal

pub returns : goal.returns
returns c = λ y.
    let round = c.self.inside.round in
    let notes = c.self.inside.notes.items in
    let within : c.args.x < length notes = omega (arith, c.in_ok-make_room.ensures.room, ap length c.self.view_is, length-map notes (noted_in round)) in
    ap (λ i. copy_of (noted round (set notes i (record { round = round; made = c.args.made }))) y) c.index.ensures
    ∙ (put_noted round notes c.args.x c.args.made within y
    ∙ ap (cond (nat_eq c.args.x y) (Some c.args.made)) (ap (λ v. copy_of v y) c.self.view_is ∙ c.in_ok-make_room.ensures.kept y))
