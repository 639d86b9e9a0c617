-- A note of this round is the copy.
use Rattle.std.proofs.Common.{ap, ap₂, ◌∙◌}
use Rattle.mw_slice.specs.Copies.{noted, copy_of}
use Rattle.mw_slice.proofs.Noted.{noted_here}
use Rattle.mw_slice.proofs.copies.Copies.get.Goals as goal

pub returns-then-note-self : goal.returns-then-note-self
returns-then-note-self c =
    let round = c.self.inside.round in
    let found = c.in_ok-note.ensures.lookup in
    noted_here round c.deref.result.now c.index.result c.in_ok-note.note.now found.3.0 found.1 c.if-note-self.true
    ∙ (ap₂ (λ notes x. copy_of (noted round notes) x) c.deref.ensures.value c.index.ensures ∙ ap (λ v. copy_of v c.args.x) c.self.view_is)
