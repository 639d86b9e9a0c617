-- Made before, or now.
use Rattle.std.proofs.Common.{sym, ap, ◌∙◌}
use Rattle.mw_heap.proofs.Objects.{object_at-Grows, IsIn-Grows}
use Rattle.mw_define.specs.Knowing.{denial_object}
use Rattle.mw_define.proofs.Knowing.{denials-Grows, denials-noted}
use Rattle.mw_define.proofs.testing.denial.Goals as goal

pub returns-in-Some-clause-made : goal.returns-in-Some-clause-made
returns-in-Some-clause-made c =
    let q = c.requires.denials c.args.test c.in-Some.made (sym c.find_denial.ensures ∙ c.in-Some.is) in
    (q.1, q.2 ∙ ap denial_object c.requires.whole)

pub returns-clause-denials : goal.returns-clause-denials
returns-clause-denials c =
    let os = c.args.heap.now.objects in
    let new = c.failing.new.heap.objects in
    let g = c.failing.ensures.grows in
    let made = c.in_ok-fails.ensures.made in
    denials-noted new c.args.known.now c.note_denial.new.self c.args.test c.in_ok-fails.fails (denials-Grows os new c.args.known.now g c.requires.denials) (IsIn-Grows os new g c.args.test c.requires.test_in) made.0
    (made.1 ∙ ap denial_object (sym (object_at-Grows os new g c.args.test c.requires.test_in ∙ c.requires.whole))) c.in_ok-note_denial.ensures.noted
