-- The members between the word and the end of the line.
use Rattle.std.proofs.Common.{[], ◌∷◌, ◌++◌, sym, ap, ◌∙◌, append_assoc}
use Rattle.std.specs.Prelude.{codes}
use Rattle.mw_flat.proofs.step.write_step.Goals as goal

pub returns : goal.returns
returns c =
    let word = codes "(STEP" in
    let end = codes ")\n" in
    let w = c.in_ok-write_members.ensures in (
      w.0,
      w.2,
      c.in_ok-extend_from_slice-2.ensures.items
          ∙ (ap (λ l. l ++ end) (w.1 ∙ ap (λ l. l ++ w.0) (c.in_ok-extend_from_slice.ensures.items ∙ ap (λ l. l ++ word) c.clear.ensures.items)) ∙ (append_assoc word w.0 end ∙ ap (λ l. word ++ l) (sym (append_assoc w.0 (codes ")") (10 ∷ []))))),
    )
