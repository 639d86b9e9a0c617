-- The jump after the part comes first.
use Rattle.std.proofs.Common.{false, sym, subst}
use Rattle.mw_code.specs.Pieces.{IsPieceAnywhere, jump}
use Rattle.mw_code.specs.declared.job.Job.TheVariants.{Part as ThePart}
use Rattle.mw_code.proofs.PartForms.{enter-piece}
use Rattle.mw_code.proofs.compile.enter_part.Goals as goal

pub returns : goal.returns
returns c waiting =
    subst (λ j. IsPieceAnywhere c.args.place (record { ends = false; instruction = j; before = c.entered.result }) waiting waiting (ThePart c.args.task.now c.args.count c.args.after)) (sym c.jump_to.ensures)
    (subst (λ e. IsPieceAnywhere c.args.place (record { ends = false; instruction = jump c.args.task.now.is_last c.args.after; before = e }) waiting waiting (ThePart c.args.task.now c.args.count c.args.after)) (sym c.entered.ensures) (enter-piece c.args.place waiting c.args.task.now c.args.count c.args.after))
