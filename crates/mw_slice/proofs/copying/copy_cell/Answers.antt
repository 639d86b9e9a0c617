-- A cell by what it is.
use Rattle.std.proofs.Common.{is_some, sym, ap, ◌∙◌}
use Rattle.std.proofs.lemmas.Result.{on_ok_weaker}
use Rattle.mw_slice.specs.declared.copying.Job.TheVariants.{Copy}
use Rattle.mw_slice.proofs.CopiedParts.{done_alone, is_copied}
use Rattle.mw_slice.proofs.copying.copy_cell.Goals as goal

pub returns-then-is_some-clause-done : goal.returns-then-is_some-clause-done
returns-then-is_some-clause-done c =
    let copies = c.args.copies.now in
    done_alone c.args.from.now.objects copies copies c.args.jobs.now.items (Copy c.args.x) (λ y k. k) (is_copied copies c.args.x (ap is_some (sym c.get.ensures) ∙ (sym c.is_some.ensures ∙ c.if-is_some.true)))

pub returns-in-Nat-clause-done : goal.returns-in-Nat-clause-done
returns-in-Nat-clause-done c =
    on_ok_weaker c.copy_natural.result (λ k. done_alone c.args.from.now.objects c.args.copies.now c.copy_natural.new.copies c.args.jobs.now.items (Copy c.args.x) k.kept k.copied) c.copy_natural.ensures.copied

pub returns-in-Symbol-clause-done : goal.returns-in-Symbol-clause-done
returns-in-Symbol-clause-done c =
    on_ok_weaker c.copy_symbol.result (λ k. done_alone c.args.from.now.objects c.args.copies.now c.copy_symbol.new.copies c.args.jobs.now.items (Copy c.args.x) k.kept k.copied) c.copy_symbol.ensures.copied
