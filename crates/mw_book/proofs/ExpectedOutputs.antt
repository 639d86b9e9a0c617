-- Where no count of faults rose, the clauses of a run leave the expected output, or out of memory.
use Rattle.std.proofs.Common.{◌≡◌, ◌⊎◌, ℕ, List, ◌++◌, Option, Some, inl, inr, refl, sym, subst}
use Rattle.mw_model.specs.Reports.Request.{Request}
use Rattle.mw_model.specs.Reports.Report.{Status}
use Rattle.mw_commands.specs.Headlines.{Promised}
use Rattle.mw_request.specs.Commands.{help_text}
use Rattle.mw_port.specs.Ports.{Rises}
use Rattle.mw_answers.specs.Statuses.{Keeps}
use Rattle.mw_book.specs.Runs.{Fulfils}
use Rattle.mw_book.specs.Complete.{IsExpected}
use Rattle.mw_answers.specs.declared.status.Status.{Status as Ending}
use Rattle.mw_answers.specs.declared.status.Status.TheVariants as ending

module _ (q : Request) where
  -- what is kept where the source and the sink tell their bytes
  kept_told : (book before after : List ℕ) (s : Status) → Keeps q (Some book) (Some before) (Some after) s → (text : List ℕ) × (after ≡ before ++ text) × Promised q book text s
  kept_told book before after s k = (k.2, k.3, subst (λ bytes. Promised q bytes k.2 s) (sym k.1) k.4)

  pub all_expected : (e : Ending) (book before after : List ℕ) (left : Option (List ℕ)) (a b m n k l : ℕ) → Fulfils q e (Some book) left (Some before) (Some after) a b m n k l → (Rises a b → ⊥) → (Rises m n → ⊥) → (e ≡ ending.Memory) ⊎ ((text : List ℕ) × (after ≡ before ++ text) × IsExpected e q book text)
  all_expected ending.Done book before after left a b m n k l f reads writes = inr (kept_told book before after _ f.report)
  all_expected ending.SomeRefused book before after left a b m n k l f reads writes = inr (kept_told book before after _ f.report)
  all_expected (ending.Syntax x o) book before after left a b m n k l f reads writes = inr (kept_told book before after _ f.report)
  all_expected ending.Help book before after left a b m n k l f reads writes = let h = f.help refl in inr (help_text, h.1, (h.0, refl))
  all_expected ending.Usage book before after left a b m n k l f reads writes = let h = f.usage refl in inr (help_text, h.1, (h.0, refl))
  all_expected ending.ReadFault book before after left a b m n k l f reads writes = absurd (reads (f.read_fault refl).0)
  all_expected ending.WriteFault book before after left a b m n k l f reads writes = absurd (writes (f.write_fault refl).0)
  all_expected ending.Memory book before after left a b m n k l f reads writes = inl refl
