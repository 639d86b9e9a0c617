-- The report on a book from its bytes, and the expected report.
use Rattle.std.proofs.Common.{◌≡◌, ℕ, List, map, codes}
use Prim.Native.String.{String}
use Rattle.mw_model.specs.Laws.BuiltInText.{joined}
use Rattle.mw_model.specs.Reports.Report.{Report, report, Status}

-- the report where the step limit does not matter, and within a limit
abbrev pub check : String → Report
check book = report (codes book) 10000000

abbrev pub check_within : ℕ → String → Report
check_within N book = report (codes book) N

abbrev pub check_lines : List String → Report
check_lines book = report (joined book) 10000000

abbrev pub check_lines_within : ℕ → List String → Report
check_lines_within N book = report (joined book) N

-- these lines and this status
abbrev pub says : List String → Status → Report
says text status = record { text = joined text; status = status }

-- what an example shows, the report that is computed, and the expected one
pub record Example : Type 0 where
  pub shows : String
  pub computed : Report
  pub expected : Report

abbrev pub example : String → Report → List String → Status → Example
example shows computed text status = record { shows = shows; computed = computed; expected = says text status }

-- each computed report of a table is the expected one
abbrev pub AreReported : List Example → Type 0
AreReported table = map (λ (e : Example). e.computed) table ≡ map (λ (e : Example). e.expected) table
