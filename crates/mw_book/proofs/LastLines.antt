-- The last lines, and how many of the data were refused.
use Rattle.std.proofs.Common.{◌≡◌, ℕ, ◌+◌, ◌-◌, ◌||◌, nat_lt, List, ◌++◌, Some, None, codes, refl, ap, ap₂}
use Rattle.mw_model.specs.Terms.Object.{Object}
use Rattle.mw_model.specs.Reports.Request.{Request, Taut, Flat, Recheck}
use Rattle.mw_heap.specs.Contents.{Contents}
use Rattle.mw_flat.specs.Going.{Going}
use Rattle.mw_kernel.specs.Knowledge.{Knowledge}
use Rattle.mw_read.specs.Kinds.{kind_of}
use Rattle.mw_read.specs.declared.step.SyntaxKind.{SyntaxKind}
use Rattle.mw_taut.specs.Counts.{formulas_line}
use Rattle.mw_book.specs.Lines.{answers_line, fault_line, flat_line}
use Rattle.mw_book.specs.Answered.{Answered, IsProving, ProvedFor}
use Rattle.mw_answers.specs.Answering.{fault_of}
use Rattle.mw_answers.specs.LastTexts.{IsLastText, refused_for}
use Rattle.mw_book.specs.Flattened.{Flattened, FlattenedFor}
use Rattle.mw_book.specs.Rechecked.{Rechecked, RecheckedFor}
use Rattle.mw_book.specs.declared.flat.Flattening.{Flattening}
use Rattle.mw_book.specs.declared.taut.Proving.{Proving}
use Rattle.mw_book.specs.declared.recheck.Rechecking.{Rechecking}
use Rattle.mw_book.proofs.AnsweredBy.{last_by, refused_by, some_refused_by}
use Rattle.mw_book.proofs.Counted.{summary_is as formulas_are}
use Rattle.mw_book.proofs.FlattenedOne.{flat_summary_is}
use Rattle.mw_book.proofs.RecheckedOne.{log_summary_is}

-- ---- the answers to formulas

abbrev AreProved : Proving → Contents → Unit {0} → List Object → Type 0
AreProved p k u given = IsProving p k × Answered p given

pub proved_refused : (p : Proving) (k : Contents) (q : Request) (given : List Object) → ProvedFor p k q given → p.unproved ≡ refused_for q given
proved_refused p k q given h = refused_by (λ u. Taut) (AreProved p k) q given h p.unproved (λ u i. i.1.unproved_counted)

pub proved_fault : (p : Proving) (k : Contents) (kind : SyntaxKind) (offset : ℕ) (q : Request) (given : List Object) → ProvedFor p k q given → IsLastText q given (fault_of (Some (kind, offset))) (codes "; " ++ fault_line (kind_of kind) offset)
proved_fault p k kind offset q given h = last_by (λ u. Taut) (AreProved p k) q given h (fault_of (Some (kind, offset))) (codes "; " ++ fault_line (kind_of kind) offset) (λ u i. refl)

pub proved_summary : (p : Proving) (k : Contents) (q : Request) (given : List Object) → ProvedFor p k q given → IsLastText q given None (codes "; " ++ formulas_line p.formulas (p.formulas - p.unproved))
proved_summary p k q given h =
    last_by (λ u. Taut) (AreProved p k) q given h None (codes "; " ++ formulas_line p.formulas (p.formulas - p.unproved)) (λ u i. ap (λ u. codes "; " ++ u) (formulas_are p given i.1))

-- ---- a book turned to a log

pub flattened_refused : (f : Flattening) (k : Knowledge) (q : Request) (given : List Object) → FlattenedFor f k q given → (f.refused || f.switched) ≡ nat_lt 0 (refused_for q given)
flattened_refused f k q given h = some_refused_by Flat (Flattened f k) q given h (f.refused || f.switched) (λ N i. i.some_other)

pub flattened_fault : (f : Flattening) (k : Knowledge) (kind : SyntaxKind) (offset : ℕ) (q : Request) (given : List Object) → FlattenedFor f k q given → IsLastText q given (fault_of (Some (kind, offset))) (codes "; " ++ fault_line (kind_of kind) offset)
flattened_fault f k kind offset q given h = last_by Flat (Flattened f k) q given h (fault_of (Some (kind, offset))) (codes "; " ++ fault_line (kind_of kind) offset) (λ N i. refl)

pub flattened_summary : (f : Flattening) (k : Knowledge) (q : Request) (given : List Object) → FlattenedFor f k q given → IsLastText q given None (codes "; " ++ flat_line f.events f.written)
flattened_summary f k q given h =
    last_by Flat (Flattened f k) q given h None (codes "; " ++ flat_line f.events f.written) (λ N i. ap (λ u. codes "; " ++ u) (flat_summary_is f k N given i))

-- ---- a log

abbrev AreRechecked : Rechecking → Going → Unit {0} → List Object → Type 0
AreRechecked r g u given = Rechecked r g given

pub rechecked_refused : (r : Rechecking) (g : Going) (q : Request) (given : List Object) → RecheckedFor r g q given → r.denied + g.count ≡ refused_for q given
rechecked_refused r g q given h = refused_by (λ u. Recheck) (AreRechecked r g) q given h (r.denied + g.count) (λ u i. ap₂ (λ a b. a + b) i.denied_counted i.collected.count)

pub rechecked_fault : (r : Rechecking) (g : Going) (kind : SyntaxKind) (offset : ℕ) (q : Request) (given : List Object) → RecheckedFor r g q given → IsLastText q given (fault_of (Some (kind, offset))) (fault_line (kind_of kind) offset)
rechecked_fault r g kind offset q given h = last_by (λ u. Recheck) (AreRechecked r g) q given h (fault_of (Some (kind, offset))) (fault_line (kind_of kind) offset) (λ u i. refl)

pub rechecked_summary : (r : Rechecking) (g : Going) (q : Request) (given : List Object) → RecheckedFor r g q given → IsLastText q given None (answers_line r.events r.denied g.count)
rechecked_summary r g q given h = last_by (λ u. Recheck) (AreRechecked r g) q given h None (answers_line r.events r.denied g.count) (λ u i. log_summary_is r g given i)
