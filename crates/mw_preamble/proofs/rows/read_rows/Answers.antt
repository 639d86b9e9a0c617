-- The datum of the text is the list of the rows.
use Rattle.std.proofs.Common.{◌≡◌, ◌≤◌, List, ℕ, [], length, inl, sym, subst, ◌∙◌}
use Rattle.mw_model.specs.Texts.Grammar.{limit}
use Rattle.mw_model.specs.Texts.Printing.{text_of}
use Rattle.mw_heap.specs.Variants.{profile_of}
use Rattle.mw_heap.specs.Objects.{object_at, IsIn}
use Rattle.mw_preamble.specs.Rows.{built_in_rows}
use Rattle.mw_preamble.proofs.RowsText.{rows_short}
use Rattle.mw_preamble.proofs.ReadAlone.{gives_object}
use Rattle.mw_preamble.proofs.rows.read_rows.Goals as goal

pub step-step-requires-clause-stands : goal.step-step-requires-clause-stands
step-step-requires-clause-stands c = inl ([], [], c.new-reader.ensures.stands c.args.heap.now.objects)

given : (c : goal.After-drop-text) → IsIn c.step-step.new.heap.objects c.in-Datum.rows × (object_at c.step-step.new.heap.objects c.in-Datum.rows ≡ built_in_rows (profile_of c.args.profile))
given c =
    let says = c.step-step.ensures.says [] [] (c.new-reader.ensures.stands c.args.heap.now.objects) in
    let text : c.as_slice.result.now ≡ text_of (built_in_rows (profile_of c.args.profile)) = c.as_slice.ensures.value ∙ c.in_ok-text.ensures in
    let short = subst (λ (t : List ℕ). length t ≤ limit) (sym text) (rows_short c.args.profile) in
    gives_object _ _ _ c.as_slice.result.now (built_in_rows (profile_of c.args.profile)) _ _ _ text short c.in-Datum.is says

pub returns-in-Datum-clause-within : goal.returns-in-Datum-clause-within
returns-in-Datum-clause-within c = (given c).0

pub returns-in-Datum-clause-rows : goal.returns-in-Datum-clause-rows
returns-in-Datum-clause-rows c = (given c).1
