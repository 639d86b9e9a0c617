-- The events that are kept, or that there is no such theorem.
use Rattle.std.proofs.Common.{◌≡◌, ◌∙◌, ◌<◌, ℕ, List, ◌++◌, map, cond, nat_lt, codes, sym, ap, subst, is_some}
use Rattle.std.specs.Prelude.{All, length}
use Rattle.mw_model.specs.Terms.Object.{name_of_bytes}
use Rattle.mw_model.specs.Texts.Printing.{numeral}
use Rattle.mw_model.specs.Reports.Report.{spaced}
use Rattle.mw_model.specs.Texts.Written.{IsDatumLine}
use Rattle.mw_model.specs.Texts.Pieces.{InOrder, comment}
use Rattle.mw_commands.specs.Commands.Slice.{event_at, target}
use Rattle.mw_slice.specs.Slices.{events_of}
use Rattle.mw_book.proofs.SlicedPlaces.{places_within, sliced_absent, sliced_found, sliced_refused}
use Rattle.mw_book.proofs.slice.SlicingCommandKernel.end.Goals as goal

pub write_slice-requires : goal.write_slice-requires
write_slice-requires c =
    let es = events_of c.args.self.now.slicer in
    let p = c.in-Events.ensures in
    subst (All (λ j. j < length es)) (sym c.as_slice.ensures) (places_within es (name_of_bytes c.as_bytes.result.now) p.0 c.in-Events.places p.1 p.2)

pub returns-in_ok-write_slice-in-Events-clause-refused : goal.returns-in_ok-write_slice-in-Events-clause-refused
returns-in_ok-write_slice-in-Events-clause-refused c q given h =
    let s = c.args.self.now in
    let p = c.in-Events.ensures in
    let t = ap (λ b. target (events_of s.slicer) (name_of_bytes b)) (sym c.as_bytes.ensures.bytes) ∙ p.1 in
    ap (nat_lt 0) (sliced_refused s c.args._kernel.now q given h 0 (sym (ap (λ goal. cond (is_some goal) 0 1) t)))

pub returns-in_ok-write_slice-in-Events-clause-last : goal.returns-in_ok-write_slice-in-Events-clause-last
returns-in_ok-write_slice-in-Events-clause-last c q given h =
    let s = c.args.self.now in
    let es = events_of s.slicer in
    let before = c.args.lines.now.items in
    let ending : List ℕ → List ℕ = λ places. comment (spaced (codes "kept") (spaced (numeral (length places)) (spaced (codes "of") (numeral s.events)))) in
    let p = c.in-Events.ensures in
    let t = ap (λ b. target es (name_of_bytes b)) (sym c.as_bytes.ensures.bytes) ∙ p.1 in
    let w = subst (λ places. (body : List ℕ) × InOrder IsDatumLine (map (event_at es) places) body × (c.write_slice.new.lines.items ≡ before ++ (body ++ ending places))) c.as_slice.ensures c.in_ok-write_slice-in-Events.ensures in
    (w.0 ++ ending c.in-Events.places, sliced_found s c.args._kernel.now q given h p.0 c.in-Events.places w.0 t p.2 w.1, w.2)

pub returns-in_ok-write_absent-in-Absent-clause-refused : goal.returns-in_ok-write_absent-in-Absent-clause-refused
returns-in_ok-write_absent-in-Absent-clause-refused c q given h =
    let s = c.args.self.now in
    let t = ap (λ b. target (events_of s.slicer) (name_of_bytes b)) (sym c.as_bytes.ensures.bytes) ∙ c.in-Absent.ensures in
    ap (nat_lt 0) (sliced_refused s c.args._kernel.now q given h 1 (sym (ap (λ goal. cond (is_some goal) 0 1) t)))

pub returns-in_ok-write_absent-in-Absent-clause-last : goal.returns-in_ok-write_absent-in-Absent-clause-last
returns-in_ok-write_absent-in-Absent-clause-last c q given h =
    let s = c.args.self.now in
    let t = ap (λ b. target (events_of s.slicer) (name_of_bytes b)) (sym c.as_bytes.ensures.bytes) ∙ c.in-Absent.ensures in
    (comment (spaced (codes "none of") (numeral s.events)), sliced_absent s c.args._kernel.now q given h t, c.in_ok-write_absent-in-Absent.ensures)
