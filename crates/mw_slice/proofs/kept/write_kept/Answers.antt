-- One event more.
use Rattle.std.proofs.Common.{◌≡◌, ◌+◌, ◌++◌, ◌∷◌, [], map, take, get_or, add-one, refl, sym, ap, ◌∙◌, subst, append_assoc}
use Rattle.std.proofs.Math.Seq.{take-suc}
use Rattle.std.proofs.lemmas.List.{map-append}
use Rattle.mw_model.specs.Texts.Written.{IsWritten, IsDatumLine}
use Rattle.mw_model.specs.Texts.Pieces.{InOrder}
use Rattle.mw_commands.specs.Commands.Slice.{event_at}
use Rattle.mw_heap.specs.Objects.{object_at}
use Rattle.mw_slice.specs.Slices.{events_of}
use Rattle.mw_slice.proofs.KeptLines.{line_more}
use Rattle.mw_slice.proofs.kept.write_kept.Goals as goal

pub loop-place-preserved : goal.loop-place-preserved
loop-place-preserved c =
    let es = events_of c.args.slicer.now in
    let ps = c.args.places.now in
    let i = c.loop-place.place-index in
    let x = event_at es (get_or ps i 0) in
    let b = c.loop-place.invariant in
    let l = c.in_ok-write_line.ensures in
    let line = l.0 ++ 10 ∷ [] in
    let same : object_at c.heap.result.now.objects c.event.result ≡ x = ap (λ os. object_at os c.event.result) c.heap.ensures ∙ c.event.ensures.event in
    let written : IsDatumLine x line = (l.0, l.1, subst (λ y. IsWritten y 1 l.0 l.1) same l.2, refl) in
    let all : map (event_at es) (take (i + 1) ps) ≡ map (event_at es) (take i ps) ++ x ∷ [] =
    ap (λ n. map (event_at es) (take n ps)) (add-one i) ∙ ap (map (event_at es)) (take-suc ps i 0 c.loop-place-test.true) ∙ map-append (event_at es) (take i ps) (get_or ps i 0 ∷ []) in (
      b.0 ++ line,
      subst (λ xs. InOrder IsDatumLine xs (b.0 ++ line)) (sym all) (line_more (map (event_at es) (take i ps)) x b.0 line b.1 written),
      l.3 ∙ ap (λ u. u ++ line) b.2 ∙ append_assoc c.args.lines.now.items b.0 line,
    )
