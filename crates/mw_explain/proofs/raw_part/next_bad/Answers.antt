-- The first bad part leads on.
use Rattle.std.proofs.Common.{◌++◌, length, sym, subst, arith}
use Rattle.std.proofs.lemmas.Result.{IfOk-weaker}
use Rattle.mw_explain.specs.RawParts.{AreBefore, IsFirstBad}
use Rattle.mw_explain.proofs.LookingOn.{before-later, leads}
use Rattle.mw_explain.proofs.raw_part.next_bad.Goals as goal

pub first_bad-requires : goal.first_bad-requires
first_bad-requires c =
    let os = c.args.heap.now.objects in
    subst (AreBefore (length os)) (sym c.as_slice.ensures.value) (before-later c.args.x (length os) c.in_ok-parts.parts.items (omega (arith, c.requires)) c.in_ok-parts.ensures.before)

pub returns-clause-leads : goal.returns-clause-leads
returns-clause-leads c =
    let os = c.args.heap.now.objects in
    let A = c.args.newer.now ++ c.args.older.now in
    IfOk-weaker c.first_bad.result _ _
    (λ o h. leads A os c.args.x c.in_ok-parts.parts.items o c.in_ok-parts.ensures.parts c.in_ok-parts.ensures.before (subst (λ ps. IsFirstBad A os ps o) c.as_slice.ensures.value h))
    c.first_bad.ensures.bad
