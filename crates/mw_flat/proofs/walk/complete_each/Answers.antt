-- One proof more.
use Rattle.std.proofs.Common.{◌≡◌, ◌<◌, [], ◌++◌, length, take, get_or, sym, ap, ◌∙◌, arith}
use Rattle.std.proofs.lemmas.List.{take_more, take_all, get_or_read}
use Rattle.mw_commands.specs.Commands.Subproofs.{each_within, proofs_within}
use Rattle.mw_heap.specs.Objects.{object_at}
use Rattle.mw_heap.specs.Lists.{list_object}
use Rattle.mw_term.specs.Occurrences.{gather}
use Rattle.mw_term.proofs.Gathered.{gather-append, gather-all}
use Rattle.mw_flat.specs.Walk.{is_listed}
use Rattle.mw_flat.proofs.Listed.{listing}
use Rattle.mw_flat.proofs.Completing.{each_within-push}
use Rattle.mw_flat.proofs.walk.complete_each.Goals as goal

pub loop-p-preserved : goal.loop-p-preserved
loop-p-preserved c =
    let os = c.args.heap.now.objects in
    let ps = c.args.proofs.now in
    let i = c.loop-p.p-index in
    let before = each_within (list_object os (take i ps)) in
    let l : i < length ps = omega arith in
    let p_is : get_or ps i 0 ≡ c.p-item.result = sym (get_or_read ps i c.p-item.result l c.p-item.is 0) in
    let more = ap (λ xs. each_within (list_object os xs)) (take_more ps i 0 l) ∙ (each_within-push os (take i ps) (get_or ps i 0) ∙ ap (λ r. before ++ proofs_within (object_at os r)) p_is) in
    record {
      complete = c.in_ok-complete_proof.ensures.complete;
      gathers =
          c.in_ok-complete_proof.ensures.added
          ∙ (ap (λ xs. gather is_listed xs (proofs_within (object_at os c.p-item.result))) c.loop-p.invariant.gathers
          ∙ (sym (gather-append listing [] before (proofs_within (object_at os c.p-item.result))) ∙ ap (gather is_listed []) (sym more)));
    }

pub returns-clause-distinct : goal.returns-clause-distinct
returns-clause-distinct c =
    let os = c.args.heap.now.objects in
    let ps = c.args.proofs.now in
    let i = c.loop-p.p-index in
    c.loop-p.invariant.gathers
    ∙ (ap (λ xs. gather is_listed [] (each_within (list_object os xs))) (take_all i ps (omega (arith, c.loop-p-test.false, c.loop-p.auto.p-index-end)))
    ∙ gather-all listing (each_within (list_object os ps)))
