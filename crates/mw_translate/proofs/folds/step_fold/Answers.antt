-- From the first member and the others.
use Rattle.std.proofs.Common.{sym, ap, ◌∙◌}
use Rattle.mw_heap.specs.Objects.{object_at}
use Rattle.mw_translate.specs.Contexts.{arities, entries}
use Rattle.mw_translate.specs.Folds.{fold_kind}
use Rattle.mw_translate.specs.Meaning.{meaning}
use Rattle.mw_translate.specs.Parts.{part_at}
use Rattle.mw_translate.proofs.Combine.{made_found, both-made, both-wanted, forward-step, result_made}
use Rattle.mw_translate.proofs.Folded.{join_both, fold-more, fold-one}
use Rattle.mw_translate.proofs.folds.step_fold.Goals as goal

pub join-requires-clause-first_in : goal.join-requires-clause-first_in
join-requires-clause-first_in c = (made_found (arities c.args.context.now) c.args.heap.now.objects (entries c.args.context.now) c.new-term.result c.in-Ok.a c.requires.made c.in-Ok.ensures.both.0).object_in

pub join-requires-clause-second_in : goal.join-requires-clause-second_in
join-requires-clause-second_in c = (made_found (arities c.args.context.now) c.args.heap.now.objects (entries c.args.context.now) c.new-others.result c.in-Ok.b c.requires.made c.in-Ok.ensures.both.1).object_in

pub returns-in-Ok-clause-step : goal.returns-in-Ok-clause-step
returns-in-Ok-clause-step c =
    let os = c.args.heap.now.objects in
    let A = arities c.args.context.now in
    let es = entries c.args.context.now in
    let k = fold_kind c.args.fold in
    let goal = meaning A k (object_at os c.args.x) in
    let e = ap (meaning A k) c.in-Pair.ensures.shows.2 ∙ fold-more A c.args.fold (object_at os c.in-Pair.first) (object_at os c.in-Pair.rest) (sym c.stands_alone.ensures ∙ c.if-stands_alone.false) in
    let others = c.new-others.ensures ∙ ap (λ j. part_at j c.in-Pair.rest) c.kind.ensures in
    result_made A os c.join.new.heap.objects es goal _ c.args.x c.join.result
    (both-made A os es goal c.args.x c.requires.made (join_both A c.args.fold) c.new-term.ensures others e c.in-Ok.ensures.both.0 c.in-Ok.ensures.both.1)
    c.join.ensures.made

pub returns-in-Err-clause-step : goal.returns-in-Err-clause-step
returns-in-Err-clause-step c =
    let os = c.args.heap.now.objects in
    let A = arities c.args.context.now in
    let k = fold_kind c.args.fold in
    let e = ap (meaning A k) c.in-Pair.ensures.shows.2 ∙ fold-more A c.args.fold (object_at os c.in-Pair.first) (object_at os c.in-Pair.rest) (sym c.stands_alone.ensures ∙ c.if-stands_alone.false) in
    let others = c.new-others.ensures ∙ ap (λ j. part_at j c.in-Pair.rest) c.kind.ensures in
    both-wanted A os (entries c.args.context.now) (meaning A k (object_at os c.args.x)) c.args.x (join_both A c.args.fold) c.new-term.ensures others e
    c.in-Pair.ensures.below.0 c.in-Pair.ensures.below.1 c.in-Err.ensures.wanted

pub returns-then-stands_alone-clause-step : goal.returns-then-stands_alone-clause-step
returns-then-stands_alone-clause-step c =
    let os = c.args.heap.now.objects in
    let A = arities c.args.context.now in
    let k = fold_kind c.args.fold in
    let e = ap (meaning A k) c.in-Pair.ensures.shows.2 ∙ fold-one A c.args.fold (object_at os c.in-Pair.first) (object_at os c.in-Pair.rest) (sym c.stands_alone.ensures ∙ c.if-stands_alone.true) in
    forward-step A os (entries c.args.context.now) (meaning A k (object_at os c.args.x)) c.args.x c.new-term.ensures c.forward.result c.requires.made e c.in-Pair.ensures.below.0 c.forward.ensures
