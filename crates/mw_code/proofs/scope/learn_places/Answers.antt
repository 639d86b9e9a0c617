-- One formal more is learned.
use Rattle.mw_code.proofs.PlaceLemmas.{first-place, others-left, places-more}
use Rattle.mw_code.proofs.scope.learn_places.Goals as goal

pub loop-first-preserved : goal.loop-first-preserved
loop-first-preserved c =
    let os = c.args.heap.now.objects in
    let i = c.loop-first.invariant in
    let pair = c.in-Pair.ensures.shows in
    record {
      within = pair.1;
      places = places-more os c.loop-first.places.entries c.insert.new.self.entries c.args.formals c.in-Pair.first c.loop-first.place c.in_ok-insert.ensures.updates.0 (first-place os c.args.formals c.loop-first.rest c.in-Pair.first c.in-Pair.others c.loop-first.place i.names pair.2) i.places;
      names = others-left os c.args.formals c.loop-first.rest c.in-Pair.first c.in-Pair.others c.loop-first.place i.names pair.2 c.in-Some.next c.in-Some.ensures.1;
    }
