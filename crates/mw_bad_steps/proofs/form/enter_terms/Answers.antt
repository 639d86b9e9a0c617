-- The first term and the rest wait.
use Rattle.std.proofs.Common.{is_some}
use Rattle.mw_model.specs.Terms.Reading.{terms_of}
use Rattle.mw_heap.specs.Objects.{object_at}
use Rattle.mw_bad_steps.specs.declared.form.Form.TheVariants.{Term, Terms}
use Rattle.mw_bad_steps.proofs.FormTests.{terms_form, two_wait, lighter_both}
use Rattle.mw_bad_steps.proofs.form.enter_terms.Goals as goal

pub returns : goal.returns
returns c =
    let os = c.args.heap.now.objects in
    let x = object_at os c.args.x in
    let shows = c.in-Pair.ensures.shows in
    two_wait os c.args.x (is_some (terms_of x)) c.args.waiting.now.items (Terms c.in-Pair.rest) (Term c.in-Pair.first) c.push.new.self.items c.push-2.new.self.items c.in_ok-push.ensures.items c.in_ok-push-2.ensures.items shows.1 shows.0
    (terms_form x (object_at os c.in-Pair.first) (object_at os c.in-Pair.rest) shows.2)
    (lighter_both x (object_at os c.in-Pair.first) (object_at os c.in-Pair.rest) shows.2)
