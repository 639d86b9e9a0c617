-- A call comes to the list of its actuals.
use Rattle.std.proofs.Common.{sym, ap, ◌∙◌, subst}
use Rattle.mw_model.specs.Laws.Rules.{substitute_object}
use Rattle.mw_heap.specs.Objects.{object_at}
use Rattle.mw_heap.proofs.NoPair.{shown_no_pair}
use Rattle.mw_subst.specs.Sigma.{sigma_object}
use Rattle.mw_subst.specs.Instances.{Enters}
use Rattle.mw_subst.specs.declared.part.Part.TheVariants.{Term}
use Rattle.mw_subst.proofs.Comparing.{entered-call, other_head, entered-decided, substitute-no_pair, substitute-constant}
use Rattle.mw_subst.proofs.instance.enter_term.Goals as goal

pub returns-in_default : goal.returns-in_default
returns-in_default c =
    let os = c.args.heap.now.objects in
    let s = sigma_object os c.args.sigma.now in
    let plain = shown_no_pair os c.view.result (object_at os c.args.x) c.view.ensures.shows c.in_default.not-Pair in
    entered-decided os s c.args.waiting.now.items (Term c.args.x, c.args.y) (object_at os c.image.result) c.same.result (substitute-no_pair s (object_at os c.args.x) plain ∙ sym c.image.ensures.image) c.same.ensures.same

pub returns-then-is_word : goal.returns-then-is_word
returns-then-is_word c =
    let os = c.args.heap.now.objects in
    let s = sigma_object os c.args.sigma.now in
    let pair = c.in-Pair.ensures.shows.2 in
    let constant = substitute-constant s (object_at os c.in-Pair.head) (object_at os c.in-Pair.actuals) (sym c.is_word.ensures ∙ c.if-is_word.true) in
    entered-decided os s c.args.waiting.now.items (Term c.args.x, c.args.y) (object_at os c.args.x) c.same-then-is_word.result (ap (substitute_object s) pair ∙ (constant ∙ sym pair)) c.same-then-is_word.ensures.same

pub returns-then-not-same : goal.returns-then-not-same
returns-then-not-same c =
    let os = c.args.heap.now.objects in
    let s = sigma_object os c.args.sigma.now in
    let first = c.in-Pair.ensures in
    let other = c.in-Pair-view.ensures in
    other_head os s c.args.waiting.now.items c.args.x c.args.y c.in-Pair.head c.in-Pair.actuals c.in-Pair-view.first c.in-Pair-view.rest first.shows.0 first.shows.1 other.shows.0 other.shows.1 first.shows.2 other.shows.2 first.below.0 first.below.1
    (sym c.is_word.ensures ∙ c.if-is_word.false) (sym c.same-2.ensures.same ∙ c.if-not-same.true)

pub returns : goal.returns
returns c =
    let os = c.args.heap.now.objects in
    let s = sigma_object os c.args.sigma.now in
    let first = c.in-Pair.ensures in
    let other = c.in-Pair-view.ensures in
    let waiting = c.args.waiting.now.items in
    subst (Enters os s (Term c.args.x, c.args.y) waiting) (sym c.in_ok-push.ensures.items)
    (entered-call os s waiting c.args.x c.args.y c.in-Pair.head c.in-Pair.actuals c.in-Pair-view.first c.in-Pair-view.rest first.shows.0 first.shows.1 other.shows.0 other.shows.1 first.shows.2 other.shows.2 first.below.0 first.below.1
    (sym c.is_word.ensures ∙ c.if-is_word.false) (sym c.same-2.ensures.same ∙ c.if-not-same.false))
