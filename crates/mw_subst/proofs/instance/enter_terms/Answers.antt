-- A list of terms comes to its first and the rest.
use Rattle.std.proofs.Common.{◌∷◌, [], sym, ap, ◌∙◌, subst, append_assoc, ◌++◌}
use Rattle.mw_model.proofs.SameObject.{same_object-swap}
use Rattle.mw_heap.specs.Objects.{object_at}
use Rattle.mw_heap.proofs.NoPair.{shown_no_pair}
use Rattle.mw_model.specs.Terms.Object.{NIL}
use Rattle.mw_subst.specs.Sigma.{sigma_object}
use Rattle.mw_subst.specs.Instances.{Enters}
use Rattle.mw_subst.specs.declared.part.Part.TheVariants.{Term, Terms}
use Rattle.mw_subst.proofs.Comparing.{entered-list, entered-decided, substitute_each-no_pair}
use Rattle.mw_subst.proofs.instance.enter_terms.Goals as goal

pub returns-in_default : goal.returns-in_default
returns-in_default c =
    let os = c.args.heap.now.objects in
    let s = sigma_object os c.args.sigma.now in
    let plain = shown_no_pair os c.view.result (object_at os c.args.x) c.view.ensures.shows c.in_default.not-Pair in
    entered-decided os s c.args.waiting.now.items (Terms c.args.x, c.args.y) NIL c.is_word.result (substitute_each-no_pair s (object_at os c.args.x) plain) (c.is_word.ensures ∙ same_object-swap (object_at os c.args.y) NIL)

pub returns : goal.returns
returns c =
    let os = c.args.heap.now.objects in
    let s = sigma_object os c.args.sigma.now in
    let first = c.in-Pair.ensures in
    let other = c.in-Pair-view.ensures in
    let waiting = c.args.waiting.now.items in
    let longer = c.in_ok-push-2.ensures.items ∙ (ap (λ w. w ++ (Term c.in-Pair.term, c.in-Pair-view.first) ∷ []) c.in_ok-push.ensures.items ∙ append_assoc waiting ((Terms c.in-Pair.terms, c.in-Pair-view.rest) ∷ []) ((Term c.in-Pair.term, c.in-Pair-view.first) ∷ [])) in
    subst (Enters os s (Terms c.args.x, c.args.y) waiting) (sym longer)
    (entered-list os s waiting c.args.x c.args.y c.in-Pair.term c.in-Pair.terms c.in-Pair-view.first c.in-Pair-view.rest first.shows.0 first.shows.1 other.shows.0 other.shows.1 first.shows.2 other.shows.2 first.below.0 first.below.1)
