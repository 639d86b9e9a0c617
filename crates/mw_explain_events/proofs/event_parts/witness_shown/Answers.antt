-- It is one definition, whose formals are the bound variable and the free ones.
use Rattle.std.proofs.Common.{[], ◌∷◌, sym, ap, ap₂, ◌∙◌, subst}
use Rattle.mw_model.specs.Terms.Object.{Pair, NIL}
use Rattle.mw_heap.specs.Objects.{object_at}
use Rattle.mw_heap.specs.Variants.{refusal_of}
use Rattle.mw_heap.proofs.Objects.{Grows-trans, IsIn-Grows, object_at-Grows}
use Rattle.mw_theory.proofs.CallerLemmas.{IfOk-map}
use Rattle.mw_commands.specs.Commands.Explanation.{drafts_shown}
use Rattle.mw_bad_steps.specs.Shown.{Shows}
use Rattle.mw_explain_events.proofs.EventReasons.{skolem-shown}
use Rattle.mw_explain_events.proofs.event_parts.witness_shown.Goals as goal

pub single_shown-requires-clause-draft : goal.single_shown-requires-clause-draft
single_shown-requires-clause-draft c =
    let g = Grows-trans _ _ _ c.in_ok-formals.ensures.grows c.in_ok-measure.ensures.grows in
    (IsIn-Grows _ _ g _ c.requires.name, IsIn-Grows _ _ c.in_ok-measure.ensures.grows _ c.in_ok-formals.ensures.made.0, IsIn-Grows _ _ g _ c.requires.body, c.in_ok-measure.ensures.made.0)

pub returns-clause-shown : goal.returns-clause-shown
returns-clause-shown c =
    let os = c.args.heap.now.objects in
    let made = c.cons.new.self.objects in
    let between = c.nil.new.self.objects in
    let new = c.single_shown.new.heap.objects in
    let r = refusal_of c.args.reason in
    let later = c.in_ok-measure.ensures.grows in
    let g = Grows-trans _ _ _ c.in_ok-formals.ensures.grows later in
    let n = object_at-Grows os between g c.args.name c.requires.name in
    let f = object_at-Grows made between later c.in_ok-formals.formals c.in_ok-formals.ensures.made.0 ∙ c.in_ok-formals.ensures.made.1 in
    let b = object_at-Grows os between g c.args.body c.requires.body in
    let draft = ap₂ (λ x y. record { name = x; formals = y; body = object_at between c.args.body; measure = object_at between c.in_ok-measure.measure }) n f ∙ ap₂ (λ x y. record { name = object_at os c.args.name; formals = Pair (object_at os c.args.bound) (object_at os c.args.free); body = x; measure = y }) b c.in_ok-measure.ensures.made.1 in
    IfOk-map c.single_shown.result _ _ (λ v h t N arities refused. subst (Shows new v.items)
    (ap (λ d. drafts_shown r c.args.arity.now c.args.arity.now (d ∷ [])) draft
    ∙ (ap (λ A. drafts_shown r A A (record { name = object_at os c.args.name; formals = Pair (object_at os c.args.bound) (object_at os c.args.free); body = object_at os c.args.body; measure = NIL } ∷ [])) (sym arities)
    ∙ skolem-shown t N r (object_at os c.args.name) (object_at os c.args.bound) (object_at os c.args.free) (object_at os c.args.body) refused)) h) c.single_shown.ensures.shown
