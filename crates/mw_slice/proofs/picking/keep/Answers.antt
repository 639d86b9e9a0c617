-- The event is asked for, and what it asks for is gathered, or it is not.
use Rattle.std.proofs.Common.{◌≡◌, ◌||◌, ◌++◌, ◌∷◌, [], true, cond, sym, ap, ◌∙◌}
use Rattle.mw_heap.proofs.Objects.{Grows-trans}
use Rattle.mw_slice.specs.Candidates.{event_of}
use Rattle.mw_slice.specs.Supports.{notes, event_asks, is_asked_for}
use Rattle.mw_slice.proofs.Growing.{firsts_grow, inside_grows, asked_for-grows, basis_grows}
use Rattle.mw_slice.proofs.picking.keep.Goals as goal

pub gather_copied-requires-clause-firsts : goal.gather_copied-requires-clause-firsts
gather_copied-requires-clause-firsts c = firsts_grow c.args.to.now.objects c.is_asked_for.new.to.objects c.is_asked_for.ensures.grows c.args.firsts.now.entries c.requires.firsts

pub gather_copied-requires-clause-basis : goal.gather_copied-requires-clause-basis
gather_copied-requires-clause-basis c =
    basis_grows c.args.to.now.objects c.is_asked_for.new.to.objects c.is_asked_for.ensures.grows c.args.firsts.now.entries c.requires.firsts c.args.basis.now c.requires.basis

pub returns-in_err-gather_copied-clause-grows : goal.returns-in_err-gather_copied-clause-grows
returns-in_err-gather_copied-clause-grows c = Grows-trans _ _ _ c.is_asked_for.ensures.grows c.gather_copied.ensures.grows

pub returns-in_err-push-clause-grows : goal.returns-in_err-push-clause-grows
returns-in_err-push-clause-grows c = Grows-trans _ _ _ c.is_asked_for.ensures.grows c.gather_copied.ensures.grows

pub returns-in_ok-push-clause-grows : goal.returns-in_ok-push-clause-grows
returns-in_ok-push-clause-grows c = Grows-trans _ _ _ c.is_asked_for.ensures.grows c.gather_copied.ensures.grows

pub returns-in_ok-push-clause-supports : goal.returns-in_ok-push-clause-supports
returns-in_ok-push-clause-supports c = λ s.
    let os = c.args.to.now.objects in
    let mid = c.is_asked_for.new.to.objects in
    let new = c.gather_copied.new.to.objects in
    let firsts = c.args.firsts.now.entries in
    let basis = c.args.basis.now in
    let e = event_of c.args.candidate.now in
    let asked : is_asked_for new basis c.args.goal e c.args.candidate.now.place ≡ true =
    asked_for-grows mid new c.gather_copied.ensures.grows basis (inside_grows os mid c.is_asked_for.ensures.grows basis c.requires.basis.inside) c.args.goal e c.args.candidate.now.place ∙ (sym c.in_ok-is_asked_for.ensures.asked ∙ c.if-branch.true) in
    c.in_ok-gather_copied.ensures.supports s ∙ sym (ap (λ b. cond b (notes new basis s || event_asks new firsts s e) (notes new basis s)) asked)

pub returns-in_ok-push-clause-places : goal.returns-in_ok-push-clause-places
returns-in_ok-push-clause-places c =
    let os = c.args.to.now.objects in
    let mid = c.is_asked_for.new.to.objects in
    let new = c.gather_copied.new.to.objects in
    let basis = c.args.basis.now in
    let e = event_of c.args.candidate.now in
    let places = c.args.places.now.items in
    let asked : is_asked_for new basis c.args.goal e c.args.candidate.now.place ≡ true =
    asked_for-grows mid new c.gather_copied.ensures.grows basis (inside_grows os mid c.is_asked_for.ensures.grows basis c.requires.basis.inside) c.args.goal e c.args.candidate.now.place ∙ (sym c.in_ok-is_asked_for.ensures.asked ∙ c.if-branch.true) in
    c.in_ok-push.ensures.items ∙ sym (ap (λ b. cond b (places ++ c.args.candidate.now.place ∷ []) places) asked)

pub returns-else-branch-clause-basis : goal.returns-else-branch-clause-basis
returns-else-branch-clause-basis c =
    basis_grows c.args.to.now.objects c.is_asked_for.new.to.objects c.is_asked_for.ensures.grows c.args.firsts.now.entries c.requires.firsts c.args.basis.now c.requires.basis

pub returns-else-branch-clause-supports : goal.returns-else-branch-clause-supports
returns-else-branch-clause-supports c = λ s.
    let mid = c.is_asked_for.new.to.objects in
    let basis = c.args.basis.now in
    let e = event_of c.args.candidate.now in
    let asked = sym c.in_ok-is_asked_for.ensures.asked ∙ c.if-branch.false in
    sym (ap (λ b. cond b (notes mid basis s || event_asks mid c.args.firsts.now.entries s e) (notes mid basis s)) asked)

pub returns-else-branch-clause-places : goal.returns-else-branch-clause-places
returns-else-branch-clause-places c =
    let places = c.args.places.now.items in
    let asked = sym c.in_ok-is_asked_for.ensures.asked ∙ c.if-branch.false in
    sym (ap (λ b. cond b (places ++ c.args.candidate.now.place ∷ []) places) asked)
