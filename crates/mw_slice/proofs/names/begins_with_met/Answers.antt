-- The first name of the list, and then those of the rest.
use Rattle.std.proofs.Common.{◌≡◌, Bool, true, false, ◌||◌, sym, ap, ◌∙◌}
use Rattle.mw_model.specs.Terms.Object.{Object, car}
use Rattle.mw_commands.specs.Commands.Slice.{some_passes, first_members}
use Rattle.mw_heap.specs.Objects.{object_at}
use Rattle.mw_heap.proofs.Objects.{Grows-trans}
use Rattle.mw_slice.specs.Supports.{Named, notes}
use Rattle.mw_slice.proofs.Growing.{inside_grows, names_met-grow}
use Rattle.mw_slice.proofs.names.begins_with_met.Goals as goal

pub is_met-requires-clause-inside : goal.is_met-requires-clause-inside
is_met-requires-clause-inside c = inside_grows c.args.to.now.objects c.loop-member.to.objects c.loop-member.invariant.1 c.args.basis.now c.requires.inside

pub returns-in_err-is_met-clause-grows : goal.returns-in_err-is_met-clause-grows
returns-in_err-is_met-clause-grows c = Grows-trans c.args.to.now.objects c.loop-member.to.objects c.is_met.new.to.objects c.loop-member.invariant.1 c.is_met.ensures.grows

pub returns-then-branch-clause-grows : goal.returns-then-branch-clause-grows
returns-then-branch-clause-grows c = Grows-trans c.args.to.now.objects c.loop-member.to.objects c.is_met.new.to.objects c.loop-member.invariant.1 c.is_met.ensures.grows

pub returns-then-branch-clause-met : goal.returns-then-branch-clause-met
returns-then-branch-clause-met c =
    let from = c.args.from.now.objects in
    let os = c.loop-member.to.objects in
    let new = c.is_met.new.to.objects in
    let basis = c.args.basis.now in
    let before = c.loop-member.invariant in
    let inside = inside_grows c.args.to.now.objects os before.1 basis c.requires.inside in
    let met : Object → Bool = λ f. notes new basis (Named f) in
    let all = names_met-grow os new c.is_met.ensures.grows basis inside in
    let here : met (car (object_at from c.in-Pair.member)) ≡ true = ap met (sym c.car.ensures.value) ∙ (sym c.in_ok-is_met.ensures.met ∙ c.if-branch.true) in
    let list : some_passes met (first_members (object_at from c.loop-member.list)) ≡ true =
    ap (λ x. some_passes met (first_members x)) c.in-Pair.ensures.shows.2 ∙ ap (λ b. b || some_passes met (first_members (object_at from c.in-Pair.rest))) here in
    sym list ∙ (all (first_members (object_at from c.loop-member.list)) ∙ (before.2 ∙ sym (all (first_members (object_at from c.args.list)))))

pub loop-member-preserved : goal.loop-member-preserved
loop-member-preserved c =
    let from = c.args.from.now.objects in
    let os = c.loop-member.to.objects in
    let new = c.is_met.new.to.objects in
    let basis = c.args.basis.now in
    let before = c.loop-member.invariant in
    let inside = inside_grows c.args.to.now.objects os before.1 basis c.requires.inside in
    let met : Object → Bool = λ f. notes new basis (Named f) in
    let all = names_met-grow os new c.is_met.ensures.grows basis inside in
    let here : met (car (object_at from c.in-Pair.member)) ≡ false = ap met (sym c.car.ensures.value) ∙ (sym c.in_ok-is_met.ensures.met ∙ c.if-branch.false) in
    let list : some_passes met (first_members (object_at from c.loop-member.list)) ≡ some_passes met (first_members (object_at from c.in-Pair.rest)) =
    ap (λ x. some_passes met (first_members x)) c.in-Pair.ensures.shows.2 ∙ ap (λ b. b || some_passes met (first_members (object_at from c.in-Pair.rest))) here in (
      c.in-Pair.ensures.shows.1,
      Grows-trans c.args.to.now.objects os new before.1 c.is_met.ensures.grows,
      sym list ∙ (all (first_members (object_at from c.loop-member.list)) ∙ (before.2 ∙ sym (all (first_members (object_at from c.args.list))))),
    )
