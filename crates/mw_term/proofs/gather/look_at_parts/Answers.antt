-- Each part is looked at once, and there are few.
use Rattle.std.proofs.Common.{◌≡◌, ◌∷◌, ◌+◌, [], ◌++◌, length, Contains, inl, inr, sym, ap, ◌∙◌, subst, arith, if◌then◌else◌}
use Rattle.std.proofs.lemmas.List.{length-append}
use Rattle.std.proofs.lemmas.List.Elements.{Contains-push}
use Rattle.mw_term.specs.Occurrences.{IsPartIn}
use Rattle.mw_term.specs.declared.part.Part.{Part}
use Rattle.mw_term.specs.declared.part.Part.TheVariants.{Term}
use Rattle.mw_term.proofs.PartSet.{few_parts, put-before, put-cases}
use Rattle.mw_term.proofs.Gathering.{IsGathering, gathering-start, gathering-step, looked_before}
use Rattle.mw_term.proofs.gather.look_at_parts.Goals as goal

pub loop-part-init : goal.loop-part-init
loop-part-init c = gathering-start c.args.heap.now.objects c.args.term _ _ _ c.requires.within c.requires.none_found c.requires.none_looked (c.in_ok-push.ensures.items ∙ ap (λ l. l ++ Term c.args.term ∷ []) c.new-waiting.ensures.items)

pub loop-part-preserved-then-not-branch : goal.loop-part-preserved-then-not-branch
loop-part-preserved-then-not-branch c =
    let os = c.args.heap.now.objects in
    let t = c.args.term in
    let found = c.loop-part.found.keys in
    let looked = c.loop-part.looked.keys in
    let rest = c.pop.new.self.items in
    let part = c.in-Some.part in
    let g = subst (IsGathering os t found looked) c.in-Some.ensures.items c.loop-part.invariant in
    let before = put-before looked part (sym c.in_ok-insert.ensures.added ∙ c.if-not-branch.true) in
    gathering-step os part found found rest rest (looked_before os t part found looked rest g before) t looked c.insert.new.self.keys g (λ p m. put-cases looked c.insert.new.self.keys part c.in_ok-insert.ensures.keys p m)

pub loop-part-preserved : goal.loop-part-preserved
loop-part-preserved c =
    let os = c.args.heap.now.objects in
    let t = c.args.term in
    let looked = c.loop-part.looked.keys in
    let rest = c.pop.new.self.items in
    let part = c.in-Some.part in
    let g = subst (IsGathering os t c.loop-part.found.keys looked) c.in-Some.ensures.items c.loop-part.invariant in
    gathering-step os part c.loop-part.found.keys c.look.new.found.keys rest c.look.new.waiting.items c.in_ok-look.ensures t looked c.insert.new.self.keys g (λ p m. put-cases looked c.insert.new.self.keys part c.in_ok-insert.ensures.keys p m)

pub loop-part-smaller : goal.loop-part-smaller
loop-part-smaller c =
    let os = c.args.heap.now.objects in
    let looked = c.loop-part.looked.keys in
    let new = c.insert.new.self.keys in
    let rest = c.pop.new.self.items in
    let part = c.in-Some.part in
    let inside : (p : Part) → Contains new p → IsPartIn os p = λ p m.
    elim (put-cases looked new part c.in_ok-insert.ensures.keys p m) [
      | inl k ↦ c.loop-part.invariant.looked_inside p k
      | inr e ↦ subst (IsPartIn os) (sym e) (c.loop-part.invariant.inside part (subst (λ l. Contains l part) (sym c.in-Some.ensures.items) (Contains-push rest part)))
    ] in
    let few = few_parts os new c.in_ok-insert.ensures.unique inside in
    let one : length new ≡ length looked + 1 = c.in_ok-insert.ensures.len ∙ ap (λ b. length looked + (if b then 1 else 0)) c.if-not-branch.false in
    let had = ap length c.in-Some.ensures.items ∙ length-append rest (part ∷ []) in
    let has = ap length c.in_ok-look.ensures.longer ∙ length-append rest c.in_ok-look.ensures.more in
    omega (arith, few, one, had, has, c.in_ok-look.ensures.few)
