-- Each part is made after the parts that it wants.
use Rattle.std.proofs.Common.{◌++◌, ◌∷◌, [], sym, ap, ◌∙◌, subst, arith}
use Rattle.mw_model.specs.Events.Expansion.{expanded}
use Rattle.mw_heap.specs.Objects.{object_at, IsIn}
use Rattle.mw_heap.proofs.Objects.{Grows-refl, Grows-trans, object_at-Grows}
use Rattle.mw_translate.specs.Meaning.{meaning}
use Rattle.mw_translate.specs.Parts.{part_at}
use Rattle.mw_translate.specs.Walk.{Advances}
use Rattle.mw_translate.specs.declared.part.Kind.TheVariants as kind
use Rattle.mw_translate.proofs.Combine.{made_found, expand-none, expand-some}
use Rattle.mw_translate.proofs.Called.{body_of}
use Rattle.mw_translate.proofs.Path.{IsPath, path-start, left, last_below, last_needed}
use Rattle.mw_translate.proofs.PathSteps.{path-advances, left-advances}
use Rattle.mw_translate.proofs.walk.walk_along.Goals as goal

pub loop-part-init : goal.loop-part-init
loop-part-init c =
    let os = c.args.heap.now.objects in
    path-start (c.args.newer.now ++ c.args.older.now) os c.args.raw c.args.memo.now.made.entries c.push.new.self.items (Grows-refl os) c.requires.none_made (c.in_ok-push.ensures.items ∙ ap (λ ps. ps ++ part_at kind.Term c.args.raw ∷ []) c.requires.none_waits)

pub loop-part-preserved : goal.loop-part-preserved
loop-part-preserved c =
    let h0 = c.args.heap.now.objects in
    let h = c.loop-part.heap.objects in
    let A = c.args.newer.now ++ c.args.older.now in
    let path = subst (IsPath A h0 h c.args.raw c.loop-part.memo.made.entries) c.in-Some.ensures.items c.loop-part.invariant in
    path-advances A h0 h c.advance.new.heap.objects c.args.raw c.loop-part.memo.made.entries c.advance.new.memo.made.entries c.pop.new.self.items c.advance.new.path.items c.in-Some.part path c.in_ok-advance.ensures.unique
    (subst (Advances A h c.advance.new.heap.objects c.loop-part.memo.made.entries c.advance.new.memo.made.entries c.pop.new.self.items c.advance.new.path.items c.in-Some.part) c.if-not-branch.false c.in_ok-advance.ensures.advanced)
    c.in_ok-advance.ensures.grows c.requires.within

pub loop-part-smaller : goal.loop-part-smaller
loop-part-smaller c =
    let h0 = c.args.heap.now.objects in
    let h = c.loop-part.heap.objects in
    let A = c.args.newer.now ++ c.args.older.now in
    let path = subst (IsPath A h0 h c.args.raw c.loop-part.memo.made.entries) c.in-Some.ensures.items c.loop-part.invariant in
    let less = left-advances A h0 h c.advance.new.heap.objects c.args.raw c.loop-part.memo.made.entries c.advance.new.memo.made.entries c.pop.new.self.items c.advance.new.path.items c.in-Some.part path c.in_ok-advance.ensures.unique
    (subst (Advances A h c.advance.new.heap.objects c.loop-part.memo.made.entries c.advance.new.memo.made.entries c.pop.new.self.items c.advance.new.path.items c.in-Some.part) c.if-not-branch.false c.in_ok-advance.ensures.advanced) in
    omega (arith, less, ap (left c.args.raw c.loop-part.memo.made.entries) c.in-Some.ensures.items)

pub returns-then-not-branch-clause-answer : goal.returns-then-not-branch-clause-answer
returns-then-not-branch-clause-answer c =
    let h0 = c.args.heap.now.objects in
    let h = c.loop-part.heap.objects in
    let new = c.advance.new.heap.objects in
    let A = c.args.newer.now ++ c.args.older.now in
    let x = c.args.raw in
    let es = c.loop-part.memo.made.entries in
    let rest = c.pop.new.self.items in
    let part = c.in-Some.part in
    let path = subst (IsPath A h0 h x es) c.in-Some.ensures.items c.loop-part.invariant in
    let small = last_below A h0 h new x es rest part path in
    let part_in : IsIn h0 part.cell = omega (arith, small, c.requires.within) in
    let fails = subst (Advances A h new es c.advance.new.memo.made.entries rest c.advance.new.path.items part) c.if-not-branch.true c.in_ok-advance.ensures.advanced in
    expand-none A (object_at h0 x) (last_needed A h0 h new x es rest part path (ap (meaning A part.kind) (sym (object_at-Grows h0 h path.grows part.cell part_in)) ∙ fails))

pub returns-clause-answer : goal.returns-clause-answer
returns-clause-answer c =
    let h0 = c.args.heap.now.objects in
    let h = c.loop-part.heap.objects in
    let A = c.args.newer.now ++ c.args.older.now in
    let x = c.args.raw in
    let es = c.loop-part.memo.made.entries in
    let path = c.loop-part.invariant in
    let found = made_found A h es (part_at kind.Term x) c.in-Some-find.made path.made (sym c.find.ensures ∙ c.in-Some-find.is) in
    let t = body_of A (expanded (object_at h x)) (object_at h c.in-Some-find.made.object, c.in-Some-find.made.count) found.is in
    (t.0, expand-some A (object_at h0 x) t.0 (ap expanded (sym (object_at-Grows h0 h path.grows x c.requires.within)) ∙ t.1) t.2, found.object_in, sym t.3)

pub returns-in_err-advance-clause-grows : goal.returns-in_err-advance-clause-grows
returns-in_err-advance-clause-grows c = Grows-trans _ _ _ c.loop-part.invariant.grows c.advance.ensures.grows

pub returns-then-not-branch-clause-grows : goal.returns-then-not-branch-clause-grows
returns-then-not-branch-clause-grows c = Grows-trans _ _ _ c.loop-part.invariant.grows c.advance.ensures.grows
