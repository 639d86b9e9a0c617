-- Each part is made after the parts that it wants.
use Rattle.std.proofs.Common.{◌+◌, ◌∷◌, [], inl, inr, sym, ap, ap₂, ◌∙◌, subst, append_assoc, arith, ◌++◌}
use Rattle.mw_model.specs.Laws.Rules.{substitute_object}
use Rattle.mw_heap.specs.Objects.{IsIn}
use Rattle.mw_heap.proofs.Objects.{object_at-Grows, length-Grows, Grows-trans}
use Rattle.mw_subst.specs.declared.part.Part.TheVariants.{Term}
use Rattle.mw_subst.specs.Sigma.{sigma_object}
use Rattle.mw_subst.specs.Memo.{cell_of}
use Rattle.mw_subst.proofs.SigmaObject.{AreIn-Grows, sigma_object-Grows}
use Rattle.mw_subst.proofs.Made.{result_found}
use Rattle.mw_subst.proofs.Path.{IsPath, path-starts, left, last_wanted, last_below, path-wants, path-made, left-made, left-wants, small-added, above}
use Rattle.mw_subst.proofs.Needed.{Needs-Grows, Needs-older}
use Rattle.mw_subst.proofs.Closed.{IsClosed, closed-starts, closed-added}
use Rattle.mw_subst.proofs.Seen.{IsCounted, no_more, counted-starts, counted-made, counted-wants, counted-most, counted-all, last_part}
use Rattle.mw_subst.proofs.walk.make.Goals as goal

pub loop-part-init : goal.loop-part-init
loop-part-init g c = (
  path-starts c.args.heap.now.objects c.args.sigma.now c.args.x c.args.memo.now.terms c.args.memo.now.lists c.push.new.self.items c.requires.no_terms c.requires.no_lists
      (c.in_ok-push.ensures.items ∙ ap (λ ps. ps ++ Term c.args.x ∷ []) c.new-path.ensures.items),
  counted-starts c.args.heap.now.objects c.args.x c.args.steps.now c.tick.new.self c.args.memo.now.terms c.args.memo.now.lists c.push.new.self.items c.requires.no_terms c.requires.no_lists
      (c.in_ok-push.ensures.items ∙ ap (λ ps. ps ++ Term c.args.x ∷ []) c.new-path.ensures.items) c.tick.ensures,
  closed-starts c.args.heap.now.objects c.args.memo.now.terms c.args.memo.now.lists c.requires.no_terms c.requires.no_lists,
)

pub returns-in_err-push-clause-each : goal.returns-in_err-push-clause-each
returns-in_err-push-clause-each g c = ([], no_more c.args.heap.now.objects c.args.x, omega arith)

pub advance-requires-clause-within : goal.advance-requires-clause-within
advance-requires-clause-within g c =
    let h0 = c.args.heap.now.objects in
    let x = c.args.x in
    let terms = c.loop-part.memo.terms in
    let lists = c.loop-part.memo.lists in
    let before = c.args.steps.now in
    let steps = c.loop-part.steps in
    let counted = subst (λ p. IsCounted h0 x terms lists p before steps) c.in-Some.ensures.items c.loop-part.invariant.1 in
    let small = last_part h0 x terms lists c.pop.new.self.items c.in-Some.part before steps counted in
    omega (arith, small.0, c.requires.within, length-Grows h0 c.loop-part.heap.objects c.loop-part.invariant.0.grows)

pub returns-in_err-advance-clause-grows : goal.returns-in_err-advance-clause-grows
returns-in_err-advance-clause-grows g c = Grows-trans c.args.heap.now.objects c.loop-part.heap.objects c.advance.new.heap.objects c.loop-part.invariant.0.grows c.advance.ensures.grows

pub returns-in_err-advance-clause-most : goal.returns-in_err-advance-clause-most
returns-in_err-advance-clause-most g c =
    let most = counted-most c.args.heap.now.objects c.args.x c.loop-part.memo.terms c.loop-part.memo.lists c.loop-part.path.items c.args.steps.now c.loop-part.steps c.loop-part.invariant.1 in
    omega (arith, most, c.in_err-advance.ensures.err)

pub returns-clause-most : goal.returns-clause-most
returns-clause-most g c = counted-most c.args.heap.now.objects c.args.x c.loop-part.memo.terms c.loop-part.memo.lists c.loop-part.path.items c.args.steps.now c.loop-part.steps c.loop-part.invariant.1

pub advance-requires-clause-sigma : goal.advance-requires-clause-sigma
advance-requires-clause-sigma g c = AreIn-Grows c.args.heap.now.objects c.loop-part.heap.objects c.args.sigma.now c.loop-part.invariant.0.grows c.requires.sigma

pub advance-requires-clause-new : goal.advance-requires-clause-new
advance-requires-clause-new g c =
    let P = IsPath c.args.heap.now.objects c.loop-part.heap.objects c.args.sigma.now c.args.x c.loop-part.memo.terms c.loop-part.memo.lists in
    last_wanted c.args.heap.now.objects c.loop-part.heap.objects c.loop-part.heap.objects c.args.sigma.now c.args.x c.loop-part.memo.terms c.loop-part.memo.lists c.pop.new.self.items c.in-Some.part
    (subst P c.in-Some.ensures.items c.loop-part.invariant.0)
    (AreIn-Grows c.args.heap.now.objects c.loop-part.heap.objects c.args.sigma.now c.loop-part.invariant.0.grows c.requires.sigma)

pub loop-part-smaller : goal.loop-part-smaller
loop-part-smaller g c =
    let h0 = c.args.heap.now.objects in
    let h = c.loop-part.heap.objects in
    let pairs = c.args.sigma.now in
    let x = c.args.x in
    let terms = c.loop-part.memo.terms in
    let lists = c.loop-part.memo.lists in
    let rest = c.pop.new.self.items in
    let part = c.in-Some.part in
    let path = subst (IsPath h0 h pairs x terms lists) c.in-Some.ensures.items c.loop-part.invariant.0 in
    let sigma = AreIn-Grows h0 h pairs c.loop-part.invariant.0.grows c.requires.sigma in
    let old = ap (left x terms lists) c.in-Some.ensures.items in
    elim c.in_ok-advance.ensures.advanced [
      | inl m ↦
          let more_terms = c.advance.new.memo.terms in
          let more_lists = c.advance.new.memo.lists in
          let small = small-added (x + 1) terms lists more_terms more_lists part m.0 path.small m.3 (omega (arith, last_below h0 h h pairs x terms lists rest part path sigma)) in
          let less = left-made h0 h h pairs x terms lists rest part path sigma more_terms more_lists m.0 m.3 c.in_ok-advance.ensures.unique small in
          let new = ap (left x more_terms more_lists) m.4 in
          omega (arith, less, old, new)
      | inr w ↦
          let less = left-wants h0 h h pairs x terms lists rest part path sigma w.0 w.1 in
          let new = ap₂ (λ m l. left x m.terms m.lists l) w.4 (w.3 ∙ sym (append_assoc rest (part ∷ []) (w.0 ∷ []))) in
          omega (arith, less, old, new)
    ]

pub loop-part-preserved : goal.loop-part-preserved
loop-part-preserved g c =
    let h0 = c.args.heap.now.objects in
    let h = c.loop-part.heap.objects in
    let new = c.advance.new.heap.objects in
    let pairs = c.args.sigma.now in
    let x = c.args.x in
    let terms = c.loop-part.memo.terms in
    let lists = c.loop-part.memo.lists in
    let before = c.args.steps.now in
    let steps = c.loop-part.steps in
    let after = c.advance.new.steps in
    let rest = c.pop.new.self.items in
    let part = c.in-Some.part in
    let path = subst (IsPath h0 h pairs x terms lists) c.in-Some.ensures.items c.loop-part.invariant.0 in
    let counted = subst (λ p. IsCounted h0 x terms lists p before steps) c.in-Some.ensures.items c.loop-part.invariant.1 in
    let g = c.in_ok-advance.ensures.grows in
    let sigma = AreIn-Grows h0 h pairs c.loop-part.invariant.0.grows c.requires.sigma in
    let small = last_below h0 h h pairs x terms lists rest part path sigma in
    let part_in : IsIn h0 (cell_of part) = omega (arith, small, c.requires.within) in
    elim c.in_ok-advance.ensures.advanced [
      | inl m ↦
          let more_terms = c.advance.new.memo.terms in
          let more_lists = c.advance.new.memo.lists in
          let within : IsIn h (cell_of part) = omega (arith, small, c.requires.within, length-Grows h0 h c.loop-part.invariant.0.grows) in (
            subst (IsPath h0 new pairs x more_terms more_lists) (sym m.4)
                (path-made h0 h new pairs x terms lists rest part path sigma more_terms more_lists m.0 m.3 g within m.1 m.2 c.in_ok-advance.ensures.unique),
            subst (λ s. IsCounted h0 x more_terms more_lists c.advance.new.path.items before s) (sym m.5)
                (subst (λ p. IsCounted h0 x more_terms more_lists p before steps) (sym m.4) (counted-made h0 x terms lists rest part before steps counted more_terms more_lists m.0 m.3)),
            closed-added h0 terms lists more_terms more_lists part m.0 m.3 c.loop-part.invariant.2 (λ q n. m.6 q (Needs-Grows h0 h c.loop-part.invariant.0.grows part q part_in n)),
          )
      | inr w ↦
          let inner = w.0 in
          let inner_in : IsIn h0 (cell_of inner) = omega (arith, part_in, w.1) in
          let needs = Needs-older h0 h c.loop-part.invariant.0.grows part inner part_in inner_in w.5 in
          let longer = append_assoc rest (part ∷ []) (inner ∷ []) ∙ sym w.3 in (
            subst (λ m. IsPath h0 new pairs x m.terms m.lists c.advance.new.path.items) (sym w.4)
                (subst (IsPath h0 new pairs x terms lists) longer (path-wants h0 h new pairs x terms lists rest part path sigma inner g w.1 w.2)),
            subst (λ m. IsCounted h0 x m.terms m.lists c.advance.new.path.items before after) (sym w.4)
                (subst (λ p. IsCounted h0 x terms lists p before after) longer
                (counted-wants h0 x terms lists rest part before steps counted inner w.1 needs (above h0 h h pairs x terms lists rest part path sigma) w.2 after w.6)),
            subst (λ m. IsClosed h0 m.terms m.lists) (sym w.4) c.loop-part.invariant.2,
          )
    ]

pub returns-clause-all : goal.returns-clause-all
returns-clause-all g c =
    counted-all c.args.heap.now.objects c.args.x c.loop-part.memo.terms c.loop-part.memo.lists c.loop-part.path.items c.args.steps.now c.loop-part.steps c.loop-part.invariant.1 c.loop-part.invariant.2
    (c.in-Some-find.made, sym c.find.ensures ∙ c.in-Some-find.is)

pub returns-clause-within : goal.returns-clause-within
returns-clause-within g c =
    let os = c.loop-part.heap.objects in
    (result_found os (substitute_object (sigma_object os c.args.sigma.now)) c.args.x c.in-Some-find.made c.loop-part.memo.terms c.loop-part.invariant.0.made.0 (sym c.find.ensures ∙ c.in-Some-find.is)).0

pub returns-clause-made : goal.returns-clause-made
returns-clause-made g c =
    let os = c.loop-part.heap.objects in
    let g = c.loop-part.invariant.0.grows in
    (result_found os (substitute_object (sigma_object os c.args.sigma.now)) c.args.x c.in-Some-find.made c.loop-part.memo.terms c.loop-part.invariant.0.made.0 (sym c.find.ensures ∙ c.in-Some-find.is)).1
    ∙ ap₂ substitute_object (sigma_object-Grows c.args.heap.now.objects os c.args.sigma.now g c.requires.sigma) (object_at-Grows c.args.heap.now.objects os g c.args.x c.requires.within)
