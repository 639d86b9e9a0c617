-- By the word: a step that is not good, or an event of no form.
use Rattle.std.proofs.Common.{◌+◌, Some, None, IfSome, refl, sym, ap, ◌∙◌, subst}
use Rattle.mw_commands.specs.Commands.Log.{SHAPE, No}
use Rattle.mw_flat.specs.Going.{theory_of, going_of, ComesBy, is_step_word}
use Rattle.mw_heap.specs.Objects.{IsIn}
use Rattle.mw_flat.proofs.Noting.{goes-on-bad}
use Rattle.mw_flat.proofs.Answered.{large-collected, large-entry, no-form, none-collected, forgotten}
use Rattle.mw_flat.proofs.flat.Flat.too_big.Goals as goal

pub returns-then-is_step_word : goal.returns-then-is_step_word
returns-then-is_step_word c = record {
  comes = λ x large is steps h.
      let old = c.args.self.now in
      let new = going_of c.self.inside.world c.add_bad.new.self in
      let step = is ∙ (ap (λ g. is_step_word g.objects c.args.word) (sym c.self.view_is) ∙ (sym c.is_step_word.ensures ∙ c.if-is_step_word.true)) in
      let same = ap theory_of c.self.view_is in
      subst (λ b. ComesBy b old new steps x None) (sym step)
      (record { answer = refl; theory = same; collected = large-collected old new steps x large same c.add_bad.ensures.good (c.add_bad.ensures.count ∙ ap (λ g. g.count + 1) c.self.view_is) h });
}

pub returns : goal.returns
returns c = record {
  comes = λ x large is steps h.
      let old = c.args.self.now in
      let new = going_of c.cut.new.self c.forget.new.self in
      let event = is ∙ (ap (λ g. is_step_word g.objects c.args.word) (sym c.self.view_is) ∙ (sym c.is_step_word.ensures ∙ c.if-is_step_word.false)) in
      let none = no-form (theory_of old) steps x (large-entry x large) in
      let same = c.cut.ensures.theory ∙ ap theory_of c.self.view_is in
      subst (λ b. ComesBy b old new steps x (Some (No SHAPE))) (sym event)
      (record {
        answer = ap (λ r. Some r.0) (sym none);
        theory = same ∙ ap (λ r. r.1) (sym none);
        collected = none-collected new c.forget.ensures.count c.forget.ensures.good c.forget.ensures.conclusions;
      });
}

pub is_step_word-requires : goal.is_step_word-requires
is_step_word-requires c = subst (λ g. IfSome c.args.word (IsIn g.objects)) (sym c.self.view_is) c.requires.word

pub invariant_of-self : goal.invariant_of-self
invariant_of-self c =
    let b = c.add_bad.ensures in
    goes-on-bad c.self.inside.world c.self.inside.collected c.self.invariant c.self.inside.world c.self.invariant.world refl refl c.add_bad.new.self (ap (λ v. v.items) b.conclusions) b.good

pub invariant_of-self-2 : goal.invariant_of-self-2
invariant_of-self-2 c =
    let v = c.cut.ensures in
    let f = c.forget.ensures in
    forgotten c.cut.new.self c.forget.new.self v.world (ap (λ t. t.checker) v.theory_kept ∙ c.self.invariant.built_in) f.conclusions f.good f.count
