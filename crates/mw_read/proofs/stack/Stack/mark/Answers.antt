use Rattle.std.proofs.Common.{◌∙◌, sym, subst, length}
use Rattle.mw_model.specs.Texts.Lexemes.{Mark}
use Rattle.mw_read.specs.Machine.{on, labels_of}
use Rattle.mw_read.specs.Piles.{pile_of, Does, HoldsDatum}
use Rattle.mw_read.specs.declared.stack.Layer.TheVariants as layers
use Rattle.mw_read.proofs.Turns.{full_is, ready_frames, frames_may, stack_more, shows_agree, mark_new, mark_old, match_true, match_false}
use Rattle.mw_read.proofs.stack.Stack.mark.Goals as goal

pub returns-then-not-branch-clause-turn : goal.returns-then-not-branch-clause-turn
returns-then-not-branch-clause-turn c os s n =
    let a = c.args.self.now in
    let r = sym c.fault.ensures in (
      record { pile = s.pile; listed = c.in_ok-begin.ensures.listed (length os) s.listed },
      subst (λ u. HoldsDatum os u) r tt,
      λ t h.
          let f = sym (full_is os (pile_of os a.layers.items) a.labels.entries t h) ∙ n in
          let b = match_false _ c.in_ok-begin.field-0 c.if-not-branch.true (c.in_ok-begin.ensures.begun os (labels_of t) (shows_agree os (pile_of os a.layers.items) a.labels.entries t h)) in
          subst (λ u. Does os a.layers.items c.begin.new.labels.entries u (on t (Mark c.args.offset c.args.n))) r
          (mark_old os (pile_of os a.layers.items) a.labels.entries t c.args.n c.args.offset h f b),
    )

pub returns-clause-turn : goal.returns-clause-turn
returns-clause-turn c os s n =
    let a = c.args.self.now in (
      record {
        pile = stack_more os a.layers.items c.push.new.self.items (layers.Mark c.args.n) c.in_ok-push.ensures.items s.pile
            ((frames_may (pile_of os a.layers.items) (ready_frames (pile_of os a.layers.items) n)).1.1 c.args.n) tt;
        listed = c.in_ok-begin.ensures.listed (length os) s.listed;
      },
      tt,
      λ t h.
          let f = sym (full_is os (pile_of os a.layers.items) a.labels.entries t h) ∙ n in
          let b = match_true _ c.in_ok-begin.field-0 c.if-not-branch.false (c.in_ok-begin.ensures.begun os (labels_of t) (shows_agree os (pile_of os a.layers.items) a.labels.entries t h)) in
          mark_new os a.layers.items c.push.new.self.items a.labels.entries c.begin.new.labels.entries t c.args.n c.args.offset c.in_ok-push.ensures.items h f b.0 b.1,
    )
