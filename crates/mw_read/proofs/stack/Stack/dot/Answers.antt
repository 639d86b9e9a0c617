use Rattle.std.proofs.Common.{◌∙◌, sym}
use Rattle.mw_read.specs.Piles.{pile_of}
use Rattle.mw_read.specs.declared.stack.Layer.TheVariants as layers
use Rattle.mw_read.proofs.Turns.{member_is, member_may, stack_more, push_dot}
use Rattle.mw_read.proofs.stack.Stack.dot.Goals as goal

pub returns-clause-turn : goal.returns-clause-turn
returns-clause-turn c os s =
    let a = c.args.self.now in
    let n = sym (c.is_after_member.ensures os s) ∙ c.if-not-is_after_member.false in (
      record {
        pile = stack_more os a.layers.items c.push.new.self.items layers.Dot c.in_ok-push.ensures.items s.pile (member_may (pile_of os a.layers.items) n) tt;
        listed = s.listed;
      },
      tt,
      λ t h. (push_dot os a.layers.items c.push.new.self.items a.labels.entries t c.args.offset c.in_ok-push.ensures.items h (sym (member_is os (pile_of os a.layers.items) a.labels.entries t h) ∙ n)).1,
    )
