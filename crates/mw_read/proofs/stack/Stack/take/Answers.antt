use Rattle.std.proofs.Common.{◌≡◌, ◌∙◌, refl, sym, subst}
use Rattle.mw_heap.specs.Objects.{object_at}
use Rattle.mw_read.specs.Machine.{Turn, on, labels_of}
use Rattle.mw_read.specs.Piles.{pile_of, Does}
use Rattle.mw_read.specs.Taken.{MayCome, lexeme_at}
use Rattle.mw_read.proofs.Turns.{full_is, ready_frames, give_atom, if_ok_map, shows_agree}
use Rattle.mw_read.proofs.stack.Stack.take.Goals as goal

pub give-requires-clause-waits : goal.give-requires-clause-waits
give-requires-clause-waits c =
    let p = pile_of c.args.heap.now.objects c.args.self.now.layers.items in
    ready_frames p (subst (λ x. MayCome c.args.heap.now.objects p x) c.in-Atom.is c.requires.comes).1

pub returns-in-Atom-clause-turn : goal.returns-in-Atom-clause-turn
returns-in-Atom-clause-turn c =
    let a = c.args.self.now in
    let os = c.args.heap.now.objects in
    let p = pile_of os a.layers.items in
    let n = (subst (λ x. MayCome os p x) c.in-Atom.is c.requires.comes).1 in
    if_ok_map c.give.result
    (λ r f t h.
    subst (λ (w : Turn). Does c.give.new.heap.objects c.give.new.layers.items c.give.new.labels.entries r w)
    (give_atom os p a.labels.entries t (object_at os c.in-Atom.x) c.args.offset h (sym (full_is os p a.labels.entries t h) ∙ n) ∙ sym (subst (λ x. on t (lexeme_at os c.args.offset c.args.lexeme) ≡ on t (lexeme_at os c.args.offset x)) c.in-Atom.is refl))
    (f (labels_of t) (shows_agree os p a.labels.entries t h)))
    c.give.ensures.turn
