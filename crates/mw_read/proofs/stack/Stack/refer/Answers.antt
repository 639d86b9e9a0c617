use Rattle.std.proofs.Common.{◌∙◌, sym, subst}
use Rattle.mw_model.specs.Texts.Lexemes.{Ref}
use Rattle.mw_heap.specs.Objects.{object_at}
use Rattle.mw_read.specs.Machine.{Turn, on, labels_of}
use Rattle.mw_read.specs.Piles.{pile_of, Does}
use Rattle.mw_read.proofs.Turns.{full_is, ready_frames, give_atom, if_ok_map, shows_agree, refer_some, refer_none}
use Rattle.mw_read.proofs.stack.Stack.refer.Goals as goal

pub give-requires-clause-waits : goal.give-requires-clause-waits
give-requires-clause-waits c =
    ready_frames (pile_of c.args.heap.now.objects c.args.self.now.layers.items) c.requires.begins

pub returns-in-Some-clause-turn : goal.returns-in-Some-clause-turn
returns-in-Some-clause-turn c =
    let a = c.args.self.now in
    let os = c.args.heap.now.objects in
    let p = pile_of os a.layers.items in
    if_ok_map c.give.result
    (λ r f t h.
    let n = sym (full_is os p a.labels.entries t h) ∙ c.requires.begins in
    subst (λ (w : Turn). Does c.give.new.heap.objects c.give.new.layers.items c.give.new.labels.entries r w)
    (give_atom os p a.labels.entries t (object_at os c.in-Some.x) c.args.offset h n
    ∙ refer_some os p a.labels.entries t c.args.n c.args.offset c.in-Some.x h n (c.in-Some.ensures.names os (labels_of t) (shows_agree os p a.labels.entries t h)))
    (f (labels_of t) (shows_agree os p a.labels.entries t h)))
    c.give.ensures.turn

pub returns-in-None-clause-turn : goal.returns-in-None-clause-turn
returns-in-None-clause-turn c t h =
    let a = c.args.self.now in
    let os = c.args.heap.now.objects in
    let p = pile_of os a.layers.items in
    let n = sym (full_is os p a.labels.entries t h) ∙ c.requires.begins in
    subst (λ u. Does os a.layers.items a.labels.entries u (on t (Ref c.args.offset c.args.n))) (sym c.fault.ensures)
    (refer_none os p a.labels.entries t c.args.n c.args.offset h n (c.in-None.ensures.names os (labels_of t) (shows_agree os p a.labels.entries t h)))
