use Rattle.std.proofs.Common.{◌∙◌, ap₂, subst, sym, length, vec_len}
use Rattle.mw_model.specs.Texts.Lexemes.{Close}
use Rattle.mw_read.specs.Machine.{Turn, on, labels_of}
use Rattle.mw_read.specs.Piles.{pile_of, Does, IsInList, closed_with}
use Rattle.mw_heap.proofs.Objects.{length-Grows}
use Rattle.mw_read.proofs.Piles.{pile_grows, is_pile_grows, agree_grows, listed_grows}
use Rattle.mw_read.proofs.Closing.{opens_list, ends_dot, ends_waiting, ends_last, under_last, close_list, on_close}
use Rattle.mw_read.proofs.Turns.{shows_agree, if_ok_map}
use Rattle.mw_read.proofs.stack.Stack.close.Goals as goal

pub close_with-requires-clause-stack : goal.close_with-requires-clause-stack
close_with-requires-clause-stack c =
    let a = c.args.self.now in
    record {
      pile = is_pile_grows c.args.heap.now.objects c.nil.new.self.objects a.layers.items c.nil.ensures.grows c.requires.stack.pile;
      listed = listed_grows (length c.args.heap.now.objects) (length c.nil.new.self.objects) a.labels.entries (length-Grows c.args.heap.now.objects c.nil.new.self.objects c.nil.ensures.grows) c.requires.stack.listed;
    }

pub close_with-requires-clause-list : goal.close_with-requires-clause-list
close_with-requires-clause-list c =
    let a = c.args.self.now in
    subst (λ u. IsInList u) (sym (pile_grows c.args.heap.now.objects c.nil.new.self.objects a.layers.items c.nil.ensures.grows c.requires.stack.pile))
    (opens_list c.args.heap.now.objects a.layers.items c.in-Some.top c.in-Some.ensures c.requires.stack.pile c.in-Opening.is)

pub returns-in_ok-nil-in-Opening-clause-turn : goal.returns-in_ok-nil-in-Opening-clause-turn
returns-in_ok-nil-in-Opening-clause-turn c =
    let a = c.args.self.now in
    let os = c.args.heap.now.objects in
    let os1 = c.nil.new.self.objects in
    let p = pile_of os a.layers.items in
    let i = opens_list os a.layers.items c.in-Some.top c.in-Some.ensures c.requires.stack.pile c.in-Opening.is in
    if_ok_map c.close_with.result
    (λ r f t h.
    subst (λ (w : Turn). Does c.close_with.new.heap.objects c.close_with.new.self.layers.items c.close_with.new.self.labels.entries r w)
    (ap₂ (λ u y. closed_with u y (labels_of t)) (pile_grows os os1 a.layers.items c.nil.ensures.grows c.requires.stack.pile) c.in_ok-nil-in-Opening.ensures.made.1
    ∙ sym (close_list c.args.offset p (labels_of t) i) ∙ sym (on_close os p a.labels.entries t c.args.offset h))
    (f (labels_of t) (agree_grows os os1 a.labels.entries (labels_of t) c.nil.ensures.grows c.requires.stack.listed (shows_agree os p a.labels.entries t h))))
    c.close_with.ensures.turn

pub close_with-requires-in-Last-clause-object : goal.close_with-requires-in-Last-clause-object
close_with-requires-in-Last-clause-object c =
    ends_last c.args.heap.now.objects c.args.self.now.layers.items c.in-Some.top c.in-Last.x c.in-Some.ensures c.requires.stack.pile c.in-Last.is

pub close_with-requires-in-Last-clause-stack : goal.close_with-requires-in-Last-clause-stack
close_with-requires-in-Last-clause-stack c =
    let a = c.args.self.now in
    record {
      pile = (under_last c.args.heap.now.objects a.layers.items c.pop.new.self.items c.in-Some.top c.in-Last.x (vec_len a.layers) c.in-Some.ensures c.requires.stack.pile c.in-Last.is a.layers.ok.0 c.pop.ensures.rest).0;
      listed = c.requires.stack.listed;
    }

pub close_with-requires-in-Last-clause-list : goal.close_with-requires-in-Last-clause-list
close_with-requires-in-Last-clause-list c =
    let a = c.args.self.now in
    (under_last c.args.heap.now.objects a.layers.items c.pop.new.self.items c.in-Some.top c.in-Last.x (vec_len a.layers) c.in-Some.ensures c.requires.stack.pile c.in-Last.is a.layers.ok.0 c.pop.ensures.rest).1.0

pub returns-in-Last-clause-turn : goal.returns-in-Last-clause-turn
returns-in-Last-clause-turn c =
    let a = c.args.self.now in
    let os = c.args.heap.now.objects in
    let u = under_last os a.layers.items c.pop.new.self.items c.in-Some.top c.in-Last.x (vec_len a.layers) c.in-Some.ensures c.requires.stack.pile c.in-Last.is a.layers.ok.0 c.pop.ensures.rest in
    if_ok_map c.close_with-in-Last.result
    (λ r f t h.
    subst (λ (w : Turn). Does c.close_with-in-Last.new.heap.objects c.close_with-in-Last.new.self.layers.items c.close_with-in-Last.new.self.labels.entries r w)
    (u.1.1 a.labels.entries t c.args.offset h) (f (labels_of t) (shows_agree os (pile_of os a.layers.items) a.labels.entries t h)))
    c.close_with-in-Last.ensures.turn

pub returns-in-Dot-clause-turn : goal.returns-in-Dot-clause-turn
returns-in-Dot-clause-turn c t h =
    let a = c.args.self.now in
    subst (λ u. Does c.args.heap.now.objects a.layers.items a.labels.entries u (on t (Close c.args.offset))) (sym c.fault-in-Dot.ensures)
    (ends_dot c.args.heap.now.objects a.layers.items a.labels.entries t c.args.offset c.in-Some.top c.in-Some.ensures c.requires.stack.pile c.in-Dot.is h)

pub returns-in-Quote-clause-turn : goal.returns-in-Quote-clause-turn
returns-in-Quote-clause-turn c t h =
    let a = c.args.self.now in
    subst (λ u. Does c.args.heap.now.objects a.layers.items a.labels.entries u (on t (Close c.args.offset))) (sym c.fault-in-Quote.ensures)
    (ends_waiting c.args.heap.now.objects a.layers.items a.labels.entries t c.args.offset c.in-Some.top c.in-Some.ensures c.requires.stack.pile c.in-Quote.is h)
