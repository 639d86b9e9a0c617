-- What the parser says of the unread bytes, and then of the end.
use Rattle.std.proofs.Common.{rules, ℕ, List, ap, ◌≡◌, ◌∙◌, ◌<◌, ◌++◌, length, refl, true, false, sym, subst, arith, inl, inr}
use Rattle.std.proofs.lemmas.List.{drop_all}
use Rattle.mw_read.specs.Standing.{Stands, Says, IsLast, HasEndedWith}
use Rattle.mw_read.specs.Feeding.{Continues}
use Rattle.mw_model.specs.Terms.Object.{Object}
use Rattle.mw_read.proofs.Bare.{empty_is, not_empty}
use Rattle.mw_read.proofs.Feeding.{says_continues, finishes_here, finishes_after, ready_from, ready_stands, ready_follows}
use Rattle.mw_read.proofs.reader.Reader.next.Goals as goal

pub next_unread-requires : goal.next_unread-requires
next_unread-requires c =
    let f : c.args.self.now.finished ≡ false = search rules in
    record {
      stands = ready_stands c.args.heap.now.objects c.args.self.now c.requires.ready;
      follows = ready_follows c.args.heap.now.objects c.args.self.now c.requires.ready (λ e. f);
    }

pub finish-requires : goal.finish-requires
finish-requires c = record { stands = ready_stands c.args.heap.now.objects c.args.self.now c.requires.ready }

pub next_unread-requires-2 : goal.next_unread-requires-2
next_unread-requires-2 c =
    let some : 0 < length c.args.self.now.unread = subst (λ u. 0 < length u) c.as_slice.ensures (not_empty c.as_slice.result.now (length c.as_slice.result.now) refl c.if-is_empty.ensures) in
    record {
      stands = ready_stands c.args.heap.now.objects c.args.self.now c.requires.ready;
      follows = ready_follows c.args.heap.now.objects c.args.self.now c.requires.ready (λ e. absurd (omega (arith, some, ap length e)));
    }

pub returns-then-not-self-clause-continues : goal.returns-then-not-self-clause-continues
returns-then-not-self-clause-continues c g given s =
    let v = c.next_unread.ensures.says g given s in
    let f : c.args.self.now.finished ≡ false = search rules in
    says_continues c.args.self.now g given c.next_unread.new.heap.objects c.next_unread.new.self c.next_unread.ensures.finished c.next_unread.result v.0 (λ e. f) v.1 v.2

pub returns-then-not-self-clause-ready : goal.returns-then-not-self-clause-ready
returns-then-not-self-clause-ready c =
    ready_from c.args.heap.now.objects c.next_unread.new.heap.objects c.args.self.now c.next_unread.new.self c.next_unread.result c.requires.ready
    (returns-then-not-self-clause-continues c) c.next_unread.ensures.ended (λ s h. (c.next_unread.ensures.again s h).0)

pub returns-then-is_empty-clause-continues : goal.returns-then-is_empty-clause-continues
returns-then-is_empty-clause-continues c g given s =
    let f : c.args.self.now.finished ≡ true = search rules in
    let e = sym c.as_slice.ensures ∙ empty_is c.as_slice.result.now (length c.as_slice.result.now) refl c.if-is_empty.ensures in
    finishes_here c.args.self.now g given c.finish.new.heap.objects (record c.args.self.now { parser = c.finish.new.self }) refl f e c.finish.result e (c.finish.ensures.finishes g given s)

pub returns-then-is_empty-clause-ready : goal.returns-then-is_empty-clause-ready
returns-then-is_empty-clause-ready c =
    ready_from c.args.heap.now.objects c.finish.new.heap.objects c.args.self.now (record c.args.self.now { parser = c.finish.new.self }) c.finish.result c.requires.ready
    (returns-then-is_empty-clause-continues c) c.finish.ensures.ended (λ s h. (c.finish.ensures.again s h).0)

pub finish-requires-in-More : goal.finish-requires-in-More
finish-requires-in-More c = record {
  stands = elim (ready_stands c.args.heap.now.objects c.args.self.now c.requires.ready) [
    | inl s ↦
        let v = c.next_unread-2.ensures.says s.0 s.1 s.2 in
        inl (s.0 ++ c.args.self.now.unread, s.1, (subst (λ t. Says c.next_unread-2.new.heap.objects c.args.self.now.parser s.0 s.1 c.args.self.now.unread t v.0 c.next_unread-2.new.self.parser) c.in-More.is v.2).1)
    | inr h ↦ absurd (subst IsLast (sym (c.next_unread-2.ensures.again h.0 h.2).0 ∙ c.in-More.is) h.1)
  ];
}

pub returns-in-More-clause-continues : goal.returns-in-More-clause-continues
returns-in-More-clause-continues c g given s =
    let old = c.args.self.now in
    let mid = c.next_unread-2.new.self in
    let f : old.finished ≡ true = search rules in
    let v = c.next_unread-2.ensures.says g given s in
    let w = subst (λ t. Says c.next_unread-2.new.heap.objects old.parser g given old.unread t v.0 mid.parser) c.in-More.is v.2 in
    let some : 0 < length old.unread = subst (λ u. 0 < length u) c.as_slice.ensures (not_empty c.as_slice.result.now (length c.as_slice.result.now) refl c.if-is_empty.ensures) in
    finishes_after old g given c.finish-in-More.new.heap.objects (record mid { parser = c.finish-in-More.new.self }) c.next_unread-2.ensures.finished f (v.1 ∙ drop_all v.0 old.unread (omega (arith, w.0)))
    mid.parser c.finish-in-More.result some (c.finish-in-More.ensures.finishes (g ++ old.unread) given w.1)

pub returns-in-More-clause-ready : goal.returns-in-More-clause-ready
returns-in-More-clause-ready c =
    let mid = c.next_unread-2.new.self in
    ready_from c.args.heap.now.objects c.finish-in-More.new.heap.objects c.args.self.now (record mid { parser = c.finish-in-More.new.self }) c.finish-in-More.result c.requires.ready
    (returns-in-More-clause-continues c) c.finish-in-More.ensures.ended
    (λ s h. (c.finish-in-More.ensures.again s (subst (λ r. HasEndedWith s r.parser) (sym (c.next_unread-2.ensures.again s h).1.0) h)).0)

continues : (c : goal.In_default) (g : List ℕ) (given : List Object) → Stands c.args.heap.now.objects c.args.self.now.parser g given → Continues c.next_unread-2.new.heap.objects c.args.self.now g given c.next_unread-2.result c.next_unread-2.new.self
continues c g given s =
    let v = c.next_unread-2.ensures.says g given s in
    says_continues c.args.self.now g given c.next_unread-2.new.heap.objects c.next_unread-2.new.self c.next_unread-2.ensures.finished c.next_unread-2.result v.0 (λ e. absurd (c.in_default.not-More e)) v.1 v.2

pub returns-in_default : goal.returns-in_default
returns-in_default c = record {
  grows = c.next_unread-2.ensures.grows;
  ready = ready_from c.args.heap.now.objects c.next_unread-2.new.heap.objects c.args.self.now c.next_unread-2.new.self c.next_unread-2.result c.requires.ready (continues c) c.next_unread-2.ensures.ended (λ s h. (c.next_unread-2.ensures.again s h).0);
  continues = continues c;
  ended = c.next_unread-2.ensures.ended;
  again = c.next_unread-2.ensures.again;
}
