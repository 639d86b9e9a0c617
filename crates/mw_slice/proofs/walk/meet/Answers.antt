-- A part that is new is noted and entered.
use Rattle.std.proofs.Common.{◌||◌, inl, inr, refl, sym, ap, ◌∙◌, subst}
use Rattle.std.proofs.lemmas.Result.{on_ok_weaker}
use Rattle.mw_slice.specs.Supports.{notes, is_atom, names_theorem}
use Rattle.mw_slice.specs.Walks.{Inserts}
use Rattle.mw_slice.proofs.Entering.{or_assoc}
use Rattle.mw_slice.proofs.walk.meet.Goals as goal

pub returns-then-not-branch : goal.returns-then-not-branch
returns-then-not-branch c =
    let i = subst (Inserts c.args.part c.args.basis.now c.insert.new.self) c.if-not-branch.true c.in_ok-insert.ensures in
    inl (i.0, i.1 c.args.indexed.now.heap.now.objects, refl)

pub returns : goal.returns
returns c =
    let os = c.args.indexed.now.heap.now.objects in
    let firsts = c.args.indexed.now.firsts.now.entries in
    let i = subst (Inserts c.args.part c.args.basis.now c.insert.new.self) c.if-not-branch.false c.in_ok-insert.ensures in
    let n = c.in_ok-note.ensures in
    on_ok_weaker c.enter.result (λ e. inr (record {
      parts = λ p. n.parts p ∙ i.1 p;
      supports = λ s. n.supports s ∙ (ap (λ b. b || names_theorem os firsts s c.args.part) (i.2 os s) ∙ sym (or_assoc (notes os c.args.basis.now s) (is_atom os s c.args.part) (names_theorem os firsts s c.args.part)));
      entered = e firsts;
    })) c.enter.ensures
