-- The members are watched by their references, which are the only ones of their objects.
use Rattle.std.proofs.Common.{ℕ, ◌⊎◌, inl, inr, sym, ◌∙◌, subst, true≢false, arith}
use Rattle.mw_heap.specs.Objects.{object_at}
use Rattle.mw_heap.proofs.NoPair.{shown_no_pair}
use Rattle.mw_term.specs.Watching.{IsLastingIn, IsNotedUnless}
use Rattle.mw_term.proofs.Noted.{early-one, early-two}
use Rattle.mw_term.proofs.noting.note_members.Goals as goal

pub returns-in_default-view : goal.returns-in_default-view
returns-in_default-view c = record {
  watched = λ A mark looks w before early.
      let os = c.args.heap.now.objects in
      let no_pair = shown_no_pair os _ (object_at os c.in-Pair.more) c.view-2.ensures.shows c.in_default-view.not-Pair in
      let is = early-one os c.order.ensures.distinct c.args.rest c.in-Pair.member c.in-Pair.more c.in-Pair.ensures.shows.2 c.in-Pair.ensures.shows.0 w (omega (arith, before, c.requires.within)) early no_pair in
      subst (λ v. IsLastingIn c.args.lasting.now v ⊎ IsNotedUnless c.in_ok-lasts.lasts c.note_unless_lasting.new.notes.by_part.entries c.args.cell v) (sym is) c.in_ok-lasts.ensures.watched;
  kept = c.in_ok-lasts.ensures.kept;
}

pub returns-then-lasts-clause-watched : goal.returns-then-lasts-clause-watched
returns-then-lasts-clause-watched c = λ A mark looks w before early.
    let os = c.args.heap.now.objects in
    let goes : (ℕ → Type 0) = λ v. IsLastingIn c.args.lasting.now v ⊎ IsNotedUnless c.in_ok-second_lasts.second_lasts c.note_unless_lasting-2.new.notes.by_part.entries c.args.cell v in
    elim
    (early-two os c.order.ensures.distinct c.args.rest c.in-Pair.member c.in-Pair.more c.in-Pair.ensures.shows.2 c.in-Pair.ensures.shows.0 w (omega (arith, before, c.requires.within)) early c.in-Pair-view.second c.in-Pair-view.field-1 c.in-Pair-view.ensures.shows.2 c.in-Pair-view.ensures.shows.0) [
      | inl is ↦ subst goes (sym is) (elim c.in_ok-lasts.ensures.watched [ inl l ↦ inl l | inr n ↦ absurd (true≢false (sym c.if-lasts.true ∙ n.0)) ])
      | inr is ↦ subst goes (sym is) c.in_ok-second_lasts.ensures.watched
    ]

pub returns-else-lasts-clause-watched : goal.returns-else-lasts-clause-watched
returns-else-lasts-clause-watched c = λ A mark looks w before early.
    let os = c.args.heap.now.objects in
    let goes : (ℕ → Type 0) = λ v. IsLastingIn c.args.lasting.now v ⊎ IsNotedUnless c.in_ok-lasts.lasts c.note_unless_lasting-2.new.notes.by_part.entries c.args.cell v in
    elim
    (early-two os c.order.ensures.distinct c.args.rest c.in-Pair.member c.in-Pair.more c.in-Pair.ensures.shows.2 c.in-Pair.ensures.shows.0 w (omega (arith, before, c.requires.within)) early c.in-Pair-view.second c.in-Pair-view.field-1 c.in-Pair-view.ensures.shows.2 c.in-Pair-view.ensures.shows.0) [
      | inl is ↦ subst goes (sym is) (elim c.in_ok-lasts.ensures.watched [ inl l ↦ inl l | inr n ↦ inr (n.0, c.in_ok-second_lasts.ensures.kept c.in-Pair.member c.args.cell n.1) ])
      | inr is ↦ subst goes (sym is) (elim c.in_ok-second_lasts.ensures.watched [ inl l ↦ inl l | inr n ↦ inr (c.if-lasts.false, n.1) ])
    ]
