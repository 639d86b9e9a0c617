-- Each word by what stands where its proofs would.
use Rattle.std.proofs.Common.{inl, inr, refl, sym, ap, ◌∙◌, subst, is_some}
use Rattle.mw_model.specs.Terms.Reading.{when}
use Rattle.mw_model.specs.Events.Fate as word
use Rattle.mw_commands.specs.Commands.Log.{natural_of, naturals_of}
use Rattle.mw_heap.specs.Objects.{object_at}
use Rattle.mw_theory.specs.Words.{IsEvent, event_object}
use Rattle.mw_theory.specs.declared.event.Event.TheVariants.{Verify, Define, Skolem, DefineAll, Profile}
use Rattle.mw_flat.proofs.Entries.{one-present, entry-is}
use Rattle.mw_flat.proofs.entry.is_entry.Goals as goal

pub returns-in-Verify : goal.returns-in-Verify
returns-in-Verify c =
    let os = c.args.heap.now.objects in
    let m = c.in-Verify in
    let e = Verify m.name m.formula m.proof in
    let event = subst (IsEvent os c.args.x) m.is c.requires.event in
    c.is_natural.ensures ∙ sym (entry-is (object_at os c.args.x) (event_object os e) word.Verify c.in_range.ensures event.0 refl ∙ one-present (natural_of (object_at os m.proof)))

pub returns-in-Define : goal.returns-in-Define
returns-in-Define c =
    let os = c.args.heap.now.objects in
    let m = c.in-Define in
    let e = Define m.name m.formals m.body m.measure m.proofs in
    let event = subst (IsEvent os c.args.x) m.is c.requires.event in
    c.are_naturals.ensures ∙ sym (entry-is (object_at os c.args.x) (event_object os e) word.Define c.in_range.ensures event.0 refl)

pub returns-then-branch : goal.returns-then-branch
returns-then-branch c =
    let os = c.args.heap.now.objects in
    let m = c.in-DefineAll in
    let e = DefineAll m.definitions m.proofs in
    let event = subst (IsEvent os c.args.x) m.is c.requires.event in
    let drafts = c.in_ok-are_drafts-in-DefineAll.ensures in
    c.are_naturals-then-branch.ensures
    ∙ sym (entry-is (object_at os c.args.x) (event_object os e) word.DefineAll c.in_range.ensures event.0 refl ∙ ap (λ b. is_some (when b (naturals_of (object_at os m.proofs)))) (sym drafts ∙ c.if-branch.true))

pub returns-in-Skolem : goal.returns-in-Skolem
returns-in-Skolem c =
    let os = c.args.heap.now.objects in
    let x = object_at os c.args.x in
    elim c.in-Skolem.is [
      | inl m ↦
          let event = subst (IsEvent os c.args.x) m.4 c.requires.event in
          sym (entry-is x (event_object os (Skolem m.0 m.1 m.2 m.3)) word.Skolem c.in_range.ensures event.0 refl)
      | inr m ↦
          let event = subst (IsEvent os c.args.x) m.1 c.requires.event in
          sym (entry-is x (event_object os (Profile m.0)) word.SetProfile c.in_range.ensures event.0 refl)
    ]
