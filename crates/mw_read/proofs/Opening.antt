-- What the beginning of a list or a quote makes of a stack.
use Rattle.std.proofs.Common.{◌≡◌, ℕ, false, List, [], ◌∷◌, ◌++◌, length, refl, sym, ◌∙◌, subst}
use Rattle.mw_model.specs.Terms.Object.{Object}
use Rattle.mw_model.specs.Texts.Lexemes.{Lexeme}
use Rattle.mw_model.specs.Texts.Grammar.{Labels}
use Rattle.mw_read.specs.Machine.{Frame, State, Within, Turn, quiet, taken, on, labels_of}
use Rattle.mw_read.specs.Named.{Agree, IsListed}
use Rattle.mw_read.specs.Piles.{Pile, Frames, piled, MayLie, pile_of, Does, HoldsDatum, IsFrames, IsUnder, is_ready}
use Rattle.mw_read.specs.Stacks.{IsStack, Means}
use Rattle.mw_read.specs.declared.stack.Layer.{Layer}
use Rattle.mw_read.specs.declared.stack.Stack.{Stack}
use Rattle.mw_read.specs.declared.step.Outcome.TheVariants as outcomes
use Rattle.mw_read.proofs.Turns.{IsBeginning, full_is, ready_frames, stack_more, push_frame, on_take, shows_agree, shows_sound, frames_of}

-- a layer that begins a frame, where a datum may begin
pub frame_begins : (os : List Object) (old new : Stack) (l : Layer) (f : Frame) (x : Lexeme) (o : ℕ) → IsStack os old → is_ready (pile_of os old.layers.items) ≡ false → new.layers.items ≡ old.layers.items ++ l ∷ [] → new.labels.entries ≡ old.labels.entries →
    ((p : Pile) → IsFrames p → MayLie p l) → IsUnder (length os) l → ((s : List Frame) → piled os (Frames s) l ≡ Frames (f ∷ s)) → IsBeginning x o → ((s : List Frame) (js : Labels) → taken s js x ≡ quiet (Within f s js)) →
    IsStack os new × HoldsDatum os outcomes.Pending × ((t : State) → Means os old t → Does os new.layers.items new.labels.entries outcomes.Pending (on t x))
frame_begins os old new l f x o s n e m may under adds begins takes =
    let p = pile_of os old.layers.items in (
      record {
        pile = stack_more os old.layers.items new.layers.items l e s.pile (may p (ready_frames p n)) under;
        listed = subst (λ u. IsListed (length os) u) (sym m) s.listed;
      },
      tt,
      λ t h.
          let q = sym (full_is os p old.labels.entries t h) ∙ n in
          subst (λ (w : Turn). Does os new.layers.items new.labels.entries outcomes.Pending w)
          (sym (on_take t x o q (shows_sound os p old.labels.entries t h) begins ∙ takes (frames_of t) (labels_of t)))
          (refl, push_frame os old.layers.items new.layers.items old.labels.entries new.labels.entries t l f (labels_of t) e h q adds (subst (λ u. Agree os u (labels_of t)) (sym m) (shows_agree os p old.labels.entries t h))),
    )
