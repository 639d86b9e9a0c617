-- Where the slicing of a book stands.
use Rattle.std.specs.Prelude.{◌≡◌, ℕ, List, length}
use Rattle.mw_model.specs.Terms.Object.{Name, Object, name_of_bytes}
use Rattle.mw_model.specs.Values.Primitive.{One}
use Rattle.mw_model.specs.Reports.Request.{Request, Slice}
use Rattle.mw_model.specs.Events.Theory.{initial}
use Rattle.mw_model.specs.Events.Fate.{after}
use Rattle.mw_commands.specs.Commands.Slicing.{accepted_events}
use Rattle.std.proofs.Common.{◌∙◌}
use Rattle.mw_kernel.specs.Knowledge.{Knowledge, theory_of}
use Rattle.mw_slice.specs.Slices.{events_of}
use Rattle.mw_answers.specs.Answering.{AnsweredBy}
use Rattle.mw_book.specs.Keeping.{KeepsTheory}
use Rattle.mw_book.specs.declared.slice.Slicing.{Slicing}

-- the name of the theorem that is asked for
abbrev pub name_asked : Slicing → Name
name_asked s = name_of_bytes s.name

-- These data were judged: the kernel has the theory that they lead to, the slicer has those that were accepted, and the number counts them.
pub record Sliced (s : Slicing) (k : Knowledge) (name : Name) (N : ℕ) (given : List Object) : Type 0 where
  pub named : name_asked s ≡ name
  pub theory : theory_of k ≡ after (initial One) given N
  pub steps : k.steps ≡ N
  pub counted : s.events ≡ length given
  pub accepted : events_of s.slicer ≡ accepted_events given N

-- the request is to slice the book for this theorem, and these data were judged
abbrev pub SlicedFor : Slicing → Knowledge → Request → List Object → Type 0
SlicedFor s k = AnsweredBy {P = Name × ℕ} (λ p. Slice p.0 p.1) (λ p. Sliced s k p.0 p.1)

-- a kernel that has read more has the same theory
pub sliced_still : (s : Slicing) (old new : Knowledge) → KeepsTheory old new → (q : Request) (given : List Object) → SlicedFor s old q given → SlicedFor s new q given
sliced_still s old new kept q given h =
    let k = h.2 in (
      h.0,
      h.1,
      record {
        named = k.named;
        theory = kept.0 ∙ k.theory;
        steps = kept.1 ∙ k.steps;
        counted = k.counted;
        accepted = k.accepted;
      },
    )
