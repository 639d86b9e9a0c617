-- What is shown of drafts, by the reason.
use Rattle.std.proofs.Common.{◌≡◌, List, refl}
use Rattle.mw_model.specs.Terms.Term.{ArityTable}
use Rattle.mw_model.specs.Events.Admission.{Draft}
use Rattle.mw_heap.specs.Variants.{refusal_of}
use Rattle.mw_heap.specs.declared.vocabulary.refusal.Refusal.{Refusal as Reason}
use Rattle.mw_heap.specs.declared.vocabulary.refusal.Refusal.TheVariants as reason
use Rattle.mw_commands.specs.Commands.Explanation.{draft_shown, first_shown, drafts_shown}

pub by-drafts : (r : Reason) (A B : ArityTable) (ds : List Draft) → (r ≡ reason.Name → ⊥) → (r ≡ reason.Nested → ⊥) → first_shown (draft_shown (refusal_of r) A B) 1 ds ≡ drafts_shown (refusal_of r) A B ds
by-drafts reason.Name A B ds n k = absurd (n refl)
by-drafts reason.Nested A B ds n k = absurd (k refl)
by-drafts _ A B ds n k = refl

pub no-name : (r : Reason) → (r ≡ reason.Name → ⊥) → (refusal_of r ≡ refusal_of reason.Name) → ⊥
no-name reason.Name n e = n refl
no-name _ n e = cc

pub no-formals : (r : Reason) → (r ≡ reason.Formals → ⊥) → (refusal_of r ≡ refusal_of reason.Formals) → ⊥
no-formals reason.Formals n e = n refl
no-formals _ n e = cc
