-- A kernel whose heap grew, told of what it held before.
use Rattle.std.proofs.Common.{◌≡◌, ℕ, List, Option, option_map, sym, ap, ◌∙◌, subst}
use Rattle.mw_model.specs.Terms.Object.{Object}
use Rattle.mw_model.specs.Events.Refusal.{Refusal}
use Rattle.mw_heap.specs.declared.vocabulary.refusal.Refusal.{Refusal as Reason}
use Rattle.mw_heap.specs.Variants.{refusal_of}
use Rattle.mw_heap.specs.Objects.{object_at, IsIn, Grows}
use Rattle.mw_heap.proofs.Objects.{object_at-Grows}
use Rattle.mw_theory.specs.declared.world.World.{World}
use Rattle.mw_theory.specs.Knowledge.{parts_of, meant}
use Rattle.mw_theory.specs.Worlds.{theory_in, IsWorld}
use Rattle.mw_kernel.specs.Knowledge.{Knowledge, theory_of}
use Rattle.mw_kernel.specs.Switching.{switch_refusal}
use Rattle.mw_theory.proofs.CallerLemmas.{grown_theory}

-- what a kernel of this world holds
abbrev pub held-by : World → ℕ → Knowledge
held-by w N = record { objects = w.heap.objects; needed = w.needed; parts = parts_of w.theory; steps = N }

module _ (w : World) {N : ℕ} (h : IsWorld w) (old : Knowledge) (is : held-by w N ≡ old) (new : List Object) (grows : Grows w.heap.objects new) where
  pub told-theory : meant new (parts_of w.theory) ≡ theory_of old
  told-theory = grown_theory _ _ _ _ h new grows ∙ ap theory_of is

  pub object-told : (x : ℕ) → IsIn old.objects x → object_at new x ≡ object_at old.objects x
  object-told x within = object_at-Grows w.heap.objects new grows x (subst (λ v. IsIn v.objects x) (sym is) within) ∙ ap (λ v. object_at v.objects x) is

  pub switch-told : (name : ℕ) (r : Option Reason) (q : Option Refusal) → option_map refusal_of r ≡ q → option_map refusal_of r ≡ switch_refusal (theory_in w) (object_at w.heap.objects name) → switch_refusal (theory_of old) (object_at old.objects name) ≡ q
  switch-told name r q r_is told = subst (λ v. switch_refusal (theory_of v) (object_at v.objects name) ≡ q) is (sym told ∙ r_is)

-- looks are no part of what a kernel holds
pub looked : (w new : World) (N : ℕ) → new.heap.objects ≡ w.heap.objects → new ≡ record w { heap = new.heap } → held-by new N ≡ held-by w N
looked w new N objects rest =
    ap (λ v. record { objects = new.heap.objects; needed = v.needed; parts = parts_of v.theory; steps = N }) rest
    ∙ ap (λ os. record { objects = os; needed = w.needed; parts = parts_of w.theory; steps = N }) objects
