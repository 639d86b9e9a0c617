-- What a PROFILE comes to, by whether the theory is the initial one and by the profile of its number.
use Rattle.std.proofs.Common.{◌≡◌, ℕ, Bool, true, false, Option, Some, None, option_map, refl, sym, ap, ap₂, ◌∙◌}
use Rattle.mw_model.specs.Terms.Object.{Object}
use Rattle.mw_model.specs.Values.Primitive.{Profile}
use Rattle.mw_model.specs.Terms.Reading.{when}
use Rattle.mw_model.specs.Events.Theory.{Theory}
use Rattle.mw_model.specs.Events.Refusal.{PROFILE, refuse, accept, need}
use Rattle.mw_model.specs.Events.Fate.{profile, begin_profile}
use Rattle.mw_model.specs.Events.Fate.{profile_of as profile_asked}
use Rattle.mw_heap.specs.Objects.{object_at}
use Rattle.mw_heap.specs.Variants.{profile_of}
use Rattle.mw_heap.specs.declared.vocabulary.profile.Profile.{Profile as Level}
use Rattle.mw_theory.specs.declared.world.World.{World}
use Rattle.mw_theory.specs.Knowledge.{is_first}
use Rattle.mw_theory.specs.Worlds.{theory_in, IsWorld}
use Rattle.mw_theory.specs.Words.{profile_event}
use Rattle.mw_theory.proofs.Held.{held}

module _ (t : Theory) (x : Object) where
  profile-by : (b : Bool) (o : Option Profile) → is_first t ≡ b → profile_asked x ≡ o → profile t (profile_event x) ≡ need t PROFILE (when b o) (λ P. accept (begin_profile t P))
  unfolding is_first
  profile-by b o is_b is_o = ap₂ (λ c p. need t PROFILE (when c p) (λ P. accept (begin_profile t P))) is_b is_o

  not-first : is_first t ≡ false → profile t (profile_event x) ≡ refuse t PROFILE
  unfolding need
  not-first later = profile-by false (profile_asked x) later refl

  no-profile : is_first t ≡ true → profile_asked x ≡ None → profile t (profile_event x) ≡ refuse t PROFILE
  unfolding need
  no-profile first none = profile-by true None first none

  begins-profile : (P : Profile) → is_first t ≡ true → profile_asked x ≡ Some P → profile t (profile_event x) ≡ accept (begin_profile t P)
  unfolding need
  begins-profile P first is = profile-by true (Some P) first is

module _ (w : World) (h : IsWorld w) (number : ℕ) where
  first : (b : Bool) → w.theory.is_initial ≡ b → is_first (theory_in w) ≡ b
  first b e = sym (held _ _ _ _ h).first ∙ e

  pub later-refused : w.theory.is_initial ≡ false → profile (theory_in w) (profile_event (object_at w.heap.objects number)) ≡ refuse (theory_in w) PROFILE
  later-refused e = not-first (theory_in w) (object_at w.heap.objects number) (first false e)

  pub none-refused : w.theory.is_initial ≡ true → (r : Option Level) → r ≡ None → option_map profile_of r ≡ profile_asked (object_at w.heap.objects number) → profile (theory_in w) (profile_event (object_at w.heap.objects number)) ≡ refuse (theory_in w) PROFILE
  none-refused e r r_is told = no-profile (theory_in w) (object_at w.heap.objects number) (first true e) (sym told ∙ ap (option_map profile_of) r_is)

  pub profile-begun : w.theory.is_initial ≡ true → (r : Option Level) (l : Level) → r ≡ Some l → option_map profile_of r ≡ profile_asked (object_at w.heap.objects number) → profile (theory_in w) (profile_event (object_at w.heap.objects number)) ≡ accept (begin_profile (theory_in w) (profile_of l))
  profile-begun e r l r_is told = begins-profile (theory_in w) (object_at w.heap.objects number) (profile_of l) (first true e) (sym told ∙ ap (option_map profile_of) r_is)
