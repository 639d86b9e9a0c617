-- A code of what a theory is read from, as a value that clauses see must have one.
use Rattle.std.specs.Prelude.{◌≡◌, ℕ, ◌⊎◌, Bool, true, false, List, Option, refl}
use Rattle.std.specs.Coded.{Coded, code_by, coded_list, coded_option, coded×, coded⊎, coded_ℕ, coded_bool}
use mathlib.Core.Logic.{inl, inr}
use Rattle.mw_model.specs.Values.Primitive.{Profile, One, Two}
use Rattle.mw_preamble.specs.declared.definition.Definition.{Definition}
use Rattle.mw_preamble.specs.declared.definition.Definition.TheVariants.{Function, Witness}
use Rattle.mw_theory.specs.Knowledge.{Parts}

-- the parts of a function, and those of a witness
abbrev Members : Type 0
Members = (ℕ × (ℕ × ℕ)) ⊎ (ℕ × (ℕ × (ℕ × ℕ)))

abbrev members : Definition → Members
members (Function name formals body) = inl (name, (formals, body))
members (Witness name bound free body) = inr (name, (bound, (free, body)))

abbrev whole : Members → Definition
whole (inl p) = Function p.0 p.1.0 p.1.1
whole (inr p) = Witness p.0 p.1.0 p.1.1.0 p.1.1.1

pub whole-members : (d : Definition) → whole (members d) ≡ d
whole-members (Function name formals body) = refl
whole-members (Witness name bound free body) = refl

abbrev pub coded_definition : Coded Definition
coded_definition = code_by Members (coded⊎ (coded× coded_ℕ (coded× coded_ℕ coded_ℕ)) (coded× coded_ℕ (coded× coded_ℕ (coded× coded_ℕ coded_ℕ)))) members whole whole-members

abbrev bit : Profile → Bool
bit One = false
bit Two = true

abbrev profile_by : Bool → Profile
profile_by false = One
profile_by true = Two

pub profile-back : (P : Profile) → profile_by (bit P) ≡ P
profile-back One = refl
profile-back Two = refl

abbrev pub coded_profile : Coded Profile
coded_profile = code_by Bool coded_bool bit profile_by profile-back

abbrev pub coded_parts : Coded Parts
coded_parts =
    code_by (Profile × (ℕ × (ℕ × (ℕ × (List (List Definition) × (Option ℕ × ℕ)))))) (coded× coded_profile (coded× coded_ℕ (coded× coded_ℕ (coded× coded_ℕ (coded× (coded_list (coded_list coded_definition)) (coded× (coded_option coded_ℕ) coded_ℕ))))))
    (λ t. (t.profile, (t.axioms, (t.theorems, (t.arity_list, (t.entries, (t.checker, t.level))))))) (λ p. record { profile = p.0; axioms = p.1.0; theorems = p.1.1.0; arity_list = p.1.1.1.0; entries = p.1.1.1.1.0; checker = p.1.1.1.1.1.0; level = p.1.1.1.1.1.1 }) (λ _. refl)
