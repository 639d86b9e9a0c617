-- Names by their bytes.
use Rattle.std.proofs.Common.{◌≡◌, ℕ, true, List, sym, ap₂, ◌∙◌, subst, nat_eq}
use Rattle.std.specs.Cmp.Lexicographic.{pointwise}
use Rattle.std.proofs.lemmas.Slice.Eq.{bytes_eq-Decides}
use Rattle.std.proofs.lemmas.Bool.Decides.{same_from_decides}
use Rattle.mw_model.specs.Terms.Object.{is_name, same_bytes, same_name, name_of_bytes}
use Rattle.mw_model.proofs.Names.{bytes-name_of_bytes}
use Rattle.mw_model.proofs.Names.{same_bytes-eq, same_bytes-refl}

same_bytes-from : (a b : List ℕ) → b ≡ a → same_bytes a b ≡ true
same_bytes-from a b e = subst (λ c. same_bytes a c ≡ true) (sym e) (same_bytes-refl a)

pub same_bytes-pointwise : (a b : List ℕ) → same_bytes a b ≡ pointwise nat_eq b a
same_bytes-pointwise a b = same_from_decides {P = b ≡ a} (same_bytes a b) (pointwise nat_eq b a) ((λ h. sym (same_bytes-eq a b h)), same_bytes-from a b) (bytes_eq-Decides b a)

-- two names are the same where their bytes are
pub same_name-bytes : (a b : List ℕ) → is_name a ≡ true → is_name b ≡ true → same_name (name_of_bytes a) (name_of_bytes b) ≡ pointwise nat_eq b a
same_name-bytes a b ha hb = ap₂ same_bytes (bytes-name_of_bytes a ha) (bytes-name_of_bytes b hb) ∙ same_bytes-pointwise a b
