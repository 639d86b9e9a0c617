-- Constituents by their class.
use Rattle.std.proofs.Common.{◌≡◌, ℕ, Bool, true, false, eqb, refl, sym, ap, ◌∙◌, if◌then◌else◌}
use Rattle.mw_model.specs.Texts.Lexemes.{Class, White, Semicolon, Opening, Closing, Apostrophe, Bar, Hash, Constituent, Other, class, class_else, is_constituent, is_white}

if_not : (v : Bool) (j k l : Class) → (j ≡ l → ⊥) → (k ≡ l → ⊥) → (if v then j else k) ≡ l → ⊥
if_not true j k l f g h = f h
if_not false j k l f g h = g h

else_not : (b : ℕ) → class_else b ≡ Constituent → ⊥
else_not b =
    if_not (is_white b) White _ Constituent (λ h. cc)
    (if_not (eqb b 59) Semicolon _ Constituent (λ h. cc)
    (if_not (eqb b 40) Opening _ Constituent (λ h. cc)
    (if_not (eqb b 41) Closing _ Constituent (λ h. cc)
    (if_not (eqb b 39) Apostrophe _ Constituent (λ h. cc)
    (if_not (eqb b 124) Bar _ Constituent (λ h. cc) (if_not (eqb b 35) Hash Other Constituent (λ h. cc) (λ h. cc)))))))

pub constituent_class : (b : ℕ) → class b ≡ Constituent → is_constituent b ≡ true
constituent_class b h = go (is_constituent b) refl
  where
    go : (v : Bool) → is_constituent b ≡ v → is_constituent b ≡ true
    go true q = q
    go false q = absurd (else_not b (sym (ap (λ v. if v then Constituent else class_else b) q) ∙ h))

pub other_class : (b : ℕ) → (class b ≡ Constituent → ⊥) → is_constituent b ≡ false
other_class b h = go (is_constituent b) refl
  where
    go : (v : Bool) → is_constituent b ≡ v → is_constituent b ≡ false
    go true q = absurd (h (ap (λ v. if v then Constituent else class_else b) q))
    go false q = q
