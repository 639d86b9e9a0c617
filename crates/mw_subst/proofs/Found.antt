-- What is found once one more part was made.
use Rattle.std.proofs.Common.{◌≡◌, ℕ, Bool, true, false, cond, nat_eq, List, [], ◌∷◌, ◌++◌, Option, Some, None, ◌⊎◌, inl, inr, refl, sym, ap, ◌∙◌, ◌||◌, ◌<◌, length, subst, eqb-true, eq-eqb, arith}
use Rattle.std.specs.List.{IsDistinct, list_any}
use Rattle.std.specs.Map.{lookup, keys_of}
use Rattle.std.specs.Cmp.{nat_eq_equiv}
use Rattle.std.proofs.lemmas.Map.Keys.{IsDistinct-push, IsDistinct-from_apart}
use Rattle.mw_subst.specs.declared.part.Part.{Part}
use Rattle.mw_subst.specs.declared.part.Part.TheVariants.{Term, Terms}
use Rattle.mw_subst.specs.Sigma.{term_or}
use Rattle.mw_subst.specs.Memo.{found, IsFound, Adds, AreUnique}
use Rattle.mw_subst.proofs.SigmaObject.{lookup-push}

pub none_found_at_first : (p : Part) → IsFound [] [] p → ⊥
none_found_at_first (Term x) f = cc f.1
none_found_at_first (Terms x) f = cc f.1

kept : (o d : Option ℕ) (s : ℕ) → o ≡ Some s → term_or o d ≡ Some s
kept (Some t) d s e = e
kept None d s e = cc

added : (o : Option ℕ) (b : Bool) (r : ℕ) → b ≡ true → (s : ℕ) × (term_or o (cond b (Some r) None) ≡ Some s)
added (Some t) b r e = (t, refl)
added None true r e = (r, refl)
added None false r e = cc

before_or_added : (o : Option ℕ) (b : Bool) (r s : ℕ) → term_or o (cond b (Some r) None) ≡ Some s → (o ≡ Some s) ⊎ (b ≡ true)
before_or_added (Some t) b r s e = inl e
before_or_added None true r s e = inr refl
before_or_added None false r s e = cc

module _ (terms lists more_terms more_lists : List (ℕ × ℕ)) (r : ℕ) where
  pub found-kept : (part p : Part) → Adds terms lists more_terms more_lists part r → IsFound terms lists p → IsFound more_terms more_lists p
  found-kept (Term k) (Term q) a f = (f.0, ap (lookup (nat_eq q)) a.0 ∙ (lookup-push terms k r q ∙ kept _ _ f.0 f.1))
  found-kept (Term k) (Terms q) a f = (f.0, ap (lookup (nat_eq q)) a.1 ∙ f.1)
  found-kept (Terms k) (Term q) a f = (f.0, ap (lookup (nat_eq q)) a.0 ∙ f.1)
  found-kept (Terms k) (Terms q) a f = (f.0, ap (lookup (nat_eq q)) a.1 ∙ (lookup-push lists k r q ∙ kept _ _ f.0 f.1))

  pub found-added : (part : Part) → Adds terms lists more_terms more_lists part r → IsFound more_terms more_lists part
  found-added (Term k) a = let f = added (lookup (nat_eq k) terms) (nat_eq k k) r (eq-eqb k k refl) in (f.0, ap (lookup (nat_eq k)) a.0 ∙ (lookup-push terms k r k ∙ f.1))
  found-added (Terms k) a = let f = added (lookup (nat_eq k) lists) (nat_eq k k) r (eq-eqb k k refl) in (f.0, ap (lookup (nat_eq k)) a.1 ∙ (lookup-push lists k r k ∙ f.1))

  pub found-before : (part p : Part) → Adds terms lists more_terms more_lists part r → IsFound more_terms more_lists p → IsFound terms lists p ⊎ (p ≡ part)
  found-before (Term k) (Term q) a f =
      elim (before_or_added (lookup (nat_eq q) terms) (nat_eq q k) r f.0 (sym (ap (lookup (nat_eq q)) a.0 ∙ lookup-push terms k r q) ∙ f.1)) [ inl e ↦ inl (f.0, e) | inr e ↦ inr (ap Term (eqb-true q k e)) ]
  found-before (Term k) (Terms q) a f = inl (f.0, sym (ap (lookup (nat_eq q)) a.1) ∙ f.1)
  found-before (Terms k) (Term q) a f = inl (f.0, sym (ap (lookup (nat_eq q)) a.0) ∙ f.1)
  found-before (Terms k) (Terms q) a f =
      elim (before_or_added (lookup (nat_eq q) lists) (nat_eq q k) r f.0 (sym (ap (lookup (nat_eq q)) a.1 ∙ lookup-push lists k r q) ∙ f.1)) [ inl e ↦ inl (f.0, e) | inr e ↦ inr (ap Terms (eqb-true q k e)) ]

-- a cell without an entry is no key
no_key : (x : ℕ) (es : List (ℕ × ℕ)) → lookup (nat_eq x) es ≡ None → list_any (nat_eq x) (keys_of es) ≡ false
no_key x [] none = refl
no_key x (e ∷ es) none = go (nat_eq x e.0) none (no_key x es)
  where
    go : (b : Bool) → cond b (Some e.1) (lookup (nat_eq x) es) ≡ None → (lookup (nat_eq x) es ≡ None → list_any (nat_eq x) (keys_of es) ≡ false) → (b || list_any (nat_eq x) (keys_of es)) ≡ false
    go true k rest = cc
    go false k rest = rest k

keys-push : (es : List (ℕ × ℕ)) (x r : ℕ) → keys_of (es ++ (x, r) ∷ []) ≡ keys_of es ++ x ∷ []
keys-push [] x r = refl
keys-push (e ∷ es) x r = ap (λ ks. e.0 ∷ ks) (keys-push es x r)

distinct-push : (es : List (ℕ × ℕ)) (x r : ℕ) → IsDistinct nat_eq (keys_of es) → lookup (nat_eq x) es ≡ None → IsDistinct nat_eq (keys_of (es ++ (x, r) ∷ []))
distinct-push es x r d none = subst (IsDistinct nat_eq) (sym (keys-push es x r)) (IsDistinct-push nat_eq_equiv (keys_of es) x d (no_key x es none))

pub none_unique : AreUnique [] []
none_unique = (none_distinct, none_distinct)
  where
    none_distinct : IsDistinct nat_eq []
    none_distinct = IsDistinct-from_apart nat_eq [] (λ i j d k l. absurd (omega arith))

pub unique-added : (terms lists more_terms more_lists : List (ℕ × ℕ)) (part : Part) (r : ℕ) → AreUnique terms lists → found terms lists part ≡ None → Adds terms lists more_terms more_lists part r → AreUnique more_terms more_lists
unique-added terms lists more_terms more_lists (Term k) r u none a = (subst (λ es. IsDistinct nat_eq (keys_of es)) (sym a.0) (distinct-push terms k r u.0 none), subst (λ es. IsDistinct nat_eq (keys_of es)) (sym a.1) u.1)
unique-added terms lists more_terms more_lists (Terms k) r u none a = (subst (λ es. IsDistinct nat_eq (keys_of es)) (sym a.0) u.0, subst (λ es. IsDistinct nat_eq (keys_of es)) (sym a.1) (distinct-push lists k r u.1 none))
