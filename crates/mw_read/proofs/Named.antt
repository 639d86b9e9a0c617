-- Labels and what the map says of them.
use Rattle.std.proofs.Common.{◌≡◌, ◌<◌, ℕ, Bool, true, false, not, cond, List, Option, Some, None, is_some, IfSome, MatchBool, refl, sym, ap, subst, true≢false, eqb-true, ◌∙◌, if◌then◌else◌, eqb, nat_eq}
use Rattle.std.proofs.Common.{arith}
use Rattle.std.proofs.lemmas.Grind.{common_steps}
use Rattle.std.specs.Map.{lookup}
use Rattle.mw_model.specs.Terms.Object.{Object}
use Rattle.mw_model.specs.Texts.Grammar.{Labels, Unused, Label, is_begun, labelled, complete}
use Rattle.mw_read.specs.Named.{status, seen, seen_at, Agree}

abbrev pub join : Option (Option Object) → Option Object
join None = None
join (Some o) = o

pub begun_is : (n : ℕ) (ls : Labels) → is_begun n ls ≡ is_some (status n ls)
begun_is n Unused = refl
begun_is n (Label m x ls) = go (begun_is n ls) (eqb n m)
  where
    go : is_begun n ls ≡ is_some (status n ls) → (b : Bool) → (if b then true else is_begun n ls) ≡ is_some (if b then Some x else status n ls)
    go h true = refl
    go h false = h

pub named_is : (n : ℕ) (ls : Labels) → labelled n ls ≡ join (status n ls)
named_is n Unused = refl
named_is n (Label m x ls) = go (named_is n ls) (eqb n m)
  where
    go : labelled n ls ≡ join (status n ls) → (b : Bool) → (if b then x else labelled n ls) ≡ join (if b then Some x else status n ls)
    go h true = refl
    go h false = h

-- the map's test of keys is that of the labels
key_eqb : (n q : ℕ) → nat_eq n q ≡ eqb q n
key_eqb n q = grind (arith, common_steps)

seen_cond : (os : List Object) (b : Bool) (o : Option ℕ) (g : Option (Option ℕ)) → seen os (cond b (Some o) g) ≡ (if b then Some (seen_at os o) else seen os g)
seen_cond os true o g = refl
seen_cond os false o g = refl

pub insert_is : (os : List Object) (old new : List (ℕ × Option ℕ)) (n q : ℕ) (o : Option ℕ) → lookup (nat_eq q) new ≡ cond (nat_eq n q) (Some o) (lookup (nat_eq q) old) →
    seen os (lookup (nat_eq q) new) ≡ (if eqb q n then Some (seen_at os o) else seen os (lookup (nat_eq q) old))
insert_is os old new n q o h =
    ap (seen os) h ∙ seen_cond os (nat_eq n q) o (lookup (nat_eq q) old) ∙ ap (λ b. if b then Some (seen_at os o) else seen os (lookup (nat_eq q) old)) (key_eqb n q)

-- a key that was new, or known
pub new_or_known : (P Q : Type 0) (s b : Bool) → s ≡ not b → (s ≡ false → P) → (s ≡ true → Q) → MatchBool b P Q
new_or_known P Q s true e f g = f e
new_or_known P Q s false e f g = g e

pub listed_at : (k x : ℕ) (b : Bool) (g new : Option (Option ℕ)) → new ≡ cond b (Some (Some x)) g → x < k → IfSome g (λ o. IfSome o (λ r. r < k)) → IfSome new (λ o. IfSome o (λ r. r < k))
listed_at k x b g new e l h = subst (λ u. IfSome u (λ o. IfSome o (λ r. r < k))) (sym e) (at b)
  where
    at : (b : Bool) → IfSome (cond b (Some (Some x)) g) (λ o. IfSome o (λ r. r < k))
    at true = l
    at false = h

seen_some : (os : List Object) (g : Option (Option ℕ)) → is_some (seen os g) ≡ is_some g
seen_some os None = refl
seen_some os (Some o) = refl

pub known : (os : List Object) (m : List (ℕ × Option ℕ)) (ls : Labels) (n : ℕ) → Agree os m ls → is_begun n ls ≡ is_some (lookup (nat_eq n) m)
known os m ls n h = begun_is n ls ∙ ap is_some (sym (h n)) ∙ seen_some os (lookup (nat_eq n) m)

pub names : (os : List Object) (m : List (ℕ × Option ℕ)) (ls : Labels) (n : ℕ) → Agree os m ls → join (seen os (lookup (nat_eq n) m)) ≡ labelled n ls
names os m ls n h = ap join (h n) ∙ sym (named_is n ls)

-- a label that is begun becomes complete, and all others stay
pub complete_is : (n q : ℕ) (x : Object) (ls : Labels) → is_begun n ls ≡ true → status q (complete n x ls) ≡ (if eqb q n then Some (Some x) else status q ls)
complete_is n q x Unused h = absurd (true≢false (sym h))
complete_is n q x (Label m y ls) h = go (λ k. complete_is n q x ls k) (eqb n m) refl
  where
    at_m : eqb n m ≡ true → eqb q m ≡ eqb q n
    at_m e = ap (eqb q) (sym (eqb-true n m e))

    later : is_begun n ls ≡ true → (b c : Bool) → eqb q m ≡ b → eqb q n ≡ c → eqb n m ≡ false →
        (if b then Some y else (if c then Some (Some x) else status q ls)) ≡ (if c then Some (Some x) else (if b then Some y else status q ls))
    later k true true u v w = absurd (true≢false (sym (ap (λ z. eqb z m) (sym (eqb-true q n v)) ∙ u) ∙ w))
    later k true false u v w = refl
    later k false c u v w = refl

    go : (is_begun n ls ≡ true → status q (complete n x ls) ≡ (if eqb q n then Some (Some x) else status q ls)) → (b : Bool) → eqb n m ≡ b → status q (complete n x (Label m y ls)) ≡ (if eqb q n then Some (Some x) else status q (Label m y ls))
    go f true e =
        ap (λ (v : Bool). status q (if v then Label m (Some x) ls else Label m y (complete n x ls))) e
        ∙ ap (λ v. if v then Some (Some x) else status q ls) (at_m e)
        ∙ twice (eqb q n) (eqb q m) (sym (at_m e))
      where
        twice : (c d : Bool) → c ≡ d → (if c then Some (Some x) else status q ls) ≡ (if c then Some (Some x) else (if d then Some y else status q ls))
        twice true d u = refl
        twice false d u = ap (λ v. if v then Some y else status q ls) u
    go f false e =
        let k : is_begun n ls ≡ true = sym (ap (λ v. if v then true else is_begun n ls) e) ∙ h in
        ap (λ (v : Bool). status q (if v then Label m (Some x) ls else Label m y (complete n x ls))) e
        ∙ ap (λ v. if eqb q m then Some y else v) (f k)
        ∙ later k (eqb q m) (eqb q n) refl refl e

pub complete_not : (n : ℕ) (x : Object) (ls : Labels) → is_begun n ls ≡ false → complete n x ls ≡ ls
complete_not n x Unused h = refl
complete_not n x (Label m y ls) h = go (λ k. complete_not n x ls k) (eqb n m) refl
  where
    go : (is_begun n ls ≡ false → complete n x ls ≡ ls) → (b : Bool) → eqb n m ≡ b → complete n x (Label m y ls) ≡ Label m y ls
    go f true e = absurd (true≢false (sym (ap (λ v. if v then true else is_begun n ls) e) ∙ h))
    go f false e =
        ap (λ v. if v then Label m (Some x) ls else Label m y (complete n x ls)) e
        ∙ ap (Label m y) (f (sym (ap (λ v. if v then true else is_begun n ls) e) ∙ h))
