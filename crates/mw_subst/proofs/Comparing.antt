-- Comparing a cell with the instance of a term: what is noted and what waits.
use Rattle.std.proofs.Common.{◌≡◌, ℕ, ◌+◌, ◌*◌, ◌-◌, ◌<◌, Bool, true, false, cond, nat_eq, List, [], ◌∷◌, ◌++◌, length, length-append, append-nil, Option, Some, None, ◌⊎◌, inl, inr, refl, sym, ap, ap₂, ◌∙◌, subst, eqb-true, eq-eqb, arith}
use Rattle.std.specs.Map.{lookup}
use Rattle.std.specs.List.{AllByRecursion}
use Rattle.mw_model.specs.Terms.Object.{Object, Natural, Symbol, Pair, NIL, symbol, same_object}
use Rattle.mw_model.specs.Values.Primitive.{is_pair}
use Rattle.mw_model.specs.Laws.Rules.{substitute_object, substitute_each_object, image_object}
use Rattle.mw_model.proofs.Names.{same_object-eq, same_object-from}
use Rattle.mw_heap.specs.Objects.{object_at, IsIn, AreDistinct}
use Rattle.mw_subst.specs.declared.part.Part.{Part}
use Rattle.mw_subst.specs.declared.part.Part.TheVariants.{Term, Terms}
use Rattle.mw_subst.specs.Sigma.{term_or}
use Rattle.mw_subst.specs.Memo.{cell_of, substituted, found, Adds, AreUnique}
use Rattle.mw_subst.specs.declared.memo.Memo.{Memo}
use Rattle.mw_subst.specs.Instances.{IsInstance, IsClaimIn, Enters, IsEntered, IsTaken}
use Rattle.mw_subst.proofs.SigmaObject.{lookup-push}
use Rattle.mw_subst.proofs.Found.{none_found_at_first, none_unique}
use Rattle.mw_subst.proofs.Made.{substitute-list}
use Rattle.mw_subst.proofs.Path.{AreSmall, small-added, few, length-added}

abbrev pub Claims : Type 0
Claims = List (Part × ℕ)

module _ (P : Part × ℕ → Type 0) where
  all-append : (xs ys : Claims) → AllByRecursion P xs → AllByRecursion P ys → AllByRecursion P (xs ++ ys)
  all-append [] ys h k = k
  all-append (x ∷ xs) ys h k = (h.0, all-append xs ys h.1 k)

  all-split : (xs ys : Claims) → AllByRecursion P (xs ++ ys) → AllByRecursion P xs × AllByRecursion P ys
  all-split [] ys h = (tt, h)
  all-split (x ∷ xs) ys h = let r = all-split xs ys h.1 in ((h.0, r.0), r.1)

all-map : (P Q : Part × ℕ → Type 0) → ((c : Part × ℕ) → P c → Q c) → (xs : Claims) → AllByRecursion P xs → AllByRecursion Q xs
all-map P Q f [] h = tt
all-map P Q f (x ∷ xs) h = (f x h.0, all-map P Q f xs h.1)

-- what two facts give of each
all-zip : (P Q R : Part × ℕ → Type 0) → ((c : Part × ℕ) → P c → Q c → R c) → (xs : Claims) → AllByRecursion P xs → AllByRecursion Q xs → AllByRecursion R xs
all-zip P Q R f [] h k = tt
all-zip P Q R f (x ∷ xs) h k = (f x h.0 k.0, all-zip P Q R f xs h.1 k.1)

-- what a claim comes to, by the forms of the part and of the cell
module _ (os : List Object) (s : Object) (waiting : Claims) where
  -- the part with the substitution has one form, whatever the cell is
  pub entered-decided : (c : Part × ℕ) (o : Object) (b : Bool) → substituted s c.0 (object_at os (cell_of c.0)) ≡ o → b ≡ same_object o (object_at os c.1) → IsEntered os s c waiting waiting b
  entered-decided c o true is e = record {
    more = [];
    longer_is = sym (append-nil waiting);
    few = omega arith;
    within = tt;
    smaller = tt;
    enough = λ h. is ∙ same_object-eq o (object_at os c.1) (sym e);
    needed = λ h. tt;
  }
  entered-decided c o false is e = λ h. let t : true ≡ false = sym (same_object-from o (object_at os c.1) (sym is ∙ h)) ∙ sym e in cc

  module _ (x y h r g q : ℕ) (h_in : IsIn os h) (r_in : IsIn os r) (g_in : IsIn os g) (q_in : IsIn os q) (pair : object_at os x ≡ Pair (object_at os h) (object_at os r)) (cell : object_at os y ≡ Pair (object_at os g) (object_at os q)) (less_h : h < x) (less_r : r < x) where
    first_is : (a b c d : Object) → Pair a b ≡ Pair c d → a ≡ c
    first_is a b c d e = cc

    second_is : (a b c d : Object) → Pair a b ≡ Pair c d → b ≡ d
    second_is a b c d e = cc

    pub list_is : substitute_each_object s (object_at os x) ≡ Pair (substitute_object s (object_at os h)) (substitute_each_object s (object_at os r))
    list_is = ap (substitute_each_object s) pair

    pub entered-list : Enters os s (Terms x, y) waiting (waiting ++ (Terms r, q) ∷ (Term h, g) ∷ [])
    entered-list = record {
      more = (Terms r, q) ∷ (Term h, g) ∷ [];
      longer_is = refl;
      few = omega arith;
      within = ((r_in, q_in), ((h_in, g_in), tt));
      smaller = (less_r, (less_h, tt));
      enough = λ k. list_is ∙ (ap₂ Pair k.1.0 k.0 ∙ sym cell);
      needed = λ k. let e = sym list_is ∙ (k ∙ cell) in (second_is _ _ _ _ e, (first_is _ _ _ _ e, tt));
    }

    module _ (quote : same_object (object_at os h) (symbol "QUOTE") ≡ false) where
      pub call_is : substitute_object s (object_at os x) ≡ Pair (object_at os h) (substitute_each_object s (object_at os r))
      call_is = ap (substitute_object s) pair ∙ substitute-list s (object_at os h) (object_at os r) quote

      pub entered-call : same_object (object_at os h) (object_at os g) ≡ true → Enters os s (Term x, y) waiting (waiting ++ (Terms r, q) ∷ [])
      entered-call same = record {
        more = (Terms r, q) ∷ [];
        longer_is = refl;
        few = omega arith;
        within = ((r_in, q_in), tt);
        smaller = (less_r, tt);
        enough = λ k. call_is ∙ (ap₂ Pair (same_object-eq (object_at os h) (object_at os g) same) k.0 ∙ sym cell);
        needed = λ k. (second_is _ _ _ _ (sym call_is ∙ (k ∙ cell)), tt);
      }

      pub other_head : same_object (object_at os h) (object_at os g) ≡ false → IsInstance os s (Term x, y) → ⊥
      other_head other k = let t : true ≡ false = sym (same_object-from (object_at os h) (object_at os g) (first_is _ _ _ _ (sym call_is ∙ (k ∙ cell)))) ∙ other in cc

-- of no pair
pub substitute-no_pair : (s x : Object) → is_pair x ≡ false → substitute_object s x ≡ image_object s x
substitute-no_pair s (Natural n) h = refl
substitute-no_pair s (Symbol n) h = refl
substitute-no_pair s (Pair a b) h = cc

pub substitute_each-no_pair : (s x : Object) → is_pair x ≡ false → substitute_each_object s x ≡ NIL
substitute_each-no_pair s (Natural n) h = refl
substitute_each-no_pair s (Symbol n) h = refl
substitute_each-no_pair s (Pair a b) h = cc

-- a constant
pub substitute-constant : (s h r : Object) → same_object h (symbol "QUOTE") ≡ true → substitute_object s (Pair h r) ≡ Pair h r
substitute-constant s h r e = ap (λ b. cond b (Pair h r) (Pair h (substitute_each_object s r))) e

-- what is found once one more was noted
module _ (terms lists more_terms more_lists : List (ℕ × ℕ)) (r : ℕ) where
  old_or_new : (o : Option ℕ) (b : Bool) (z : ℕ) → term_or o (cond b (Some r) None) ≡ Some z → (o ≡ Some z) ⊎ ((b ≡ true) × (z ≡ r))
  old_or_new (Some t) b z e = inl e
  old_or_new None true z e = inr (refl, cc)
  old_or_new None false z e = cc

  found-old_or_new : (part p : Part) (z : ℕ) → Adds terms lists more_terms more_lists part r → found more_terms more_lists p ≡ Some z → (found terms lists p ≡ Some z) ⊎ ((p ≡ part) × (z ≡ r))
  found-old_or_new (Term k) (Term q) z a f =
      elim (old_or_new (lookup (nat_eq q) terms) (nat_eq q k) z (sym (ap (lookup (nat_eq q)) a.0 ∙ lookup-push terms k r q) ∙ f)) [ inl e ↦ inl e | inr e ↦ inr (ap Term (eqb-true q k e.0), e.1) ]
  found-old_or_new (Term k) (Terms q) z a f = inl (sym (ap (lookup (nat_eq q)) a.1) ∙ f)
  found-old_or_new (Terms k) (Term q) z a f = inl (sym (ap (lookup (nat_eq q)) a.0) ∙ f)
  found-old_or_new (Terms k) (Terms q) z a f =
      elim (old_or_new (lookup (nat_eq q) lists) (nat_eq q k) z (sym (ap (lookup (nat_eq q)) a.1 ∙ lookup-push lists k r q) ∙ f)) [ inl e ↦ inl e | inr e ↦ inr (ap Terms (eqb-true q k e.0), e.1) ]

-- Each noted claim holds where those that wait of smaller parts do. The whole holds where all that wait do, and only where all that wait
-- or were noted do.
pub record IsCompared (os : List Object) (s : Object) (whole : Part × ℕ) (terms lists : List (ℕ × ℕ)) (waiting : Claims) : Type 0 where
  pub unique : AreUnique terms lists
  pub within : AllByRecursion (IsClaimIn os) waiting
  pub small : AreSmall (length os) terms × AreSmall (length os) lists
  pub noted_in : (p : Part) (z : ℕ) → found terms lists p ≡ Some z → IsIn os z
  pub noted : (p : Part) (z : ℕ) → found terms lists p ≡ Some z → AllByRecursion (λ d. cell_of d.0 < cell_of p → IsInstance os s d) waiting → IsInstance os s (p, z)
  pub enough : AllByRecursion (IsInstance os s) waiting → IsInstance os s whole
  pub needed : IsInstance os s whole → AllByRecursion (IsInstance os s) waiting
  pub needed_noted : IsInstance os s whole → (p : Part) (z : ℕ) → found terms lists p ≡ Some z → IsInstance os s (p, z)

-- what is left to do
abbrev pub left : List Object → List (ℕ × ℕ) → List (ℕ × ℕ) → Claims → ℕ
left os terms lists waiting = 2 * (2 * length os - (length terms + length lists)) + length waiting

pub compared-first : (os : List Object) (s : Object) (whole : Part × ℕ) (terms lists : List (ℕ × ℕ)) (waiting : Claims) → terms ≡ [] → lists ≡ [] → waiting ≡ whole ∷ [] → IsClaimIn os whole → IsCompared os s whole terms lists waiting
compared-first os s whole terms lists waiting t l w within =
    subst (λ q. IsCompared os s whole terms lists q) (sym w) (subst (λ m. IsCompared os s whole terms m (whole ∷ [])) (sym l) (subst (λ m. IsCompared os s whole m [] (whole ∷ [])) (sym t) first))
  where
    first : IsCompared os s whole [] [] (whole ∷ [])
    first = record {
      unique = none_unique;
      within = (within, tt);
      small = (tt, tt);
      noted_in = λ p z f. absurd (none_found_at_first p (z, f));
      noted = λ p z f h. absurd (none_found_at_first p (z, f));
      enough = λ h. h.0;
      needed = λ h. (h, tt);
      needed_noted = λ h p z f. absurd (none_found_at_first p (z, f));
    }

module _ (os : List Object) (s : Object) (whole : Part × ℕ) (terms lists : List (ℕ × ℕ)) (rest : Claims) (c : Part × ℕ) (i : IsCompared os s whole terms lists (rest ++ c ∷ [])) where
  abbrev Below : Part → Part × ℕ → Type 0
  Below p d = cell_of d.0 < cell_of p → IsInstance os s d

  -- the last one is of the heap
  pub last_in : IsClaimIn os c
  last_in = (all-split (IsClaimIn os) rest (c ∷ []) i.within).1.0

  -- it is noted with the same cell
  module _ (here : found terms lists c.0 ≡ Some c.1) where
    noted_before : AllByRecursion (Below c.0) rest → IsInstance os s c
    noted_before h = i.noted c.0 c.1 here (all-append (Below c.0) rest (c ∷ []) h ((λ l. absurd (omega (arith, l))), tt))

    pub compared-again : IsCompared os s whole terms lists rest
    compared-again = record {
      unique = i.unique;
      within = (all-split (IsClaimIn os) rest (c ∷ []) i.within).0;
      small = i.small;
      noted_in = i.noted_in;
      noted = λ p z f h.
          i.noted p z f (all-append (Below p) rest (c ∷ []) h ((λ l. noted_before (all-map (Below p) (Below c.0) (λ d k m. k (omega (arith, l, m))) rest h)), tt));
      enough = λ h. i.enough (all-append (IsInstance os s) rest (c ∷ []) h (noted_before (all-map (IsInstance os s) (Below c.0) (λ d k m. k) rest h), tt));
      needed = λ h. (all-split (IsInstance os s) rest (c ∷ []) (i.needed h)).0;
      needed_noted = i.needed_noted;
    }

    pub left-again : left os terms lists rest < left os terms lists (rest ++ c ∷ [])
    left-again = omega (arith, length-append rest (c ∷ []))

  -- the last one must hold
  last_needed : IsInstance os s whole → IsInstance os s c
  last_needed h = (all-split (IsInstance os s) rest (c ∷ []) (i.needed h)).1.0

  pub refused-last : (IsInstance os s c → ⊥) → IsInstance os s whole → ⊥
  refused-last refused h = refused (last_needed h)

  -- it is noted with another cell
  pub refused-again : AreDistinct os → (z : ℕ) → found terms lists c.0 ≡ Some z → (z ≡ c.1 → ⊥) → IsInstance os s whole → ⊥
  refused-again distinct z f other h = other (distinct z c.1 (i.noted_in c.0 z f) last_in.1 (sym (i.needed_noted h c.0 z f) ∙ last_needed h))

  -- it is noted now, and comes to others
  module _ (mt ml : List (ℕ × ℕ)) (adds : Adds terms lists mt ml c.0 c.1) (unique : AreUnique mt ml) (longer : Claims) (e : Enters os s c rest longer) where
    comes : (P : Part × ℕ → Type 0) → AllByRecursion P longer → AllByRecursion P rest × AllByRecursion P e.more
    comes P h = all-split P rest e.more (subst (AllByRecursion P) e.longer_is h)

    joins : (P : Part × ℕ → Type 0) → AllByRecursion P rest → AllByRecursion P e.more → AllByRecursion P longer
    joins P h k = subst (AllByRecursion P) (sym e.longer_is) (all-append P rest e.more h k)

    -- it holds where those of smaller parts do
    new_holds : AllByRecursion (Below c.0) longer → IsInstance os s c
    new_holds h = e.enough (all-zip (λ d. cell_of d.0 < cell_of c.0) (Below c.0) (IsInstance os s) (λ d l k. k l) e.more e.smaller (comes (Below c.0) h).1)

    old_holds : (p : Part) (z : ℕ) → found terms lists p ≡ Some z → AllByRecursion (Below p) longer → IsInstance os s (p, z)
    old_holds p z f h =
        i.noted p z f (all-append (Below p) rest (c ∷ []) (comes (Below p) h).0 ((λ l. new_holds (all-map (Below p) (Below c.0) (λ d k m. k (omega (arith, l, m))) longer h)), tt))

    small : AreSmall (length os) mt × AreSmall (length os) ml
    small = small-added (length os) terms lists mt ml c.0 c.1 i.small adds last_in.0

    pub compared-entered : IsCompared os s whole mt ml longer
    compared-entered = record {
      unique = unique;
      within = joins (IsClaimIn os) (all-split (IsClaimIn os) rest (c ∷ []) i.within).0 e.within;
      small = small;
      noted_in = λ p z f. elim (found-old_or_new terms lists mt ml c.1 c.0 p z adds f) [ inl o ↦ i.noted_in p z o | inr n ↦ subst (IsIn os) (sym n.1) last_in.1 ];
      noted = λ p z f h.
          elim (found-old_or_new terms lists mt ml c.1 c.0 p z adds f) [
            | inl o ↦ old_holds p z o h
            | inr n ↦ subst (λ q. IsInstance os s (q, z)) (sym n.0) (subst (λ y. IsInstance os s (c.0, y)) (sym n.1) (new_holds (subst (λ q. AllByRecursion (Below q) longer) n.0 h)))
          ];
      enough = λ h. i.enough (all-append (IsInstance os s) rest (c ∷ []) (comes (IsInstance os s) h).0 (e.enough (comes (IsInstance os s) h).1, tt));
      needed = λ h. joins (IsInstance os s) (all-split (IsInstance os s) rest (c ∷ []) (i.needed h)).0 (e.needed (last_needed h));
      needed_noted = λ h p z f.
          elim (found-old_or_new terms lists mt ml c.1 c.0 p z adds f) [
            | inl o ↦ i.needed_noted h p z o
            | inr n ↦ subst (λ q. IsInstance os s (q, z)) (sym n.0) (subst (λ y. IsInstance os s (c.0, y)) (sym n.1) (last_needed h))
          ];
    }

    pub left-entered : left os mt ml longer < left os terms lists (rest ++ c ∷ [])
    left-entered =
        let t = few (length os) mt small.0 unique.0 in
        let l = few (length os) ml small.1 unique.1 in
        let n = length-added terms lists mt ml c.0 c.1 adds in
        omega (arith, t, l, n, e.few, ap length e.longer_is, length-append rest e.more, length-append rest (c ∷ []))

module _ (os : List Object) (s : Object) (whole : Part × ℕ) (noted : Memo) (rest : Claims) (c : Part × ℕ) (i : IsCompared os s whole noted.terms noted.lists (rest ++ c ∷ [])) (more : Memo) (longer : Claims) where
  -- a claim that is refused is needed
  pub refused : AreDistinct os → IsTaken os s c noted more rest longer false → IsInstance os s whole → ⊥
  refused distinct t =
      elim t [
        | inl a ↦ refused-again os s whole noted.terms noted.lists rest c i distinct a.0 a.1 (λ e. let k : true ≡ false = sym (eq-eqb a.0 c.1 e) ∙ sym a.2 in cc)
        | inr n ↦ refused-last os s whole noted.terms noted.lists rest c i n.1
      ]

  -- one that is not refused goes
  pub goes_on : AreUnique more.terms more.lists → IsTaken os s c noted more rest longer true → IsCompared os s whole more.terms more.lists longer × (left os more.terms more.lists longer < left os noted.terms noted.lists (rest ++ c ∷ []))
  goes_on unique t =
      elim t [
        | inl a ↦
            let here : found noted.terms noted.lists c.0 ≡ Some c.1 = a.1 ∙ ap Some (eqb-true a.0 c.1 (sym a.2)) in
            let r : IsCompared os s whole noted.terms noted.lists rest × (left os noted.terms noted.lists rest < left os noted.terms noted.lists (rest ++ c ∷ [])) = (compared-again os s whole noted.terms noted.lists rest c i here, left-again os s whole noted.terms noted.lists rest c i here) in
            subst (λ m. IsCompared os s whole m.terms m.lists longer × (left os m.terms m.lists longer < left os noted.terms noted.lists (rest ++ c ∷ []))) (sym a.3)
            (subst (λ w. IsCompared os s whole noted.terms noted.lists w × (left os noted.terms noted.lists w < left os noted.terms noted.lists (rest ++ c ∷ []))) (sym a.4) r)
        | inr n ↦ (
          compared-entered os s whole noted.terms noted.lists rest c i more.terms more.lists n.0 unique longer n.1,
          left-entered os s whole noted.terms noted.lists rest c i more.terms more.lists n.0 unique longer n.1,
        )
      ]

-- nothing waits
pub compared-all : (os : List Object) (s : Object) (whole : Part × ℕ) (terms lists : List (ℕ × ℕ)) (waiting : Claims) → IsCompared os s whole terms lists waiting → length waiting ≡ 0 → IsInstance os s whole
compared-all os s whole terms lists [] i none = i.enough tt
compared-all os s whole terms lists (c ∷ cs) i none = absurd (omega (arith, none))

-- what does not hold is not the same
pub not_same : (x y : Object) → (x ≡ y → ⊥) → false ≡ same_object x y
not_same x y other = go (same_object x y) refl
  where
    go : (b : Bool) → same_object x y ≡ b → false ≡ b
    go true e = absurd (other (same_object-eq x y e))
    go false e = refl
