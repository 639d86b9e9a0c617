-- Layers that come and go.
use Rattle.std.proofs.Common.{◌≡◌, ℕ, ◌<◌, ◌≤◌, List, [], ◌∷◌, ◌++◌, length, refl, sym, ap, ap₂, ◌∙◌, subst, arith, Option, Some, None, IfSome, length-append, append_assoc, append-nil, nat_eq}
use Rattle.mw_model.specs.Terms.Object.{Object}
use Rattle.mw_model.specs.Texts.Grammar.{Labels, quoted, complete}
use Rattle.mw_read.specs.Machine.{Members, Tailed, Quoting, Marking, Turn}
use Rattle.mw_heap.specs.Objects.{object_at, Grows}
use Rattle.mw_read.specs.Piles.{Pile, Frames, Ready, piled, MayLie, pile_on, LieOn, IsUnder, AreUnder, pile_of, IsPile, give_to, Shows, Does, IsFrames, Gives}
use Rattle.mw_read.specs.Named.{Agree, seen, IsListed}
use Rattle.mw_read.specs.declared.step.Outcome.TheVariants as outcomes
use Rattle.std.specs.Map.{lookup}
use Rattle.mw_read.specs.declared.stack.Layer.{Layer}
use Rattle.mw_read.specs.declared.stack.Layer.TheVariants as layers
use Rattle.mw_heap.proofs.Objects.{object_at-Grows}

pub pile_top : (os : List Object) (t : Pile) (ls : List Layer) (l : Layer) → pile_on os t (ls ++ l ∷ []) ≡ piled os (pile_on os t ls) l
pile_top os t [] l = refl
pile_top os t (k ∷ ls) l = pile_top os (piled os t k) ls l

lie_more : (os : List Object) (t : Pile) (ls : List Layer) (l : Layer) → LieOn os t ls → MayLie (pile_on os t ls) l → LieOn os t (ls ++ l ∷ [])
lie_more os t [] l h m = (m, tt)
lie_more os t (k ∷ ls) l h m = (h.0, lie_more os (piled os t k) ls l h.1 m)

lie_less : (os : List Object) (t : Pile) (ls : List Layer) (l : Layer) → LieOn os t (ls ++ l ∷ []) → LieOn os t ls × MayLie (pile_on os t ls) l
lie_less os t [] l h = (tt, h.0)
lie_less os t (k ∷ ls) l h = let p = lie_less os (piled os t k) ls l h.1 in ((h.0, p.0), p.1)

under_more : (n : ℕ) (ls : List Layer) (l : Layer) → AreUnder n ls → IsUnder n l → AreUnder n (ls ++ l ∷ [])
under_more n [] l h u = (u, tt)
under_more n (k ∷ ls) l h u = (h.0, under_more n ls l h.1 u)

under_less : (n : ℕ) (ls : List Layer) (l : Layer) → AreUnder n (ls ++ l ∷ []) → AreUnder n ls × IsUnder n l
under_less n [] l h = (tt, h.0)
under_less n (k ∷ ls) l h = let p = under_less n ls l h.1 in ((h.0, p.0), p.1)

pub more_layer : (os : List Object) (ls : List Layer) (l : Layer) → IsPile os ls → MayLie (pile_of os ls) l → IsUnder (length os) l → IsPile os (ls ++ l ∷ [])
more_layer os ls l p m u = record { lie = lie_more os (Frames []) ls l p.lie m; under = under_more (length os) ls l p.under u }

pub less_layer : (os : List Object) (ls : List Layer) (l : Layer) → IsPile os (ls ++ l ∷ []) → IsPile os ls
less_layer os ls l p = record { lie = (lie_less os (Frames []) ls l p.lie).0; under = (under_less (length os) ls l p.under).0 }

pub layer_lies : (os : List Object) (ls : List Layer) (l : Layer) → IsPile os (ls ++ l ∷ []) → MayLie (pile_of os ls) l × IsUnder (length os) l
layer_lies os ls l p = ((lie_less os (Frames []) ls l p.lie).1, (under_less (length os) ls l p.under).1)

-- the heap grows
piled_grows : (os more : List Object) (t : Pile) (l : Layer) → IsUnder (length os) l → piled (os ++ more) t l ≡ piled os t l
piled_grows os more (Frames s) layers.Opening h = refl
piled_grows os more (Frames s) layers.Quote h = refl
piled_grows os more (Frames (Members xs ∷ s)) (layers.Item r) h = ap (λ x. Frames (Members (x ∷ xs) ∷ s)) (object_at-Grows os (os ++ more) (more, refl) r h)
piled_grows os more (Frames (Members xs ∷ s)) layers.Dot h = refl
piled_grows os more (Frames (Members xs ∷ s)) (layers.Last r) h = ap (λ x. Ready xs x s) (object_at-Grows os (os ++ more) (more, refl) r h)
piled_grows os more t l h = refl

pile_grows_on : (os more : List Object) (t : Pile) (ls : List Layer) → AreUnder (length os) ls → pile_on (os ++ more) t ls ≡ pile_on os t ls
pile_grows_on os more t [] h = refl
pile_grows_on os more t (l ∷ ls) h = ap (λ u. pile_on (os ++ more) u ls) (piled_grows os more t l h.0) ∙ pile_grows_on os more (piled os t l) ls h.1

lie_grows : (os more : List Object) (t : Pile) (ls : List Layer) → AreUnder (length os) ls → LieOn os t ls → LieOn (os ++ more) t ls
lie_grows os more t [] u h = tt
lie_grows os more t (l ∷ ls) u h =
    let P : Pile → Type 0 = λ v. LieOn (os ++ more) v ls in
    (h.0, subst P (sym (piled_grows os more t l u.0)) (lie_grows os more (piled os t l) ls u.1 h.1))

is_under_grows : (m n : ℕ) (l : Layer) → m ≤ n → IsUnder m l → IsUnder n l
is_under_grows m n (layers.Item r) h u = omega arith
is_under_grows m n (layers.Last r) h u = omega arith
is_under_grows m n l h u = tt

under_grows : (m n : ℕ) (ls : List Layer) → m ≤ n → AreUnder m ls → AreUnder n ls
under_grows m n [] h u = tt
under_grows m n (l ∷ ls) h u = (is_under_grows m n l h u.0, under_grows m n ls h u.1)

pub pile_grows : (old new : List Object) (ls : List Layer) → Grows old new → IsPile old ls → pile_of new ls ≡ pile_of old ls
pile_grows old new ls g p = ap (λ u. pile_of u ls) g.1 ∙ pile_grows_on old g.0 (Frames []) ls p.under

pub is_pile_grows : (old new : List Object) (ls : List Layer) → Grows old new → IsPile old ls → IsPile new ls
is_pile_grows old new ls g p =
    let P : List Object → Type 0 = λ v. LieOn v (Frames []) ls in
    record {
      lie = subst P (sym g.1) (lie_grows old g.0 (Frames []) ls p.under p.lie);
      under = under_grows (length old) (length new) ls (omega (arith, ap length g.1, length-append old g.0)) p.under;
    }

-- the labels stay where the heap grows
seen_grows : (os more : List Object) (g : Option (Option ℕ)) → IfSome g (λ o. IfSome o (λ r. r < length os)) → seen (os ++ more) g ≡ seen os g
seen_grows os more None h = refl
seen_grows os more (Some None) h = refl
seen_grows os more (Some (Some r)) h = ap (λ x. Some (Some x)) (object_at-Grows os (os ++ more) (more, refl) r h)

pub agree_grows : (os os2 : List Object) (m : List (ℕ × Option ℕ)) (ls : Labels) → Grows os os2 → IsListed (length os) m → Agree os m ls → Agree os2 m ls
agree_grows os os2 m ls g l h n = ap (λ u. seen u (lookup (nat_eq n) m)) g.1 ∙ seen_grows os g.0 (lookup (nat_eq n) m) (l n) ∙ h n

some_grows : (j k : ℕ) (g : Option (Option ℕ)) → j ≤ k → IfSome g (λ o. IfSome o (λ r. r < j)) → IfSome g (λ o. IfSome o (λ r. r < k))
some_grows j k None l h = tt
some_grows j k (Some None) l h = tt
some_grows j k (Some (Some r)) l h = omega (arith, h)

pub listed_grows : (j k : ℕ) (m : List (ℕ × Option ℕ)) → j ≤ k → IsListed j m → IsListed k m
listed_grows j k m l h n = some_grows j k (lookup (nat_eq n) m) l (h n)

-- giving begins
pub give_start : (os : List Object) (ls : List Layer) (m : List (ℕ × Option ℕ)) (x : ℕ) → x < length os → IsPile os ls → IsFrames (pile_of os ls) → IsListed (length os) m → Gives os ls m x os ls m x
give_start os ls m x h p w l = record { pile = p; waits = w; listed = h; kept = ([], sym (append-nil os)); tags = l; turns = λ ks a. (ks, a, refl) }

quote_gives : (os : List Object) (t : Pile) (y : Object) (ks : Labels) → MayLie t layers.Quote → give_to (piled os t layers.Quote) y ks ≡ give_to t (quoted y) ks
quote_gives os (Frames s) y ks h = refl
quote_gives os (Ready xs x s) y ks h = absurd h

mark_gives : (os : List Object) (t : Pile) (y : Object) (n : ℕ) (ks : Labels) → MayLie t (layers.Mark n) → give_to (piled os t (layers.Mark n)) y ks ≡ give_to t y (complete n y ks)
mark_gives os (Frames s) y n ks h = refl
mark_gives os (Ready xs x s) y n ks h = absurd h

under_quote : (t : Pile) → MayLie t layers.Quote → IsFrames t
under_quote (Frames s) h = tt
under_quote (Ready xs x s) h = absurd h

under_mark : (t : Pile) (n : ℕ) → MayLie t (layers.Mark n) → IsFrames t
under_mark (Frames s) n h = tt
under_mark (Ready xs x s) n h = absurd h

module _ (old : List Object) (before : List Layer) (labels : List (ℕ × Option ℕ)) (first : ℕ) where
  -- a quote goes round the datum
  pub give_quote : (os new : List Object) (ls rest : List Layer) (m : List (ℕ × Option ℕ)) (x made : ℕ) → Gives old before labels first os ls m x → ls ≡ rest ++ layers.Quote ∷ [] →
      Grows os new → made < length new → object_at new made ≡ quoted (object_at os x) → Gives old before labels first new rest m made
  give_quote os new ls rest m x made g e w b q =
      let P : List Layer → Type 0 = λ u. IsPile os u in
      let p = subst P e g.pile in
      let r = less_layer os rest layers.Quote p in
      let v = pile_grows os new rest w r in
      let k = (layer_lies os rest layers.Quote p).0 in
      record {
        pile = is_pile_grows os new rest w r;
        waits = subst (λ u. IsFrames u) (sym v) (under_quote (pile_of os rest) k);
        listed = b;
        kept = (g.kept.0 ++ w.0, w.1 ∙ ap (λ u. u ++ w.0) g.kept.1 ∙ append_assoc old g.kept.0 w.0);
        tags = listed_grows (length os) (length new) m (omega (arith, ap length w.1, length-append os w.0)) g.tags;
        turns = λ ks a. let t = g.turns ks a in (
          t.0,
          agree_grows os new m t.0 w g.tags t.1,
          ap₂ (λ u y. give_to u y t.0) v q ∙ sym (quote_gives os (pile_of os rest) (object_at os x) t.0 k)
              ∙ ap (λ u. give_to u (object_at os x) t.0) (sym (pile_top os (Frames []) rest layers.Quote) ∙ ap (pile_of os) (sym e)) ∙ t.2,
        );
      }

  -- a labelled datum
  pub give_mark : (os : List Object) (ls rest : List Layer) (m m2 : List (ℕ × Option ℕ)) (x n : ℕ) → Gives old before labels first os ls m x → ls ≡ rest ++ layers.Mark n ∷ [] →
      ((ks : Labels) → Agree os m ks → Agree os m2 (complete n (object_at os x) ks)) → IsListed (length os) m2 → Gives old before labels first os rest m2 x
  give_mark os ls rest m m2 x n g e f l =
      let P : List Layer → Type 0 = λ u. IsPile os u in
      let p = subst P e g.pile in
      let k = (layer_lies os rest (layers.Mark n) p).0 in
      record {
        pile = less_layer os rest (layers.Mark n) p;
        waits = under_mark (pile_of os rest) n k;
        listed = g.listed;
        kept = g.kept;
        tags = l;
        turns = λ ks a. let t = g.turns ks a in (
          complete n (object_at os x) t.0,
          f t.0 t.1,
          sym (mark_gives os (pile_of os rest) (object_at os x) n t.0 k)
              ∙ ap (λ u. give_to u (object_at os x) t.0) (sym (pile_top os (Frames []) rest (layers.Mark n)) ∙ ap (pile_of os) (sym e)) ∙ t.2,
        );
      }

  -- a layer more on the pile
  give_layer : (os : List Object) (ls new : List Layer) (m : List (ℕ × Option ℕ)) (x : ℕ) (l : Layer) → Gives old before labels first os ls m x → new ≡ ls ++ l ∷ [] → IsUnder (length os) l → MayLie (pile_of os ls) l →
      ((js : Labels) → Agree os m js → ([] ≡ (give_to (pile_of os ls) (object_at os x) js).events) × Shows os (piled os (pile_of os ls) l) m (give_to (pile_of os ls) (object_at os x) js).state) →
      IsPile os new × ((ks : Labels) → Agree old labels ks → Does os new m outcomes.Pending (give_to (pile_of old before) (object_at old first) ks))
  give_layer os ls new m x l g e u y q =
      let P : List Layer → Type 0 = λ v. IsPile os v in (
        subst P (sym e) (more_layer os ls l g.pile y u),
        λ ks a. let t = g.turns ks a in
            subst (λ (w : Turn). ([] ≡ w.events) × Shows os (pile_of os new) m w.state) t.2
            (subst (λ (v : Pile). ([] ≡ (give_to (pile_of os ls) (object_at os x) t.0).events) × Shows os v m (give_to (pile_of os ls) (object_at os x) t.0).state)
            (sym (pile_top os (Frames []) ls l) ∙ ap (pile_of os) (sym e)) (q t.0 t.1)),
      )

  dot_gives : (os : List Object) (t : Pile) (m : List (ℕ × Option ℕ)) (x : ℕ) → MayLie t layers.Dot →
      MayLie t (layers.Last x)
      × ((js : Labels) → Agree os m js → ([] ≡ (give_to (piled os t layers.Dot) (object_at os x) js).events)
      × Shows os (piled os t (layers.Last x)) m (give_to (piled os t layers.Dot) (object_at os x) js).state)
  dot_gives os (Frames (Members (y ∷ ys) ∷ s)) m x h = (tt, λ js a. (refl, (refl, a)))
  dot_gives os (Frames (Members [] ∷ s)) m x h = absurd h
  dot_gives os (Frames (Tailed ys ∷ s)) m x h = absurd h
  dot_gives os (Frames (Quoting ∷ s)) m x h = absurd h
  dot_gives os (Frames (Marking n ∷ s)) m x h = absurd h
  dot_gives os (Frames []) m x h = absurd h
  dot_gives os (Ready xs y s) m x h = absurd h

  pub give_last : (os : List Object) (ls rest new : List Layer) (m : List (ℕ × Option ℕ)) (x : ℕ) → Gives old before labels first os ls m x → ls ≡ rest ++ layers.Dot ∷ [] →
      new ≡ rest ++ layers.Last x ∷ [] → IsPile os new × ((ks : Labels) → Agree old labels ks → Does os new m outcomes.Pending (give_to (pile_of old before) (object_at old first) ks))
  give_last os ls rest new m x g e n =
      let p = subst (λ u. IsPile os u) e g.pile in
      let k = dot_gives os (pile_of os rest) m x (layer_lies os rest layers.Dot p).0 in
      let v = sym (pile_top os (Frames []) rest layers.Dot) ∙ ap (pile_of os) (sym e) in (
        subst (λ u. IsPile os u) (sym n) (more_layer os rest (layers.Last x) (less_layer os rest layers.Dot p) k.0 g.listed),
        λ ks a. let t = g.turns ks a in
            subst (λ (w : Turn). ([] ≡ w.events) × Shows os (pile_of os new) m w.state) (ap (λ u. give_to u (object_at os x) t.0) v ∙ t.2)
            (subst (λ (q : Pile). ([] ≡ (give_to (piled os (pile_of os rest) layers.Dot) (object_at os x) t.0).events) × Shows os q m (give_to (piled os (pile_of os rest) layers.Dot) (object_at os x) t.0).state)
            (sym (pile_top os (Frames []) rest (layers.Last x)) ∙ ap (pile_of os) (sym n)) (k.1 t.0 t.1)),
      )

  item_gives : (os : List Object) (t : Pile) (l : Layer) (m : List (ℕ × Option ℕ)) (x : ℕ) → MayLie t l → IsFrames (piled os t l) →
      (l ≡ layers.Quote → ⊥) → (l ≡ layers.Dot → ⊥) → ((n : ℕ) → l ≡ layers.Mark n → ⊥) →
      MayLie (piled os t l) (layers.Item x)
      × ((js : Labels) → Agree os m js → ([] ≡ (give_to (piled os t l) (object_at os x) js).events)
      × Shows os (piled os (piled os t l) (layers.Item x)) m (give_to (piled os t l) (object_at os x) js).state)
  item_gives os (Frames s) layers.Opening m x y f q d k = (tt, λ js a. (refl, (refl, a)))
  item_gives os (Frames (Members ys ∷ s)) (layers.Item r) m x y f q d k = (tt, λ js a. (refl, (refl, a)))
  item_gives os (Frames (Members (z ∷ ys) ∷ s)) (layers.Last r) m x y f q d k = absurd f
  item_gives os (Frames s) layers.Quote m x y f q d k = absurd (q refl)
  item_gives os (Frames s) (layers.Mark n) m x y f q d k = absurd (k n refl)
  item_gives os t layers.Dot m x y f q d k = absurd (d refl)
  item_gives os t l m x y f q d k = absurd y

  pub give_item : (os : List Object) (ls rest new : List Layer) (m : List (ℕ × Option ℕ)) (x : ℕ) (l : Layer) → Gives old before labels first os ls m x → ls ≡ rest ++ l ∷ [] →
      (l ≡ layers.Quote → ⊥) → (l ≡ layers.Dot → ⊥) → ((n : ℕ) → l ≡ layers.Mark n → ⊥) →
      new ≡ (rest ++ l ∷ []) ++ layers.Item x ∷ [] → IsPile os new × ((ks : Labels) → Agree old labels ks → Does os new m outcomes.Pending (give_to (pile_of old before) (object_at old first) ks))
  give_item os ls rest new m x l g e q d i n =
      let P : List Layer → Type 0 = λ u. IsPile os u in
      let v = sym (pile_top os (Frames []) rest l) ∙ ap (pile_of os) (sym e) in
      let k = item_gives os (pile_of os rest) l m x (layer_lies os rest l (subst P e g.pile)).0 (subst (λ u. IsFrames u) (sym v) g.waits) q d i in
      give_layer os ls new m x (layers.Item x) g (n ∙ ap (λ u. u ++ layers.Item x ∷ []) (sym e)) g.listed
      (subst (λ u. MayLie u (layers.Item x)) v k.0)
      (subst (λ (u : Pile). (js : Labels) → Agree os m js → ([] ≡ (give_to u (object_at os x) js).events) × Shows os (piled os u (layers.Item x)) m (give_to u (object_at os x) js).state) v k.1)
