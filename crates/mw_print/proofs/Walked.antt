-- How a text with labels walks through an object: which pairs it writes out, and how long it is.
use Rattle.std.proofs.Common.{◌≡◌, ℕ, ◌+◌, ◌<◌, ◌≤◌, Bool, true, false, ◌&&◌, leb, cond, List, [], ◌∷◌, ◌++◌, length, Option, Some, None, refl, sym, ap, ◌∙◌, subst, length-append, arith}
use Rattle.std.specs.Map.{keys_of}
use Rattle.std.proofs.lemmas.Bool.{and_parts, leb-true, leb-false}
use Rattle.mw_model.specs.Terms.Object.{Object, Natural, Symbol, Pair, same_object, same_name, nil_name, weight}
use Rattle.mw_model.specs.Values.Primitive.{is_pair}
use Rattle.mw_model.specs.Texts.Printing.{numeral, name_text, end_text}
use Rattle.mw_model.specs.Texts.Written.{pairs_in, atom_length, pair_room}
use Rattle.mw_model.proofs.Names.{same_object-eq}
use Rattle.mw_heap.specs.Cells.{one_if}
use Rattle.mw_print.specs.Labelling.{Labels, Labelled, number_of, number_among, most_label, one_more, give, label_text, again_text, way_by, and_then, after_byte, by_way, tail_way, datum, tail}
use Rattle.mw_print.specs.Repeats.{parts_equal}
use Rattle.mw_print.proofs.LabelLexemes.{nine_digits}
use Rattle.mw_print.proofs.LabelledReads.{AreSmall, datum_says}
use Rattle.mw_print.proofs.Times.{total, times, total-append}

module _ (s : Object → Bool) where
  -- with the labels l the object x is written, and with it these pairs; after it the labels are m
  pub data Walk : Object → Labels → Labels → List Object → Type 0 where
    atom : (x : Object) (l : Labels) → is_pair x ≡ false → Walk x l l []
    again : (x : Object) (l : Labels) (n : ℕ) → number_of x l ≡ Some n → Walk x l l []
    new : (a d : Object) (l m k : Labels) (fs ds : List Object) → number_of (Pair a d) l ≡ None → Walk a (one_more l) m fs → Walk d m k ds → Walk (Pair a d) l (give (Pair a d) l.next k) (Pair a d ∷ (fs ++ ds))
    plain : (a d : Object) (l m k : Labels) (fs ds : List Object) → number_of (Pair a d) l ≡ None → (s (Pair a d) && leb l.next most_label) ≡ false → Walk a l m fs → Walk d m k ds → Walk (Pair a d) l k (Pair a d ∷ (fs ++ ds))

  -- w is what is written for x, and u what is for x as the rest of a list
  pub record Walked (x : Object) (l : Labels) (w u : Labelled) : Type 0 where
    pub opened : List Object
    pub walk : Walk x l w.after opened
    pub same : u.after ≡ w.after
    pub short : length w.text ≤ 11 + (atom_length x + total pair_room opened)
    pub tail_short : length u.text ≤ 15 + (atom_length x + total pair_room opened)
    pub first : number_of x l ≡ None → length w.text ≤ atom_length x + total pair_room opened

  end_short : (b : Bool) (t : List ℕ) → length (end_text b t) ≤ 4 + length t
  end_short true t = omega arith
  end_short false t = omega (arith, length-append t (41 ∷ []))

  hash_short : (n b : ℕ) → n ≤ most_label → length (35 ∷ (numeral n ++ b ∷ [])) ≤ 11
  hash_short n b h = omega (arith, length-append (numeral n) (b ∷ []), nine_digits n h)

  module _ (a d : Object) (l : Labels) (small : AreSmall l) (first_walked : (m : Labels) → AreSmall m → Walked a m (datum s a m) (tail s a m)) (rest_walked : (m : Labels) → AreSmall m → Walked d m (datum s d m) (tail s d m)) where
    abbrev body : ℕ → Labels → Labelled
    body b m = after_byte b (and_then (datum s a m) (tail s d))

    pair_walked : (o : Option ℕ) (b : Bool) → number_of (Pair a d) l ≡ o → (s (Pair a d) && leb l.next most_label) ≡ b → Walked (Pair a d) l (by_way (way_by o b) (Pair a d) l (body 40)) (tail_way (way_by o b) (Pair a d) l body)
    pair_walked (Some n) b e t =
        let few = hash_short n 35 (small (Pair a d) n e) in
        record {
          opened = [];
          walk = again (Pair a d) l n e;
          same = refl;
          short = omega (arith, few);
          tail_short = omega (arith, few, length-append (again_text n) (41 ∷ []));
          first = λ h. absurd (none_some (sym h ∙ e));
        }
      where
        none_some : None ≡ Some n → ⊥
        none_some i = cc
    pair_walked None true e t =
        let p = and_parts (s (Pair a d)) (leb l.next most_label) t in
        let few = hash_short l.next 61 (leb-true l.next most_label p.1) in
        let fa = first_walked (one_more l) small in
        let m = (datum s a (one_more l)).after in
        let fd = rest_walked m (datum_says s a (one_more l) small 0 [] tt).small in
        let A = (datum s a (one_more l)).text in
        let D = (tail s d m).text in
        let both = length-append A D in
        let more = total-append pair_room fa.opened fd.opened in
        let long = length-append (label_text l.next) (40 ∷ (A ++ D)) in
        let text = label_text l.next ++ (40 ∷ (A ++ D)) in
        record {
          opened = Pair a d ∷ (fa.opened ++ fd.opened);
          walk = subst (λ k. Walk (Pair a d) l (give (Pair a d) l.next k) (Pair a d ∷ (fa.opened ++ fd.opened))) (sym fd.same) (new a d l m (datum s d m).after fa.opened fd.opened e fa.walk fd.walk);
          same = refl;
          short = omega (arith, few, both, more, long, fa.short, fd.tail_short);
          tail_short = omega (arith, few, both, more, long, fa.short, fd.tail_short, length-append text (41 ∷ []));
          first = λ h. omega (arith, few, both, more, long, fa.short, fd.tail_short);
        }
    pair_walked None false e t =
        let fa = first_walked l small in
        let m = (datum s a l).after in
        let fd = rest_walked m (datum_says s a l small 0 [] tt).small in
        let A = (datum s a l).text in
        let D = (tail s d m).text in
        let both = length-append A D in
        let more = total-append pair_room fa.opened fd.opened in
        record {
          opened = Pair a d ∷ (fa.opened ++ fd.opened);
          walk = subst (λ k. Walk (Pair a d) l k (Pair a d ∷ (fa.opened ++ fd.opened))) (sym fd.same) (plain a d l m (datum s d m).after fa.opened fd.opened e t fa.walk fd.walk);
          same = refl;
          short = omega (arith, both, more, fa.short, fd.tail_short);
          tail_short = omega (arith, both, more, fa.short, fd.tail_short);
          first = λ h. omega (arith, both, more, fa.short, fd.tail_short);
        }

  pub walked : (x : Object) (l : Labels) → AreSmall l → Walked x l (datum s x l) (tail s x l)
  walked (Natural n) l small = record {
    opened = [];
    walk = atom (Natural n) l refl;
    same = refl;
    short = omega arith;
    tail_short = omega (arith, end_short false (numeral n));
    first = λ h. omega arith;
  }
  walked (Symbol y) l small = record {
    opened = [];
    walk = atom (Symbol y) l refl;
    same = refl;
    short = omega arith;
    tail_short = omega (arith, end_short (same_name y nil_name) (name_text y));
    first = λ h. omega arith;
  }
  walked (Pair a d) l small = pair_walked a d l small (λ m h. walked a m h) (λ m h. walked d m h) (number_of (Pair a d) l) (s (Pair a d) && leb l.next most_label) refl refl

  -- ---- which pairs are written out

  other_lighter : (x p : Object) → weight x < weight p → one_if (same_object x p) ≡ 0
  other_lighter x p h = go (same_object x p) refl
    where
      go : (b : Bool) → same_object x p ≡ b → one_if b ≡ 0
      go false e = refl
      go true e = let same = ap weight (same_object-eq x p e) in absurd (omega (arith, same, h))

  module _ (p : Object) where
    abbrev is_p : Object → ℕ
    is_p = λ x. one_if (same_object x p)

    -- those are pairs in x
    pub walk_within : (y : Object) (i j : Labels) (o : List Object) → Walk y i j o → times p o ≤ times p (pairs_in y)
    walk_within y i j o (atom x l h) = omega arith
    walk_within y i j o (again x l n h) = omega arith
    walk_within y i j o (new a d l m k fs ds h f g) = omega (arith, walk_within a (one_more l) m fs f, walk_within d m k ds g, total-append is_p fs ds, total-append is_p (pairs_in a) (pairs_in d))
    walk_within y i j o (plain a d l m k fs ds h t f g) = omega (arith, walk_within a l m fs f, walk_within d m k ds g, total-append is_p fs ds, total-append is_p (pairs_in a) (pairs_in d))

    -- none is heavier than x
    pub walk_lighter : (y : Object) (i j : Labels) (o : List Object) → Walk y i j o → weight y < weight p → times p o ≡ 0
    walk_lighter y i j o (atom x l h) w = refl
    walk_lighter y i j o (again x l n h) w = refl
    walk_lighter y i j o (new a d l m k fs ds h f g) w = omega (arith, walk_lighter a (one_more l) m fs f (omega (arith, w)), walk_lighter d m k ds g (omega (arith, w)), total-append is_p fs ds, other_lighter (Pair a d) p w)
    walk_lighter y i j o (plain a d l m k fs ds h t f g) w = omega (arith, walk_lighter a l m fs f (omega (arith, w)), walk_lighter d m k ds g (omega (arith, w)), total-append is_p fs ds, other_lighter (Pair a d) p w)

    -- each is x, or a part of another one
    pub walk_parts : (y : Object) (i j : Labels) (o : List Object) → Walk y i j o → times p o ≤ one_if (same_object y p) + total (parts_equal p) o
    walk_parts y i j o (atom x l h) = omega arith
    walk_parts y i j o (again x l n h) = omega arith
    walk_parts y i j o (new a d l m k fs ds h f g) = omega (arith, walk_parts a (one_more l) m fs f, walk_parts d m k ds g, total-append is_p fs ds, total-append (parts_equal p) fs ds)
    walk_parts y i j o (plain a d l m k fs ds h t f g) = omega (arith, walk_parts a l m fs f, walk_parts d m k ds g, total-append is_p fs ds, total-append (parts_equal p) fs ds)

  -- ---- which labels are given

  pub next_grows : (y : Object) (i j : Labels) (o : List Object) → Walk y i j o → i.next ≤ j.next
  next_grows y i j o (atom x l h) = omega arith
  next_grows y i j o (again x l n h) = omega arith
  next_grows y i j o (new a d l m k fs ds h f g) = omega (arith, next_grows a (one_more l) m fs f, next_grows d m k ds g)
  next_grows y i j o (plain a d l m k fs ds h t f g) = omega (arith, next_grows a l m fs f, next_grows d m k ds g)

  -- one for each number
  pub each_number : (y : Object) (i j : Labels) (o : List Object) → Walk y i j o → j.next + length i.given ≡ i.next + length j.given
  each_number y i j o (atom x l h) = refl
  each_number y i j o (again x l n h) = refl
  each_number y i j o (new a d l m k fs ds h f g) = omega (arith, each_number a (one_more l) m fs f, each_number d m k ds g)
  each_number y i j o (plain a d l m k fs ds h t f g) = omega (arith, each_number a l m fs f, each_number d m k ds g)

  -- how many labels p has
  abbrev pub held : Object → Labels → ℕ
  held p l = times p (keys_of l.given)

  none_held : (p : Object) (ps : List (Object × ℕ)) → number_among p ps ≡ None → times p (keys_of ps) ≡ 0
  none_held p [] h = refl
  none_held p (e ∷ ps) h = go (same_object e.0 p) h (none_held p ps)
    where
      go : (b : Bool) → cond b (Some e.1) (number_among p ps) ≡ None → (number_among p ps ≡ None → times p (keys_of ps) ≡ 0) → one_if b + times p (keys_of ps) ≡ 0
      go true k more = absurd (some_none k)
        where
          some_none : Some e.1 ≡ None → ⊥
          some_none i = cc
      go false k more = omega (arith, more k)

  module _ (p : Object) where
    -- to pairs in x
    pub held_within : (y : Object) (i j : Labels) (o : List Object) → Walk y i j o → held p j ≤ held p i + times p (pairs_in y)
    held_within y i j o (atom x l h) = omega arith
    held_within y i j o (again x l n h) = omega arith
    held_within y i j o (new a d l m k fs ds h f g) = omega (arith, held_within a (one_more l) m fs f, held_within d m k ds g, total-append (is_p p) (pairs_in a) (pairs_in d))
    held_within y i j o (plain a d l m k fs ds h t f g) = omega (arith, held_within a l m fs f, held_within d m k ds g, total-append (is_p p) (pairs_in a) (pairs_in d))

    -- to none that is heavier than x
    pub held_lighter : (y : Object) (i j : Labels) (o : List Object) → Walk y i j o → weight y < weight p → held p j ≡ held p i
    held_lighter y i j o (atom x l h) w = refl
    held_lighter y i j o (again x l n h) w = refl
    held_lighter y i j o (new a d l m k fs ds h f g) w = omega (arith, held_lighter a (one_more l) m fs f (omega (arith, w)), held_lighter d m k ds g (omega (arith, w)), other_lighter (Pair a d) p w)
    held_lighter y i j o (plain a d l m k fs ds h t f g) w = omega (arith, held_lighter a l m fs f (omega (arith, w)), held_lighter d m k ds g (omega (arith, w)))

    -- to none twice
    pub held_once : (y : Object) (i j : Labels) (o : List Object) → Walk y i j o → held p i ≤ 1 → held p j ≤ 1
    held_once y i j o (atom x l h) w = w
    held_once y i j o (again x l n h) w = w
    held_once y i j o (new a d l m k fs ds h f g) w = go (same_object (Pair a d) p) refl (held_once d m k ds g (held_once a (one_more l) m fs f w))
      where
        go : (b : Bool) → same_object (Pair a d) p ≡ b → held p k ≤ 1 → one_if b + held p k ≤ 1
        go false e once = omega (arith, once)
        go true e once =
            let same = same_object-eq (Pair a d) p e in
            let heavy = ap weight same in
            let none = ap (λ y. held y l) (sym same) ∙ none_held (Pair a d) l.given h in
            omega (arith, none, held_lighter a (one_more l) m fs f (omega (arith, heavy)), held_lighter d m k ds g (omega (arith, heavy)))
    held_once y i j o (plain a d l m k fs ds h t f g) w = held_once d m k ds g (held_once a l m fs f w)

    -- to each pair that has one, where they suffice, as it is written out
    module _ (has : s p ≡ true) where
      pub held_opened : (y : Object) (i j : Labels) (o : List Object) → Walk y i j o → j.next ≤ most_label → times p o + held p i ≤ held p j
      held_opened y i j o (atom x l h) w = omega arith
      held_opened y i j o (again x l n h) w = omega arith
      held_opened y i j o (new a d l m k fs ds h f g) w = go (same_object (Pair a d) p) refl (held_opened a (one_more l) m fs f (omega (arith, w, next_grows d m k ds g))) (held_opened d m k ds g w)
        where
          go : (b : Bool) → same_object (Pair a d) p ≡ b → times p fs + held p l ≤ held p m → times p ds + held p m ≤ held p k → (one_if b + times p (fs ++ ds)) + held p l ≤ one_if b + held p k
          go b e ia id = omega (arith, ia, id, total-append (is_p p) fs ds)
      held_opened y i j o (plain a d l m k fs ds h t f g) w = go (same_object (Pair a d) p) refl (held_opened a l m fs f (omega (arith, w, next_grows d m k ds g))) (held_opened d m k ds g w)
        where
          go : (b : Bool) → same_object (Pair a d) p ≡ b → times p fs + held p l ≤ held p m → times p ds + held p m ≤ held p k → (one_if b + times p (fs ++ ds)) + held p l ≤ held p k
          go false e ia id = omega (arith, ia, id, total-append (is_p p) fs ds)
          go true e ia id =
              let same = same_object-eq (Pair a d) p e in
              let past = sym (ap (λ v. v && leb l.next most_label) (ap s same ∙ has)) ∙ t in
              absurd (omega (arith, leb-false l.next most_label past, next_grows a l m fs f, next_grows d m k ds g, w))
