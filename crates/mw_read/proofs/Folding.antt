-- A list is folded from its last member on.
use Rattle.std.proofs.Common.{◌≡◌, ℕ, List, [], ◌∷◌, ◌++◌, refl, sym, ap, ap₂, ◌∙◌, subst}
use Rattle.mw_model.specs.Terms.Object.{Object, Pair}
use Rattle.mw_heap.specs.Objects.{object_at, IsIn, Grows}
use Rattle.mw_read.specs.Machine.{Members, Tailed, Quoting, Marking}
use Rattle.mw_read.specs.Piles.{Pile, Frames, Ready, piled, MayLie, pile_of, IsPile, IsInList, members_of, frames_round}
use Rattle.mw_read.specs.declared.stack.Layer.{Layer}
use Rattle.mw_read.specs.declared.stack.Layer.TheVariants as layers
use Rattle.mw_heap.proofs.Objects.{Grows-refl, Grows-trans}
use Rattle.mw_read.proofs.Piles.{pile_top, less_layer, layer_lies, pile_grows, is_pile_grows}

-- what a list that is being folded keeps
pub record Folds (old : List Object) (before : List Layer) (last : ℕ) (os : List Object) (ls : List Layer) (list : ℕ) : Type 0 where
  pub pile : IsPile os ls
  pub open_list : IsInList (pile_of os ls)
  pub listed : IsIn os list
  pub kept : Grows old os
  pub round : frames_round (pile_of os ls) ≡ frames_round (pile_of old before)
  pub made : members_of (pile_of os ls) (object_at os list) ≡ members_of (pile_of old before) (object_at old last)

pub fold_start : (os : List Object) (ls : List Layer) (last : ℕ) → IsIn os last → IsPile os ls → IsInList (pile_of os ls) → Folds os ls last os ls last
fold_start os ls last h p l = record { pile = p; open_list = l; listed = h; kept = Grows-refl os; round = refl; made = refl }

item_lies : (os : List Object) (t : Pile) (r : ℕ) → MayLie t (layers.Item r) →
    IsInList t × (frames_round (piled os t (layers.Item r)) ≡ frames_round t) × ((y : Object) → members_of (piled os t (layers.Item r)) y ≡ members_of t (Pair (object_at os r) y))
item_lies os (Frames (Members xs ∷ s)) r h = (tt, refl, λ y. refl)
item_lies os (Frames (Tailed xs ∷ s)) r h = absurd h
item_lies os (Frames (Quoting ∷ s)) r h = absurd h
item_lies os (Frames (Marking n ∷ s)) r h = absurd h
item_lies os (Frames []) r h = absurd h
item_lies os (Ready xs x s) r h = absurd h

opening_lies : (os : List Object) (t : Pile) (l : Layer) → MayLie t l → IsInList (piled os t l) → ((r : ℕ) → l ≡ layers.Item r → ⊥) →
    (t ≡ Frames (frames_round (piled os t l))) × ((y : Object) → members_of (piled os t l) y ≡ y)
opening_lies os (Frames s) layers.Opening h i n = (refl, λ y. refl)
opening_lies os (Frames s) (layers.Item r) h i n = absurd (n r refl)
opening_lies os (Frames (Members (x ∷ xs) ∷ s)) layers.Dot h i n = absurd i
opening_lies os (Frames (Members (x ∷ xs) ∷ s)) (layers.Last r) h i n = absurd i
opening_lies os (Frames s) layers.Quote h i n = absurd i
opening_lies os (Frames s) (layers.Mark m) h i n = absurd i
opening_lies os t l h i n = absurd h

module _ (old : List Object) (before : List Layer) (last : ℕ) where
  pub fold_item : (os new : List Object) (ls rest : List Layer) (list x made : ℕ) → Folds old before last os ls list → ls ≡ rest ++ layers.Item x ∷ [] → Grows os new → IsIn new made →
      object_at new made ≡ Pair (object_at os x) (object_at os list) → Folds old before last new rest made
  fold_item os new ls rest list x made f e g h q =
      let p = subst (λ u. IsPile os u) e f.pile in
      let r = less_layer os rest (layers.Item x) p in
      let v = pile_grows os new rest g r in
      let top : pile_of os ls ≡ piled os (pile_of os rest) (layers.Item x) = ap (pile_of os) e ∙ pile_top os (Frames []) rest (layers.Item x) in
      let k = item_lies os (pile_of os rest) x (layer_lies os rest (layers.Item x) p).0 in
      record {
        pile = is_pile_grows os new rest g r;
        open_list = subst (λ u. IsInList u) (sym v) k.0;
        listed = h;
        kept = Grows-trans old os new f.kept g;
        round = ap frames_round v ∙ sym k.1 ∙ sym (ap frames_round top) ∙ f.round;
        made = ap₂ members_of v q ∙ sym (k.2 (object_at os list)) ∙ sym (ap (λ u. members_of u (object_at os list)) top) ∙ f.made;
      }

  pub fold_end : (os : List Object) (ls rest : List Layer) (list : ℕ) (l : Layer) → Folds old before last os ls list → ls ≡ rest ++ l ∷ [] → ((r : ℕ) → l ≡ layers.Item r → ⊥) →
      IsPile os rest × (pile_of os rest ≡ Frames (frames_round (pile_of old before))) × (object_at os list ≡ members_of (pile_of old before) (object_at old last))
  fold_end os ls rest list l f e n =
      let p = subst (λ u. IsPile os u) e f.pile in
      let top : pile_of os ls ≡ piled os (pile_of os rest) l = ap (pile_of os) e ∙ pile_top os (Frames []) rest l in
      let k = opening_lies os (pile_of os rest) l (layer_lies os rest l p).0 (subst (λ u. IsInList u) top f.open_list) n in (
        less_layer os rest l p,
        k.0 ∙ ap Frames (sym (ap frames_round top) ∙ f.round),
        sym (k.1 (object_at os list)) ∙ sym (ap (λ u. members_of u (object_at os list)) top) ∙ f.made,
      )
