-- What a closing parenthesis makes of the state that a stack stands for.
use Rattle.std.proofs.Common.{◌≡◌, ℕ, ◌-◌, List, [], ◌∷◌, ◌++◌, length, Option, refl, sym, ap, ◌∙◌, subst, ◌⊎◌, inl, inr, take}
use Rattle.mw_model.specs.Terms.Object.{Object, NIL}
use Rattle.mw_model.specs.Texts.Lexemes.{Close, DOT, CLOSE}
use Rattle.mw_model.specs.Texts.Grammar.{Labels, Unused}
use Rattle.mw_heap.specs.Objects.{object_at, IsIn}
use Rattle.mw_read.specs.Machine.{Members, Tailed, Quoting, Marking, State, Idle, Within, Full, Broken, Turn, broken, fill, given, on, labels_of}
use Rattle.mw_read.specs.Piles.{Pile, Frames, Ready, piled, MayLie, pile_of, IsPile, Shows, IsInList, closed_with, EndsWith}
use Rattle.mw_read.specs.declared.stack.Layer.{Layer}
use Rattle.mw_read.specs.declared.stack.Layer.TheVariants as layers
use Rattle.mw_read.proofs.Lying.{each_place}
use Rattle.mw_read.proofs.Piles.{layer_lies, less_layer}
use Rattle.mw_read.proofs.Turns.{split_lies, popped_is}

-- the turn of a closing, by what is open
abbrev pub close_pile : ℕ → Pile → Labels → Turn
close_pile o (Frames []) ls = broken CLOSE o
close_pile o (Frames (Members xs ∷ s)) ls = given (fill xs NIL) s ls
close_pile o (Frames (Tailed xs ∷ s)) ls = broken DOT o
close_pile o (Frames (Quoting ∷ s)) ls = broken CLOSE o
close_pile o (Frames (Marking n ∷ s)) ls = broken CLOSE o
close_pile o (Ready xs x s) ls = given (fill xs x) s ls

pub on_close : (os : List Object) (p : Pile) (m : List (ℕ × Option ℕ)) (t : State) (o : ℕ) → Shows os p m t → on t (Close o) ≡ close_pile o p (labels_of t)
on_close os p m Idle o h = sym (ap (λ q. close_pile o q Unused) h.0)
on_close os p m (Within (Members []) s ls) o h = sym (ap (λ q. close_pile o q ls) h.0)
on_close os p m (Within (Members (x ∷ xs)) s ls) o h = sym (ap (λ q. close_pile o q ls) h.0)
on_close os p m (Within (Tailed xs) s ls) o h = sym (ap (λ q. close_pile o q ls) h.0)
on_close os p m (Within Quoting s ls) o h = sym (ap (λ q. close_pile o q ls) h.0)
on_close os p m (Within (Marking n) s ls) o h = sym (ap (λ q. close_pile o q ls) h.0)
on_close os p m (Full xs x s ls) o h = sym (ap (λ q. close_pile o q ls) h.0)
on_close os p m (Broken f) o h = absurd h

pub close_list : (o : ℕ) (p : Pile) (ls : Labels) → IsInList p → close_pile o p ls ≡ closed_with p NIL ls
close_list o (Frames (Members xs ∷ s)) ls h = refl
close_list o p ls h = absurd h

-- what a closing finds where this layer is the innermost
abbrev pub Closes : List Object → ℕ → Pile → Layer → Type 0
Closes os o t layers.Opening = IsInList (piled os t layers.Opening)
Closes os o t (layers.Item r) = IsInList (piled os t (layers.Item r))
Closes os o t layers.Dot = (ls : Labels) → close_pile o (piled os t layers.Dot) ls ≡ broken DOT o
Closes os o t layers.Quote = (ls : Labels) → close_pile o (piled os t layers.Quote) ls ≡ broken CLOSE o
Closes os o t (layers.Mark n) = (ls : Labels) → close_pile o (piled os t (layers.Mark n)) ls ≡ broken CLOSE o
Closes os o t (layers.Last r) = IsInList t × ((ls : Labels) → close_pile o (piled os t (layers.Last r)) ls ≡ closed_with t (object_at os r) ls)

layer_closes : (os : List Object) (o : ℕ) (t : Pile) (l : Layer) → MayLie t l → Closes os o t l
layer_closes os o t l h = each_place (Closes os o) (λ s. tt) (λ s ls. refl) (λ n s ls. refl) (λ r xs s. tt) (λ x xs s ls. refl) (λ r x xs s. (tt, λ ls. refl)) t l h

pub opens_list : (os : List Object) (ls : List Layer) (l : Layer) → EndsWith ls l → IsPile os ls → (l ≡ layers.Opening) ⊎ ((x : ℕ) × (l ≡ layers.Item x)) → IsInList (pile_of os ls)
opens_list os ls l e p (inl q) =
    let k = split_lies os ls e.0 layers.Opening (e.1 ∙ ap (λ u. e.0 ++ u ∷ []) q) p in subst (λ u. IsInList u) (sym k.1) (layer_closes os 0 (pile_of os e.0) layers.Opening k.0)
opens_list os ls l e p (inr q) =
    let k = split_lies os ls e.0 (layers.Item q.0) (e.1 ∙ ap (λ u. e.0 ++ u ∷ []) q.1) p in subst (λ u. IsInList u) (sym k.1) (layer_closes os 0 (pile_of os e.0) (layers.Item q.0) k.0)

pub ends_dot : (os : List Object) (ls : List Layer) (m : List (ℕ × Option ℕ)) (t : State) (o : ℕ) (l : Layer) → EndsWith ls l → IsPile os ls → l ≡ layers.Dot → Shows os (pile_of os ls) m t → on t (Close o) ≡ broken DOT o
ends_dot os ls m t o l e p q h =
    let k = split_lies os ls e.0 layers.Dot (e.1 ∙ ap (λ u. e.0 ++ u ∷ []) q) p in
    on_close os (pile_of os ls) m t o h ∙ ap (λ u. close_pile o u (labels_of t)) k.1 ∙ layer_closes os o (pile_of os e.0) layers.Dot k.0 (labels_of t)

pub ends_waiting : (os : List Object) (ls : List Layer) (m : List (ℕ × Option ℕ)) (t : State) (o : ℕ) (l : Layer) → EndsWith ls l → IsPile os ls → (l ≡ layers.Quote) ⊎ ((n : ℕ) × (l ≡ layers.Mark n)) → Shows os (pile_of os ls) m t →
    on t (Close o) ≡ broken CLOSE o
ends_waiting os ls m t o l e p (inl q) h =
    let k = split_lies os ls e.0 layers.Quote (e.1 ∙ ap (λ u. e.0 ++ u ∷ []) q) p in
    on_close os (pile_of os ls) m t o h ∙ ap (λ u. close_pile o u (labels_of t)) k.1 ∙ layer_closes os o (pile_of os e.0) layers.Quote k.0 (labels_of t)
ends_waiting os ls m t o l e p (inr q) h =
    let k = split_lies os ls e.0 (layers.Mark q.0) (e.1 ∙ ap (λ u. e.0 ++ u ∷ []) q.1) p in
    on_close os (pile_of os ls) m t o h ∙ ap (λ u. close_pile o u (labels_of t)) k.1 ∙ layer_closes os o (pile_of os e.0) (layers.Mark q.0) k.0 (labels_of t)

-- the datum after a dot, and what is under it
pub ends_last : (os : List Object) (ls : List Layer) (l : Layer) (x : ℕ) → EndsWith ls l → IsPile os ls → l ≡ layers.Last x → IsIn os x
ends_last os ls l x e p q = (layer_lies os e.0 (layers.Last x) (subst (λ u. IsPile os u) (e.1 ∙ ap (λ u. e.0 ++ u ∷ []) q) p)).1

pub under_last : (os : List Object) (ls new : List Layer) (l : Layer) (x n : ℕ) (e : EndsWith ls l) → IsPile os ls → l ≡ layers.Last x → n ≡ length ls → new ≡ take (n - 1) ls →
    IsPile os new × (IsInList (pile_of os new) × ((m : List (ℕ × Option ℕ)) (t : State) (o : ℕ) → Shows os (pile_of os ls) m t → closed_with (pile_of os new) (object_at os x) (labels_of t) ≡ on t (Close o)))
under_last os ls new l x n e p q a b =
    let f : ls ≡ e.0 ++ layers.Last x ∷ [] = e.1 ∙ ap (λ u. e.0 ++ u ∷ []) q in
    let g = popped_is ls e.0 new (layers.Last x) n f a b in
    let k = split_lies os ls e.0 (layers.Last x) f p in (
      subst (λ u. IsPile os u) (sym g) (less_layer os e.0 (layers.Last x) (subst (λ u. IsPile os u) f p)),
      (
        subst (λ u. IsInList (pile_of os u)) (sym g) (layer_closes os 0 (pile_of os e.0) (layers.Last x) k.0).0,
        λ m t o h.
            ap (λ u. closed_with (pile_of os u) (object_at os x) (labels_of t)) g
            ∙ sym ((layer_closes os o (pile_of os e.0) (layers.Last x) k.0).1 (labels_of t))
            ∙ sym (ap (λ u. close_pile o u (labels_of t)) k.1)
            ∙ sym (on_close os (pile_of os ls) m t o h),
      ),
    )
