-- What a layer more or less makes of the state that a stack stands for.
use Rattle.std.proofs.Common.{◌≡◌, ℕ, zero, suc, ◌-◌, Bool, true, false, List, [], ◌∷◌, ◌++◌, length, Option, Some, None, Result, Ok, Err, IfOk, refl, sym, ap, ◌∙◌, subst, arith, true≢false, MatchBool, if◌then◌else◌, take, length-append}
use Rattle.mw_model.specs.Terms.Object.{Object}
use Rattle.mw_model.specs.Texts.Lexemes.{Lexeme, Atom, Open, Dot, Quote, Mark, Ref, LABEL}
use Rattle.mw_model.specs.Texts.Grammar.{Labels, Label, is_begun, labelled}
use Rattle.mw_heap.specs.Objects.{object_at}
use Rattle.mw_read.specs.Machine.{Frame, Members, Tailed, Quoting, Marking, State, Idle, Within, Full, Broken, Turn, quiet, broken, refer, taken, within, on, labels_of, IsSound, is_full, is_after_member}
use Rattle.mw_read.specs.Named.{Agree, seen_at}
use Rattle.mw_read.specs.Piles.{Pile, Frames, Ready, piled, MayLie, pile_of, IsPile, Shows, IsFrames, give_to, is_last, is_item, is_ready, has_member, EndsWith, IsUnder}
use Rattle.mw_read.specs.declared.stack.Layer.{Layer}
use Rattle.mw_read.specs.declared.stack.Layer.TheVariants as layers
use Rattle.mw_read.proofs.Lying.{each_place}
use Rattle.mw_read.proofs.Piles.{pile_top, layer_lies, more_layer}

pub split_lies : (os : List Object) (ls rest : List Layer) (l : Layer) → ls ≡ rest ++ l ∷ [] → IsPile os ls → MayLie (pile_of os rest) l × (pile_of os ls ≡ piled os (pile_of os rest) l)
split_lies os ls rest l e p = ((layer_lies os rest l (subst (λ u. IsPile os u) e p)).0, ap (pile_of os) e ∙ pile_top os (Frames []) rest l)

abbrev pub frames_of : State → List Frame
frames_of Idle = []
frames_of (Within f s ls) = f ∷ s
frames_of (Full xs x s ls) = s
frames_of (Broken f) = []

pub shows_agree : (os : List Object) (p : Pile) (m : List (ℕ × Option ℕ)) (t : State) → Shows os p m t → Agree os m (labels_of t)
shows_agree os p m Idle h = h.1
shows_agree os p m (Within f s ls) h = h.1
shows_agree os p m (Full xs x s ls) h = h.1
shows_agree os p m (Broken f) h = absurd h

pub shows_frames : (os : List Object) (p : Pile) (m : List (ℕ × Option ℕ)) (t : State) → Shows os p m t → is_full t ≡ false → p ≡ Frames (frames_of t)
shows_frames os p m Idle h n = h.0
shows_frames os p m (Within f s ls) h n = h.0
shows_frames os p m (Full xs x s ls) h n = absurd (true≢false n)
shows_frames os p m (Broken f) h n = absurd h

-- what the top says
pub full_is : (os : List Object) (p : Pile) (m : List (ℕ × Option ℕ)) (t : State) → Shows os p m t → is_ready p ≡ is_full t
full_is os p m Idle h = ap is_ready h.0
full_is os p m (Within f s ls) h = ap is_ready h.0
full_is os p m (Full xs x s ls) h = ap is_ready h.0
full_is os p m (Broken f) h = absurd h

pub member_is : (os : List Object) (p : Pile) (m : List (ℕ × Option ℕ)) (t : State) → Shows os p m t → has_member p ≡ is_after_member t
member_is os p m Idle h = ap has_member h.0
member_is os p m (Within (Members []) s ls) h = ap has_member h.0
member_is os p m (Within (Members (x ∷ xs)) s ls) h = ap has_member h.0
member_is os p m (Within (Tailed xs) s ls) h = ap has_member h.0
member_is os p m (Within Quoting s ls) h = ap has_member h.0
member_is os p m (Within (Marking n) s ls) h = ap has_member h.0
member_is os p m (Full xs x s ls) h = ap has_member h.0
member_is os p m (Broken f) h = absurd h

top_ready : (os : List Object) (t : Pile) (l : Layer) → MayLie t l → is_ready (piled os t l) ≡ is_last l
top_ready os t l h = each_place (λ u k. is_ready (piled os u k) ≡ is_last k) (λ s. refl) (λ s. refl) (λ n s. refl) (λ r xs s. refl) (λ x xs s. refl) (λ r x xs s. refl) t l h

top_member : (os : List Object) (t : Pile) (l : Layer) → MayLie t l → has_member (piled os t l) ≡ is_item l
top_member os t l h = each_place (λ u k. has_member (piled os u k) ≡ is_item k) (λ s. refl) (λ s. refl) (λ n s. refl) (λ r xs s. refl) (λ x xs s. refl) (λ r x xs s. refl) t l h

pub top_full : (os : List Object) (ls : List Layer) (l : Layer) → EndsWith ls l → IsPile os ls → is_last l ≡ is_ready (pile_of os ls)
top_full os ls l e p = let k = split_lies os ls e.0 l e.1 p in sym (top_ready os (pile_of os e.0) l k.0) ∙ sym (ap is_ready k.1)

pub top_after : (os : List Object) (ls : List Layer) (l : Layer) → EndsWith ls l → IsPile os ls → is_item l ≡ has_member (pile_of os ls)
top_after os ls l e p = let k = split_lies os ls e.0 l e.1 p in sym (top_member os (pile_of os e.0) l k.0) ∙ sym (ap has_member k.1)

pub ready_frames : (p : Pile) → is_ready p ≡ false → IsFrames p
ready_frames (Frames s) h = tt
ready_frames (Ready xs x s) h = absurd (true≢false h)

-- a lexeme that begins a datum at o
abbrev pub IsBeginning : Lexeme → ℕ → Type 0
IsBeginning (Atom p x) o = p ≡ o
IsBeginning (Open p) o = p ≡ o
IsBeginning (Quote p) o = p ≡ o
IsBeginning (Mark p n) o = p ≡ o
IsBeginning (Ref p n) o = p ≡ o
IsBeginning l o = ⊥

pub shows_sound : (os : List Object) (p : Pile) (m : List (ℕ × Option ℕ)) (t : State) → Shows os p m t → IsSound t
shows_sound os p m Idle h = tt
shows_sound os p m (Within f s ls) h = tt
shows_sound os p m (Full xs x s ls) h = tt
shows_sound os p m (Broken f) h = absurd h

-- what holds of each lexeme that begins a datum
each_beginning : (P : Lexeme → Type 0) → ((p : ℕ) (x : Object) → P (Atom p x)) → ((p : ℕ) → P (Open p)) → ((p : ℕ) → P (Quote p)) → ((p n : ℕ) → P (Mark p n)) → ((p n : ℕ) → P (Ref p n)) →
    (l : Lexeme) (o : ℕ) → IsBeginning l o → P l
each_beginning P a b c d e (Atom p x) o h = a p x
each_beginning P a b c d e (Open p) o h = b p
each_beginning P a b c d e (Quote p) o h = c p
each_beginning P a b c d e (Mark p n) o h = d p n
each_beginning P a b c d e (Ref p n) o h = e p n
each_beginning P a b c d e l o h = absurd h

-- where nothing hinders, a lexeme that begins a datum is taken
pub on_take : (t : State) (l : Lexeme) (o : ℕ) → is_full t ≡ false → IsSound t → IsBeginning l o → on t l ≡ taken (frames_of t) (labels_of t) l
on_take Idle l o h k b = refl
on_take (Broken f) l o h k b = absurd k
on_take (Full xs x s ls) l o h k b = absurd (true≢false h)
on_take (Within f s ls) l o h k b = inside f
  where
    inside : (f : Frame) → within f s ls l ≡ taken (f ∷ s) ls l
    inside (Members []) = each_beginning (λ l. within (Members []) s ls l ≡ taken (Members [] ∷ s) ls l) (λ p x. refl) (λ p. refl) (λ p. refl) (λ p n. refl) (λ p n. refl) l o b
    inside (Members (y ∷ ys)) = each_beginning (λ l. within (Members (y ∷ ys)) s ls l ≡ taken (Members (y ∷ ys) ∷ s) ls l) (λ p x. refl) (λ p. refl) (λ p. refl) (λ p n. refl) (λ p n. refl) l o b
    inside (Tailed ys) = each_beginning (λ l. within (Tailed ys) s ls l ≡ taken (Tailed ys ∷ s) ls l) (λ p x. refl) (λ p. refl) (λ p. refl) (λ p n. refl) (λ p n. refl) l o b
    inside Quoting = refl
    inside (Marking n) = refl

-- a layer more
pub push_frame : (os : List Object) (ls new : List Layer) (m m2 : List (ℕ × Option ℕ)) (t : State) (l : Layer) (f : Frame) (js : Labels) → new ≡ ls ++ l ∷ [] → Shows os (pile_of os ls) m t → is_full t ≡ false →
    ((s : List Frame) → piled os (Frames s) l ≡ Frames (f ∷ s)) → Agree os m2 js → Shows os (pile_of os new) m2 (Within f (frames_of t) js)
push_frame os ls new m m2 t l f js e h n g a =
    (ap (pile_of os) e ∙ pile_top os (Frames []) ls l ∙ ap (λ p. piled os p l) (shows_frames os (pile_of os ls) m t h n) ∙ g (frames_of t), a)

pub push_dot : (os : List Object) (ls new : List Layer) (m : List (ℕ × Option ℕ)) (t : State) (o : ℕ) → new ≡ ls ++ layers.Dot ∷ [] → Shows os (pile_of os ls) m t → is_after_member t ≡ true →
    MayLie (pile_of os ls) layers.Dot × (([] ≡ (on t (Dot o)).events) × Shows os (pile_of os new) m (on t (Dot o)).state)
push_dot os ls new m (Within (Members (x ∷ xs)) s ls') o e h b =
    (subst (λ p. MayLie p layers.Dot) (sym h.0) tt, (refl, (ap (pile_of os) e ∙ pile_top os (Frames []) ls layers.Dot ∙ ap (λ p. piled os p layers.Dot) h.0, h.1)))
push_dot os ls new m t o e h b = absurd (true≢false (sym b))

-- a datum is given
pub give_atom : (os : List Object) (p : Pile) (m : List (ℕ × Option ℕ)) (t : State) (y : Object) (o : ℕ) → Shows os p m t → is_full t ≡ false → give_to p y (labels_of t) ≡ on t (Atom o y)
give_atom os p m t y o h n = ap (λ q. give_to q y (labels_of t)) (shows_frames os p m t h n) ∙ sym (on_take t (Atom o y) o n (shows_sound os p m t h) refl)

pub stack_more : (os : List Object) (ls new : List Layer) (l : Layer) → new ≡ ls ++ l ∷ [] → IsPile os ls → MayLie (pile_of os ls) l → IsUnder (length os) l → IsPile os new
stack_more os ls new l e p y u = subst (λ v. IsPile os v) (sym e) (more_layer os ls l p y u)

pub frames_may : (p : Pile) → IsFrames p → MayLie p layers.Opening × (MayLie p layers.Quote × ((n : ℕ) → MayLie p (layers.Mark n)))
frames_may (Frames s) h = (tt, (tt, λ n. tt))
frames_may (Ready xs x s) h = absurd h

pub member_may : (p : Pile) → has_member p ≡ true → MayLie p layers.Dot
member_may (Frames (Members (x ∷ xs) ∷ s)) h = tt
member_may p h = absurd (true≢false (sym h))

pub if_ok_map : {T E : Type 0} {P Q : T → Type 0} (r : Result T E) → ((x : T) → P x → Q x) → IfOk r P → IfOk r Q
if_ok_map (Ok x) f h = f x h
if_ok_map (Err e) f h = h

pub match_true : {P : Type 0} (Q : Type 0) (b : Bool) → b ≡ true → MatchBool b P Q → P
match_true Q true e h = h
match_true Q false e h = absurd (true≢false (sym e))

pub match_false : (P : Type 0) {Q : Type 0} (b : Bool) → b ≡ false → MatchBool b P Q → Q
match_false P true e h = absurd (true≢false e)
match_false P false e h = h

-- a label
pub mark_new : (os : List Object) (ls new : List Layer) (m m2 : List (ℕ × Option ℕ)) (t : State) (n o : ℕ) → new ≡ ls ++ layers.Mark n ∷ [] → Shows os (pile_of os ls) m t → is_full t ≡ false →
    is_begun n (labels_of t) ≡ false → Agree os m2 (Label n None (labels_of t)) → ([] ≡ (on t (Mark o n)).events) × Shows os (pile_of os new) m2 (on t (Mark o n)).state
mark_new os ls new m m2 t n o e h f b a =
    let js = Label n None (labels_of t) in
    let q : on t (Mark o n) ≡ quiet (Within (Marking n) (frames_of t) js) =
    on_take t (Mark o n) o f (shows_sound os (pile_of os ls) m t h) refl ∙ ap (λ v. if v then broken LABEL o else quiet (Within (Marking n) (frames_of t) js)) b in
    subst (λ (w : Turn). ([] ≡ w.events) × Shows os (pile_of os new) m2 w.state) (sym q) (refl, push_frame os ls new m m2 t (layers.Mark n) (Marking n) js e h f (λ s. refl) a)

pub mark_old : (os : List Object) (p : Pile) (m : List (ℕ × Option ℕ)) (t : State) (n o : ℕ) → Shows os p m t → is_full t ≡ false → is_begun n (labels_of t) ≡ true → on t (Mark o n) ≡ broken LABEL o
mark_old os p m t n o h f b =
    on_take t (Mark o n) o f (shows_sound os p m t h) refl ∙ ap (λ v. if v then broken LABEL o else quiet (Within (Marking n) (frames_of t) (Label n None (labels_of t)))) b

-- a reference
pub refer_some : (os : List Object) (p : Pile) (m : List (ℕ × Option ℕ)) (t : State) (n o x : ℕ) → Shows os p m t → is_full t ≡ false → seen_at os (Some x) ≡ labelled n (labels_of t) → on t (Atom o (object_at os x)) ≡ on t (Ref o n)
refer_some os p m t n o x h f e =
    let k = shows_sound os p m t h in
    on_take t (Atom o (object_at os x)) o f k refl ∙ ap (λ y. refer o y (frames_of t) (labels_of t)) e ∙ sym (on_take t (Ref o n) o f k refl)

pub refer_none : (os : List Object) (p : Pile) (m : List (ℕ × Option ℕ)) (t : State) (n o : ℕ) → Shows os p m t → is_full t ≡ false → None ≡ labelled n (labels_of t) → on t (Ref o n) ≡ broken LABEL o
refer_none os p m t n o h f e = on_take t (Ref o n) o f (shows_sound os p m t h) refl ∙ ap (λ y. refer o y (frames_of t) (labels_of t)) (sym e)

-- what ends with this layer, without it
pub popped : (n : ℕ) (rest : List Layer) (l : Layer) → n ≡ length rest → take n (rest ++ l ∷ []) ≡ rest
popped zero [] l h = refl
popped zero (k ∷ rest) l h = absurd (omega arith)
popped (suc n) [] l h = absurd (omega arith)
popped (suc n) (k ∷ rest) l h = ap (λ u. k ∷ u) (popped n rest l (omega arith))

pub popped_is : (ls rest new : List Layer) (l : Layer) (n : ℕ) → ls ≡ rest ++ l ∷ [] → n ≡ length ls → new ≡ take (n - 1) ls → new ≡ rest
popped_is ls rest new l n e h q = q ∙ ap (take (n - 1)) e ∙ popped (n - 1) rest l (omega (arith, ap length e, length-append rest (l ∷ [])))

-- what is left where the innermost layer goes
pub popped_layer : (ls seen new : List Layer) (l m : Layer) (n : ℕ) → EndsWith seen l → seen ≡ ls → l ≡ m → n ≡ length ls → new ≡ take (n - 1) ls → ls ≡ new ++ m ∷ []
popped_layer ls seen new l m n e s q a b =
    let f : ls ≡ e.0 ++ m ∷ [] = sym s ∙ (e.1 ∙ ap (λ u. e.0 ++ u ∷ []) q) in
    f ∙ ap (λ u. u ++ m ∷ []) (sym (popped_is ls e.0 new m n f a b))
