-- What a lexeme makes of what a stack holds.
use Rattle.std.proofs.Common.{◌≡◌, ℕ, Bool, true, false, ◌||◌, List, [], ◌∷◌, length, Result, Ok, Err, IfOk, refl, sym, ap, ap₂, ◌∙◌, subst}
use Rattle.mw_model.specs.Terms.Object.{Object}
use Rattle.mw_model.specs.Texts.Lexemes.{Lexeme, Open, Close, Dot, Quote, Atom, Mark, Ref, Fault}
use Rattle.mw_model.specs.Events.Fate.{is_out_of_range}
use Rattle.mw_heap.specs.Objects.{object_at, Grows}
use Rattle.mw_read.specs.Machine.{State, Idle, Within, Full, Broken, Turn, on, labels_of, IsSound, is_full}
use Rattle.mw_lex.specs.Tokens.{clamp}
use Rattle.mw_read.specs.Clamp.{clamp_all, clamp_state, clamp_turn, clamp_lexeme, state_big, lexeme_big, any_big}
use Rattle.mw_read.specs.Piles.{Does, HoldsDatum, pile_of, fault_of, is_ready}
use Rattle.mw_read.specs.Stacks.{IsStack, Means}
use Rattle.mw_read.specs.Held.{Holds, Took}
use Rattle.mw_read.specs.Taken.{lexeme_at, IsBare}
use Rattle.mw_read.specs.declared.lexeme.Lexeme as code
use Rattle.mw_read.specs.declared.lexeme.Lexeme.TheVariants as lexemes
use Rattle.mw_read.specs.declared.stack.Stack.{Stack}
use Rattle.mw_read.specs.declared.step.Outcome.{Outcome}
use Rattle.mw_read.specs.declared.step.Outcome.TheVariants as outcomes
use Rattle.mw_heap.proofs.Objects.{length-Grows}
use Rattle.mw_read.proofs.Piles.{pile_grows, is_pile_grows, agree_grows, listed_grows}
use Rattle.mw_read.proofs.Turns.{full_is}
use Rattle.mw_read.proofs.Clamp.{on_clamp, on_flags, IsWhole, Flags}

none_clamp : (xs : List Object) → [] ≡ clamp_all xs → xs ≡ []
none_clamp [] h = refl
none_clamp (x ∷ xs) h = absurd cc

one_clamp : (xs : List Object) (y : Object) → clamp_all xs ≡ y ∷ [] → (x : Object) × (xs ≡ x ∷ []) × (y ≡ clamp x)
one_clamp [] y h = absurd cc
one_clamp (x ∷ []) y h = (x, refl, (let e : y ≡ clamp x = cc in e))
one_clamp (x ∷ z ∷ xs) y h = absurd cc

idle_clamp : (t : State) → clamp_state t ≡ Idle → t ≡ Idle
idle_clamp Idle h = refl
idle_clamp (Within f s ls) h = absurd cc
idle_clamp (Full xs x s ls) h = absurd cc
idle_clamp (Broken f) h = absurd cc

broken_clamp : (t : State) (f : Fault) → clamp_state t ≡ Broken f → t ≡ Broken f
broken_clamp Idle f h = absurd cc
broken_clamp (Within g s ls) f h = absurd cc
broken_clamp (Full xs x s ls) f h = absurd cc
broken_clamp (Broken g) f h = h

pub sound_clamp : (os : List Object) (s : Stack) (t : State) → Means os s (clamp_state t) → IsSound t
sound_clamp os s Idle h = tt
sound_clamp os s (Within f r ls) h = tt
sound_clamp os s (Full xs x r ls) h = tt
sound_clamp os s (Broken f) h = absurd h

turn_is : (w : Turn) (xs : List Object) (t : State) → w.events ≡ xs → w.state ≡ t → w ≡ record { events = xs; state = t }
turn_is w xs t a b = ap₂ (λ (u : List Object) (v : State). let r : Turn = record { events = u; state = v } in r) a b

-- of the turn as the stack sees it to the turn
took_turn : (os : List Object) (s : Stack) (r : Outcome) (w : Turn) (b : Bool) → IsStack os s → HoldsDatum os r → Does os s.layers.items s.labels.entries r (clamp_turn w) → s.big ≡ b → Flags b w → Took os s r w
took_turn os s outcomes.Pending w b k h d g f =
    let e = none_clamp w.events d.0 in
    let v = f (sound_clamp os s w.state d.1) in (
      e,
      record {
        stack = k;
        means = d.1;
        big = g ∙ sym v.0 ∙ ap (λ u. any_big u || state_big w.state) e;
        covered = λ c. g ∙ v.1 c;
      },
    )
took_turn os s (outcomes.Datum r) w b k h d g f =
    let o = one_clamp w.events (object_at os r) (ap (λ (u : Turn). u.events) d.0) in
    let i = idle_clamp w.state (ap (λ (u : Turn). u.state) d.0) in
    let v = f (subst (λ u. IsSound u) (sym i) tt) in (
      o.0,
      turn_is w (o.0 ∷ []) Idle o.1 i,
      record {
        within = h;
        object = o.2;
        big = g ∙ sym v.0 ∙ ap₂ (λ u t. any_big u || state_big t) o.1 i ∙ or_none (is_out_of_range o.0);
        stack = k;
        means = d.1;
      },
    )
  where
    or_none : (a : Bool) → ((a || false) || false) ≡ a
    or_none true = refl
    or_none false = refl
took_turn os s (outcomes.Fault g) w b k h d e f =
    turn_is w [] (Broken (fault_of g)) (none_clamp w.events (sym (ap (λ (u : Turn). u.events) d))) (broken_clamp w.state (fault_of g) (ap (λ (u : Turn). u.state) d))

-- a lexeme is taken
pub took : (os : List Object) (old s : Stack) (r : Outcome) (t : State) (l : Lexeme) (os0 : List Object) → Holds os0 old t → IsWhole l → IsStack os s → HoldsDatum os r →
    Does os s.layers.items s.labels.entries r (on (clamp_state t) (clamp_lexeme l)) → s.big ≡ (old.big || lexeme_big l) → Took os s r (on t l)
took os old s r t l os0 h w k d f e =
    took_turn os s r (on t l) (state_big t || lexeme_big l) k d (subst (λ (u : Turn). Does os s.layers.items s.labels.entries r u) (on_clamp t l) f) (e ∙ ap (λ u. u || lexeme_big l) h.big)
    (on_flags t l (λ c. sym h.big ∙ h.covered c) w)

pub or_small : (a b c : Bool) → c ≡ false → a ≡ b → a ≡ (b || c)
or_small a true c e h = h
or_small a false c e h = h ∙ sym e

-- a lexeme that is no atom is taken
pub bare_took : (os0 os : List Object) (old s : Stack) (r : Outcome) (t : State) (l : code.Lexeme) (o : ℕ) → IsBare l → Holds os0 old t → IsStack os s → HoldsDatum os r →
    ((u : State) → Means os0 old u → Does os s.layers.items s.labels.entries r (on u (lexeme_at os0 o l))) → s.big ≡ old.big → Took os s r (on t (lexeme_at os0 o l))
bare_took os0 os old s r t lexemes.Open o b h k d f e = took os old s r t (Open o) os0 h tt k d (f (clamp_state t) h.means) (or_small s.big old.big false refl e)
bare_took os0 os old s r t lexemes.Close o b h k d f e = took os old s r t (Close o) os0 h tt k d (f (clamp_state t) h.means) (or_small s.big old.big false refl e)
bare_took os0 os old s r t lexemes.Dot o b h k d f e = took os old s r t (Dot o) os0 h tt k d (f (clamp_state t) h.means) (or_small s.big old.big false refl e)
bare_took os0 os old s r t lexemes.Quote o b h k d f e = took os old s r t (Quote o) os0 h tt k d (f (clamp_state t) h.means) (or_small s.big old.big false refl e)
bare_took os0 os old s r t (lexemes.Mark n) o b h k d f e = took os old s r t (Mark o n) os0 h tt k d (f (clamp_state t) h.means) (or_small s.big old.big false refl e)
bare_took os0 os old s r t (lexemes.Ref n) o b h k d f e = took os old s r t (Ref o n) os0 h tt k d (f (clamp_state t) h.means) (or_small s.big old.big false refl e)
bare_took os0 os old s r t (lexemes.Atom x) o b h k d f e = absurd b

-- the heap grows
pub stack_grows : (os os2 : List Object) (s : Stack) → Grows os os2 → IsStack os s → IsStack os2 s
stack_grows os os2 s g k = record { pile = is_pile_grows os os2 s.layers.items g k.pile; listed = listed_grows (length os) (length os2) s.labels.entries (length-Grows os os2 g) k.listed }

pub holds_grows : (os os2 : List Object) (s : Stack) (t : State) → Grows os os2 → Holds os s t → Holds os2 s t
holds_grows os os2 s t g h = record {
  stack = record {
    pile = is_pile_grows os os2 s.layers.items g h.stack.pile;
    listed = listed_grows (length os) (length os2) s.labels.entries (length-Grows os os2 g) h.stack.listed;
  };
  means = means_grows (clamp_state t) h.means;
  big = h.big;
  covered = h.covered;
}
  where
    p : pile_of os2 s.layers.items ≡ pile_of os s.layers.items
    p = pile_grows os os2 s.layers.items g h.stack.pile

    means_grows : (t : State) → Means os s t → Means os2 s t
    means_grows Idle m = (p ∙ m.0, agree_grows os os2 s.labels.entries (labels_of Idle) g h.stack.listed m.1)
    means_grows (Within f r ls) m = (p ∙ m.0, agree_grows os os2 s.labels.entries ls g h.stack.listed m.1)
    means_grows (Full xs x r ls) m = (p ∙ m.0, agree_grows os os2 s.labels.entries ls g h.stack.listed m.1)
    means_grows (Broken f) m = absurd m

pub ready_grows : (os os2 : List Object) (s : Stack) → Grows os os2 → IsStack os s → is_ready (pile_of os s.layers.items) ≡ false → is_ready (pile_of os2 s.layers.items) ≡ false
ready_grows os os2 s g k n = ap is_ready (pile_grows os os2 s.layers.items g k.pile) ∙ n

-- an atom is taken, where the heap grew for it
pub atom_took : (os0 os1 os2 : List Object) (old s : Stack) (r : Outcome) (t : State) (y : Object) (x o : ℕ) → Holds os0 old t → Grows os0 os1 → object_at os1 x ≡ clamp y → IsStack os2 s → HoldsDatum os2 r →
    ((u : State) → Means os1 old u → Does os2 s.layers.items s.labels.entries r (on u (Atom o (object_at os1 x)))) → s.big ≡ (old.big || is_out_of_range y) → Took os2 s r (on t (Atom o y))
atom_took os0 os1 os2 old s r t y x o h g e k d f b =
    took os2 old s r t (Atom o y) os0 h tt k d
    (subst (λ z. Does os2 s.layers.items s.labels.entries r (on (clamp_state t) (Atom o z))) e (f (clamp_state t) (holds_grows os0 os1 old t g h).means)) b

pub if_ok_all : {T E : Type 0} (P Q R S : T → Type 0) {V : T → Type 0} (r : Result T E) → ((x : T) → P x → Q x → R x → S x → V x) → IfOk r P → IfOk r Q → IfOk r R → IfOk r S → IfOk r V
if_ok_all P Q R S (Ok x) f p q s v = f x p q s v
if_ok_all P Q R S (Err e) f p q s v = p

pub holds_full : (os : List Object) (s : Stack) (t : State) → Holds os s t → is_ready (pile_of os s.layers.items) ≡ is_full t
holds_full os s t h = full_is os (pile_of os s.layers.items) s.labels.entries (clamp_state t) h.means ∙ full_clamp t
  where
    full_clamp : (t : State) → is_full (clamp_state t) ≡ is_full t
    full_clamp Idle = refl
    full_clamp (Within f r ls) = refl
    full_clamp (Full xs x r ls) = refl
    full_clamp (Broken f) = refl
