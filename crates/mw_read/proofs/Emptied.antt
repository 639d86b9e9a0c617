-- A stack on which nothing is open stands for nothing in any heap.
use Rattle.std.proofs.Common.{◌≡◌, ℕ, Bool, true, false, ◌||◌, not, List, [], ◌∷◌, length, Option, Some, None, IfSome, refl, sym, ap, ap₂, ◌∙◌, subst, true≢false, cond, if◌then◌else◌, ltb, ◌<◌, nat_eq}
use Rattle.std.specs.Map.{lookup}
use Rattle.mw_model.specs.Terms.Object.{Object, Natural, Symbol, Pair}
use Rattle.mw_model.specs.Texts.Lexemes.{fault, END}
use Rattle.mw_model.specs.Terms.Term.{is_among}
use Rattle.mw_model.specs.Events.Evaluation.{range}
use Rattle.mw_model.specs.Events.Fate.{is_out_of_range}
use Rattle.mw_model.specs.Texts.Grammar.{Unused}
use Rattle.mw_model.specs.Reports.Report.{word_text, label_text, symbol_text, labelled_words, dash}
use Rattle.mw_heap.specs.Objects.{object_at, IsIn}
use Rattle.mw_read.specs.Machine.{State, Idle, Within, Full, Broken, end_fault}
use Rattle.mw_lex.specs.Tokens.{clamp}
use Rattle.mw_read.specs.Shown.{first_symbol}
use Rattle.mw_read.specs.Named.{Agree, seen, IsListed}
use Rattle.mw_read.specs.Piles.{Pile, Frames, Ready, piled, MayLie, pile_on, LieOn, pile_of, IsPile, AreUnder}
use Rattle.mw_read.specs.Held.{Holds, Completes}
use Rattle.mw_read.specs.Standing.{Tells, Gives}
use Rattle.mw_read.specs.declared.stack.Layer.{Layer}
use Rattle.mw_read.specs.declared.stack.Stack.{Stack}
use Rattle.mw_read.specs.declared.step.Step.{Step}
use Rattle.mw_read.specs.declared.step.Step.TheVariants as steps
use Rattle.mw_read.proofs.Lying.{each_place}

abbrev IsOpen : Pile → Type 0
IsOpen (Frames []) = ⊥
IsOpen (Frames (f ∷ s)) = Unit {0}
IsOpen (Ready xs x s) = Unit {0}

piled_open : (os : List Object) (t : Pile) (l : Layer) → MayLie t l → IsOpen (piled os t l)
piled_open os t l h = each_place (λ u k. IsOpen (piled os u k)) (λ s. tt) (λ s. tt) (λ n s. tt) (λ r xs s. tt) (λ x xs s. tt) (λ r x xs s. tt) t l h

pile_open : (os : List Object) (ls : List Layer) (t : Pile) → IsOpen t → LieOn os t ls → IsOpen (pile_on os t ls)
pile_open os [] t h k = h
pile_open os (l ∷ ls) t h k = pile_open os ls (piled os t l) (piled_open os t l k.0) k.1

pub pile_none : (os : List Object) (ls : List Layer) → LieOn os (Frames []) ls → pile_of os ls ≡ Frames [] → ls ≡ []
pile_none os [] h e = refl
pile_none os (l ∷ ls) h e = absurd (subst (λ p. IsOpen p) e (pile_open os ls (piled os (Frames []) l) (piled_open os (Frames []) l h.0) h.1))

pub empty_pile : (os : List Object) (ls : List Layer) → ls ≡ [] → IsPile os ls
empty_pile os ls e = record { lie = subst (λ u. LieOn os (Frames []) u) (sym e) tt; under = subst (λ u. AreUnder (length os) u) (sym e) tt }

none_listed : (k : ℕ) (os : List Object) (m : List (ℕ × Option ℕ)) → Agree os m Unused → IsListed k m
none_listed k os m h n = go (lookup (nat_eq n) m) (h n)
  where
    go : (o : Option (Option ℕ)) → seen os o ≡ None → IfSome o (λ o. IfSome o (λ r. r < k))
    go None e = tt
    go (Some o) e = absurd cc

none_agree : (os any : List Object) (m : List (ℕ × Option ℕ)) → Agree os m Unused → Agree any m Unused
none_agree os any m h n = go (lookup (nat_eq n) m) (h n)
  where
    go : (o : Option (Option ℕ)) → seen os o ≡ None → seen any o ≡ None
    go None e = refl
    go (Some o) e = absurd cc

pub no_layers : (os : List Object) (s : Stack) (r : ℕ) (x : Object) → Completes os s r x → s.layers.items ≡ []
no_layers os s r x q = pile_none os s.layers.items q.stack.pile.lie q.means.0

pub emptied : (os any : List Object) (s : Stack) (r : ℕ) (x : Object) → Completes os s r x → Holds any (record s { big = false }) Idle
emptied os any s r x q =
    let e = no_layers os s r x q in
    record {
      stack = record { pile = empty_pile any s.layers.items e; listed = none_listed (length any) os s.labels.entries q.means.1 };
      means = (ap (pile_of any) e, none_agree os any s.labels.entries q.means.1);
      big = refl;
      covered = λ h. absurd (true≢false (sym h));
    }

-- where nothing is open the book may end
pub none_open : (os : List Object) (s : Stack) (u : State) (o : ℕ) → Holds os s u → s.layers.items ≡ [] → end_fault u o ≡ None
none_open os s Idle o h e = refl
none_open os s (Within f t ls) o h e = absurd (let k : Frames [] ≡ pile_of os s.layers.items = sym (ap (pile_of os) e) in let m = k ∙ h.means.0 in cc)
none_open os s (Full xs x t ls) o h e = absurd (let k : Frames [] ≡ pile_of os s.layers.items = sym (ap (pile_of os) e) in let m = k ∙ h.means.0 in cc)
none_open os s (Broken f) o h e = absurd h.means

pub some_open : (os : List Object) (s : Stack) (u : State) (o : ℕ) → Holds os s u → (s.layers.items ≡ [] → ⊥) → end_fault u o ≡ Some (fault END o)
some_open os s Idle o h e = absurd (e (pile_none os s.layers.items h.stack.pile.lie h.means.0))
some_open os s (Within f t ls) o h e = refl
some_open os s (Full xs x t ls) o h e = refl
some_open os s (Broken f) o h e = absurd h.means

-- what is in range is not cut, and what is cut is not shown
clamp_small : (y : Object) → is_out_of_range y ≡ false → clamp y ≡ y
clamp_small (Natural n) h = go (ltb n range) h
  where
    go : (v : Bool) → not v ≡ false → Natural (if v then n else 0) ≡ Natural n
    go true e = refl
    go false e = absurd (true≢false e)
clamp_small (Symbol s) h = refl
clamp_small (Pair a b) h = let k = parts (is_out_of_range a) (is_out_of_range b) h in ap₂ Pair (clamp_small a k.0) (clamp_small b k.1)
  where
    parts : (p q : Bool) → (p || q) ≡ false → (p ≡ false) × (q ≡ false)
    parts true q e = absurd (true≢false e)
    parts false q e = (refl, e)

symbol_clamp : (y : Object) → symbol_text (clamp y) ≡ symbol_text y
symbol_clamp (Natural n) = refl
symbol_clamp (Symbol s) = refl
symbol_clamp (Pair a b) = refl

word_clamp : (y : Object) → word_text (clamp y) ≡ word_text y
word_clamp (Natural n) = refl
word_clamp (Symbol s) = refl
word_clamp (Pair a b) = symbol_clamp a

label_clamp : (y : Object) → label_text (clamp y) ≡ label_text y
label_clamp (Natural n) = refl
label_clamp (Symbol s) = refl
label_clamp (Pair (Natural n) b) = refl
label_clamp (Pair (Pair a c) b) = refl
label_clamp (Pair (Symbol w) (Natural n)) = refl
label_clamp (Pair (Symbol w) (Symbol s)) = refl
label_clamp (Pair (Symbol w) (Pair x b)) = ap (λ u. cond (is_among w labelled_words) u dash) (symbol_clamp x)

first_clamp : (y : Object) → first_symbol (clamp y) ≡ first_symbol y
first_clamp (Natural n) = refl
first_clamp (Symbol s) = refl
first_clamp (Pair (Natural n) b) = refl
first_clamp (Pair (Symbol s) b) = refl
first_clamp (Pair (Pair a c) b) = refl

-- the step of a datum that is complete gives it
pub gives : (os : List Object) (s : Stack) (x : ℕ) (y : Object) (t : Step) → Completes os s x y → Tells os s.big x t → Gives os y t
gives os s x y (steps.Datum r) q h =
    let small = sym q.big ∙ h.0 in (
      subst (λ u. IsIn os u) (sym h.1) q.within,
      ap (object_at os) h.1 ∙ q.object ∙ clamp_small y small,
      small,
    )
gives os s x y (steps.TooBig w l) q h = (
  sym q.big ∙ h.0,
  record {
    word_in = h.1.word_in;
    label_in = h.1.label_in;
    word_shown = h.1.word_shown ∙ ap word_text q.object ∙ word_clamp y;
    label_shown = h.1.label_shown ∙ ap label_text q.object ∙ label_clamp y;
    word_first = h.1.word_first ∙ ap first_symbol q.object ∙ first_clamp y;
  },
)
gives os s x y steps.More q h = absurd h
gives os s x y steps.End q h = absurd h
gives os s x y (steps.Syntax k o) q h = absurd h
gives os s x y steps.Memory q h = absurd h
