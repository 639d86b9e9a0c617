-- Which objects are events of which word, and what happens by an event.
use Rattle.std.proofs.Common.{◌≡◌, ℕ, ◌<◌, false, not, cond, List, Option, Some, None, MatchOption, option_map, refl, sym, ap, ◌∙◌, arith}
use Rattle.mw_model.specs.Terms.Object.{Name, Object, Natural, Symbol, Pair, same_object, has_members}
use Rattle.mw_model.specs.Terms.Reading.{when, that}
use Rattle.mw_model.specs.Values.Primitive.{is_pair}
use Rattle.mw_model.specs.Events.Theory.{Theory}
use Rattle.mw_model.specs.Events.Refusal.{EVENT, RANGE, refuse, need}
use Rattle.mw_model.specs.Events.Fate.{EventWord, Verify, Define, Skolem, Switch, Eval, Print, DefineAll, SetProfile, event_words, event_word_among, event_word, is_out_of_range, happens, happens_by, member_count}
use Rattle.mw_model.proofs.SameObject.{same_object-swap}
use Rattle.mw_heap.specs.Objects.{object_at}
use Rattle.mw_heap.specs.Words.{word_object}
use Rattle.mw_heap.specs.declared.vocabulary.word.Word.{Word}
use Rattle.mw_heap.specs.declared.vocabulary.word.Word.TheVariants as word
use Rattle.mw_theory.specs.EventWords.{word_at, word_begun, are_members_of}
use Rattle.mw_theory.specs.Words.{StandsBefore, IsEvent, IsEventOf}
use Rattle.mw_theory.specs.declared.event.Event.{Event}
use Rattle.mw_theory.specs.declared.event.Event.TheVariants as event

-- a symbol that is no word names none of an event
module _ (s : Name) (differ : (w : Word) → same_object (Symbol s) (word_object w) ≡ false) where
  further : (w : Word) (found rest : Option EventWord) → rest ≡ cond (same_object (word_object w) (Symbol s)) found rest
  further w found rest = ap (λ b. cond b found rest) (sym (same_object-swap (word_object w) (Symbol s) ∙ differ w))

  no_word : None ≡ event_word_among event_words s
  no_word =
      further word.Profile (Some SetProfile) None ∙ (further word.DefineAll (Some DefineAll) _ ∙ (further word.Print (Some Print) _ ∙ (further word.Eval (Some Eval) _ ∙ (further word.Switch (Some Switch) _ ∙ (further word.Skolem (Some Skolem) _ ∙ (further word.Define (Some Define) _ ∙ further word.Verify (Some Verify) _))))))

pub no_word_at : (x : Object) → ((w : Word) → same_object x (word_object w) ≡ false) → word_at x ≡ None
no_word_at (Natural n) differ = refl
no_word_at (Pair a b) differ = refl
no_word_at (Symbol s) differ = sym (no_word s differ)

pub none_begun : (x : Object) → is_pair x ≡ false → word_begun x ≡ None
none_begun (Natural n) h = refl
none_begun (Symbol s) h = refl
none_begun (Pair a b) h = cc

pub no_event_word : (first rest : Object) → word_at first ≡ None → event_word (Pair first rest) ≡ None
no_event_word (Natural n) rest h = refl
no_event_word (Pair a b) rest h = refl
no_event_word (Symbol s) rest h = ap (that (λ w. has_members (member_count w) (Pair (Symbol s) rest))) h

-- another number of members
other_members : (w : Word) (first rest : Object) → first ≡ word_object w → are_members_of w rest ≡ false → event_word (Pair first rest) ≡ None
other_members word.Verify first rest is h = ap (λ x. event_word (Pair x rest)) is ∙ ap (λ b. when b (Some Verify)) h
other_members word.Define first rest is h = ap (λ x. event_word (Pair x rest)) is ∙ ap (λ b. when b (Some Define)) h
other_members word.Skolem first rest is h = ap (λ x. event_word (Pair x rest)) is ∙ ap (λ b. when b (Some Skolem)) h
other_members word.Switch first rest is h = ap (λ x. event_word (Pair x rest)) is ∙ ap (λ b. when b (Some Switch)) h
other_members word.Eval first rest is h = ap (λ x. event_word (Pair x rest)) is ∙ ap (λ b. when b (Some Eval)) h
other_members word.Print first rest is h = ap (λ x. event_word (Pair x rest)) is ∙ ap (λ b. when b (Some Print)) h
other_members word.DefineAll first rest is h = ap (λ x. event_word (Pair x rest)) is ∙ ap (λ b. when b (Some DefineAll)) h
other_members word.Profile first rest is h = ap (λ x. event_word (Pair x rest)) is ∙ ap (λ b. when b (Some SetProfile)) h
other_members _ first rest is h = ap (λ x. event_word (Pair x rest)) is

-- a word of no event has no members, and is that of none
pub no_members_of : (w : Word) (x : Object) → (w ≡ word.Verify → ⊥) → (w ≡ word.Define → ⊥) → (w ≡ word.Skolem → ⊥) → (w ≡ word.Switch → ⊥) → (w ≡ word.Eval → ⊥) → (w ≡ word.Print → ⊥) → (w ≡ word.DefineAll → ⊥) → (w ≡ word.Profile → ⊥) → are_members_of w x ≡ false
no_members_of word.Verify x differs _ _ _ _ _ _ _ = absurd (differs refl)
no_members_of word.Define x _ differs _ _ _ _ _ _ = absurd (differs refl)
no_members_of word.Skolem x _ _ differs _ _ _ _ _ = absurd (differs refl)
no_members_of word.Switch x _ _ _ differs _ _ _ _ = absurd (differs refl)
no_members_of word.Eval x _ _ _ _ differs _ _ _ = absurd (differs refl)
no_members_of word.Print x _ _ _ _ _ differs _ _ = absurd (differs refl)
no_members_of word.DefineAll x _ _ _ _ _ _ differs _ = absurd (differs refl)
no_members_of word.Profile x _ _ _ _ _ _ _ differs = absurd (differs refl)
no_members_of _ x _ _ _ _ _ _ _ _ = refl

pub none_named : (w : Word) → (w ≡ word.Verify → ⊥) → (w ≡ word.Define → ⊥) → (w ≡ word.Skolem → ⊥) → (w ≡ word.Switch → ⊥) → (w ≡ word.Eval → ⊥) → (w ≡ word.Print → ⊥) → (w ≡ word.DefineAll → ⊥) → (w ≡ word.Profile → ⊥) → word_at (word_object w) ≡ None
none_named word.Verify differs _ _ _ _ _ _ _ = absurd (differs refl)
none_named word.Define _ differs _ _ _ _ _ _ = absurd (differs refl)
none_named word.Skolem _ _ differs _ _ _ _ _ = absurd (differs refl)
none_named word.Switch _ _ _ differs _ _ _ _ = absurd (differs refl)
none_named word.Eval _ _ _ _ differs _ _ _ = absurd (differs refl)
none_named word.Print _ _ _ _ _ differs _ _ = absurd (differs refl)
none_named word.DefineAll _ _ _ _ _ _ differs _ = absurd (differs refl)
none_named word.Profile _ _ _ _ _ _ _ differs = absurd (differs refl)
none_named _ _ _ _ _ _ _ _ _ = refl

-- the members of an event stand before all that comes after its object
pub before-later : (m x : ℕ) → m < x → (e : Event) → StandsBefore m e → StandsBefore x e
before-later m x l (event.Verify a b c) h = (omega (arith, l, h.0), omega (arith, l, h.1), omega (arith, l, h.2))
before-later m x l (event.Define a b c d e) h = (omega (arith, l, h.0), omega (arith, l, h.1), omega (arith, l, h.2), omega (arith, l, h.3), omega (arith, l, h.4))
before-later m x l (event.Skolem a b c d) h = (omega (arith, l, h.0), omega (arith, l, h.1), omega (arith, l, h.2), omega (arith, l, h.3))
before-later m x l (event.Switch a) h = omega (arith, l, h)
before-later m x l (event.Eval a) h = omega (arith, l, h)
before-later m x l (event.Print a) h = omega (arith, l, h)
before-later m x l (event.DefineAll a b) h = (omega (arith, l, h.0), omega (arith, l, h.1))
before-later m x l (event.Profile a) h = omega (arith, l, h)

is_event : (os : List Object) (w : Word) (x first members : ℕ) (e : Event) → object_at os x ≡ Pair (object_at os first) (object_at os members) → object_at os first ≡ word_object w → members < x → IsEventOf os w members e → IsEvent os x e
is_event os w x first members e is word_is l h = (is ∙ (ap (λ y. Pair y (object_at os members)) word_is ∙ sym h.0), before-later members x l e h.1)

pub event_from : (os : List Object) (w : Word) (x first members : ℕ) (r : Option Event) → object_at os x ≡ Pair (object_at os first) (object_at os members) → object_at os first ≡ word_object w → members < x → MatchOption r (are_members_of w (object_at os members) ≡ false) (IsEventOf os w members) → MatchOption r (event_word (object_at os x) ≡ None) (IsEvent os x)
event_from os w x first members None is word_is l h = ap event_word is ∙ other_members w (object_at os first) (object_at os members) word_is h
event_from os w x first members (Some e) is word_is l h = is_event os w x first members e is word_is l h

module _ (t : Theory) (N : ℕ) (e : Object) (in_range : is_out_of_range e ≡ false) where
  by_word : (o : Option EventWord) → event_word e ≡ o → happens t N e ≡ need t EVENT o (λ w. happens_by w t N e)
  unfolding need
  by_word o k = ap (λ b. need t RANGE (when (not b) (Some e)) (λ y. need t EVENT (event_word y) (λ w. happens_by w t N y))) in_range ∙ ap (λ p. need t EVENT p (λ w. happens_by w t N e)) k

  pub none_happens : event_word e ≡ None → refuse t EVENT ≡ happens t N e
  unfolding need
  none_happens none = sym (by_word None none)

  pub word_happens : (w : EventWord) → event_word e ≡ Some w → happens_by w t N e ≡ happens t N e
  unfolding need
  word_happens w is = sym (by_word (Some w) is)

-- how many members a word wants that is known
pub wanted_by : (n : Option ℕ) (known w : Word) → w ≡ known → n ≡ option_map member_count (word_at (word_object known)) → n ≡ option_map member_count (word_at (word_object w))
wanted_by n known w is counted = counted ∙ ap (λ v. option_map member_count (word_at (word_object v))) (sym is)
