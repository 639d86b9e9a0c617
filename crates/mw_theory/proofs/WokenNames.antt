-- A block extends the arity table, and a symbol that gets an arity is one of its names: what is noted with these alone waits.
use Rattle.std.proofs.Common.{◌≡◌, ℕ, ◌+◌, ◌<◌, ◌⊎◌, Bool, true, false, ◌&&◌, cond, List, [], ◌∷◌, ◌++◌, length, get_or, take, Option, Some, None, inl, inr, refl, sym, ap, ◌∙◌, subst, true≢false, is_none}
use Rattle.std.proofs.lemmas.List.{take_more}
use Rattle.mw_model.specs.Terms.Object.{Name, Object, Symbol, same_name}
use Rattle.mw_model.specs.Terms.Term.{ArityTable, arity_of, is_function_name}
use Rattle.mw_model.specs.Values.Definition.{Function as Defined, Block, Functions, Choice, add_functions, add_block, is_new, are_new, is_block, are_functions, is_some_function, function_named}
use Rattle.mw_model.proofs.Names.{same_name-eq}
use Rattle.mw_heap.specs.Objects.{object_at, IsIn, AreDistinct}
use Rattle.mw_term.specs.Marking.{ObjectMark}
use Rattle.mw_term.specs.Watching.{Extends, IsOneOf}
use Rattle.mw_term.specs.Settling.{IsNotedWith, IsAwake, WakesNoted}
use Rattle.mw_term.specs.declared.watch.Watch.{Watch}
use Rattle.mw_term.proofs.CallerLemmas.{awake-names}
use Rattle.mw_preamble.specs.declared.definition.Definition.{Definition}
use Rattle.mw_preamble.specs.declared.definition.Definition.TheVariants.{Function, Witness}
use Rattle.mw_preamble.specs.Defining.{spelling_of}
use Rattle.mw_preamble.specs.Entries.{AreFunctions, IsBlock}
use Rattle.mw_theory.specs.Waking.{IsNamed, names_of_block, WakesNames}

both : (a b : Bool) → (a && b) ≡ true → (a ≡ true) × (b ≡ true)
both true b h = (refl, h)
both false b h = absurd (true≢false (sym h))

absent-none : (o : Option ℕ) → is_none o ≡ true → o ≡ None
absent-none None h = refl
absent-none (Some n) h = absurd (true≢false (sym h))

-- a name that is new is another than one that has an arity, and than a word
module _ (A : ArityTable) (g : Name) (new : is_new A g ≡ true) where
  name : is_function_name g ≡ true
  name = (both (is_function_name g) (is_none (arity_of A g)) new).0

  absent : arity_of A g ≡ None
  absent = absent-none (arity_of A g) (both (is_function_name g) (is_none (arity_of A g)) new).1

  other-known : (f : Name) (n : ℕ) → arity_of A f ≡ Some n → same_name g f ≡ false
  other-known f n e = go (same_name g f) refl
    where
      go : (b : Bool) → same_name g f ≡ b → same_name g f ≡ false
      go false d = d
      go true d = absurd (never (sym absent ∙ (ap (arity_of A) (same_name-eq g f d) ∙ e)))
        where
          never : None ≡ Some n → ⊥
          never h = cc

  other-word : (f : Name) → is_function_name f ≡ false → same_name g f ≡ false
  other-word f w = go (same_name g f) refl
    where
      go : (b : Bool) → same_name g f ≡ b → same_name g f ≡ false
      go false d = d
      go true d = absurd (true≢false (sym name ∙ (ap is_function_name (same_name-eq g f d) ∙ w)))

-- what a table has of a name after another one was put in front
front-other : (T : ArityTable) (g : Name) (n : ℕ) (f : Name) → same_name g f ≡ false → arity_of ((g, n) ∷ T) f ≡ arity_of T f
front-other T g n f e = ap (λ b. cond b (Some n) (arity_of T f)) e

module _ (A : ArityTable) where
  functions-kept : (B : List Defined) (T : ArityTable) → are_new A B ≡ true → (f : Name) (n : ℕ) → arity_of A f ≡ Some n → arity_of (add_functions B T) f ≡ arity_of T f
  functions-kept [] T new f n e = refl
  functions-kept (h ∷ B) T new f n e =
      let p = both (is_new A h.name) (is_none (function_named B h.name) && are_new A B) new in
      let q = both (is_none (function_named B h.name)) (are_new A B) p.1 in
      functions-kept B ((h.name, length h.formals) ∷ T) q.1 f n e ∙ front-other T h.name (length h.formals) f (other-known A h.name p.0 f n e)

  functions-words : (B : List Defined) (T : ArityTable) → are_new A B ≡ true → (f : Name) → is_function_name f ≡ false → arity_of (add_functions B T) f ≡ arity_of T f
  functions-words [] T new f w = refl
  functions-words (h ∷ B) T new f w =
      let p = both (is_new A h.name) (is_none (function_named B h.name) && are_new A B) new in
      let q = both (is_none (function_named B h.name)) (are_new A B) p.1 in
      functions-words B ((h.name, length h.formals) ∷ T) q.1 f w ∙ front-other T h.name (length h.formals) f (other-word A h.name p.0 f w)

  block-extends : (B : Block) → is_block A B ≡ true → Extends A (add_block B A)
  block-extends (Functions B) made =
      let p = both (is_some_function B) (are_new A B && are_functions (add_functions B A) B) made in
      let new = (both (are_new A B) (are_functions (add_functions B A) B) p.1).0 in
      record { kept = λ f n e. functions-kept B A new f n e ∙ e; words = λ f w. functions-words B A new f w }
  block-extends (Choice g y xs b) made =
      let new = (both (is_new A g) _ made).0 in
      record { kept = λ f n e. front-other A g (length xs) f (other-known A g new f n e) ∙ e; words = λ f w. front-other A g (length xs) f (other-word A g new f w) }

-- a symbol has the arity that it had, or it is one of the names
module _ (os : List Object) (distinct : AreDistinct os) (s : ℕ) (within : IsIn os s) (f : Name) (is : object_at os s ≡ Symbol f) where
  at-name : (r : ℕ) (g : Name) → IsIn os r → object_at os r ≡ Symbol g → same_name g f ≡ true → s ≡ r
  at-name r g r_in r_is d = distinct s r within r_in (is ∙ (ap Symbol (sym (same_name-eq g f d)) ∙ sym r_is))

  functions-named : (ds : List Definition) (B : List Defined) (T : ArityTable) → AreFunctions os ds B → (arity_of (add_functions B T) f ≡ arity_of T f) ⊎ IsOneOf (names_of_block ds) s
  functions-named [] [] T h = inl refl
  functions-named (Function name formals body ∷ ds) (k ∷ B) T h = go (same_name k.name f) refl (functions-named ds B ((k.name, length k.formals) ∷ T) h.1)
    where
      go : (b : Bool) → same_name k.name f ≡ b → (arity_of (add_functions B ((k.name, length k.formals) ∷ T)) f ≡ arity_of ((k.name, length k.formals) ∷ T) f) ⊎ IsOneOf (names_of_block ds) s
          → (arity_of (add_functions B ((k.name, length k.formals) ∷ T)) f ≡ arity_of T f) ⊎ IsOneOf (name ∷ names_of_block ds) s
      go true d later = inr (inl (at-name name k.name h.0.name_in h.0.name_is d))
      go false d (inl e) = inl (e ∙ front-other T k.name (length k.formals) f d)
      go false d (inr o) = inr (inr o)
  functions-named [] (k ∷ B) T h = absurd h
  functions-named (Function name formals body ∷ ds) [] T h = absurd h
  functions-named (Witness name bound free body ∷ ds) [] T h = absurd h
  functions-named (Witness name bound free body ∷ ds) (k ∷ B) T h = absurd h

  block-named : (ds : List Definition) (B : Block) (A : ArityTable) → IsBlock os ds B → (arity_of (add_block B A) f ≡ arity_of A f) ⊎ IsOneOf (names_of_block ds) s
  block-named ds (Functions B) A h = functions-named ds B A h
  block-named (Witness name bound free body ∷ []) (Choice g y xs b) A h = go (same_name g f) refl
    where
      go : (c : Bool) → same_name g f ≡ c → (arity_of ((g, length xs) ∷ A) f ≡ arity_of A f) ⊎ IsOneOf (name ∷ []) s
      go true d = inr (inl (at-name name g h.name_in h.name_is d))
      go false d = inl (front-other A g (length xs) f d)
  block-named [] (Choice g y xs b) A h = absurd h
  block-named (Function name formals body ∷ ds) (Choice g y xs b) A h = absurd h
  block-named (Witness name bound free body ∷ d ∷ ds) (Choice g y xs b) A h = absurd h

-- once the names are woken the watch is awake
pub block-awake : (A : ArityTable) (B : Block) (arity : ArityTable) (os : List Object) (ds : List Definition) (ms : List ObjectMark) (old new : Watch) → AreDistinct os → IsNamed A B arity os ds ms old → WakesNames old new ds → IsAwake A arity os new
block-awake A B arity os ds ms old new distinct h wakes =
    subst (λ T. IsAwake A T os new) (sym h.arities)
    (awake-names A (add_block B A) (block-extends A B h.made) os old new h.watched wakes.same wakes.kept
    (λ s f within is none.
    elim (block-named os distinct s within f is ds B A h.means) [
      | inl e ↦ inl (e ∙ none)
      | inr o ↦ inr (λ x note. wakes.woken s x o note)
    ]))

pub woken-none : (w : Watch) → WakesNames w w []
woken-none w = record { same = refl; woken = λ r x o note. absurd o; wait = λ x o. o; kept = λ p x note. inl note }

-- one name more
names-pushed : (ds : List Definition) (d : Definition) (r : ℕ) → IsOneOf (names_of_block (ds ++ d ∷ [])) r → IsOneOf (names_of_block ds) r ⊎ (r ≡ (spelling_of d).0)
names-pushed [] d r (inl e) = inr e
names-pushed [] d r (inr o) = absurd o
names-pushed (e ∷ ds) d r (inl a) = inl (inl a)
names-pushed (e ∷ ds) d r (inr o) = elim (names-pushed ds d r o) [ inl p ↦ inl (inr p) | inr q ↦ inr q ]

pub woken-more : (old mid new : Watch) (ds : List Definition) (i : ℕ) (d : Definition) (named : ℕ) → i < length ds → d ≡ get_or ds i d → named ≡ (spelling_of d).0 → WakesNames old mid (take i ds) → WakesNoted mid new named → WakesNames old new (take (i + 1) ds)
woken-more old mid new ds i d named below is name_is h wakes = record {
  same = wakes.same ∙ h.same;
  woken = λ r x o note.
      elim (names-pushed (take i ds) d r (subst (λ l. IsOneOf (names_of_block l) r) (take_more ds i d below ∙ ap (λ e. take i ds ++ e ∷ []) (sym is)) o)) [
        | inl p ↦ wakes.wait x (h.woken r x p note)
        | inr e ↦
            elim (h.kept r x note) [
              | inl still ↦ wakes.woken x (subst (λ v. IsNotedWith mid v x) (e ∙ sym name_is) still)
              | inr waits ↦ wakes.wait x waits
            ]
      ];
  wait = λ x o. wakes.wait x (h.wait x o);
  kept = λ p x note. elim (h.kept p x note) [ inl still ↦ wakes.kept p x still | inr waits ↦ inr (wakes.wait x waits) ];
}
