-- What is kept of a theory stays right as the heap grows, where it is cut back after what is needed, and where the code alone changes.
use Rattle.std.proofs.Common.{◌≡◌, ℕ, ◌≤◌, List, [], ◌∷◌, length, take, Option, Some, None, IfSome, refl, sym, ap, ap₂, ◌∙◌, subst, arith}
use Rattle.std.specs.List.{All}
use Rattle.std.proofs.lemmas.List.{length-take-le, take-append-le}
use Rattle.std.proofs.lemmas.List.Elements.{All-head, All-tail}
use Rattle.mw_model.specs.Terms.Object.{Object, Pair}
use Rattle.mw_model.specs.Values.Primitive.{is_symbol, name_of}
use Rattle.mw_model.specs.Values.Definition.{definitions, arity_table}
use Rattle.mw_model.specs.Events.Theory.{IsSound}
use Rattle.mw_heap.specs.Objects.{object_at, IsIn, Grows}
use Rattle.mw_heap.specs.Variants.{profile_of}
use Rattle.mw_heap.proofs.Objects.{length-Grows, IsIn-Grows, object_at-Grows, take-Grows, Grows-refl, Grows-take}
use Rattle.mw_term.specs.Marking.{ObjectMark, AreMarks}
use Rattle.mw_term.specs.Settling.{IsWatch}
use Rattle.mw_term.specs.declared.watch.Watch.{Watch}
use Rattle.mw_term.proofs.CallerLemmas.{AreMarks-grows, AreMarks-cut, IsWatch-grows}
use Rattle.mw_heap.specs.Lists.{list_object}
use Rattle.mw_code.specs.Tables.{StandsFor}
use Rattle.mw_code.specs.declared.table.Table.{Table}
use Rattle.mw_code.proofs.CallerLemmas.{stands-grows}
use Rattle.mw_preamble.specs.Entries.{AreEntries}
use Rattle.mw_preamble.proofs.CallerLemmas.{AreEntries-grows}
use Rattle.mw_theory.specs.declared.theory.Theory.{Theory as Kept}
use Rattle.mw_theory.specs.Knowledge.{parts_of, definitions_of, name_read, theory_with, meant, is_first, IsNameIn, HasEquality, IsHeld, IsWorldOf}
use Rattle.mw_theory.specs.Defining.{HasOtherCode}
use Rattle.mw_theory.proofs.Entered.{blocks-read}

-- known formulas, as the heap grows
module _ (old new : List Object) (grows : Grows old new) where
  pub known-grow : (xs : List ℕ) → All (IsIn old) xs → list_object new xs ≡ list_object old xs
  known-grow [] h = refl
  known-grow (x ∷ xs) h = ap₂ Pair (object_at-Grows old new grows x (All-head (IsIn old) x xs h)) (known-grow xs (All-tail (IsIn old) x xs h))

  pub all-grow : (xs : List ℕ) → All (IsIn old) xs → All (IsIn new) xs
  all-grow xs h = λ i d l. IsIn-Grows old new grows _ (h i d l)

  name-grows : (c : Option ℕ) → IfSome c (IsNameIn old) → name_read new c ≡ name_read old c
  name-grows None h = refl
  name-grows (Some r) h = ap (λ x. Some (name_of x)) (object_at-Grows old new grows r h.0)

  pub named-grows : (c : Option ℕ) → IfSome c (IsNameIn old) → IfSome c (IsNameIn new)
  named-grows None h = tt
  named-grows (Some r) h = (IsIn-Grows old new grows r h.0, ap is_symbol (object_at-Grows old new grows r h.0) ∙ h.1)

  pub code-grows : (code : Table) (t : Kept) → StandsFor old code (definitions_of old (parts_of t)) → StandsFor new code (definitions_of old (parts_of t))
  code-grows code t h = stands-grows old new grows code.signature code.profile code.functions.items code.code.items code.kept (definitions_of old (parts_of t)) h

  module _ (t : Kept) (h : IsHeld old t) where
    definitions-grow : definitions_of new (parts_of t) ≡ definitions_of old (parts_of t)
    definitions-grow =
        let D = (definitions_of old (parts_of t)).blocks in
        ap (definitions (profile_of t.profile)) (blocks-read new (profile_of t.profile) t.entries D (AreEntries-grows old new grows t.entries D h.entered) h.sound.made)

    pub meant-grows : meant new (parts_of t) ≡ meant old (parts_of t)
    meant-grows =
        ap₂ (λ x y. theory_with x y (definitions_of new (parts_of t)) (name_read new t.checker) t.level) (object_at-Grows old new grows t.axioms h.axioms_in) (object_at-Grows old new grows t.theorems h.theorems_in)
        ∙ ap₂ (λ D c. theory_with (object_at old t.axioms) (object_at old t.theorems) D c t.level) definitions-grow (name-grows t.checker h.named)

    pub held-grows : IsHeld new t
    held-grows = record {
      axioms_in = IsIn-Grows old new grows t.axioms h.axioms_in;
      theorems_in = IsIn-Grows old new grows t.theorems h.theorems_in;
      arity_list_in = IsIn-Grows old new grows t.arity_list h.arity_list_in;
      each_axiom_in = all-grow t.known_axioms h.each_axiom_in;
      each_theorem_in = all-grow t.known_theorems h.each_theorem_in;
      axioms_known = known-grow t.known_axioms h.each_axiom_in ∙ (h.axioms_known ∙ sym (object_at-Grows old new grows t.axioms h.axioms_in));
      theorems_known = known-grow t.known_theorems h.each_theorem_in ∙ (h.theorems_known ∙ sym (object_at-Grows old new grows t.theorems h.theorems_in));
      equality = subst HasEquality (sym (object_at-Grows old new grows t.axioms h.axioms_in)) h.equality;
      arities = h.arities ∙ ap arity_table (sym definitions-grow);
      arities_listed = object_at-Grows old new grows t.arity_list h.arity_list_in ∙ h.arities_listed;
      entered = subst (λ D. AreEntries new t.entries D.blocks) (sym definitions-grow) (AreEntries-grows old new grows t.entries (definitions_of old (parts_of t)).blocks h.entered);
      coded = subst (StandsFor new t.table.value) (sym definitions-grow) (code-grows t.table.value t h.coded);
      named = named-grows t.checker h.named;
      first = h.first ∙ ap is_first (sym meant-grows);
      sound = subst IsSound (sym meant-grows) h.sound;
    }

-- with the code, the watch, the checker and the level of another
abbrev changed : Kept → Kept → Kept
changed t other = record t { table = other.table; watch = other.watch; checker = other.checker; level = other.level; is_initial = other.is_initial }

pub held-changed : (os : List Object) (t other : Kept) → IsHeld os t → StandsFor os other.table.value (definitions_of os (parts_of t)) → IfSome other.checker (IsNameIn os) → other.is_initial ≡ is_first (meant os (parts_of (changed t other))) → IsSound (meant os (parts_of (changed t other))) → IsHeld os (changed t other)
held-changed os t other h coded named first sound = record {
  axioms_in = h.axioms_in;
  theorems_in = h.theorems_in;
  arity_list_in = h.arity_list_in;
  each_axiom_in = h.each_axiom_in;
  each_theorem_in = h.each_theorem_in;
  axioms_known = h.axioms_known;
  theorems_known = h.theorems_known;
  equality = h.equality;
  arities = h.arities;
  arities_listed = h.arities_listed;
  entered = h.entered;
  coded = coded;
  named = named;
  first = first;
  sound = sound;
}

-- with another code that stands for the same
pub held-recoded : (os : List Object) (t new : Kept) → IsHeld os t → HasOtherCode t new → IsHeld os new
held-recoded os t new h c =
    subst (IsHeld os) (sym c.rest) (held-changed os t (record t { table = new.table }) h (c.stands os (definitions_of os (parts_of t)) h.coded) h.named h.first h.sound)

-- with another watch
pub held-watched : (os : List Object) (t : Kept) (w : Watch) → IsHeld os t → IsHeld os (record t { watch = w })
held-watched os t w h = held-changed os t (record t { watch = w }) h h.coded h.named h.first h.sound

kept_same : (n : ℕ) (old new : List Object) → Grows old new → n ≤ length old → take n new ≡ take n old
kept_same n old new g l = ap (take n) g.1 ∙ take-append-le n old g.0 l

-- a world that needs the whole heap
pub needs-all : (os : List Object) (t : Kept) (ms : List ObjectMark) → IsHeld os t → AreMarks t.arity os ms → IsWatch t.arity os t.watch → IsWorldOf os (length os) t ms
needs-all os t ms h m w = record {
  kept = omega arith;
  held = subst (λ o. IsHeld o t) (sym (take-Grows os os (Grows-refl os))) h;
  marked = m;
  watched = subst (λ o. IsWatch t.arity o t.watch) (sym (take-Grows os os (Grows-refl os))) w;
}

module _ (os : List Object) (n : ℕ) (t : Kept) (marks : List ObjectMark) (h : IsWorldOf os n t marks) where
  pub held : IsHeld os t
  held = held-grows (take n os) os (Grows-take n os) t h.held

  pub watched : IsWatch t.arity os t.watch
  watched = IsWatch-grows t.arity (take n os) os t.watch (Grows-take n os) h.watched

  module _ (new : List Object) (grows : Grows os new) where
    pub grown_theory : meant new (parts_of t) ≡ meant os (parts_of t)
    grown_theory = meant-grows os new grows t held

    -- with other marks, and another code that stands for the same
    pub grown-recoded : (other : Kept) (ms : List ObjectMark) → HasOtherCode t other → AreMarks other.arity new ms → IsWorldOf new n other ms
    grown-recoded other ms c m = record {
      kept = omega (arith, h.kept, length-Grows os new grows);
      held = subst (λ o. IsHeld o other) (sym (kept_same n os new grows h.kept)) (held-recoded (take n os) t other h.held c);
      marked = m;
      watched = subst (λ u. IsWatch u.arity (take n new) u.watch) (sym c.rest) (subst (λ o. IsWatch t.arity o t.watch) (sym (kept_same n os new grows h.kept)) h.watched);
    }

    pub grown-other : (other : Kept) → HasOtherCode t other → IsWorldOf new n other marks
    grown-other other c = grown-recoded other marks c (subst (λ A. AreMarks A new marks) (sym (ap (λ u. u.arity) c.rest)) (AreMarks-grows t.arity os new marks grows h.marked))

    -- with other marks
    pub grown-marked : (ms : List ObjectMark) → AreMarks t.arity new ms → IsWorldOf new n t ms
    grown-marked ms m = record {
      kept = omega (arith, h.kept, length-Grows os new grows);
      held = subst (λ o. IsHeld o t) (sym (kept_same n os new grows h.kept)) h.held;
      marked = m;
      watched = subst (λ o. IsWatch t.arity o t.watch) (sym (kept_same n os new grows h.kept)) h.watched;
    }

    pub grown : IsWorldOf new n t marks
    grown = grown-marked marks (AreMarks-grows t.arity os new marks grows h.marked)

  -- cut back to m objects, among which are those needed
  module _ (m : ℕ) (needed : n ≤ m) (within : m ≤ length os) where
    cut_same : take n (take m os) ≡ take n os
    cut_same = sym (kept_same n (take m os) os (Grows-take m os) (omega (arith, needed, length-take-le m os within)))

    pub cut_back : (ms : List ObjectMark) → length ms ≤ m → AreMarks t.arity os ms → IsWorldOf (take m os) n t ms
    cut_back ms few marked = record {
      kept = omega (arith, needed, length-take-le m os within);
      held = subst (λ o. IsHeld o t) (sym cut_same) h.held;
      marked = AreMarks-cut t.arity os ms m few within marked;
      watched = subst (λ o. IsWatch t.arity o t.watch) (sym cut_same) h.watched;
    }

    pub cut_held : IsHeld (take m os) t
    cut_held = held-grows (take n (take m os)) (take m os) (Grows-take n (take m os)) t (subst (λ o. IsHeld o t) (sym cut_same) h.held)

    pub cut_theory : meant (take m os) (parts_of t) ≡ meant os (parts_of t)
    cut_theory = sym (meant-grows (take m os) os (Grows-take m os) t cut_held)
