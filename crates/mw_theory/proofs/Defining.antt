-- What is kept of a theory after a theorem or a block of definitions was added to all its parts.
use Rattle.std.proofs.Common.{◌≡◌, ℕ, true, false, IfSome, List, [], ◌∷◌, ◌++◌, map, reverse, refl, sym, ap, ap₂, ◌∙◌, subst}
use Rattle.std.specs.List.{All}
use Rattle.std.proofs.lemmas.Bool.{and_parts}
use Rattle.std.proofs.lemmas.List.Elements.{All-cons}
use Rattle.mw_model.specs.Terms.Object.{Object, Pair, car, cdr}
use Rattle.mw_model.specs.Terms.Term.{Formula, formula_object, table_object}
use Rattle.mw_model.specs.Laws.RulesInduction.{formulas_object, is_list_object}
use Rattle.mw_model.specs.Values.Definition.{Block, definitions, arity_table, block_axioms, is_block, are_blocks}
use Rattle.mw_model.specs.Events.Theory.{Theory, IsSound, add_formulas}
use Rattle.mw_model.specs.Events.Admission.{add_to_theory}
use Rattle.mw_heap.specs.Objects.{object_at, IsIn, Grows}
use Rattle.mw_heap.specs.Variants.{profile_of}
use Rattle.mw_heap.proofs.Objects.{IsIn-Grows, object_at-Grows}
use Rattle.mw_heap.specs.Lists.{list_object}
use Rattle.mw_code.specs.Tables.{StandsFor}
use Rattle.mw_preamble.specs.declared.definition.Definition.{Definition}
use Rattle.mw_preamble.specs.Entries.{IsBlock, AreEntries}
use Rattle.mw_preamble.proofs.CallerLemmas.{block-grows, AreEntries-grows}
use Rattle.mw_theory.specs.declared.theory.Theory.{Theory as Kept}
use Rattle.mw_theory.specs.Adding.{with_block, MayBeAdded}
use Rattle.mw_theory.specs.Defining.{IsNewBlock}
use Rattle.mw_theory.specs.Knowledge.{theory_with, parts_of, definitions_of, name_read, meant, with_theorem, put_all, is_first, IsNameIn, HasEquality, IsHeld}
use Rattle.mw_theory.proofs.Entered.{blocks-read}
use Rattle.mw_theory.proofs.Equality.{equality-added}
use Rattle.mw_theory.proofs.Firsts.{theorem-later, block-later}
use Rattle.mw_theory.proofs.Held.{known-grow, all-grow, named-grows, meant-grows, held-grows}
use Rattle.mw_theory.proofs.Listing.{put_formulas}
use Rattle.mw_theory.proofs.Initial.{known_put, all_put, map_grown}

-- One theorem more, whose list was made after what the heap had.
abbrev with_theorems : Theory → Object → Theory
with_theorems t x = record t { theorems = x }

module _ (os : List Object) (t : Kept) (h : IsHeld os t) (formula list : ℕ) (new : List Object) (within : IsIn os formula) (grows : Grows os new) (list_in : IsIn new list) (made : object_at new list ≡ Pair (object_at os formula) (object_at os t.theorems)) where
  abbrev with_list : Kept
  with_list = record t { theorems = list; known_theorems = formula ∷ t.known_theorems; is_initial = false }

  pub theorem-meant : meant new (parts_of with_list) ≡ with_theorem (meant os (parts_of t)) (object_at os formula)
  theorem-meant = ap (λ (u : Theory). with_theorems u (object_at new list)) (meant-grows os new grows t h) ∙ ap (with_theorems (meant os (parts_of t))) made

  pub theorem-held : IsSound (with_theorem (meant os (parts_of t)) (object_at os formula)) → IsHeld new with_list
  theorem-held sound =
      let g = held-grows os new grows t h in
      record {
        axioms_in = g.axioms_in;
        theorems_in = list_in;
        arity_list_in = g.arity_list_in;
        each_axiom_in = g.each_axiom_in;
        each_theorem_in = All-cons (IsIn new) formula t.known_theorems (IsIn-Grows os new grows formula within) g.each_theorem_in;
        axioms_known = g.axioms_known;
        theorems_known = ap₂ Pair (object_at-Grows os new grows formula within) (known-grow os new grows t.known_theorems h.each_theorem_in ∙ h.theorems_known) ∙ sym made;
        equality = g.equality;
        arities = g.arities;
        arities_listed = g.arities_listed;
        entered = g.entered;
        coded = g.coded;
        named = g.named;
        first = sym (ap is_first theorem-meant ∙ theorem-later (meant os (parts_of t)) (object_at os formula));
        sound = subst IsSound (sym theorem-meant) sound;
      }

-- the parts after a block was added, over a heap that grew
pub record IsAdded (os : List Object) (t : Kept) (B : Block) (ds : List Definition) (new : List Object) (after : Kept) : Type 0 where
  pub grows : Grows os new
  pub profile : after.profile ≡ t.profile
  pub axioms_in : IsIn new after.axioms
  pub axioms_are : object_at new after.axioms ≡ add_formulas (block_axioms B) (object_at os t.axioms)
  pub theorems : after.theorems ≡ t.theorems
  pub arity_list_in : IsIn new after.arity_list
  pub arity_list_is : object_at new after.arity_list ≡ table_object after.arity
  pub arities : after.arity ≡ arity_table (with_block B (definitions_of os (parts_of t)))
  pub each_axiom : All (IsIn new) after.known_axioms
  pub axioms_known : list_object new after.known_axioms ≡ object_at new after.axioms
  pub known_theorems : after.known_theorems ≡ t.known_theorems
  pub entries : after.entries ≡ t.entries ++ ds ∷ []
  pub stands : StandsFor new after.table.value (with_block B (definitions_of os (parts_of t)))
  pub checker : after.checker ≡ t.checker
  pub level : after.level ≡ t.level
  pub later : after.is_initial ≡ false
  pub sound : IsSound (add_to_theory (meant os (parts_of t)) B)

module _ (os : List Object) (t : Kept) (h : IsHeld os t) (B : Block) (ds : List Definition) (means : IsBlock os ds B) (new : List Object) (after : Kept) (a : IsAdded os t B ds new after) where
  entered : AreEntries new after.entries (B ∷ (definitions_of os (parts_of t)).blocks)
  entered = (t.entries, ds, a.entries, block-grows os new a.grows ds B means, AreEntries-grows os new a.grows t.entries (definitions_of os (parts_of t)).blocks h.entered)

  definitions_are : definitions_of new (parts_of after) ≡ with_block B (definitions_of os (parts_of t))
  definitions_are = ap₂ definitions (ap profile_of a.profile) (blocks-read new (profile_of t.profile) after.entries (B ∷ (definitions_of os (parts_of t)).blocks) entered a.sound.made)

  checker_is : name_read new after.checker ≡ name_read os t.checker
  checker_is = ap (name_read new) a.checker ∙ ap (λ u. u.checker) (meant-grows os new a.grows t h)

  theorems_are : object_at new after.theorems ≡ object_at os t.theorems
  theorems_are = ap (object_at new) a.theorems ∙ object_at-Grows os new a.grows t.theorems h.theorems_in

  pub defined_theory : meant new (parts_of after) ≡ add_to_theory (meant os (parts_of t)) B
  defined_theory =
      ap₂ (λ x y. theory_with x y (definitions_of new (parts_of after)) (name_read new after.checker) after.level) a.axioms_are theorems_are
      ∙ (ap₂ (λ D c. theory_with (add_formulas (block_axioms B) (object_at os t.axioms)) (object_at os t.theorems) D c after.level) definitions_are checker_is
      ∙ ap (theory_with (add_formulas (block_axioms B) (object_at os t.axioms)) (object_at os t.theorems) (with_block B (definitions_of os (parts_of t))) (name_read os t.checker)) a.level)

  pub defined : IsHeld new after
  defined =
      let g = held-grows os new a.grows t h in
      record {
        axioms_in = a.axioms_in;
        theorems_in = subst (IsIn new) (sym a.theorems) g.theorems_in;
        arity_list_in = a.arity_list_in;
        each_axiom_in = a.each_axiom;
        each_theorem_in = subst (All (IsIn new)) (sym a.known_theorems) g.each_theorem_in;
        axioms_known = a.axioms_known;
        theorems_known = ap (list_object new) a.known_theorems ∙ (g.theorems_known ∙ ap (object_at new) (sym a.theorems));
        equality = subst HasEquality (sym a.axioms_are) (equality-added (block_axioms B) (object_at os t.axioms) h.equality);
        arities = a.arities ∙ ap arity_table (sym definitions_are);
        arities_listed = a.arity_list_is;
        entered = subst (λ D. AreEntries new after.entries D.blocks) (sym definitions_are) entered;
        coded = subst (StandsFor new after.table.value) (sym definitions_are) a.stands;
        named = named-grows os new a.grows after.checker (subst (λ c. IfSome c (IsNameIn os)) (sym a.checker) h.named);
        first = a.later ∙ sym (ap is_first defined_theory ∙ block-later (meant os (parts_of t)) B h.sound.begun);
        sound = subst IsSound (sym defined_theory) a.sound;
      }

-- the members of a list of formulas
list_of_formulas : (Fs : List Formula) → is_list_object (formulas_object Fs) ≡ true
list_of_formulas [] = refl
list_of_formulas (F ∷ Fs) = list_of_formulas Fs

known_formulas : (os : List Object) (ms : List ℕ) (Fs : List Formula) → list_object os ms ≡ formulas_object Fs → map (object_at os) ms ≡ map formula_object Fs
known_formulas os [] [] h = refl
known_formulas os [] (F ∷ Fs) h = cc
known_formulas os (m ∷ ms) [] h = cc
known_formulas os (m ∷ ms) (F ∷ Fs) h = ap₂ (λ x xs. x ∷ xs) (ap car h) (known_formulas os ms Fs (ap cdr h))

-- What is owed to the step that adds a block to the parts, and what its answer gives.
module _ (os : List Object) (t : Kept) (h : IsHeld os t) (B : Block) (ds : List Definition) (list : ℕ) (n : IsNewBlock os (parts_of t) ds list B) where
  pub may_be_added : MayBeAdded os t.table.value (definitions_of os (parts_of t)) ds B
  may_be_added = record {
    stands = h.coded;
    means = n.means;
    made = (and_parts (is_block (arity_table (definitions_of os (parts_of t))) B) (are_blocks (profile_of t.profile) (definitions_of os (parts_of t)).blocks) n.sound.made).0;
  }

  module _ (ms : List ℕ) (within : All (IsIn os) ms) (members : is_list_object (object_at os list) ≡ true → list_object os ms ≡ object_at os list) (new : List Object) (grows : Grows os new) (axiom_list : ℕ) (put : object_at new axiom_list ≡ put_all (map (object_at os) ms) (object_at os t.axioms)) where
    members_are : map (object_at os) ms ≡ map formula_object (block_axioms B)
    members_are = known_formulas os ms (block_axioms B) (members (ap is_list_object n.axioms_are ∙ list_of_formulas (block_axioms B)) ∙ n.axioms_are)

    axioms_are : object_at new axiom_list ≡ add_formulas (block_axioms B) (object_at os t.axioms)
    axioms_are = put ∙ (ap (λ xs. put_all xs (object_at os t.axioms)) members_are ∙ put_formulas (block_axioms B) (object_at os t.axioms))

    known_are : list_object new (reverse ms ++ t.known_axioms) ≡ object_at new axiom_list
    known_are =
        known_put new ms t.known_axioms
        ∙ (ap₂ put_all (map_grown os new grows ms within) (known-grow os new grows t.known_axioms h.each_axiom_in ∙ h.axioms_known) ∙ sym put)

    each_known : All (IsIn new) (reverse ms ++ t.known_axioms)
    each_known = all_put (IsIn new) ms t.known_axioms (all-grow os new grows ms within) (all-grow os new grows t.known_axioms h.each_axiom_in)

    -- with these parts the block is added
    pub is-added : (after : Kept) → after.profile ≡ t.profile → after.axioms ≡ axiom_list → IsIn new axiom_list → after.theorems ≡ t.theorems → IsIn new after.arity_list → object_at new after.arity_list ≡ table_object (arity_table (with_block B (definitions_of os (parts_of t)))) → after.arity ≡ arity_table (with_block B (definitions_of os (parts_of t))) → after.known_axioms ≡ reverse ms ++ t.known_axioms → after.known_theorems ≡ t.known_theorems → after.entries ≡ t.entries ++ ds ∷ [] → StandsFor new after.table.value (with_block B (definitions_of os (parts_of t))) → after.checker ≡ t.checker → after.level ≡ t.level → after.is_initial ≡ false → IsAdded os t B ds new after
    is-added after profile axioms axioms_in theorems list_in listed arities known known_theorems entries stands checker level later = record {
      grows = grows;
      profile = profile;
      axioms_in = subst (IsIn new) (sym axioms) axioms_in;
      axioms_are = ap (object_at new) axioms ∙ axioms_are;
      theorems = theorems;
      arity_list_in = list_in;
      arity_list_is = listed ∙ ap table_object (sym arities);
      arities = arities;
      each_axiom = subst (All (IsIn new)) (sym known) each_known;
      axioms_known = ap (list_object new) known ∙ (known_are ∙ ap (object_at new) (sym axioms));
      known_theorems = known_theorems;
      entries = entries;
      stands = stands;
      checker = checker;
      level = level;
      later = later;
      sound = n.sound;
    }
