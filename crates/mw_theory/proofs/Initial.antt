-- What a world begins with: the initial theory of a profile.
use Rattle.std.proofs.Common.{◌≡◌, ℕ, None, IfSome, List, [], ◌∷◌, ◌++◌, map, reverse, refl, sym, ap, ap₂, ◌∙◌, subst, append_assoc}
use Rattle.std.specs.List.{All}
use Rattle.std.proofs.lemmas.List.{map-append, reverse-append}
use Rattle.std.proofs.lemmas.List.Elements.{All-head, All-tail, All-cons, All-nil}
use Rattle.mw_model.specs.Terms.Object.{Object, Pair, NIL}
use Rattle.mw_model.specs.Terms.Term.{formula_object, table_object}
use Rattle.mw_model.specs.Values.Primitive.{Profile}
use Rattle.mw_model.specs.Values.Definition.{Block, definitions, arity_table, block_axioms}
use Rattle.mw_model.specs.Proofs.Axioms.{primitive_axioms}
use Rattle.mw_model.specs.BuiltIns.BuiltIn.{built_in}
use Rattle.mw_model.specs.Events.Theory.{axioms_of, initial, IsSound}
use Rattle.mw_model.specs.Events.Fate.{is_one}
use Rattle.mw_heap.specs.Objects.{object_at, IsIn, Grows}
use Rattle.mw_heap.specs.Variants.{profile_of}
use Rattle.mw_heap.proofs.Objects.{Grows-trans, IsIn-Grows, object_at-Grows}
use Rattle.mw_heap.specs.Lists.{list_object}
use Rattle.mw_code.specs.Tables.{StandsFor}
use Rattle.mw_preamble.specs.Admitted.{axioms_in_order}
use Rattle.mw_preamble.specs.Admitted as admitted
use Rattle.mw_preamble.specs.Entries.{AreEntries}
use Rattle.mw_theory.specs.declared.theory.Theory.{Theory as Kept}
use Rattle.mw_theory.specs.Knowledge.{theory_with, parts_of, definitions_of, name_read, meant, put_all, is_first, IsNameIn, HasEquality, IsHeld}
use Rattle.mw_theory.proofs.Entered.{blocks-read}
use Rattle.mw_theory.proofs.Equality.{equality-first}
use Rattle.mw_theory.proofs.Firsts.{initial-first}
use Rattle.mw_theory.proofs.Held.{all-grow}
use Rattle.mw_theory.proofs.Listing.{put_formulas}

put_more : (xs ys : List Object) (list : Object) → put_all (xs ++ ys) list ≡ put_all ys (put_all xs list)
put_more [] ys list = refl
put_more (x ∷ xs) ys list = put_more xs ys (Pair x list)

-- the axioms of a theory, put one after another before those of the primitives
axioms_put : (P : Profile) (D : List Block) → put_all (map formula_object (axioms_in_order D)) (axioms_of P []) ≡ axioms_of P D
axioms_put P [] = refl
axioms_put P (B ∷ D) =
    ap (λ xs. put_all xs (axioms_of P [])) (map-append formula_object (axioms_in_order D) (block_axioms B))
    ∙ (put_more (map formula_object (axioms_in_order D)) (map formula_object (block_axioms B)) (axioms_of P [])
    ∙ (ap (put_all (map formula_object (block_axioms B))) (axioms_put P D) ∙ put_formulas (block_axioms B) (axioms_of P D)))

pub known_put : (os : List Object) (xs k : List ℕ) → list_object os (reverse xs ++ k) ≡ put_all (map (object_at os) xs) (list_object os k)
known_put os [] k = refl
known_put os (x ∷ xs) k =
    ap (list_object os) (ap (λ l. l ++ k) (reverse-append (x ∷ []) xs) ∙ append_assoc (reverse xs) (x ∷ []) k)
    ∙ known_put os xs (x ∷ k)

pub all_put : (P : ℕ → Type 0) (xs k : List ℕ) → All P xs → All P k → All P (reverse xs ++ k)
all_put P [] k h i = i
all_put P (x ∷ xs) k h i =
    subst (All P) (sym (ap (λ l. l ++ k) (reverse-append (x ∷ []) xs) ∙ append_assoc (reverse xs) (x ∷ []) k))
    (all_put P xs (x ∷ k) (All-tail P x xs h) (All-cons P x k (All-head P x xs h) i))

pub map_grown : (old new : List Object) → Grows old new → (xs : List ℕ) → All (IsIn old) xs → map (object_at new) xs ≡ map (object_at old) xs
map_grown old new g [] h = refl
map_grown old new g (x ∷ xs) h = ap₂ (λ y ys. y ∷ ys) (object_at-Grows old new g x (All-head (IsIn old) x xs h)) (map_grown old new g xs (All-tail (IsIn old) x xs h))

first_theory : (P : Profile) → theory_with (axioms_of P (admitted.definitions_of P).blocks) NIL (admitted.definitions_of P) None 1 ≡ initial P
unfolding admitted.definitions_of
first_theory P = refl

-- The heaps with the axioms of the definitions, those of the primitives, NIL, and each of the two lists.
pub record Begins (P : Profile) (a b n p q : List Object) (primitives definitions : List ℕ) (nil first second : ℕ) (known : List ℕ) : Type 0 where
  pub a_grows : Grows a b
  pub b_grows : Grows b n
  pub n_grows : Grows n p
  pub p_grows : Grows p q
  pub definitions_in : All (IsIn a) definitions
  pub definitions_are : map (object_at a) definitions ≡ map formula_object (axioms_in_order (admitted.definitions_of P).blocks)
  pub primitives_in : All (IsIn b) primitives
  pub primitives_are : map (object_at b) primitives ≡ map formula_object (primitive_axioms P)
  pub nil_in : IsIn n nil
  pub nil_is : object_at n nil ≡ NIL
  pub first_in : IsIn p first
  pub first_is : object_at p first ≡ put_all (map (object_at n) primitives) (object_at n nil)
  pub second_in : IsIn q second
  pub second_is : object_at q second ≡ put_all (map (object_at p) definitions) (object_at p first)
  pub known_is : known ≡ reverse definitions ++ (reverse primitives ++ [])

module _ (P : Profile) (a b n p q : List Object) (primitives definitions : List ℕ) (nil first second : ℕ) (known : List ℕ) (h : Begins P a b n p q primitives definitions nil first second known) where
  to_first : Grows a p
  to_first = Grows-trans a b p h.a_grows (Grows-trans b n p h.b_grows h.n_grows)

  definitions_last : Grows a q
  definitions_last = Grows-trans a p q to_first h.p_grows

  primitives_last : Grows b q
  primitives_last = Grows-trans b n q h.b_grows (Grows-trans n p q h.n_grows h.p_grows)

  first_axioms : object_at p first ≡ axioms_of P []
  first_axioms =
      h.first_is
      ∙ (ap₂ put_all (map_grown b n h.b_grows primitives h.primitives_in ∙ h.primitives_are) h.nil_is
      ∙ put_formulas (primitive_axioms P) NIL)

  pub second_axioms : object_at q second ≡ axioms_of P (admitted.definitions_of P).blocks
  second_axioms =
      h.second_is
      ∙ (ap₂ put_all (map_grown a p to_first definitions h.definitions_in ∙ h.definitions_are) first_axioms
      ∙ axioms_put P (admitted.definitions_of P).blocks)

  pub nil_last : object_at q nil ≡ NIL
  nil_last = object_at-Grows n q (Grows-trans n p q h.n_grows h.p_grows) nil h.nil_in ∙ h.nil_is

  pub known_last : list_object q known ≡ object_at q second
  known_last =
      ap (list_object q) h.known_is
      ∙ (known_put q definitions (reverse primitives ++ [])
      ∙ (ap₂ put_all (map_grown a q definitions_last definitions h.definitions_in ∙ sym (map_grown a p to_first definitions h.definitions_in))
      (known_put q primitives [] ∙ (ap₂ put_all (map_grown b q primitives_last primitives h.primitives_in ∙ sym (map_grown b n h.b_grows primitives h.primitives_in)) (sym h.nil_is) ∙ sym h.first_is))
      ∙ sym h.second_is))

  pub nil_kept : IsIn q nil
  nil_kept = IsIn-Grows n q (Grows-trans n p q h.n_grows h.p_grows) nil h.nil_in

  pub known_begun : All (IsIn q) known
  known_begun =
      subst (All (IsIn q)) (sym h.known_is)
      (all_put (IsIn q) definitions (reverse primitives ++ []) (all-grow a q definitions_last definitions h.definitions_in) (all_put (IsIn q) primitives [] (all-grow b q primitives_last primitives h.primitives_in) (All-nil (IsIn q))))

pub begun_theory : (P : Profile) (axioms theorems : Object) → axioms ≡ axioms_of P (admitted.definitions_of P).blocks → theorems ≡ NIL → theory_with axioms theorems (admitted.definitions_of P) None 1 ≡ initial P
begun_theory P axioms theorems axioms_are theorems_are = ap₂ (λ x y. theory_with x y (admitted.definitions_of P) None 1) axioms_are theorems_are ∙ first_theory P

-- What is kept of the theory at the start.
module _ (q : List Object) (t : Kept) (P : Profile) (profile : profile_of t.profile ≡ P) (checker : t.checker ≡ None) (level : t.level ≡ 1) (entered : AreEntries q t.entries (admitted.definitions_of P).blocks) (theory : theory_with (object_at q t.axioms) (object_at q t.theorems) (admitted.definitions_of P) None 1 ≡ initial P) (sound : IsSound (initial P)) where
  definitions_are : definitions_of q (parts_of t) ≡ admitted.definitions_of P
  unfolding admitted.definitions_of
  definitions_are = ap₂ definitions profile (blocks-read q P t.entries (admitted.definitions_of P).blocks entered sound.made)

  pub begun_initial : meant q (parts_of t) ≡ initial P
  begun_initial =
      ap₂ (λ c l. theory_with (object_at q t.axioms) (object_at q t.theorems) (definitions_of q (parts_of t)) (name_read q c) l) checker level
      ∙ (ap (λ D. theory_with (object_at q t.axioms) (object_at q t.theorems) D None 1) definitions_are ∙ theory)

  pub begins : IsIn q t.axioms → IsIn q t.theorems → IsIn q t.arity_list → All (IsIn q) t.known_axioms → t.known_theorems ≡ [] → list_object q t.known_axioms ≡ object_at q t.axioms → object_at q t.arity_list ≡ table_object (arity_table (admitted.definitions_of P)) → t.arity ≡ arity_table (admitted.definitions_of P) → StandsFor q t.table.value (admitted.definitions_of P) → t.is_initial ≡ is_one P → IsHeld q t
  begins axioms_in nil_in arity_list_in known_in none known_is listed arities coded first = record {
    axioms_in = axioms_in;
    theorems_in = nil_in;
    arity_list_in = arity_list_in;
    each_axiom_in = known_in;
    each_theorem_in = subst (All (IsIn q)) (sym none) (All-nil (IsIn q));
    axioms_known = known_is;
    theorems_known = ap (list_object q) none ∙ sym (ap (λ t. t.theorems) theory);
    arities_listed = listed ∙ ap table_object (sym arities);
    equality = subst HasEquality (sym (ap (λ t. t.axioms) theory)) (equality-first P (built_in P));
    arities = arities ∙ ap arity_table (sym definitions_are);
    entered = subst (λ D. AreEntries q t.entries D.blocks) (sym definitions_are) entered;
    coded = subst (StandsFor q t.table.value) (sym definitions_are) coded;
    named = subst (λ c. IfSome c (IsNameIn q)) (sym checker) tt;
    first = first ∙ (sym (initial-first P) ∙ ap is_first (sym begun_initial));
    sound = subst IsSound (sym begun_initial) sound;
  }
