-- Which theories are the initial one of the first profile: none with a theorem or a newer block.
use Rattle.std.proofs.Common.{◌≡◌, suc, Bool, true, false, ◌&&◌, eqb, List, [], ◌∷◌, ◌++◌, length, refl, ap, ◌∙◌, arith, length-append}
use Rattle.std.proofs.lemmas.Bool.{and_parts, and_from}
use Rattle.mw_model.specs.Terms.Object.{Name, Object, NIL, same_name, same_object}
use Rattle.mw_model.specs.Terms.Same.{same_names, same_term}
use Rattle.mw_model.specs.Values.Primitive.{Profile, One, Two}
use Rattle.mw_model.specs.Values.Definition.{Function, Block, Functions, Choice}
use Rattle.mw_model.specs.BuiltIns.BuiltIn.{built_in}
use Rattle.mw_model.specs.Events.Theory.{Theory, BeginsWith, initial}
use Rattle.mw_model.specs.Events.Admission.{add_to_theory}
use Rattle.mw_model.specs.Events.Fate.{same_functions, same_block, same_blocks, is_one, is_built_in, is_initial}
use Rattle.mw_model.proofs.Names.{same_name-refl, same_object-refl}
use Rattle.mw_model.proofs.SameTerms.{same_term-refl}
use Rattle.mw_theory.specs.Knowledge.{with_theorem, is_first}

fourth_false : (a b c d : Bool) → (a && (b && (c && (false && d)))) ≡ false
fourth_false true true true d = refl
fourth_false true true false d = refl
fourth_false true false c d = refl
fourth_false false b c d = refl

first_false : (a b : Bool) → a ≡ false → (a && b) ≡ false
first_false true b h = cc
first_false false b h = refl

second_false : (a b c : Bool) → b ≡ false → (a && (b && c)) ≡ false
second_false true true c h = cc
second_false true false c h = refl
second_false false b c h = refl

module _ (t : Theory) where
  pub theorem-later : (x : Object) → is_first (with_theorem t x) ≡ false
  unfolding is_first
  theorem-later x =
      let i = initial One in
      fourth_false (is_one t.definitions.profile) (same_blocks t.definitions.blocks i.definitions.blocks) (same_object t.axioms i.axioms) (is_built_in t.checker && eqb t.level 1)

-- as many blocks
same_blocks-length : (D E : List Block) → same_blocks D E ≡ true → length D ≡ length E
same_blocks-length [] [] h = refl
same_blocks-length (B ∷ D) (C ∷ E) h = ap suc (same_blocks-length D E (and_parts (same_block B C) (same_blocks D E) h).1)
same_blocks-length [] (C ∷ E) h = cc
same_blocks-length (B ∷ D) [] h = cc

longer-differs : (newer E : List Block) (B : Block) → same_blocks (B ∷ (newer ++ E)) E ≡ false
longer-differs newer E B = go (same_blocks (B ∷ (newer ++ E)) E) refl
  where
    go : (b : Bool) → same_blocks (B ∷ (newer ++ E)) E ≡ b → same_blocks (B ∷ (newer ++ E)) E ≡ false
    go false h = h
    go true h = absurd (omega (arith, same_blocks-length (B ∷ (newer ++ E)) E h, length-append newer E))

pub block-later : (t : Theory) (B : Block) → BeginsWith (built_in t.definitions.profile) t.definitions.blocks → is_first (add_to_theory t B) ≡ false
unfolding is_first
block-later t B begun = go t.definitions.profile refl
  where
    rest : Bool
    rest = same_object (add_to_theory t B).axioms (initial One).axioms && (same_object t.theorems NIL && (is_built_in t.checker && eqb t.level 1))

    go : (P : Profile) → t.definitions.profile ≡ P → is_initial (add_to_theory t B) ≡ false
    go Two is = first_false (is_one t.definitions.profile) (same_blocks (B ∷ t.definitions.blocks) (built_in One) && rest) (ap is_one is)
    go One is =
        second_false (is_one t.definitions.profile) (same_blocks (B ∷ t.definitions.blocks) (built_in One)) rest
        (ap (λ D. same_blocks (B ∷ D) (built_in One)) (begun.1 ∙ ap (λ P. begun.0 ++ built_in P) is) ∙ longer-differs begun.0 (built_in One) B)

-- the blocks of the first profile are its own
same_names-refl : (xs : List Name) → same_names xs xs ≡ true
same_names-refl [] = refl
same_names-refl (x ∷ xs) = and_from (same_name x x) (same_names xs xs) (same_name-refl x) (same_names-refl xs)

same_functions-refl : (B : List Function) → same_functions B B ≡ true
same_functions-refl [] = refl
same_functions-refl (h ∷ B) =
    and_from (same_name h.name h.name) (same_names h.formals h.formals && (same_term h.body h.body && same_functions B B)) (same_name-refl h.name)
    (and_from (same_names h.formals h.formals) (same_term h.body h.body && same_functions B B) (same_names-refl h.formals)
    (and_from (same_term h.body h.body) (same_functions B B) (same_term-refl h.body) (same_functions-refl B)))

same_block-refl : (B : Block) → same_block B B ≡ true
same_block-refl (Functions B) = same_functions-refl B
same_block-refl (Choice f x xs b) =
    and_from (same_name f f) (same_names (x ∷ xs) (x ∷ xs) && same_term b b) (same_name-refl f)
    (and_from (same_names (x ∷ xs) (x ∷ xs)) (same_term b b) (same_names-refl (x ∷ xs)) (same_term-refl b))

same_blocks-refl : (D : List Block) → same_blocks D D ≡ true
same_blocks-refl [] = refl
same_blocks-refl (B ∷ D) = and_from (same_block B B) (same_blocks D D) (same_block-refl B) (same_blocks-refl D)

pub initial-first : (P : Profile) → is_first (initial P) ≡ is_one P
unfolding is_first
initial-first Two = refl
initial-first One =
    let i = initial One in
    and_from (same_blocks i.definitions.blocks i.definitions.blocks) (same_object i.axioms i.axioms && true) (same_blocks-refl i.definitions.blocks)
    (and_from (same_object i.axioms i.axioms) true (same_object-refl i.axioms) refl)
