-- A walk over rows: the blocks that are defined, and those whose rows are left.
use Rattle.std.proofs.Common.{◌≡◌, ℕ, true, false, List, [], ◌∷◌, refl, sym, ap, ◌∙◌, subst}
use Rattle.std.proofs.lemmas.Bool.{and_parts}
use Rattle.mw_model.specs.Terms.Object.{Object, Pair}
use Rattle.mw_model.specs.Values.Primitive.{Profile, is_pair}
use Rattle.mw_model.specs.Values.Definition.{Block, Functions, Choice, definitions, arities, is_block, are_blocks}
use Rattle.mw_model.specs.BuiltIns.BuiltIn.{built_in}
use Rattle.mw_model.proofs.BuiltInRead.{well_made}
use Rattle.mw_heap.specs.Objects.{object_at, IsIn}
use Rattle.mw_code.specs.declared.table.Table.{Table}
use Rattle.mw_code.specs.Tables.{StandsFor}
use Rattle.mw_preamble.specs.declared.definition.Definition.{Definition}
use Rattle.mw_preamble.specs.Admitted.{definitions_of}
use Rattle.mw_preamble.specs.Entries.{AreEntries}
use Rattle.mw_preamble.specs.Rows.{block_rows, rows_before, built_in_rows, IsRowOf, is_single, are_single, rows_of, turned}
use Rattle.mw_preamble.specs.Defining.{IsNextRow}

turned-rows : (D left : List Block) → rows_before D (rows_of left) ≡ rows_of (turned D left)
turned-rows [] left = refl
turned-rows (B ∷ D) left = turned-rows D (B ∷ left)

turned-back : (D left : List Block) → turned (turned D left) [] ≡ turned left D
turned-back [] left = refl
turned-back (B ∷ D) left = turned-back D (B ∷ left)

made-older : (P : Profile) (left D : List Block) → are_blocks P (turned left D) ≡ true → are_blocks P D ≡ true
made-older P [] D h = h
made-older P (B ∷ left) D h = (and_parts (is_block (arities P D) B) (are_blocks P D) (made-older P left (B ∷ D) h)).1

pair-parts : (a b x y : Object) → Pair a b ≡ Pair x y → (x ≡ a) × (y ≡ b)
pair-parts a b x y e = (cc, cc)

-- the first of the rows that are left
row-first : (B : Block) (left : List Block) (x y : Object) → is_single B ≡ true → block_rows B (rows_of left) ≡ Pair x y → IsRowOf B x × (y ≡ rows_of left)
row-first (Functions []) left x y s e = cc
row-first (Functions (h ∷ [])) left x y s e = pair-parts _ _ x y e
row-first (Functions (h ∷ k ∷ B)) left x y s e = cc
row-first (Choice g z xs b) left x y s e = pair-parts _ _ x y e

row-pair : (B : Block) (left : List Block) → is_single B ≡ true → is_pair (block_rows B (rows_of left)) ≡ true
row-pair (Functions []) left s = cc
row-pair (Functions (h ∷ [])) left s = refl
row-pair (Functions (h ∷ k ∷ B)) left s = cc
row-pair (Choice g z xs b) left s = refl

module _ (os : List Object) (P : Profile) (all : List Block) where
  pub record Defines (rest : ℕ) (es : List (List Definition)) (t : Table) : Type 0 where
    pub within : IsIn os rest
    pub left : List Block
    pub done : List Block
    pub all_are : all ≡ turned left done
    pub rows : object_at os rest ≡ rows_of left
    pub single : are_single left ≡ true
    pub made : are_blocks P all ≡ true
    pub entries : AreEntries os es done
    pub table : StandsFor os t (definitions P done)

  pub record Next (row more : ℕ) (done : List Block) : Type 0 where
    pub block : Block
    pub left : List Block
    pub is_row : IsNextRow os P done block row
    pub all_are : all ≡ turned left (block ∷ done)
    pub rows : object_at os more ≡ rows_of left
    pub single : are_single left ≡ true

  next-by : (rest row more : ℕ) (left done : List Block) → all ≡ turned left done → object_at os rest ≡ rows_of left → are_single left ≡ true → are_blocks P all ≡ true → object_at os rest ≡ Pair (object_at os row) (object_at os more) → Next row more done
  next-by rest row more [] done a r s m e = cc
  next-by rest row more (B ∷ left) done a r s m e =
      let p = and_parts (is_single B) (are_single left) s in
      let f = row-first B left (object_at os row) (object_at os more) p.0 (sym r ∙ e) in
      let older = made-older P left (B ∷ done) (subst (λ D. are_blocks P D ≡ true) a m) in
      record {
        block = B;
        left = left;
        is_row = record { row_is = f.0; made = (and_parts (is_block (arities P done) B) (are_blocks P done) older).0 };
        all_are = a;
        rows = f.1;
        single = p.1;
      }

  -- the row that is met is that of the next block
  pub Defines-next : (rest row more : ℕ) (es : List (List Definition)) (t : Table) (h : Defines rest es t) → object_at os rest ≡ Pair (object_at os row) (object_at os more) → Next row more h.done
  Defines-next rest row more es t h e = next-by rest row more h.left h.done h.all_are h.rows h.single h.made e

  -- when it is defined
  pub Defines-row : (rest row more : ℕ) (es fs : List (List Definition)) (t u : Table) (h : Defines rest es t) (n : Next row more h.done) → IsIn os more → AreEntries os fs (n.block ∷ h.done) → StandsFor os u (definitions P (n.block ∷ h.done)) → Defines more fs u
  Defines-row rest row more es fs t u h n within entries table = record {
    within = within;
    left = n.left;
    done = n.block ∷ h.done;
    all_are = n.all_are;
    rows = n.rows;
    single = n.single;
    made = h.made;
    entries = entries;
    table = table;
  }

  all-done : (left done : List Block) (x : Object) → all ≡ turned left done → x ≡ rows_of left → are_single left ≡ true → is_pair x ≡ false → all ≡ done
  all-done [] done x a r s e = a
  all-done (B ∷ left) done x a r s e = let pair = row-pair B left (and_parts (is_single B) (are_single left) s).0 in cc (pair, ap is_pair r)

  -- when no row is left
  pub Defines-end : (rest : ℕ) (es : List (List Definition)) (t : Table) → Defines rest es t → is_pair (object_at os rest) ≡ false → AreEntries os es all × StandsFor os t (definitions P all)
  Defines-end rest es t h e =
      let d = all-done h.left h.done (object_at os rest) h.all_are h.rows h.single e in
      (subst (AreEntries os es) (sym d) h.entries, subst (λ D. StandsFor os t (definitions P D)) (sym d) h.table)

pub definitions-same : (P : Profile) → definitions P (definitions_of P).blocks ≡ definitions_of P
unfolding definitions_of
definitions-same P = refl

single : (P : Profile) → are_single (turned (built_in P) []) ≡ true
single P = refl

pub Defines-begin : (P : Profile) (os : List Object) (rows : ℕ) (t : Table) → IsIn os rows → object_at os rows ≡ built_in_rows P → StandsFor os t (definitions P []) → Defines os P (definitions_of P).blocks rows [] t
unfolding built_in_rows definitions_of
Defines-begin P os rows t within is empty = record {
  within = within;
  left = turned (built_in P) [];
  done = [];
  all_are = sym (turned-back (built_in P) []);
  rows = is ∙ turned-rows (built_in P) [];
  single = single P;
  made = well_made P;
  entries = refl;
  table = empty;
}
