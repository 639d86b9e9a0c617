-- What the cells of a heap mean, over the large naturals and the names that they point to.
use Rattle.std.specs.Prelude.{◌≡◌, ℕ, ◌+◌, ◌<◌, ◌≤◌, ◌^◌, Bool, true, false, List, [], ◌∷◌, ◌++◌, length, get_or, take, slice_get, Some, map, Vec}
use Rattle.mw_model.specs.Terms.Object.{Object, Natural, Symbol, Pair, is_name, name_of_bytes}
use Rattle.mw_heap.specs.Objects.{object_at}
use Rattle.mw_heap.specs.declared.store.cell.Cell.{Cell}
use Rattle.mw_heap.specs.declared.store.cell.Cell.TheVariants.{Small, Large, Symbol as Named, Pair as Parts}

-- no value stands twice
abbrev pub IsInjective : {X : Type 0} → List X → Type 0
IsInjective xs = (i j : ℕ) → i < length xs → slice_get xs i ≡ slice_get xs j → i ≡ j

-- the bytes of each name
abbrev pub bytes_of : {A : Type 0} → List (Vec ℕ A) → List (List ℕ)
bytes_of names = map (λ s. s.items) names

-- how many of the cells pass the test
abbrev pub one_if : Bool → ℕ
one_if true = 1
one_if false = 0

abbrev pub count_of : (Cell → Bool) → List Cell → ℕ
count_of test [] = 0
count_of test (c ∷ cells) = one_if (test c) + count_of test cells

abbrev pub is_large : Cell → Bool
is_large (Small n) = false
is_large (Large i) = true
is_large (Named i) = false
is_large (Parts a b) = false

abbrev pub is_named : Cell → Bool
is_named (Small n) = false
is_named (Large i) = false
is_named (Named i) = true
is_named (Parts a b) = false

-- how many large naturals, and how many names, the cells have
abbrev pub natural_count : List Cell → ℕ
natural_count cells = count_of is_large cells

abbrev pub name_count : List Cell → ℕ
name_count cells = count_of is_named cells

-- the cell may stand after these: a large natural and a name are the next of their kind, and a pair's parts are older
abbrev pub MayFollow : List Cell → Cell → Type 0
MayFollow older (Small n) = n < 2 ^ 32
MayFollow older (Large i) = i ≡ natural_count older
MayFollow older (Named i) = i ≡ name_count older
MayFollow older (Parts a b) = (a < length older) × (b < length older)

module _ (naturals : List ℕ) (names : List (List ℕ)) where
  -- a cell's object, over the objects before it
  abbrev pub object : List Object → Cell → Object
  object older (Small n) = Natural n
  object older (Large i) = Natural (get_or naturals i 0)
  object older (Named i) = Symbol (name_of_bytes (get_or names i []))
  object older (Parts a b) = Pair (object_at older a) (object_at older b)

  abbrev pub objects_after : List Object → List Cell → List Object
  objects_after older [] = older
  objects_after older (c ∷ cells) = objects_after (older ++ object older c ∷ []) cells

  abbrev pub objects : List Cell → List Object
  objects cells = objects_after [] cells

-- each cell may follow those before it, and no two are equal
pub record AreCells (cells : List Cell) : Type 0 where
  pub in_order : (i : ℕ) (c : Cell) → slice_get cells i ≡ Some c → MayFollow (take i cells) c
  pub distinct : IsInjective cells
  pub few : length cells < 2 ^ 32

pub record AreNaturals (naturals : List ℕ) : Type 0 where
  pub large : (i n : ℕ) → slice_get naturals i ≡ Some n → (2 ^ 32 ≤ n) × (n < 2 ^ 128)
  pub distinct : IsInjective naturals

pub record AreNames (names : List (List ℕ)) : Type 0 where
  pub valid : (i : ℕ) (s : List ℕ) → slice_get names i ≡ Some s → is_name s ≡ true
  pub distinct : IsInjective names

-- what stays true of a heap
pub record IsSound (naturals : List ℕ) (names : List (List ℕ)) (cells : List Cell) : Type 0 where
  pub are_cells : AreCells cells
  pub are_naturals : AreNaturals naturals
  pub are_names : AreNames names
  pub all_naturals : natural_count cells ≡ length naturals
  pub all_names : name_count cells ≡ length names
