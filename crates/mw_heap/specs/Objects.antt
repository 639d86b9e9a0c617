-- Objects in a heap, which is seen as the list of its objects. A reference is the index of its object.
use Rattle.std.specs.Prelude.{◌≡◌, ℕ, ◌<◌, true, List, ◌++◌, length, get_or}
use Rattle.mw_model.specs.Terms.Object.{Object, Natural, Pair, NIL}
use Rattle.mw_model.specs.Values.Primitive.{is_symbol}
use Rattle.mw_heap.specs.declared.store.view.View.{View}
use Rattle.mw_heap.specs.declared.store.view.View.TheVariants.{Nat, Symbol, Pair as Parts}

-- the object of a reference; NIL where the heap has none
abbrev pub object_at : List Object → ℕ → Object
object_at os r = get_or os r NIL

-- a reference of the heap
abbrev pub IsIn : List Object → ℕ → Type 0
IsIn os r = r < length os

-- nothing that was there means anything else
abbrev pub Grows : List Object → List Object → Type 0
Grows old new = (more : List Object) × (new ≡ old ++ more)

-- equal objects have equal references
abbrev pub AreDistinct : List Object → Type 0
AreDistinct os = (x y : ℕ) → IsIn os x → IsIn os y → object_at os x ≡ object_at os y → x ≡ y

-- the object stands before r
abbrev pub StandsBefore : List Object → ℕ → Object → Type 0
StandsBefore os r x = (q : ℕ) × (q < r) × (object_at os q ≡ x)

-- the parts of each pair stand before it
abbrev pub ArePartsOlder : List Object → Type 0
ArePartsOlder os = (r : ℕ) (a b : Object) → IsIn os r → object_at os r ≡ Pair a b → StandsBefore os r a × StandsBefore os r b

-- the view is that of the object x
abbrev pub Shows : List Object → View → Object → Type 0
Shows os (Nat n) x = x ≡ Natural n
Shows os Symbol x = is_symbol x ≡ true
Shows os (Parts a b) x = IsIn os a × IsIn os b × (x ≡ Pair (object_at os a) (object_at os b))

-- the parts that the view names stand before r
abbrev pub NamesOlder : View → ℕ → Type 0
NamesOlder (Nat n) r = Unit {0}
NamesOlder Symbol r = Unit {0}
NamesOlder (Parts a b) r = (a < r) × (b < r)
