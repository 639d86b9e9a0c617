-- What is known of a block.
use Rattle.std.specs.Prelude.{◌≡◌, ℕ, nat_eq, Bool, List, Option, Some}
use Rattle.indexmap.specs.IndexMap.{get}
use Rattle.mw_model.specs.Terms.Object.{Name, Object, Natural, Symbol, Pair, NIL}
use Rattle.mw_model.specs.Values.Definition.{Function}
use Rattle.mw_heap.specs.Objects.{object_at, IsIn}
use Rattle.mw_term.specs.Parts.{names_at, AreSymbols}
use Rattle.mw_define.specs.declared.piece.Piece.{Piece}
use Rattle.mw_define.specs.declared.known.Known.{Known}
use Rattle.mw_define.specs.contracts.piece.PiecePartialEq.TheImpl.{ghosts}
use Rattle.mw_define.specs.Collecting.{HasNames}
use Rattle.mw_define.specs.Testing.{test_object}
use Rattle.mw_define.specs.Mentioning.{IsPiece, piece_mentions, some_mentions}

-- whether a piece mentions the block, where it is known
abbrev pub known_of : Known → Piece → Option Bool
known_of k p = get ghosts.eq k.pieces p

-- what is known of pieces is so of a block of these names
abbrev pub AreKnownOf : List Name → List Object → Known → Type 0
AreKnownOf names os k = (p : Piece) (b : Bool) → known_of k p ≡ Some b → IsPiece os p × ((B : List Function) → HasNames B names → b ≡ piece_mentions B os p)

-- what is left to show where a test fails, where it was made
abbrev pub denial_of : Known → ℕ → Option ℕ
denial_of k t = get nat_eq k.denials t

abbrev pub denial_object : Object → Object
denial_object (Pair kind a) = test_object kind a
denial_object (Natural n) = NIL
denial_object (Symbol s) = NIL

abbrev pub AreDenials : List Object → Known → Type 0
AreDenials os k = (t r : ℕ) → denial_of k t ≡ Some r → IsIn os t × IsIn os r × (object_at os r ≡ denial_object (object_at os t))

-- its names are these symbols, and what is known besides is so of them
pub record AreKnown (os : List Object) (keys : List ℕ) (k : Known) : Type 0 where
  pub same : k.names.keys ≡ keys
  pub symbols : AreSymbols os keys
  pub pieces : AreKnownOf (names_at os keys) os k
  pub denials : AreDenials os k

-- b says whether one of the pieces mentions the block, if what is known is so
abbrev pub IsAnswer : Known → List Piece → Bool → Type 0
IsAnswer k ps b = (names : List Name) (os : List Object) → AreKnownOf names os k → (B : List Function) → HasNames B names → b ≡ some_mentions B os ps
