-- What is still to be written of a text with labels: pieces, the next one last.
use Rattle.std.specs.Prelude.{◌≡◌, ℕ, ◌+◌, ◌*◌, ◌<◌, nat_eq, Bool, ◌&&◌, ltb, List, [], ◌∷◌, ◌++◌, All, length}
use Rattle.std.specs.List.{list_any}
use Rattle.std.specs.Map.{lookup}
use Rattle.mw_model.specs.Terms.Object.{Object, same_object, weight}
use Rattle.mw_heap.specs.Objects.{object_at, IsIn}
use Rattle.mw_print.specs.Labelling.{Labels, Labelled, number_of, give, written, and_then, datum, tail}
use Rattle.mw_print.specs.declared.piece.Piece.{Piece}
use Rattle.mw_print.specs.declared.piece.Piece.TheVariants.{Text, Tail, Given, Close}

-- one of the references is to the object
abbrev pub is_one_of : List Object → List ℕ → Object → Bool
is_one_of os refs x = list_any (λ r. ltb r (length os) && same_object (object_at os r) x) refs

-- the entries are the labels of pairs, by reference
abbrev pub HasLabels : List Object → List (ℕ × ℕ) → ℕ → Labels → Type 0
HasLabels os given next l = ((r : ℕ) → IsIn os r → lookup (nat_eq r) given ≡ number_of (object_at os r) l) × (next ≡ l.next)

-- these bytes, and then more
abbrev pub after_bytes : List ℕ → Labelled → Labelled
after_bytes t w = written (t ++ w.text) w.after

abbrev pub IsPiece : List Object → Piece → Type 0
IsPiece os (Text x) = IsIn os x
IsPiece os (Tail x) = IsIn os x
IsPiece os (Given x n) = IsIn os x
IsPiece os Close = Unit {0}

-- a piece weighs more than all that is left of it once it is begun
abbrev pub piece_weight : List Object → Piece → ℕ
piece_weight os (Text x) = 4 * weight (object_at os x)
piece_weight os (Tail x) = 4 * weight (object_at os x) + 2
piece_weight os (Given x n) = 1
piece_weight os Close = 1

abbrev pub pieces_weight : List Object → List Piece → ℕ
pieces_weight os [] = 0
pieces_weight os (p ∷ ps) = pieces_weight os ps + piece_weight os p

-- labels are given to those pairs alone for which the test s is true
module _ (s : Object → Bool) (os : List Object) where
  abbrev pub piece_written : Piece → Labels → Labelled
  piece_written (Text x) l = datum s (object_at os x) l
  piece_written (Tail x) l = tail s (object_at os x) l
  piece_written (Given x n) l = written [] (give (object_at os x) n l)
  piece_written Close l = written (41 ∷ []) l

  abbrev pub pieces_written : List Piece → Labels → Labelled
  pieces_written [] l = written [] l
  pieces_written (p ∷ ps) l = and_then (pieces_written ps l) (piece_written p)

  -- The piece p is written, or begun and what is left of it added to the pieces: with these the whole text and its labels are the same.
  pub record Advances (p : Piece) (old_pieces new_pieces : List Piece) (old_given new_given : List (ℕ × ℕ)) (old_next new_next : ℕ) (old new : List ℕ) : Type 0 where
    pub text : (l : Labels) → HasLabels os old_given old_next l → (m : Labels) × HasLabels os new_given new_next m × (after_bytes new (pieces_written new_pieces m) ≡ after_bytes old (and_then (piece_written p l) (pieces_written old_pieces)))
    pub within : All (IsPiece os) new_pieces
    pub lighter : pieces_weight os new_pieces < piece_weight os p + pieces_weight os old_pieces
