-- Lists whose first members are those of references.
use Rattle.std.proofs.Common.{◌≡◌, ℕ, true, false, List, [], ◌∷◌, ◌++◌, refl, sym, ap}
use Rattle.mw_model.specs.Terms.Object.{Object, Natural, Symbol, Pair, NIL}
use Rattle.mw_model.specs.Values.Primitive.{is_pair}
use Rattle.mw_model.specs.Laws.RulesInduction.{is_list_object}
use Rattle.mw_model.proofs.Names.{same_object-eq}
use Rattle.mw_heap.specs.Objects.{object_at}
use Rattle.mw_heap.specs.Lists.{list_object}
pub use Rattle.mw_heap.proofs.ListMembers.{put_before}

pub put_before-push : (os : List Object) (xs : List ℕ) (x : ℕ) (rest : Object) → put_before os (xs ++ x ∷ []) rest ≡ put_before os xs (Pair (object_at os x) rest)
put_before-push os [] x rest = refl
put_before-push os (y ∷ xs) x rest = ap (Pair (object_at os y)) (put_before-push os xs x rest)

pub list_object-before : (os : List Object) (xs : List ℕ) → list_object os xs ≡ put_before os xs NIL
list_object-before os [] = refl
list_object-before os (x ∷ xs) = ap (Pair (object_at os x)) (list_object-before os xs)

pub list_end : (x : Object) → is_pair x ≡ false → is_list_object x ≡ true → NIL ≡ x
list_end (Natural n) h k = cc
list_end (Symbol s) h k = sym (same_object-eq (Symbol s) NIL k)
list_end (Pair a b) h k = cc
