-- The bodies of a block that may be added are in the heap, and so are the cells of these.
use Rattle.std.proofs.Common.{◌≡◌, ℕ, nat_eq, Bool, true, false, if◌then◌else◌, List, [], ◌∷◌, ◌++◌, All, Option, Some, None, slice_get, sym, subst, arith}
use Rattle.std.specs.List.{list_any}
use Rattle.std.proofs.lemmas.List.Elements.{All-push}
use Rattle.indexmap.specs.IndexSet.{insert_key}
use Rattle.std.proofs.lemmas.Option.{slice_get_within}
use Rattle.mw_model.specs.Terms.Object.{Object}
use Rattle.mw_model.specs.Terms.Term.{Term}
use Rattle.mw_model.specs.Values.Definition.{Block, Functions, Choice, Definitions}
use Rattle.mw_model.proofs.ReadBack.{some_one}
use Rattle.mw_heap.specs.Objects.{IsIn}
use Rattle.mw_heap.proofs.Lists.{slice_get-some}
use Rattle.mw_code.specs.Coded.{members}
use Rattle.mw_code.specs.Blocks.{Spelling, IsBodyOf, IsBlockOf}

body-in : (os : List Object) (o : Option ℕ) (B : Block) (t : Term) (b : ℕ) → IsBodyOf os o B t → o ≡ Some b → IsIn os b
body-in os (Some c) (Functions ds) t b h e = subst (IsIn os) (some_one e) h.0
body-in os (Some c) (Choice g y xs u) t b h e = absurd h
body-in os None (Functions ds) t b h e = absurd h
body-in os None (Choice g y xs u) t b h e = cc

pub body-within : (os : List Object) (D : Definitions) (ms : List Spelling) (B : Block) → IsBlockOf os D ms B → (i : ℕ) (m : Spelling) (b : ℕ) → slice_get ms i ≡ Some m → m.2 ≡ Some b → IsIn os b
body-within os D ms B h i m b at is =
    let below = slice_get_within ms i m at in
    let d = slice_get-some (members B) i (omega (arith, below, h.heads.count)) in
    body-in os m.2 B d.0.body b (h.bodies i m d.0 at d.1) is

-- what is put among cells is in the heap as they are
pub cells-in : (os : List Object) (cells new : List ℕ) (x : ℕ) → new ≡ insert_key nat_eq cells x → All (IsIn os) cells → IsIn os x → All (IsIn os) new
cells-in os cells new x e all within = subst (All (IsIn os)) (sym e) (go (list_any (nat_eq x) cells))
  where
    go : (b : Bool) → All (IsIn os) (if b then cells else cells ++ x ∷ [])
    go true = all
    go false = All-push (IsIn os) cells x all within
