-- A row that may be added to a table, with its parts named.
use Rattle.std.proofs.Common.{◌≡◌, ℕ, ◌^◌, true, None, Option, Some, List, ◌∷◌, refl, sym, ap, ◌∙◌, subst, ltb, is_none}
use Rattle.std.proofs.lemmas.Bool.{and_parts}
use Rattle.mw_model.specs.Terms.Object.{Object, Natural, Symbol, Pair, name_of_bytes}
use Rattle.mw_model.specs.Values.Primitive.{name_of}
use Rattle.mw_model.specs.Terms.Term.{ArityTable, arity_of}
use Rattle.mw_model.proofs.Names.{name_of_bytes-bytes}
use Rattle.mw_preamble.specs.Rows.{is_row, with_row}

pub absent_none : {X : Type 0} (o : Option X) → is_none o ≡ true → o ≡ None
absent_none None h = refl
absent_none (Some x) h = cc

pub record Adds (A : ArityTable) (row : Object) (bytes : List ℕ) (n : ℕ) : Type 0 where
  pub absent : arity_of A (name_of_bytes bytes) ≡ None
  pub added : (name_of_bytes bytes, n) ∷ A ≡ with_row A row

adds : (A : ArityTable) (x a : Object) (n : ℕ) (bytes : List ℕ) → is_row A (Pair x (Pair (Natural n) a)) ≡ true → (name_of x).bytes ≡ bytes → Adds A (Pair x (Pair (Natural n) a)) bytes n
adds A (Symbol f) a n bytes h e =
    let is : name_of_bytes bytes ≡ f = ap name_of_bytes (sym e) ∙ name_of_bytes-bytes f in
    record {
      absent = ap (arity_of A) is ∙ absent_none (arity_of A f) (and_parts (ltb n (2 ^ 64)) (is_none (arity_of A f)) h).1;
      added = ap (λ g. (g, n) ∷ A) is;
    }
adds A (Natural m) a n bytes h e = cc
adds A (Pair b d) a n bytes h e = cc

-- what a row that may be added brings, where its parts are x, y, n and a
pub row_adds : (A : ArityTable) (row x y m a : Object) (n : ℕ) (bytes : List ℕ) → is_row A row ≡ true → row ≡ Pair x y → y ≡ Pair m a → m ≡ Natural n → (name_of x).bytes ≡ bytes → Adds A row bytes n
row_adds A row x y m a n bytes h is_row_is rest_is count_is e =
    let is : row ≡ Pair x (Pair (Natural n) a) = is_row_is ∙ ap (Pair x) (rest_is ∙ ap (λ k. Pair k a) count_is) in
    subst (λ r. Adds A r bytes n) (sym is) (adds A x a n bytes (subst (λ r. is_row A r ≡ true) is h) e)
