-- The entries of the table of the primitives, added one after the other.
use Rattle.std.proofs.Common.{◌≡◌, ℕ, ◌+◌, ◌<◌, Bool, true, None, ◌&&◌, List, [], ◌∷◌, length, get_or, drop, refl, sym, ap, ap₂, ◌∙◌, subst, drop-cons, add-one, is_none}
use Rattle.std.proofs.lemmas.Bool.{and_parts}
use Rattle.mw_model.specs.Terms.Object.{name_of_bytes}
use Rattle.mw_model.specs.Terms.Term.{ArityTable, arity_of}
use Rattle.mw_model.specs.Values.Primitive.{One, Two, primitive_arities}
use Rattle.mw_heap.specs.declared.vocabulary.primitive.Primitive.{Primitive}
use Rattle.mw_heap.specs.declared.vocabulary.primitive.Primitive.TheVariants.{Times}
use Rattle.mw_heap.specs.PrimitiveNames.{primitive_bytes}
use Rattle.mw_preamble.specs.declared.primitives.TheConstants.{PRIMITIVES}
use Rattle.mw_preamble.proofs.RowShape.{absent_none}

abbrev pub with_entry : ArityTable → Primitive × ℕ → ArityTable
with_entry A e = (name_of_bytes (primitive_bytes e.0), e.1) ∷ A

abbrev pub with_entries : ArityTable → List (Primitive × ℕ) → ArityTable
with_entries A [] = A
with_entries A (e ∷ es) = with_entries (with_entry A e) es

abbrev pub are_new : ArityTable → List (Primitive × ℕ) → Bool
are_new A [] = true
are_new A (e ∷ es) = is_none (arity_of A (name_of_bytes (primitive_bytes e.0))) && are_new (with_entry A e) es

pub table_new : are_new [] PRIMITIVES ≡ true
table_new = refl

pub table_made : with_entries [] PRIMITIVES ≡ primitive_arities One
table_made = refl

-- the entry at i is the next to be added
pub record Turn (A : ArityTable) (es : List (Primitive × ℕ)) (i : ℕ) (bytes : List ℕ) (n : ℕ) : Type 0 where
  pub absent : arity_of A (name_of_bytes bytes) ≡ None
  pub new : are_new ((name_of_bytes bytes, n) ∷ A) (drop (i + 1) es) ≡ true
  pub made : with_entries ((name_of_bytes bytes, n) ∷ A) (drop (i + 1) es) ≡ with_entries A (drop i es)

pub turn : (A : ArityTable) (es : List (Primitive × ℕ)) (i : ℕ) (d : Primitive × ℕ) (bytes : List ℕ) → i < length es → are_new A (drop i es) ≡ true → bytes ≡ primitive_bytes (get_or es i d).0 → Turn A es i bytes (get_or es i d).1
turn A es i d bytes within new is =
    let e = get_or es i d in
    let next : drop i es ≡ e ∷ drop (i + 1) es = drop-cons es i d within ∙ ap (λ k. e ∷ drop k es) (sym (add-one i)) in
    let parts = and_parts (is_none (arity_of A (name_of_bytes (primitive_bytes e.0)))) (are_new (with_entry A e) (drop (i + 1) es)) (subst (λ l. are_new A l ≡ true) next new) in
    let turned : Turn A es i (primitive_bytes e.0) e.1 = record {
      absent = absent_none (arity_of A (name_of_bytes (primitive_bytes e.0))) parts.0;
      new = parts.1;
      made = ap (with_entries A) (sym next);
    } in
    subst (λ b. Turn A es i b e.1) (sym is) turned

-- the product is another name than those of the shared primitives, and the last one of the second profile
pub product_new : (A : ArityTable) (bytes : List ℕ) → A ≡ primitive_arities One → bytes ≡ primitive_bytes Times → arity_of A (name_of_bytes bytes) ≡ None
product_new A bytes table name = ap₂ (λ T b. arity_of T (name_of_bytes b)) table name

pub product_added : (A : ArityTable) (bytes : List ℕ) → A ≡ primitive_arities One → bytes ≡ primitive_bytes Times → (name_of_bytes bytes, 2) ∷ A ≡ primitive_arities Two
product_added A bytes table name = ap₂ (λ T b. (name_of_bytes b, 2) ∷ T) table name
