-- From what is built so far to the table.
use Rattle.std.proofs.Common.{◌≡◌, ℕ, zero, suc, ◌+◌, ◌<◌, arith, List, [], ◌∷◌, ◌++◌, map, length, slice_get, Some, refl, ap, ap₂, ◌∙◌, subst, length-append}
use Rattle.std.specs.Prelude.{All}
use Rattle.std.proofs.lemmas.List.{map-append, append-nil}
use Rattle.mw_model.specs.Terms.Object.{Object}
use Rattle.mw_model.specs.Terms.Term.{Formula, formula_object, ArityTable}
use Rattle.mw_model.specs.Values.Truth.{Each}
use Rattle.mw_commands.specs.Commands.Tautology.{equations}
use Rattle.mw_heap.specs.Objects.{object_at, IsIn}
use Rattle.mw_taut.specs.declared.table.Node.{Node}
use Rattle.mw_taut.specs.declared.table.Table.{Table}
use Rattle.mw_taut.specs.Meaning.{AreNodesOf}
use Rattle.mw_taut.specs.Decided.{IsTableOf}
use Rattle.mw_taut.specs.Building.{here, IsHere, IsBuilt}

module _ (A : ArityTable) (os : List Object) where
  all_in : (rs : List ℕ) → Each (IsHere A os) rs → All (IsIn os) rs
  all_in [] h k d l = absurd (omega (arith, l))
  all_in (r ∷ rs) h zero d l = h.0.within
  all_in (r ∷ rs) h (suc k) d l = all_in rs h.1 k d (omega (arith, l))

  shown : (rs : List ℕ) → Each (IsHere A os) rs → map (object_at os) rs ≡ map formula_object (map (here A os) rs)
  shown [] h = refl
  shown (r ∷ rs) h = ap₂ ◌∷◌ h.0.shown (shown rs h.1)

  last_at : (first : List Formula) (F : Formula) → slice_get (first ++ F ∷ []) (length first) ≡ Some F
  last_at [] F = refl
  last_at (G ∷ first) F = last_at first F

  pub table_built : (F : Formula) (t : Table) → IsBuilt A os F t.formulas.items t.nodes.items t.equations.items [] → t.root + 1 ≡ length t.nodes.items → IsTableOf os F t
  table_built F t h last =
      let keys = t.formulas.items in
      let w = h.whole in
      let G = map (here A os) keys in
      let split : G ≡ map (here A os) w.0 ++ F ∷ [] = ap (map (here A os)) w.2 ∙ (map-append (here A os) w.0 (w.1 ∷ []) ∙ ap (λ X. map (here A os) w.0 ++ X ∷ []) w.3) in
      let count : t.root ≡ length (map (here A os) w.0) = omega (arith, last, h.many, ap length w.2, length-append w.0 (w.1 ∷ []), mapped w.0) in
      let answer : map (here A os) t.equations.items ≡ equations F = h.answer in
      record {
        parts = G;
        nodes = subst (λ es. AreNodesOf es [] t.nodes.items G) answer h.nodes_of;
        root = ap (λ l. slice_get l t.root) split ∙ (ap (slice_get (map (here A os) w.0 ++ F ∷ [])) count ∙ last_at (map (here A os) w.0) F);
        formulas = shown keys h.keys_here;
        equations_are = shown t.equations.items h.equations_here ∙ ap (map formula_object) answer;
        inside = record { formulas = all_in keys h.keys_here; equations = all_in t.equations.items h.equations_here; nodes = h.valid; parts = h.many; root = omega (arith, last) };
      }
    where
      mapped : (rs : List ℕ) → length (map (here A os) rs) ≡ length rs
      mapped [] = refl
      mapped (r ∷ rs) = ap suc (mapped rs)

pub empty_list : (xs : List ℕ) → length xs ≡ 0 → xs ≡ []
empty_list [] h = refl
empty_list (x ∷ xs) h = absurd (omega (arith, h))

-- once nothing waits, the table has a part
module _ (A : ArityTable) (os : List Object) (F : Formula) (keys : List ℕ) (nodes : List Node) (es path : List ℕ) (built : IsBuilt A os F keys nodes es path) (rest : List ℕ) (popped : path ≡ rest ++ []) (none : length rest ≡ 0) where
  pub built_all : IsBuilt A os F keys nodes es []
  built_all = subst (IsBuilt A os F keys nodes es) (popped ∙ (append-nil rest ∙ empty_list rest none)) built

  pub built_some : 0 < length nodes
  built_some = omega (arith, built_all.many, ap length built_all.whole.2, length-append built_all.whole.0 (built_all.whole.1 ∷ []))
