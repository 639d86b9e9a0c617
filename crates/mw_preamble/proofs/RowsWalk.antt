-- A walk over rows: the references so far, and the rows that are left.
use Rattle.std.proofs.Common.{◌≡◌, ℕ, true, List, [], ◌∷◌, ◌++◌, All, map, sym, ap, ◌∙◌, subst, append_assoc}
use Rattle.std.proofs.lemmas.Bool.{and_parts}
use Rattle.std.proofs.lemmas.List.{map-append}
use Rattle.mw_model.specs.Terms.Object.{Object, Pair}
use Rattle.mw_model.specs.Terms.Term.{ArityTable}
use Rattle.mw_heap.specs.Objects.{object_at, IsIn}
use Rattle.mw_axioms.proofs.OnStack.{AreIn-push}
use Rattle.mw_preamble.specs.Rows.{is_row, are_rows, with_row, with_rows, axiom_of, axioms_of}

module _ (os : List Object) (rows : ℕ) (first : ArityTable) where
  pub record Walks (rest : ℕ) (A : ArityTable) (refs : List ℕ) : Type 0 where
    pub within : IsIn os rest
    pub all_in : All (IsIn os) refs
    pub new : are_rows A (object_at os rest) ≡ true
    pub table : with_rows A (object_at os rest) ≡ with_rows first (object_at os rows)
    pub axioms : map (object_at os) refs ++ axioms_of (object_at os rest) ≡ axioms_of (object_at os rows)

  -- one row more
  pub Walks-row : (rest row more r : ℕ) (A B : ArityTable) (refs : List ℕ) → Walks rest A refs → IsIn os more → object_at os rest ≡ Pair (object_at os row) (object_at os more) →
      IsIn os r → object_at os r ≡ axiom_of (object_at os row) → B ≡ with_row A (object_at os row) → Walks more B (refs ++ r ∷ [])
  Walks-row rest row more r A B refs h within is axiom_in axiom_is table_is =
      let x = object_at os row in
      let left = object_at os more in
      let parts = and_parts (is_row A x) (are_rows (with_row A x) left) (subst (λ y. are_rows A y ≡ true) is h.new) in
      subst (λ T. Walks more T (refs ++ r ∷ [])) (sym table_is) (record {
        within = within;
        all_in = AreIn-push os refs r h.all_in axiom_in;
        new = parts.1;
        table = ap (with_rows A) (sym is) ∙ h.table;
        axioms =
            ap (λ l. l ++ axioms_of left) (map-append (object_at os) refs (r ∷ []))
            ∙ (append_assoc (map (object_at os) refs) (object_at os r ∷ []) (axioms_of left)
            ∙ (ap (λ a. map (object_at os) refs ++ a ∷ axioms_of left) axiom_is
            ∙ (ap (λ y. map (object_at os) refs ++ axioms_of y) (sym is) ∙ h.axioms)));
      })
