-- A path after one step of its last part: what was wanted is last, or the part was made and is off the path.
use Rattle.std.proofs.Common.{ℕ, ◌<◌, List, [], ◌∷◌, ◌++◌, true, inl, inr, sym, ap, ap₂, ◌∙◌, subst, append_assoc, arith}
use Rattle.mw_model.specs.Terms.Object.{Object}
use Rattle.mw_model.specs.Terms.Term.{ArityTable}
use Rattle.mw_heap.specs.Objects.{IsIn, Grows}
use Rattle.mw_heap.proofs.Objects.{object_at-Grows, length-Grows}
use Rattle.mw_translate.specs.declared.part.Part.{Part}
use Rattle.mw_translate.specs.Meaning.{meaning}
use Rattle.mw_translate.specs.Memo.{Entries, AreUnique}
use Rattle.mw_translate.specs.Walk.{Advances}
use Rattle.mw_translate.proofs.Path.{IsPath, left, last_below, path-wants, path-made, left-made, left-wants}

module _ (A : ArityTable) (first now new : List Object) (x : ℕ) (es more : Entries) (rest longer : List Part) (part : Part) (path : IsPath A first now x es (rest ++ part ∷ [])) (unique : AreUnique more) (step : Advances A now new es more rest longer part true) where
  pub path-advances : Grows now new → IsIn first x → IsPath A first new x more longer
  path-advances g x_in =
      let small = last_below A first now new x es rest part path in
      let part_in : IsIn first part.cell = omega (arith, small, x_in) in
      elim step [
        | inl m ↦
            let within : IsIn now part.cell = omega (arith, part_in, length-Grows first now path.grows) in
            subst (λ l. IsPath A first new x l longer) (sym m.3)
            (subst (IsPath A first new x (es ++ (part, m.0) ∷ [])) (sym m.4)
            (path-made A first now new x es rest part path m.0 g within m.1 m.2 (subst AreUnique m.3 unique)))
        | inr w ↦
            let inner = w.0 in
            let inner_in : IsIn first inner.cell = omega (arith, w.1, part_in) in
            subst (λ l. IsPath A first new x l longer) (sym w.4)
            (subst (IsPath A first new x es) (append_assoc rest (part ∷ []) (inner ∷ []) ∙ sym w.5)
            (path-wants A first now new x es rest part path inner g w.1 w.2
            (λ n. ap (meaning A part.kind) (sym (object_at-Grows first now path.grows part.cell part_in)) ∙ w.3 (ap (meaning A inner.kind) (object_at-Grows first now path.grows inner.cell inner_in) ∙ n))))
      ]

  pub left-advances : left x more longer < left x es (rest ++ part ∷ [])
  left-advances =
      elim step [
        | inl m ↦
            let less = left-made A first now new x es rest part path m.0 (subst AreUnique m.3 unique) in
            let same = ap₂ (left x) m.3 m.4 in
            omega (arith, less, same)
        | inr w ↦
            let less = left-wants A first now new x es rest part path w.0 w.1 in
            let same = ap₂ (left x) w.4 (w.5 ∙ sym (append_assoc rest (part ∷ []) (w.0 ∷ []))) in
            omega (arith, less, same)
      ]
